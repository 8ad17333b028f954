use Rattle.std.proofs.Common.{◌≡◌, ◌∙◌, ℕ, List, get_or, slice_get, Some, refl, ap, subst}
use Rattle.std.proofs.lemmas.Option.{slice_get-get_or, get_or_from_slice_get}
use Rattle.signal_graph.specs.flat_net.Signal.{Signal}
use Rattle.signal_graph.proofs.Lists.{read_at}
use Rattle.latch_graph.specs.declared.states.State.TheVariants.{New, Endless}
use borrow.Author.Count.{below_more}
use Rattle.latch_graph.proofs.rounds.endless_read.Goals as goal

pub returns-then-is_endless-clause-read : goal.returns-then-is_endless-clause-read
returns-then-is_endless-clause-read c =
    let k = c.loop-k.k in
    let reads = c.as_slice-reads.result.now in
    let r : Signal = get_or reads k (record { 0 = 0 }) in
    (k, r, subst (λ (z : List Signal). slice_get z k ≡ Some r) c.as_slice-reads.ensures (read_at reads k (record { 0 = 0 }) c.loop-k-test.true), refl)

pub returns-then-is_endless-clause-endless : goal.returns-then-is_endless-clause-endless
returns-then-is_endless-clause-endless c =
    let k = c.loop-k.k in
    let reads = c.as_slice-reads.result.now in
    let r : Signal = get_or reads k (record { 0 = 0 }) in
    let at = subst (λ (z : List Signal). slice_get z k ≡ Some r) c.as_slice-reads.ensures (read_at reads k (record { 0 = 0 }) c.loop-k-test.true) in
    slice_get-get_or c.args.states.now r.0 New (c.requires.within k r at) ∙ ap Some (c.is_endless.ensures.yes c.if-is_endless.true)

pub loop-k-preserved : goal.loop-k-preserved
loop-k-preserved c =
    let reads = c.as_slice-reads.result.now in
    let states = c.args.states.now in
    let none : Signal = record { 0 = 0 } in
    λ m r less at endless.
    below_more (λ (j : ℕ). (q : Signal) → slice_get reads j ≡ Some q → slice_get states q.0 ≡ Some Endless → ⊥) c.loop-k.k (λ j l q a e. c.loop-k.invariant j q l a e)
    (λ q a e. c.is_endless.ensures.not c.if-is_endless.false (ap (λ (x : Signal). get_or states x.0 New) (get_or_from_slice_get reads c.loop-k.k q none a) ∙ get_or_from_slice_get states q.0 Endless New e))
    m less r at endless

pub bounds-states-read : goal.bounds-states-read
bounds-states-read c =
    let k = c.loop-k.k in
    let reads = c.as_slice-reads.result.now in
    let r : Signal = get_or reads k (record { 0 = 0 }) in
    c.requires.within k r (subst (λ (z : List Signal). slice_get z k ≡ Some r) c.as_slice-reads.ensures (read_at reads k (record { 0 = 0 }) c.loop-k-test.true))
