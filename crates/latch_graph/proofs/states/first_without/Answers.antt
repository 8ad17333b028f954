use Rattle.std.proofs.Common.{◌≡◌, ◌≢◌, ℕ, ◌+◌, ◌<◌, get_or, slice_get, Some, sym, ◌∙◌, subst, arith, inl, inr}
use Rattle.std.specs.Prelude.{◌⊎◌}
use Rattle.std.proofs.lemmas.Option.{slice_get_within}
use Rattle.signal_graph.specs.flat_net.Signal.{Signal}
use Rattle.signal_graph.proofs.flat_net.Places.{one_at}
use Rattle.circuit_theory.proofs.Sums.{same_or_not}
use Rattle.latch_graph.specs.Settling.{HasDepth}
use Rattle.signal_graph.proofs.Lists.{read_at}
use Rattle.latch_graph.proofs.Tables.{tells_depth, tells_none}
use Rattle.latch_graph.proofs.states.first_without.Goals as goal

pub loop-read-init : goal.loop-read-init
loop-read-init c = c.requires.passed

pub returns-then-not-has_depth-clause-here : goal.returns-then-not-has_depth-clause-here
returns-then-not-has_depth-clause-here c =
    let at = read_at c.args.reads.now c.loop-read.read _ c.loop-read-test.true in
    (_, at, tells_none c.args.states.now _ _ (read_at c.args.states.now _ _ (c.requires.within c.loop-read.read _ at)) (sym c.has_depth.ensures ∙ c.if-not-has_depth.true))

pub returns-then-not-has_depth-clause-passed : goal.returns-then-not-has_depth-clause-passed
returns-then-not-has_depth-clause-passed c = c.loop-read.invariant

pub loop-read-preserved : goal.loop-read-preserved
loop-read-preserved c = λ k r l h. go k r l h (same_or_not k c.loop-read.read)
  where
    go : (k : ℕ) (r : Signal) → k < c.loop-read.read + 1 → slice_get c.args.reads.now k ≡ Some r → (k ≡ c.loop-read.read) ⊎ (k ≢ c.loop-read.read) → (e : ℕ) × HasDepth c.args.states.now r.0 e
    go k r l h (inr n) = c.loop-read.invariant k r (omega (arith, l, n)) h
    go k r l h (inl e) =
        let at = read_at c.args.reads.now c.loop-read.read _ c.loop-read-test.true in
        let same = one_at c.args.reads.now c.loop-read.read _ r at (subst (λ z. slice_get c.args.reads.now z ≡ Some r) e h) in
        let found = tells_depth c.args.states.now _ _ (read_at c.args.states.now _ _ (c.requires.within c.loop-read.read _ at)) (sym c.has_depth.ensures ∙ c.if-not-has_depth.false) in
        subst (λ (z : Signal). (e : ℕ) × HasDepth c.args.states.now z.0 e) same found

pub returns-clause-none : goal.returns-clause-none
returns-clause-none c = λ k r h. let l = slice_get_within c.args.reads.now k r h in c.loop-read.invariant k r (omega (arith, l, c.loop-read-test.false)) h

pub bounds-states-reads : goal.bounds-states-reads
bounds-states-reads c =
    let i = c.loop-read.read in
    c.requires.within i (get_or c.args.reads.now i (record { 0 = 0 })) (read_at c.args.reads.now i (record { 0 = 0 }) c.loop-read-test.true)
