-- One number more.
use Rattle.std.proofs.Common.{◌≡◌, ◌+◌, ℕ, List, take, slice_get, Some, sym, subst, arith}
use Rattle.std.specs.List.{AllZip}
use Rattle.std.proofs.lemmas.Option.{slice_get_within}
use Rattle.std.proofs.lemmas.List.{take_all}
use Rattle.std.proofs.lemmas.List.Elements.{All-get_or}
use Rattle.flat_net.specs.declared.signals.Signal.{Signal}
use Rattle.aig.specs.declared.node.Lit.{Lit}
use Rattle.cbf_unfold.specs.unfold_places.Reach.{IsMet}
use Rattle.cbf_unfold.proofs.unfold_places.Zips.{zip_more_left}
use Rattle.cbf_unfold.proofs.unfold_places.visitors.numbers_in.Goals as goal

pub number-requires : goal.number-requires
number-requires c = All-get_or (λ (f : Signal). IsMet c.args.memo.now (c.args.cycle, f.0)) c.args.signals.now c.loop-s.s-index _ c.loop-s-test.true c.requires.met

pub loop-s-preserved : goal.loop-s-preserved
loop-s-preserved c =
    let R : Signal → ℕ → Type 0 = λ f n. (x : Lit) × (slice_get c.args.memo.now n ≡ Some ((c.args.cycle, f.0), x)) in
    subst (λ (l : List ℕ). AllZip R (take (c.loop-s.s-index + 1) c.args.signals.now) l) (sym c.in_ok-push.ensures.ok) (zip_more_left R c.args.signals.now c.loop-s.numbers c.loop-s.s-index (record { 0 = 0 }) c.number.result c.loop-s-test.true c.loop-s.invariant c.number.ensures)

pub overflow_cast-number : goal.overflow_cast-number
overflow_cast-number c = let k = slice_get_within c.args.memo.now c.number.result (_, c.number.ensures.0) c.number.ensures.1 in omega (arith, k, c.requires.few)

pub returns : goal.returns
returns c =
    subst (λ (l : List Signal). AllZip (λ (f : Signal) n. (x : Lit) × (slice_get c.args.memo.now n ≡ Some ((c.args.cycle, f.0), x))) l c.loop-s.numbers) (take_all c.loop-s.s-index c.args.signals.now c.loop-s-test.false) c.loop-s.invariant
