-- Pair after pair has its depths, or one hasn't.
use Rattle.std.proofs.Common.{◌≡◌, ◌∙◌, true, false, Bool, List, take, slice_get, Some, refl, sym, subst, inl, inr}
use Rattle.std.specs.Prelude.{◌⊎◌}
use Rattle.std.specs.List.{Contains}
use Rattle.std.proofs.lemmas.List.{take_all}
use Rattle.std.proofs.lemmas.List.Elements.{Contains-push_cases}
use Rattle.circuit_theory.proofs.Lists.{of_at}
use Rattle.flat_net.specs.View.{circuit_of}
use Rattle.cbf_unfold.proofs.shift_variables.Assignments.{take_next}
use Rattle.cbf_unfold.proofs.shift_variables.Reading.{item_at}
use Rattle.sec_setup.specs.declared.ports.pairs.SignalPair.{SignalPair}
use Rattle.reset_form.proofs.reset_functions.OwnPairs.{output_within}
use Rattle.cycle_search.specs.Depths.{HasDepthUpTo}
use Rattle.cycle_search.proofs.PairsIn.{own_pairs}
use Rattle.cycle_search.proofs.depths.reaches_depths.Goals.{then-not-reaches_depth-via-then-not-reaches_depth, then-not-reaches_depth-via-else-not-reaches_depth+then-not-reaches_depth-2}
use Rattle.cycle_search.proofs.depths.reaches_depths.Goals as goal

clash : (b : Bool) → b ≡ true → b ≡ false → ⊥
clash b t f = let e : true ≡ false = sym t ∙ f in cc

pub reaches_depth-requires-clause-signal : goal.reaches_depth-requires-clause-signal
reaches_depth-requires-clause-signal c =
    let s = c.args.setup.now in
    let items = c.as_slice-pair-items.result.now in
    let x : SignalPair = c.pair-item.result in
    let member = subst (λ (l : List SignalPair). Contains l x) c.as_slice-pair-items.ensures (of_at items c.loop-pair.pair-index x (item_at items items c.loop-pair.pair-index x refl c.loop-pair-test.true c.pair-item.is)) in
    output_within s.left.now c.keeps.ensures.sound x.left.0 ((own_pairs s c.requires).left x member)

pub reaches_depth-requires-else-not-reaches_depth-clause-signal : goal.reaches_depth-requires-else-not-reaches_depth-clause-signal
reaches_depth-requires-else-not-reaches_depth-clause-signal c =
    let s = c.args.setup.now in
    let items = c.as_slice-pair-items.result.now in
    let x : SignalPair = c.pair-item.result in
    let member = subst (λ (l : List SignalPair). Contains l x) c.as_slice-pair-items.ensures (of_at items c.loop-pair.pair-index x (item_at items items c.loop-pair.pair-index x refl c.loop-pair-test.true c.pair-item.is)) in
    output_within s.right.now c.keeps-2.ensures.sound x.right.0 ((own_pairs s c.requires).right x member)

pub returns-then-not-reaches_depth : goal.returns-then-not-reaches_depth
returns-then-not-reaches_depth c =
    let items = c.as_slice-pair-items.result.now in
    let x : SignalPair = c.pair-item.result in
    let member = subst (λ (l : List SignalPair). Contains l x) c.as_slice-pair-items.ensures (of_at items c.loop-pair.pair-index x (item_at items items c.loop-pair.pair-index x refl c.loop-pair-test.true c.pair-item.is)) in (
      λ e. absurd (let q : false ≡ true = e in cc),
      λ deep.
          absurd (elim c.then-not-reaches_depth.branch [
            | then-not-reaches_depth-via-then-not-reaches_depth w ↦ clash c.reaches_depth.result (c.reaches_depth.ensures.1 (deep x member).0) w.if-not-reaches_depth.true
            | then-not-reaches_depth-via-else-not-reaches_depth+then-not-reaches_depth-2 w ↦ clash w.reaches_depth-else-not-reaches_depth.result (w.reaches_depth-else-not-reaches_depth.ensures.1 (deep x member).1) w.if-not-reaches_depth-2.true
          ]),
    )

pub loop-pair-preserved : goal.loop-pair-preserved
loop-pair-preserved c = λ y h.
    let items = c.as_slice-pair-items.result.now in
    let i = c.loop-pair.pair-index in
    let x : SignalPair = c.pair-item.result in
    let at : slice_get items i ≡ Some x = item_at items items i x refl c.loop-pair-test.true c.pair-item.is in
    more x y (c.reaches_depth.ensures.0 c.if-not-reaches_depth.false, c.reaches_depth-else-not-reaches_depth.ensures.0 c.if-not-reaches_depth-2.false) (c.loop-pair.invariant y)
    (Contains-push_cases (take i items) x y (subst (λ (l : List SignalPair). Contains l y) (take_next items i x at) h))
  where
    more : (x y : SignalPair) → HasDepthUpTo (circuit_of c.args.setup.now.left.now) x.left.0 c.args.cycle × HasDepthUpTo (circuit_of c.args.setup.now.right.now) x.right.0 c.args.cycle →
        (Contains (take c.loop-pair.pair-index c.as_slice-pair-items.result.now) y → HasDepthUpTo (circuit_of c.args.setup.now.left.now) y.left.0 c.args.cycle × HasDepthUpTo (circuit_of c.args.setup.now.right.now) y.right.0 c.args.cycle) →
        Contains (take c.loop-pair.pair-index c.as_slice-pair-items.result.now) y ⊎ (x ≡ y) → HasDepthUpTo (circuit_of c.args.setup.now.left.now) y.left.0 c.args.cycle × HasDepthUpTo (circuit_of c.args.setup.now.right.now) y.right.0 c.args.cycle
    more x y here before (inl h) = before h
    more x y here before (inr e) = subst (λ (z : SignalPair). HasDepthUpTo (circuit_of c.args.setup.now.left.now) z.left.0 c.args.cycle × HasDepthUpTo (circuit_of c.args.setup.now.right.now) z.right.0 c.args.cycle) e here

pub returns : goal.returns
returns c = (
  λ e x h.
      c.loop-pair.invariant x
      (subst (λ (l : List SignalPair). Contains l x) (sym (take_all c.loop-pair.pair-index c.as_slice-pair-items.result.now c.loop-pair-test.false)) (subst (λ (l : List SignalPair). Contains l x) (sym c.as_slice-pair-items.ensures) h)),
  λ deep. refl,
)
