-- One place more, with its number or without one; then the pairs in order.
use Rattle.std.proofs.Common.{◌+◌, ℕ, List, sym, subst, take}
use Rattle.std.proofs.lemmas.List.{take_all}
use Rattle.flat_net.specs.View.{circuit_of}
use Rattle.cbf_unfold.specs.unfold_places.Reach.{AreInputsOf}
use Rattle.cbf_unfold.proofs.unfold_places.InputLists.{inputs_none, inputs_skip, inputs_push, inputs_permuted}
use Rattle.cbf_unfold.proofs.unfold_places.Order.{differ_permuted, strictly}
use Rattle.cbf_unfold.proofs.unfold_places.variables.inputs_of.Goals as goal

pub loop-place-init : goal.loop-place-init
loop-place-init c = inputs_none (circuit_of c.args.net.now) c.args.order.now c.args.places.now c.new-found.result.items c.new-found.ensures.items

pub loop-place-preserved-in_default : goal.loop-place-preserved-in_default
loop-place-preserved-in_default c = inputs_skip (circuit_of c.args.net.now) c.args.order.now c.args.places.now c.loop-place.place-index (0, 0) _ c.loop-place-test.true c.loop-place.invariant c.in_default.ensures.none

pub loop-place-preserved : goal.loop-place-preserved
loop-place-preserved c =
    subst (λ (l : List (ℕ × ℕ)). AreInputsOf (circuit_of c.args.net.now) c.args.order.now (take (c.loop-place.place-index + 1) c.args.places.now) l) (sym c.in_ok-push.ensures.items)
    (inputs_push (circuit_of c.args.net.now) c.args.order.now c.args.places.now c.loop-place.place-index (0, 0) _ c.loop-place-test.true c.loop-place.invariant c.requires.differ c.requires.order.distinct c.keeps.ensures.net.inputs _ c.in-Some.ensures.here)

pub returns-clause-inputs : goal.returns-clause-inputs
returns-clause-inputs c =
    inputs_permuted (circuit_of c.args.net.now) c.args.order.now c.args.places.now _ _ c.sort.ensures.permutation
    (subst (λ (l : List (ℕ × ℕ)). AreInputsOf (circuit_of c.args.net.now) c.args.order.now l c.loop-place.found.items) (take_all c.loop-place.place-index c.args.places.now c.loop-place-test.false) c.loop-place.invariant)

pub returns-clause-ordered : goal.returns-clause-ordered
returns-clause-ordered c = strictly _ (differ_permuted _ _ c.sort.ensures.permutation c.loop-place.invariant.differ) c.in_ok-sort.ensures.sorted
