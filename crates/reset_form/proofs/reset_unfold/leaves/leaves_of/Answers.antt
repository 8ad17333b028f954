-- One place more, with its variable's number or without one; then the pairs in order.
use Rattle.std.proofs.Common.{◌+◌, ℕ, List, length, sym, subst, take}
use Rattle.std.proofs.lemmas.List.{take_all}
use Rattle.flat_net.specs.View.{circuit_of}
use Rattle.flat_net.proofs.Nets.{sound_is_net}
use Rattle.circuit_laws.proofs.reset_laws.reset_nets.Starts.{nets_have_starts}
use Rattle.cbf_unfold.proofs.unfold_places.Order.{differ_permuted, strictly}
use Rattle.reset_form.specs.reset_unfold.Reach.{AreLeavesOf}
use Rattle.reset_form.proofs.reset_unfold.LeafLists.{leaves_none, leaves_skip, leaves_push, leaves_permuted}
use Rattle.reset_form.proofs.reset_unfold.Numbers.{one_leaf, one_signal}
use Rattle.reset_form.proofs.reset_unfold.leaves.leaves_of.Goals as goal

pub loop-place-init : goal.loop-place-init
loop-place-init c = leaves_none (circuit_of c.args.net.now) c.args.order.now c.args.base c.args.places.now c.new-found.result.items c.new-found.ensures.items

pub loop-place-preserved-in_default : goal.loop-place-preserved-in_default
loop-place-preserved-in_default c =
    leaves_skip (circuit_of c.args.net.now) c.args.order.now c.args.base c.args.places.now c.loop-place.place-index (0, 0) _ c.loop-place-test.true c.loop-place.invariant c.in_default.ensures.none

pub loop-place-preserved : goal.loop-place-preserved
loop-place-preserved c =
    let n = c.args.net.now in
    let net = sound_is_net n c.keeps.ensures.sound in
    let differ = (nets_have_starts n c.keeps.ensures.sound).1 in
    subst (λ (l : List (ℕ × ℕ)). AreLeavesOf (circuit_of n) c.args.order.now c.args.base (take (c.loop-place.place-index + 1) c.args.places.now) l) (sym c.in_ok-push.ensures.items)
    (leaves_push (circuit_of n) c.args.order.now c.args.base c.args.places.now c.loop-place.place-index (0, 0) _ c.loop-place-test.true c.loop-place.invariant c.requires.ordered
    (one_leaf (circuit_of n) (length n.drivers) net differ c.args.order.now c.args.base) (one_signal (circuit_of n) (length n.drivers) net differ c.args.order.now c.args.base c.requires.base c.requires.order.distinct) _ c.in-Some.ensures.here)

pub returns-clause-leaves : goal.returns-clause-leaves
returns-clause-leaves c =
    leaves_permuted (circuit_of c.args.net.now) c.args.order.now c.args.base c.args.places.now _ _ c.sort.ensures.permutation
    (subst (λ (l : List (ℕ × ℕ)). AreLeavesOf (circuit_of c.args.net.now) c.args.order.now c.args.base l c.loop-place.found.items) (take_all c.loop-place.place-index c.args.places.now c.loop-place-test.false) c.loop-place.invariant)

pub returns-clause-ordered : goal.returns-clause-ordered
returns-clause-ordered c = strictly _ (differ_permuted _ _ c.sort.ensures.permutation c.loop-place.invariant.differ) c.in_ok-sort.ensures.sorted
