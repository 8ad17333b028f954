-- The leaves among all places that the signal visits.
use Rattle.std.proofs.Common.{◌<◌, ℕ, List, [], length, sym, subst}
use Rattle.std.specs.List.{All, AllPairs}
use Rattle.flat_net.specs.View.{NetView, circuit_of}
use Rattle.cbf_unfold.specs.unfold_places.Places.{PlaceBefore}
use Rattle.reset_form.specs.reset_unfold.Reach.{IsReach, AreLeavesOf}
use Rattle.reset_form.proofs.reset_unfold.Finish.{order_here, base_here, room_here, leaves_here}
use Rattle.reset_form.proofs.reset_unfold.LeafLists.{leaves_at}
use Rattle.reset_form.proofs.reset_unfold.unfolder.ResetUnfolder.leaves.Goals as goal

pub leaves_of-requires : goal.leaves_of-requires
leaves_of-requires c =
    let u = c.args.self.now in
    let n = c.net-net.result.now in
    let keeps = c.keeps.ensures.unfolder in
    let seen = subst (λ (m : NetView). IsReach (circuit_of m) (length m.drivers) [] c.args.start c.in_ok-visited.visited.items) (sym c.net-net.ensures) c.in_ok-visited.ensures.reach in
    record {
      order = order_here u n c.order.result.now c.base.result c.net-net.ensures c.order.ensures c.base.ensures keeps.order;
      base = base_here u n c.order.result.now c.base.result c.net-net.ensures c.order.ensures c.base.ensures keeps.base;
      room = room_here u n c.order.result.now c.base.result c.net-net.ensures c.order.ensures c.base.ensures keeps.room;
      within = subst (All (λ (p : ℕ × ℕ). p.1 < length n.drivers)) (sym c.as_slice.ensures.value) seen.are.within;
      ordered = subst (AllPairs PlaceBefore) (sym c.as_slice.ensures.value) seen.ordered;
    }

pub returns-clause-leaves : goal.returns-clause-leaves
returns-clause-leaves c =
    let u = c.args.self.now in
    let n = c.net-net.result.now in
    let seen = subst (λ (m : NetView). IsReach (circuit_of m) (length m.drivers) [] c.args.start c.in_ok-visited.visited.items) (sym c.net-net.ensures) c.in_ok-visited.ensures.reach in
    leaves_here u n c.order.result.now c.base.result c.net-net.ensures c.order.ensures c.base.ensures c.args.start c.in_ok-found.found.items
    (leaves_at (circuit_of n) (length n.drivers) c.order.result.now c.base.result c.args.start c.in_ok-visited.visited.items c.in_ok-found.found.items seen.are
    (subst (λ (l : List (ℕ × ℕ)). AreLeavesOf (circuit_of n) c.order.result.now c.base.result l c.in_ok-found.found.items) c.as_slice.ensures.value c.in_ok-found.ensures.leaves))
