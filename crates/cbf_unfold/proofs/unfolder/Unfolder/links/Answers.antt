-- The net and the places are the unfolder's own.
use Rattle.std.proofs.Common.{◌<◌, ℕ, length, refl, subst, arith, IfOk, ap}
use Rattle.std.specs.List.{All}
use Rattle.flat_net.specs.View.{circuit_of}
use Rattle.flat_net.specs.Sound.{IsSound}
use Rattle.aig.specs.declared.node.Lit.{Lit}
use Rattle.cbf_unfold.specs.unfold_places.Planned.{IsPlanned}
use Rattle.cbf_unfold.specs.unfold_places.Visitors.{AreLinks}
use Rattle.cbf_unfold.proofs.Going.{entries_within}
use Rattle.cbf_unfold.proofs.Finish.{from_own, to_own}
use Rattle.cbf_unfold.proofs.Listing.{few_entries}
use Rattle.cbf_unfold.proofs.unfolder.Unfolder.links.Goals as goal

pub links_of-requires-clause-few : goal.links_of-requires-clause-few
links_of-requires-clause-few c =
    let few = few_entries c.args.self.now (subst IsSound c.net-net.ensures c.keeps.ensures.sound) c.requires.0 c.requires.1 c.requires.2.holds in
    omega (arith, few, c.requires.2.small, ap length c.memo.ensures)

pub links_of-requires-clause-within : goal.links_of-requires-clause-within
links_of-requires-clause-within c =
    from_own c.args.self.now c.net-net.result.now c.args.self.now.order c.memo.result.now c.net-net.ensures refl c.memo.ensures (λ n o m. All (λ (e : (ℕ × ℕ) × Lit). e.0.1 < length n.drivers) m)
    (entries_within c.args.self.now (subst IsSound c.net-net.ensures c.keeps.ensures.sound) c.requires.0 c.requires.1 c.requires.2.holds)

pub links_of-requires-clause-planned : goal.links_of-requires-clause-planned
links_of-requires-clause-planned c = from_own c.args.self.now c.net-net.result.now c.args.self.now.order c.memo.result.now c.net-net.ensures refl c.memo.ensures (λ n o m. IsPlanned (circuit_of n) m) c.requires.2.holds.planned

pub returns : goal.returns
returns c =
    to_own c.args.self.now c.net-net.result.now c.args.self.now.order c.memo.result.now c.net-net.ensures refl c.memo.ensures (λ n o m. IfOk c.links_of.result (λ links. AreLinks (circuit_of n) m links.items)) c.links_of.ensures
