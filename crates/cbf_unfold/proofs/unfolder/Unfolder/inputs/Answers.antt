-- The net, the numbers and the places are the unfolder's own.
use Rattle.std.proofs.Common.{◌<◌, ℕ, length, subst, IfOk}
use Rattle.std.specs.List.{All}
use Rattle.flat_net.specs.View.{circuit_of}
use Rattle.flat_net.specs.Sound.{IsSound}
use Rattle.aig.specs.declared.node.Lit.{Lit}
use Rattle.cbf_unfold.specs.View.{IsOrderOf}
use Rattle.cbf_unfold.specs.unfold_places.Visitors.{AreInputNumbers}
use Rattle.cbf_unfold.proofs.Going.{entries_within}
use Rattle.cbf_unfold.proofs.Finish.{from_own, to_own}
use Rattle.cbf_unfold.proofs.unfolder.Unfolder.inputs.Goals as goal

pub input_numbers-requires-clause-order : goal.input_numbers-requires-clause-order
input_numbers-requires-clause-order c =
    from_own c.args.self.now c.net-net.result.now c.order.result.now c.memo.result.now c.net-net.ensures c.order.ensures c.memo.ensures (λ n o m. IsOrderOf n o) c.keeps-2.ensures.unfolder.order

pub input_numbers-requires-clause-within : goal.input_numbers-requires-clause-within
input_numbers-requires-clause-within c =
    from_own c.args.self.now c.net-net.result.now c.order.result.now c.memo.result.now c.net-net.ensures c.order.ensures c.memo.ensures (λ n o m. All (λ (e : (ℕ × ℕ) × Lit). e.0.1 < length n.drivers) m)
    (entries_within c.args.self.now (subst IsSound c.net-net.ensures c.keeps.ensures.sound) c.requires.0 c.requires.1 c.requires.2.holds)

pub returns : goal.returns
returns c =
    to_own c.args.self.now c.net-net.result.now c.order.result.now c.memo.result.now c.net-net.ensures c.order.ensures c.memo.ensures
    (λ n o m. IfOk c.input_numbers.result (λ numbers. AreInputNumbers (circuit_of n) o m numbers.items)) c.input_numbers.ensures
