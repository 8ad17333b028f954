-- The gates among those.
use Rattle.std.proofs.Common.{ℕ, List, subst}
use Rattle.std.specs.List.{filter_map}
use Rattle.std.specs.List.Sorted.{IsNonDecreasing, IsPermutation}
use Rattle.std.proofs.lemmas.Result.{IfOk-weaker}
use Rattle.signal_graph.specs.inner_cone.latch_cone.Parts.{gate_at}
use Rattle.signal_graph.specs.inner_cone.Inner.{AreHigh}
use Rattle.signal_graph.specs.inner_cone.Gates.{AreInnerGates}
use Rattle.signal_graph.proofs.inner_cone.Gates.{inner_gates}
use Rattle.signal_graph.proofs.inner_cone.parts.gates_of.Goals as goal

pub returns : goal.returns
returns c =
    let n = c.args.net.now in
    let seen = c.in_ok-seen.seen in
    let high = subst (λ m. AreHigh n c.args.ranks.now m c.args.taker.now.next.0 seen) c.number_at-least.ensures c.in_ok-seen.ensures in
    IfOk-weaker c.gates_among.result (λ (gates : List ℕ). IsNonDecreasing gates × IsPermutation (filter_map (gate_at n) seen) gates) (AreInnerGates n c.args.taker.now)
    (λ (gates : List ℕ) are. inner_gates n c.keeps.ensures.sound c.args.taker.now c.args.ranks.now c.requires.ranked seen gates high are.0 are.1) c.gates_among.ensures
