-- One signal more, and the gates in order.
use Rattle.std.proofs.Common.{◌≡◌, ◌∙◌, ◌+◌, Vec, Global, List, ℕ, take, Some, subst, sym, ap, arith}
use Rattle.std.specs.List.{filter_map}
use Rattle.std.specs.List.Sorted.{IsPermutation, IsNonDecreasing}
use Rattle.std.proofs.lemmas.List.{take_all}
use Rattle.std.proofs.lemmas.List.Sorted.{IsNonDecreasingBy-from_sort}
use Rattle.signal_graph.specs.inner_cone.latch_cone.Parts.{gate_at}
use Rattle.signal_graph.proofs.inner_cone.Gates.{gate_more, none_more}
use Rattle.signal_graph.proofs.inner_cone.parts.gates_among.Goals.{in-Gate+in_ok-push, in_default}
use Rattle.signal_graph.proofs.inner_cone.parts.gates_among.Goals as goal

pub driver-requires : goal.driver-requires
driver-requires c = c.requires c.loop-at.at c.key.result c.key.ensures

pub loop-at-preserved : goal.loop-at-preserved
loop-at-preserved c =
    let n = c.args.net.now in
    let seen = c.args.seen.now in
    let i = c.loop-at.at in
    elim c.match-driver.branch [
      | in-Gate+in_ok-push w ↦
          subst (λ (v : Vec ℕ Global). v.items ≡ filter_map (gate_at n) (take (i + 1) seen)) (sym w.gates-is)
          (w.in_ok-push.ensures.items ∙ gate_more n seen i c.key.result c.key.ensures c.loop-at.gates.items c.loop-at.invariant w.in-Gate.j (c.driver.ensures ∙ ap Some w.in-Gate.is))
      | in_default w ↦
          subst (λ (v : Vec ℕ Global). v.items ≡ filter_map (gate_at n) (take (i + 1) seen)) (sym w.gates-is)
          (none_more n seen i c.key.result c.key.ensures c.loop-at.gates.items c.loop-at.invariant c.driver.result c.driver.ensures w.in_default.not-Gate)
    ]

pub returns : goal.returns
returns c =
    let seen = c.args.seen.now in
    let sorted = c.sort.new.self.items in
    let all = c.loop-at.invariant ∙ ap (filter_map (gate_at c.args.net.now)) (take_all c.loop-at.at seen (omega (arith, c.loop-at-test.false, c.len-at-end.ensures))) in
    let in_order = subst IsNonDecreasing (sym c.from_vec.ensures) (IsNonDecreasingBy-from_sort (λ x. x) sorted c.in_ok-sort.ensures.sorted) in
    let are =
    subst (IsPermutation (filter_map (gate_at c.args.net.now) seen)) (sym c.from_vec.ensures)
    (subst (λ (xs : List ℕ). IsPermutation xs sorted) all c.sort.ensures.permutation) in
    (in_order, are)
