-- The table has each name of A's outputs.
use Rattle.std.proofs.Common.{◌≡◌, ◌∙◌, List, [], ◌∷◌, ◌++◌, ℕ, length, slice_get, sym, ap, subst, arith, length-append}
use Rattle.std.specs.List.{Contains}
use Rattle.circuit_theory.proofs.Lists.{Contains-map, of_at}
use Rattle.base_tables.specs.Table.{AreDistinct}
use Rattle.flat_net.specs.declared.parts.Port.{Port}
use Rattle.flat_net.specs.View.{ports_of}
use Rattle.cycle_sim.specs.declared.pair_runs.differences.OutputPair.{OutputPair}
use Rattle.sec_setup.proofs.ports.Paired.{names_of, item_at}
use Rattle.sec_setup.proofs.ports.Shared.{are_matched}
use Rattle.cycle_sim.proofs.pair_runs.Places.{each_more}
use Rattle.job_circuit.specs.replay.cut_sides.Pairs.{IsOutputAt}
use Rattle.job_circuit.proofs.replay.cut_sides.pairs.output_pairs.Goals as goal

pub table_of_ports-requires : goal.table_of_ports-requires
table_of_ports-requires c = subst (λ (ports : List Port). AreDistinct (names_of ports)) (sym c.outputs.ensures) c.requires.distinct

pub output_pair-requires-clause-names : goal.output_pair-requires-clause-names
output_pair-requires-clause-names c = c.in_ok-names.ensures ∙ ap names_of c.outputs.ensures

pub output_pair-requires-clause-there : goal.output_pair-requires-clause-there
output_pair-requires-clause-there c =
    let a = c.args.a.now in
    let b = c.args.b.now in
    let at = item_at a.outputs c.outputs-output-items.result.now c.loop-place.place c.output-item.result c.outputs-output-items.ensures c.loop-place-test.true c.output-item.is in
    let own : Contains (names_of a.outputs) c.output-item.result.name = Contains-map (λ (p : Port). p.name) a.outputs c.output-item.result (of_at a.outputs c.loop-place.place c.output-item.result at) in
    let there : Contains (names_of b.outputs) c.output-item.result.name = (are_matched (ports_of a) (ports_of b) c.requires.matches).outputs c.output-item.result.name own in
    subst (λ (names : List (List ℕ)). Contains names c.output-item.result.name) (sym (c.in_ok-names.ensures ∙ ap names_of c.outputs.ensures)) there

pub loop-place-preserved : goal.loop-place-preserved
loop-place-preserved c =
    let a = c.args.a.now in
    let b = c.args.b.now in
    let i = c.loop-place.place in
    let port = c.output-item.result in
    let pairs = c.loop-place.pairs.items in
    let p : OutputPair = c.in_ok-output_pair.field-0 in
    let at = item_at a.outputs c.outputs-output-items.result.now i port c.outputs-output-items.ensures c.loop-place-test.true c.output-item.is in
    let grown : c.push.new.self.items ≡ pairs ++ p ∷ [] = c.in_ok-push.ensures.items in
    let size = ap length grown in
    let right : IsOutputAt b (length pairs) port p = subst (λ k. IsOutputAt b k port p) (sym c.loop-place.invariant.0) c.in_ok-output_pair.ensures in (
      omega (arith, size, length-append pairs (p ∷ []), c.loop-place.invariant.0),
      λ k o q at_o at_q. each_more (λ (j : ℕ) (o : Port) (q : OutputPair). IsOutputAt b j o q) a.outputs pairs port p (ap (slice_get a.outputs) c.loop-place.invariant.0 ∙ at) right c.loop-place.invariant.1 k o q at_o
          (sym (ap (λ (qs : List OutputPair). slice_get qs k) grown) ∙ at_q),
    )
