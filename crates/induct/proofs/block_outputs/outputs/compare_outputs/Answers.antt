-- One output more.
use Rattle.std.proofs.Common.{◌∙◌, ◌<◌, List, [], ◌∷◌, ◌++◌, ℕ, length, take, sym, ap, subst}
use Rattle.std.specs.List.{AllZip, Contains}
use Rattle.circuit_theory.proofs.Lists.{Contains-map, of_at, zip_push}
use Rattle.flat_net.specs.declared.parts.Port.{Port}
use Rattle.flat_net.specs.View.{ports_of}
use Rattle.flat_net.proofs.Places.{All-at}
use Rattle.sec_setup.proofs.ports.Paired.{names_of, item_at, take_next}
use Rattle.sec_setup.proofs.ports.Shared.{are_matched}
use Rattle.induct.specs.declared.block_outputs.outputs.OutputPair.{OutputPair}
use Rattle.induct.specs.block_outputs.Answers.{IsOutputAnswer}
use Rattle.induct.proofs.block_outputs.outputs.compare_outputs.Goals as goal

pub output_pair-requires-clause-names : goal.output_pair-requires-clause-names
output_pair-requires-clause-names c = c.in_ok-names.ensures ∙ ap names_of c.outputs.ensures

pub output_pair-requires-clause-there : goal.output_pair-requires-clause-there
output_pair-requires-clause-there c =
    let a = c.args.nets.now.left.now in
    let b = c.args.nets.now.right.now in
    let at = item_at a.outputs c.outputs-output-items.result.now c.loop-output.output-index c.output-item.result c.outputs-output-items.ensures c.loop-output-test.true c.output-item.is in
    let own : Contains (names_of a.outputs) c.output-item.result.name = Contains-map (λ (p : Port). p.name) a.outputs c.output-item.result (of_at a.outputs c.loop-output.output-index c.output-item.result at) in
    let there : Contains (names_of b.outputs) c.output-item.result.name = (are_matched (ports_of a) (ports_of b) c.requires.matches).outputs c.output-item.result.name own in
    subst (λ (names : List (List ℕ)). Contains names c.output-item.result.name) (sym (c.in_ok-names.ensures ∙ ap names_of c.outputs.ensures)) there

pub output_pair-requires-clause-signal : goal.output_pair-requires-clause-signal
output_pair-requires-clause-signal c =
    let a = c.args.nets.now.left.now in
    let at = item_at a.outputs c.outputs-output-items.result.now c.loop-output.output-index c.output-item.result c.outputs-output-items.ensures c.loop-output-test.true c.output-item.is in
    All-at (λ (p : Port). p.signal.0 < length a.drivers) a.outputs c.loop-output.output-index c.output-item.result at c.keeps.ensures.sound.outputs

pub loop-output-preserved : goal.loop-output-preserved
loop-output-preserved c =
    let n = c.args.nets.now in
    let ports = n.left.now.outputs in
    let R = IsOutputAnswer n c.args.graph.now c.args.conflicts in
    let i = c.loop-output.output-index in
    let port = c.output-item.result in
    let at = item_at ports c.outputs-output-items.result.now i port c.outputs-output-items.ensures c.loop-output-test.true c.output-item.is in
    subst (λ (ps : List Port). AllZip R ps c.push.new.self) (sym (take_next ports i port at))
    (subst (λ (pairs : List OutputPair). AllZip R (take i ports ++ port ∷ []) pairs) (sym c.in_ok-push.ensures.ok) (zip_push R (take i ports) c.loop-output.pairs port c.in_ok-output_pair.field-0 c.loop-output.invariant c.in_ok-output_pair.ensures))
