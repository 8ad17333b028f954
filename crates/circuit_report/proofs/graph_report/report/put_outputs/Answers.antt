use Rattle.std.proofs.Common.{◌≡◌, ◌∙◌, ◌≤◌, ◌++◌, List, ℕ, length, map, take, ap, subst, arith}
use Rattle.std.proofs.lemmas.List.{take_all}
use Rattle.flat_net.specs.declared.parts.Port.{Port}
use Rattle.circuit_theory.specs.Circuit.{Named}
use Rattle.flat_net.specs.View.{circuit_of, named}
use Rattle.circuit_report.specs.graph_report.Report.{Measured, IsMeasured, output_text, output_line}
use Rattle.circuit_report.specs.graph_report.Puts.{PutsLines, PutsOutputs}
use Rattle.circuit_report.proofs.graph_report.Lines.{item_at, signals_more, lines_more, measured, output_within}
use Rattle.circuit_report.proofs.graph_report.report.put_outputs.Goals as goal

pub depth-depth-requires : goal.depth-depth-requires
depth-depth-requires c =
    output_within c.args.net.now c.args.graph.now c.requires c.loop-output.output-index c.output-item.result
    (item_at c.args.net.now.outputs _ c.loop-output.output-index c.output-item.result c.outputs-output-items.ensures c.loop-output-test.true c.output-item.is)

pub loop-output-preserved : goal.loop-output-preserved
loop-output-preserved c = λ mode is.
    let n = c.args.net.now in
    let i = c.loop-output.output-index in
    let output = c.output-item.result in
    let depth = c.depth-depth.result in
    let at = item_at n.outputs _ i output c.outputs-output-items.ensures c.loop-output-test.true c.output-item.is in
    let put : c.put_output.new.text.items ≡ c.loop-output.text.items ++ output_text output.name depth =
    c.in_ok-put_output.ensures ∙ ap (λ (name : List ℕ). c.loop-output.text.items ++ output_text name depth) c.as_slice.ensures in
    subst (λ (signals : List (Named ℕ)). PutsLines (λ (m : Measured). m.signal) (IsMeasured mode (circuit_of n)) output_line signals c.args.text.now.items c.put_output.new.text.items) (signals_more named n.outputs i output at)
    (lines_more (λ (m : Measured). m.signal) (IsMeasured mode (circuit_of n)) output_line (map named (take i n.outputs)) c.args.text.now.items c.loop-output.text.items c.put_output.new.text.items
    (record { signal = named output; depth = depth }) (c.loop-output.invariant mode is) (measured mode n c.args.graph.now is (named output) depth c.depth-depth.ensures.depth c.depth-depth.ensures.none) put)

pub returns : goal.returns
returns c = λ mode is.
    let n = c.args.net.now in
    let past : length n.outputs ≤ c.loop-output.output-index = let e = ap length c.outputs-output-items.ensures in omega (arith, c.loop-output-test.false, e) in
    subst (λ (outputs : List Port). PutsOutputs mode n outputs c.args.text.now.items c.loop-output.text.items) (take_all c.loop-output.output-index n.outputs past) (c.loop-output.invariant mode is)
