use Rattle.std.proofs.Common.{◌≡◌, ◌∙◌, ◌≤◌, ◌++◌, List, ℕ, length, map, take, ap, subst, arith}
use Rattle.std.proofs.lemmas.List.{take_all}
use Rattle.flat_net.specs.declared.parts.LatchAt.{LatchAt}
use Rattle.circuit_theory.specs.Circuit.{Named}
use Rattle.flat_net.specs.View.{circuit_of}
use Rattle.circuit_report.specs.graph_report.Report.{MeasuredLatch, IsMeasuredLatch, latch_signal, latch_text, latch_line}
use Rattle.circuit_report.specs.graph_report.Puts.{PutsLines, PutsLatches}
use Rattle.circuit_report.proofs.graph_report.Lines.{item_at, signals_more, lines_more, measured, latch_within}
use Rattle.circuit_report.proofs.graph_report.report.put_latches.Goals as goal

pub depth-depth-requires : goal.depth-depth-requires
depth-depth-requires c =
    latch_within c.args.net.now c.args.graph.now c.requires.graph c.loop-j.j c.latch-item.result
    (item_at c.args.net.now.latches _ c.loop-j.j c.latch-item.result c.latches-latch-items.ensures c.loop-j-test.true c.latch-item.is)

pub kind_at-kind-requires : goal.kind_at-kind-requires
kind_at-kind-requires c = let e = ap length c.latches-latch-items.ensures in omega (arith, c.loop-j-test.true, e, c.requires.kinds)

pub loop-j-preserved : goal.loop-j-preserved
loop-j-preserved c = λ mode is are.
    let n = c.args.net.now in
    let j = c.loop-j.j in
    let latch = c.latch-item.result in
    let depth = c.depth-depth.result in
    let at = item_at n.latches _ j latch c.latches-latch-items.ensures c.loop-j-test.true c.latch-item.is in
    let kind = c.kind_at-kind.result in
    let put : c.put_latch.new.text.items ≡ c.loop-j.text.items ++ latch_text latch.name depth kind =
    c.in_ok-put_latch.ensures ∙ ap (λ (name : List ℕ). c.loop-j.text.items ++ latch_text name depth kind) c.as_slice.ensures in
    let right : IsMeasuredLatch mode (circuit_of n) (record { measured = record { signal = latch_signal latch; depth = depth }; kind = kind }) =
    (measured mode n c.args.graph.now is (latch_signal latch) depth c.depth-depth.ensures.depth c.depth-depth.ensures.none, are.right j latch kind at c.kind_at-kind.ensures) in
    subst (λ (signals : List (Named ℕ)). PutsLines (λ (l : MeasuredLatch). l.measured.signal) (IsMeasuredLatch mode (circuit_of n)) latch_line signals c.args.text.now.items c.put_latch.new.text.items) (signals_more latch_signal n.latches j latch at)
    (lines_more (λ (l : MeasuredLatch). l.measured.signal) (IsMeasuredLatch mode (circuit_of n)) latch_line (map latch_signal (take j n.latches)) c.args.text.now.items c.loop-j.text.items c.put_latch.new.text.items
    (record { measured = record { signal = latch_signal latch; depth = depth }; kind = kind }) (c.loop-j.invariant mode is are) right put)

pub returns : goal.returns
returns c = λ mode is are.
    let n = c.args.net.now in
    let past : length n.latches ≤ c.loop-j.j = let e = ap length c.latches-latch-items.ensures in omega (arith, c.loop-j-test.false, e) in
    subst (λ (latches : List LatchAt). PutsLatches mode n latches c.args.text.now.items c.loop-j.text.items) (take_all c.loop-j.j n.latches past) (c.loop-j.invariant mode is are)
