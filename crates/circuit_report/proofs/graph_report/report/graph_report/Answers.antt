use Rattle.std.proofs.Common.{◌≡◌, ◌∙◌, ◌++◌, ℕ, List, sym, ap, subst}
use Rattle.circuit_report.specs.graph_report.Report.{IsGraphReport, counts_text}
use Rattle.circuit_report.proofs.graph_report.Lines.{report_of}
use Rattle.circuit_report.proofs.graph_report.report.graph_report.Goals as goal

pub returns : goal.returns
returns c = λ mode are.
    let is = c.in_ok-graph.ensures.in_mode mode are in
    let counts : c.put_counts.new.text.items ≡ counts_text c.args.net.now = c.in_ok-put_counts.ensures ∙ ap (λ (t : List ℕ). t ++ counts_text c.args.net.now) c.new-text.ensures.items in
    subst (IsGraphReport mode c.args.net.now) (sym c.from_vec.ensures)
    (report_of mode c.args.net.now _ _ _ _ counts (c.in_ok-put_latches.ensures mode is are) (c.in_ok-put_outputs.ensures mode is) (c.in_ok-put_cycle.ensures mode is))
