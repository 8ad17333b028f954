use Rattle.std.proofs.Common.{◌≡◌, ◌∙◌, ◌++◌, take, ap, subst}
use Rattle.obligations.specs.declared.outcome.verdict.Outcome.{Outcome}
use Rattle.job_settles.specs.Report.{settles_verdict}
use Rattle.job_settles.proofs.Fronts.{no_cares, no_length, whole_text}
use Rattle.job_settles.proofs.report.text_of.Goals as goal

pub returns-then-is_empty-clause-text : goal.returns-then-is_empty-clause-text
returns-then-is_empty-clause-text c = c.in_ok-whole.ensures ∙ no_cares c.args.settings.now c.args.outcome.now c.args.cares.now (no_length c.args.cares.now c.if-is_empty.ensures)

pub returns-clause-text : goal.returns-clause-text
returns-clause-text c =
    let o : Outcome = c.args.outcome.now in
    let first = c.in_ok-put.ensures.ok ∙ (ap (λ t. t ++ take c.in_ok-length.length c.as_slice.result.now) c.new-text.ensures.items ∙ ap (take c.in_ok-length.length) c.as_slice.ensures) in
    let last = subst (λ (x : Outcome). c.put_verdict.new.text.items ≡ c.put_idle.new.text.items ++ settles_verdict c.args.settings.now.conflicts x.verdict c.args.cares.now) c.in_ok-length.ensures.same c.in_ok-put_verdict.ensures in
    c.from_vec.ensures ∙ whole_text c.args.settings.now o c.args.cares.now c.in_ok-whole.whole _ _ _ _ c.in_ok-length.length c.in_ok-whole.ensures c.in_ok-length.ensures.length first c.in_ok-put_cares.ensures c.in_ok-put_idle.ensures last
