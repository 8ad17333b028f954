use Rattle.std.specs.Prelude.{option_to_list}
use Rattle.std.proofs.Common.{List, ◌++◌, ◌∙◌, ap}
use Rattle.obligations.specs.outcome.Proof.{Proof}
use Rattle.job_settles.specs.Report.{care_proof}
use Rattle.job_settles.proofs.Firsts.{one_more}
use Rattle.job_settles.proofs.report.all_proofs.Goals as goal

pub loop-care-preserved : goal.loop-care-preserved
loop-care-preserved c =
    c.in_ok-keep_proof.ensures ∙ (ap (λ (ps : List Proof). ps ++ option_to_list (care_proof c.in-Some.care)) c.loop-care.invariant ∙ one_more _ c.loop-care.yielded c.in-Some.care)
