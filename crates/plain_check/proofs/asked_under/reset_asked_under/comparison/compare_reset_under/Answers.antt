-- What unfolding the pairs refuses.
use Rattle.plain_check.specs.asked_under.reset_asked_under.Formed.{FormedUnder}
use Rattle.plain_check.specs.asked_under.reset_asked_under.Refusals.{refusal_of}
use Rattle.plain_check.proofs.asked_under.Refused.{refused_by}
use Rattle.plain_check.proofs.asked_under.reset_asked_under.Refused.{unfolded}
use Rattle.plain_check.proofs.asked_under.reset_asked_under.comparison.compare_reset_under.Goals as goal

pub returns-in_err-functions : goal.returns-in_err-functions
returns-in_err-functions c =
    let s = c.args.setup.now in
    refused_by (FormedUnder s c.args.premise.now c.args.conflicts) c.from_residual-in_err-functions.result (refusal_of c.in_err-functions.field-0.0) c.from_residual-in_err-functions.ensures.1
    (unfolded s c.args.premise.now c.args.conflicts c.in_ok-bases.bases c.in_err-functions.field-0.0 c.in_err-functions.ensures.unfolds)
