-- A cycle is refused.
use Rattle.plain_check.specs.under_base.compare_base.Compared.{refusal_of}
use Rattle.plain_check.proofs.under_base.compare_base.Refusals.{refused_by}
use Rattle.event_check.specs.event_answers.Reached.{ReachesPairs}
use Rattle.event_check.proofs.event_answers.Refusals.{cycle_refused}
use Rattle.event_check.proofs.event_answers.reaching.reach_recovered.Goals as goal

pub returns-in_err-setup : goal.returns-in_err-setup
returns-in_err-setup c =
    refused_by (ReachesPairs c.args.a.now c.args.b.now c.args.settings.now) c.from_residual.result (refusal_of c.in_err-setup.field-0.0) c.from_residual.ensures.1
    (cycle_refused c.args.a.now c.args.b.now c.args.settings.now c.requires.matches c.in_err-setup.field-0.0 c.requires.left_known c.requires.right_known c.in_err-setup.ensures)
