use Rattle.job_base.proofs.design_laws.event_designs.Kept.{event_agreement_is_kept}
use Rattle.job_base.proofs.design_laws.event_designs.event_agreement_is_kept.Goals as goal

pub returns : goal.returns
returns c = event_agreement_is_kept
