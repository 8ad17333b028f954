use Rattle.job_base.proofs.design_laws.event_designs.Kept.{event_cycles_are_kept}
use Rattle.job_base.proofs.design_laws.event_designs.event_cycles_are_kept.Goals as goal

pub returns : goal.returns
returns c = event_cycles_are_kept
