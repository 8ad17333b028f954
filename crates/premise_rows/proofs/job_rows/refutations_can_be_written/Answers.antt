use Rattle.premise_rows.proofs.job_rows.Writing.{units_can_be_written, detour_can_be_written}
use Rattle.premise_rows.proofs.job_rows.refutations_can_be_written.Goals as goal

pub returns : goal.returns
returns c = record { units = units_can_be_written; detour = detour_can_be_written }
