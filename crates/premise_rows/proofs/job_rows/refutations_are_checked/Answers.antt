use Rattle.premise_rows.proofs.job_rows.Refutations.{units_are_refuted, pairs_are_refuted}
use Rattle.premise_rows.proofs.job_rows.refutations_are_checked.Goals as goal

pub returns : goal.returns
returns c = record { units = units_are_refuted; pairs = pairs_are_refuted }
