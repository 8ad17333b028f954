use Rattle.premise_rows.proofs.job_rows.Ring.{ring_is_cut_once}
use Rattle.premise_rows.proofs.job_rows.ring_is_cut_once.Goals as goal

pub returns : goal.returns
returns c = ring_is_cut_once
