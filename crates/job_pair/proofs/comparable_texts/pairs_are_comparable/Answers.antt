use Rattle.job_pair.proofs.Examples.{pairs_are_comparable}
use Rattle.job_pair.proofs.comparable_texts.pairs_are_comparable.Goals as goal

pub returns : goal.returns
returns c = pairs_are_comparable
