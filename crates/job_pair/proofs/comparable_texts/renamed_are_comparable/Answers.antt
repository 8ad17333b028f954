use Rattle.job_pair.proofs.job_renamed.Examples.{renamed_are_comparable}
use Rattle.job_pair.proofs.comparable_texts.renamed_are_comparable.Goals as goal

pub returns : goal.returns
returns c = renamed_are_comparable
