use Rattle.job_base.proofs.sec_files.NamedNets.{names_are_places}
use Rattle.job_base.proofs.sec_files.names_are_places.Goals as goal

pub returns : goal.returns
returns c = λ d n name origin signal portless sound flat names. names_are_places d n name origin signal portless sound flat names
