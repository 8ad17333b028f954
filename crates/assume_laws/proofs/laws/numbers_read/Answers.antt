use Rattle.assume_laws.proofs.Reading.{numbers_read}
use Rattle.assume_laws.proofs.laws.numbers_read.Goals as goal

pub returns : goal.returns
returns c = numbers_read
