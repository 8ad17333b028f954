use Rattle.circuit_laws.proofs.LawProofs.{numbers_are_shared}
use Rattle.circuit_laws.proofs.laws.numbers_are_shared.Goals as goal

pub returns : goal.returns
returns c = numbers_are_shared
