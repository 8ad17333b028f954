use Rattle.std.proofs.lemmas.Bool.{false≢true}
use Rattle.proof_check.proofs.Deriving.{ends_not}
use Rattle.proof_check.proofs.checker.ends_empty.Goals as goal

pub returns-in-None : goal.returns-in-None
returns-in-None c = (λ wrong. absurd (false≢true wrong), λ ends. absurd (ends_not c.args.clauses.now c.as_slice.result.now c.as_slice.ensures c.in-None.ensures.value ends))
