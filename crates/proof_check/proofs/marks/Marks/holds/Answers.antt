use Rattle.std.proofs.lemmas.Bool.{false≢true}
use Rattle.proof_check.proofs.Marking.{holds_none, holds_some}
use Rattle.proof_check.proofs.marks.Marks.holds.Goals as goal

pub returns-in-None : goal.returns-in-None
returns-in-None c = (λ wrong. absurd (false≢true wrong), λ held. absurd (holds_none c.args.self.now.signs.items c.args.literal c.variable.result c.variable.ensures.value c.in-None.ensures held))

pub returns-in-Some : goal.returns-in-Some
returns-in-Some c = holds_some c.args.self.now.signs.items c.args.literal c.variable.result c.in-Some.sign c.is_positive.result c.variable.ensures.value c.variable.ensures.above c.in-Some.ensures c.is_positive.ensures
