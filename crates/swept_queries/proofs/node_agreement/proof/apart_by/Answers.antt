use Rattle.std.proofs.Common.{Option, subst}
use Rattle.std.specs.Prelude.{IfSome}
use Rattle.sweep_candidates.specs.declared.models.Model.{Model}
use Rattle.swept_queries.specs.node_agreement.Answers.{DifferAt}
use Rattle.swept_queries.proofs.node_agreement.proof.apart_by.Goals as goal

pub returns-in-Some : goal.returns-in-Some
returns-in-Some c = λ g x y there. subst (λ (o : Option Model). IfSome o (λ (m : Model). DifferAt g x y m.vars.items m.bits.items)) c.in-Some.is there
