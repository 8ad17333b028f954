use Rattle.std.proofs.Common.{◌≡◌, length}
use Rattle.swept_queries.specs.node_agreement.Answers.{AreVariables}
use Rattle.swept_queries.proofs.node_agreement.models.model_of.Given as goal

abbrev pub invariant-loop-i : goal.invariant-loop-i
invariant-loop-i l = record { each : length l.vars.items ≡ l.i; are : AreVariables l.graph l.nodes l.vars.items }
