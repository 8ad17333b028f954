use Rattle.std.proofs.Common.{◌≡◌, ◌-◌, ◌≤◌, length, drop}
use Rattle.blif_read.specs.Kept.{model_names}
use Rattle.blif_read.specs.Design.{visited, walk}
use Rattle.elaborate.specs.Walking.{main_name}
use Rattle.elaborate.specs.Steps.{visits}
use Rattle.elaborate.specs.Scopes.{path_of, below_scope}
use Rattle.elaborate.specs.State.{IsKept, state}
use Rattle.elaborate.proofs.hierarchy.+walk_scope.Given as goal

abbrev pub decreases-walk_scope : goal.decreases-walk_scope
decreases-walk_scope l = 64 - length l.scope.now.steps.items

abbrev pub invariant-loop-statement : goal.invariant-loop-statement
invariant-loop-statement l = record {
  kept : IsKept l.walked;
  at_is : l.at ≡ l.statement-index;
  numbered : l.instance ≤ l.statement-index;
  rest : visits (main_name l.models) (state l.models l.initial.walked) (below_scope l.models l.scope)
      ≡ visits (main_name l.models) (state l.models l.walked) (visited (walk (63 - length l.scope.steps.items) l.models) l.models (path_of (model_names l.models) l.scope) l.instance (drop l.statement-index l.statements));
}
