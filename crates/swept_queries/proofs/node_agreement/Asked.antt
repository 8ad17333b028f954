-- A query over a small graph, and what its answer says of the graph that it is a part of.
use Rattle.std.proofs.Common.{◌≡◌, ℕ, ◌*◌, ◌<◌, List, [], ◌∷◌, length, Option, Some, None, refl, sym, ◌∙◌, ap, subst}
use Rattle.std.specs.Prelude.{Contains}
use Rattle.aig.specs.declared.node.Node.{Node}
use Rattle.aig.specs.Graph.{IsGraph}
use Rattle.aig.specs.Values.{value}
use Rattle.aig.proofs.CoverMeaning.{value-one}
use Rattle.aig.specs.lane_eval.Tables as table
use Rattle.aig.specs.lane_eval.root_classes.Agreeing.{Agree}
use Rattle.pair_decide.specs.declared.query.Query.{Query}
use Rattle.pair_decide.specs.declared.query.SameBy.{SameBy}
use Rattle.pair_decide.specs.declared.query.SameBy.TheVariants as same
use Rattle.pair_decide.specs.declared.query.Decision.{Decision}
use Rattle.pair_decide.specs.declared.query.Decision.TheVariants as answer
use Rattle.pair_decide.specs.Queries.{IsQuery, IsSame}
use Rattle.pair_decide.specs.Answers.{Decides}
use Rattle.swept_queries.specs.declared.node_agreement.question.Tried.{Tried}
use Rattle.swept_queries.specs.node_agreement.Answers.{IsFound, IsOutcome, IsAnswer}
use Rattle.aig.specs.lane_eval.root_classes.Inputs.{inputs_of}
use Rattle.aig.proofs.lane_eval.root_classes.Listed.{inputs_of-has}
use Rattle.aig.proofs.lane_eval.root_classes.Assigned.{inputs-distinct}

-- all variables of a graph cover the cones of three literals
pub all-covered : (g : List Node) (left right care : ℕ) (vars : List ℕ) → vars ≡ inputs_of g → table.Covers g (left ∷ right ∷ care ∷ []) vars
all-covered g left right care vars are = λ n v reached at. subst (λ (vs : List ℕ). Contains vs v) (sym are) (inputs_of-has g n v at)

-- a query of literals of a graph, over all its variables
pub query-of : (g : List Node) → IsGraph g → (q : Query) → q.left.0 < 2 * length g → q.right.0 < 2 * length g → q.care.0 < 2 * length g → q.vars ≡ inputs_of g → IsQuery g q
query-of g graph q left right care vars =
    record {
      left = left;
      right = right;
      care = care;
      distinct = inputs-distinct g graph q.vars vars;
      covers = λ n v reached at. subst (λ (vs : List ℕ). Contains vs v) (sym vars) (inputs_of-has g n v at);
    }

-- what the table says
pub table-found : (g : List Node) (left right care : ℕ) (vars : List ℕ) (o : Option ℕ) → table.IsTable g left right care vars o → IsFound g left right care vars o
table-found g left right care vars None agree = agree
table-found g left right care vars (Some number) least = least.here.apart

-- each answer that they are the same says so
pub same-of : (g : List Node) (q : Query) (conflicts : ℕ) (d : Decision) → Decides g q conflicts d → (why : SameBy) × (d ≡ answer.Same why) → IsSame g q
same-of g q conflicts d decides (why, e) = by why (subst (Decides g q conflicts) e decides)
  where
    by : (why : SameBy) → Decides g q conflicts (answer.Same why) → IsSame g q
    by same.Literal h = h.1
    by same.Table h = h.1
    by (same.Refuted proof) h = h.1

-- with no care they agree
pub same-agree : (g : List Node) → IsGraph g → (q : Query) → q.care.0 ≡ 1 → IsSame g q → Agree g q.left.0 q.right.0
same-agree g graph q care is a = is a (ap (value g a) care ∙ value-one g graph a)

-- an answer to the query answers for its literals
pub outcome-answers : (g : List Node) (q : Query) → q.vars ≡ inputs_of g → (conflicts : ℕ) (d : Decision) → Decides g q conflicts d → (t : Tried) → IsOutcome d q.vars t → IsAnswer g q.left.0 q.right.0 q.care.0 t
outcome-answers g q vars conflicts (answer.Same why) decides t (cost, e) =
    let agree : table.Agree g q.left.0 q.right.0 q.care.0 = same-of g q conflicts (answer.Same why) decides (why, refl) in
    subst (IsAnswer g q.left.0 q.right.0 q.care.0) (sym e) agree
outcome-answers g q vars conflicts (answer.Differs bits) decides t e = subst (IsAnswer g q.left.0 q.right.0 q.care.0) (sym e) (vars, decides.each, decides.distinguishes.differ)
outcome-answers g q vars conflicts (answer.Limit proof) decides t e = subst (IsAnswer g q.left.0 q.right.0 q.care.0) (sym e) tt
