-- The answers to a query, and what stands behind each.
use Rattle.std.specs.Prelude.{◌≡◌, ℕ, ◌≤◌, ◌<◌, Bool, List, length, Some, None, Option}
use Rattle.aig.specs.lane_eval.circuit_theory.Query.{bits_of}
use Rattle.aig.specs.declared.node.Node.{Node}
use Rattle.pair_decide.specs.cnf_encode.proof_check.Chains.{IsRefutation}
use Rattle.sat_search.specs.Found.{IsFruitless}
use Rattle.pair_decide.specs.cnf_encode.Encoding.{IsEncoding}
use Rattle.pair_decide.specs.declared.query.Query.{Query}
use Rattle.pair_decide.specs.declared.query.Proof.{Proof}
use Rattle.pair_decide.specs.declared.query.SameBy.TheVariants as same
use Rattle.pair_decide.specs.declared.query.Decision.{Decision}
use Rattle.pair_decide.specs.declared.query.Decision.TheVariants as decision
use Rattle.pair_decide.specs.Queries.{IsTrivial, IsSame, IsLeast, Distinguishes, assigned_to}

-- it has two sides that are different literals, a care that isn't the literal 0, and at most 16 variables
pub record IsNarrow (q : Query) : Type 0 where
  pub apart : IsTrivial q → ⊥
  pub few : length q.vars ≤ 16

-- the same with more than 16 variables
pub record IsWide (q : Query) : Type 0 where
  pub apart : IsTrivial q → ⊥
  pub many : 16 < length q.vars

-- the query's clauses, and a refutation of them of at most so many chains
pub record IsRefuted (g : List Node) (q : Query) (conflicts : ℕ) (proof : Proof) : Type 0 where
  pub wide : IsWide q
  pub encoding : IsEncoding g q.left.0 q.right.0 q.care.0 proof.cnf
  pub refutation : IsRefutation proof.cnf.clauses proof.log
  pub few : length proof.log ≤ conflicts

-- the query's clauses, and exactly so many chains over them, each of which tells unit propagation something, and none of which
-- derives the empty clause
pub record IsAtLimit (g : List Node) (q : Query) (conflicts : ℕ) (proof : Proof) : Type 0 where
  pub wide : IsWide q
  pub encoding : IsEncoding g q.left.0 q.right.0 q.care.0 proof.cnf
  pub fruitless : IsFruitless proof.cnf.clauses conflicts proof.log

-- an assignment of the query's variables that distinguishes, for at most 16 variables the least
pub record IsDifference (g : List Node) (q : Query) (bits : List Bool) : Type 0 where
  pub apart : IsTrivial q → ⊥
  pub each : length bits ≡ length q.vars
  pub distinguishes : Distinguishes g q (assigned_to q.vars bits)
  pub least : length q.vars ≤ 16 → (number : ℕ) × (bits ≡ bits_of number (length q.vars)) × IsLeast g q number

-- the answer is right
abbrev pub Decides : List Node → Query → ℕ → Decision → Type 0
Decides g q conflicts (decision.Same same.Literal) = IsTrivial q × IsSame g q
Decides g q conflicts (decision.Same same.Table) = IsNarrow q × IsSame g q
Decides g q conflicts (decision.Same (same.Refuted proof)) = IsRefuted g q conflicts proof × IsSame g q
Decides g q conflicts (decision.Differs bits) = IsDifference g q bits
Decides g q conflicts (decision.Limit proof) = IsAtLimit g q conflicts proof

-- what the table of all assignments gives: no number, or the least one
abbrev pub IsTable : List Node → Query → Option ℕ → Type 0
IsTable g q None = IsSame g q
IsTable g q (Some number) = IsLeast g q number
