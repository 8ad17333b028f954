-- The clauses that say that the two sides of a query differ where its care holds (Tseitin's encoding of an and-inverter graph).
use Rattle.std.specs.Prelude.{◌≡◌, ◌≢◌, ◌⊎◌, ◌↔◌, ℕ, suc, ◌+◌, ◌*◌, ◌/◌, ◌%◌, ◌^◌, ◌<◌, ◌≤◌, ◌==◌, Bool, true, List, [], ◌∷◌, ◌++◌, length, slice_get, Some, All}
use Rattle.proof_check.specs.Literals.{Literal, negation}
use Rattle.proof_check.specs.Clauses.{IsClauseOf, IsTautology, Satisfies}
use Rattle.aig.specs.declared.node.Node.{Node}
use Rattle.aig.specs.declared.node.Node.TheVariants.{Constant, Input, And}
use Rattle.aig.specs.Values.{value}
use Rattle.aig.specs.Cone.{IsConeOf, IsPartOf, IsPlacedLit}
use Rattle.pair_decide.specs.declared.cnf_encode.cnf.Cnf.{Cnf}

-- the clause literal of a literal whose node stands at a place of the list
abbrev pub literal_of : ℕ → Literal
literal_of x = record { variable = x / 2 + 1; positive = x % 2 == 0 }

-- the same of the node at a place
abbrev pub literal_at : ℕ → Literal
literal_at k = record { variable = k + 1; positive = true }

-- a literal implies two others, and is implied by both of them
abbrev pub and_clauses : Literal → Literal → Literal → List (List Literal)
and_clauses at left right = (negation at ∷ left ∷ []) ∷ (negation at ∷ right ∷ []) ∷ (at ∷ negation left ∷ negation right ∷ []) ∷ []

-- what is said of the node at a place: the constant is 0, and an and is that of its operands
abbrev pub node_clauses : ℕ → Node → List (List Literal)
node_clauses k Constant = (negation (literal_at k) ∷ []) ∷ []
node_clauses k (Input v) = []
node_clauses k (And l r) = and_clauses (literal_at k) (literal_of l.0) (literal_of r.0)

-- the same of the nodes from a place on
abbrev pub part_clauses : ℕ → List Node → List (List Literal)
part_clauses k [] = []
part_clauses k (node ∷ part) = node_clauses k node ++ part_clauses (suc k) part

-- the care holds, one side is 1, and one is 0
abbrev pub query_clauses : ℕ → ℕ → ℕ → List (List Literal)
query_clauses left right care =
    (literal_of care ∷ [])
    ∷ (literal_of left ∷ literal_of right ∷ [])
    ∷ (negation (literal_of left) ∷ negation (literal_of right) ∷ []) ∷ []

-- the clauses of these literals, without those that hold both signs of a variable
abbrev pub AreClausesOf : List (List Literal) → List (List Literal) → Type 0
AreClausesOf [] clauses = clauses ≡ []
AreClausesOf (literals ∷ rest) clauses =
    (IsTautology literals × AreClausesOf rest clauses)
    ⊎ ((c : List Literal) × (others : List (List Literal)) × IsClauseOf literals c × AreClausesOf rest others × (clauses ≡ c ∷ others))

-- the clauses of these literals stand behind those that were there
abbrev pub Adds : List (List Literal) → List (List Literal) → List (List Literal) → Type 0
Adds literals old new = (more : List (List Literal)) × AreClausesOf literals more × (new ≡ old ++ more)

-- The encoding of three literals of the graph: the nodes of their cones, increasing, are its variables.
pub record IsEncoding (g : List Node) (left right care : ℕ) (e : Cnf) : Type 0 where
  pub nodes_are : IsConeOf g (left ∷ right ∷ care ∷ []) e.nodes
  pub variables_are : e.variables ≡ length e.nodes
  pub part : List Node
  pub part_is : IsPartOf g e.nodes part
  pub left_at : ℕ
  pub right_at : ℕ
  pub care_at : ℕ
  pub left_is : IsPlacedLit e.nodes left left_at
  pub right_is : IsPlacedLit e.nodes right right_at
  pub care_is : IsPlacedLit e.nodes care care_at
  pub clauses_are : AreClausesOf (part_clauses 0 part ++ query_clauses left_at right_at care_at) e.clauses

-- under an assignment of the graph's variables the clauses' variables have the values of their nodes, the care holds, and the
-- sides differ
pub record ShowsDifference (g : List Node) (left right care : ℕ) (nodes : List ℕ) (v : ℕ → Bool) : Type 0 where
  pub bits : ℕ → Bool
  pub values : (k n : ℕ) → slice_get nodes k ≡ Some n → v (k + 1) ≡ value g bits (2 * n)
  pub care_holds : value g bits care ≡ true
  pub differ : value g bits left ≢ value g bits right

-- fewer than 2^30 variables, at most three clauses for each and three more, and no literal of another variable
pub record IsSmall (e : Cnf) : Type 0 where
  pub variables : e.variables < 2 ^ 30
  pub clauses : length e.clauses ≤ 3 * e.variables + 3
  pub range : All (λ c. All (λ l. (0 < l.variable) × (l.variable ≤ e.variables)) c) e.clauses

-- values meet all clauses exactly where they show a difference
abbrev pub MeansDifference : List Node → ℕ → ℕ → ℕ → Cnf → Type 0
MeansDifference g left right care e = (v : ℕ → Bool) → Satisfies v e.clauses ↔ ShowsDifference g left right care e.nodes v
