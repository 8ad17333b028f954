-- The assumption's query, and what stands behind its answers.
use Rattle.std.specs.Prelude.{◌≡◌, ℕ, ◌*◌, ◌<◌, Bool, List, [], ◌∷◌, length, slice_get, Some}
use Rattle.std.specs.List.{AllZip, Contains}
use Rattle.circuit_theory.specs.Query.{Variable, AreVariables, ShiftBefore, same_shift, assigned}
use Rattle.circuit_theory.specs.Tree.{Tree, tree_value}
use Rattle.aig.specs.declared.node.Node.{Node}
use Rattle.aig.specs.declared.node.Node.TheVariants.{Input}
use Rattle.aig.specs.Cone.{IsReached}
use Rattle.aig.specs.Graph.{IsGraph}
use Rattle.aig.specs.Values.{value}
use Rattle.base_tables.specs.Table.{AreDistinct}
use Rattle.cbf_unfold.specs.unfold_places.Growing.{IsNumberOf, TakesBits}
use Rattle.pair_decide.specs.declared.query.Query.{Query}
use Rattle.pair_decide.specs.declared.query.Decision.{Decision}
use Rattle.pair_decide.specs.Answers.{Decides}
use Rattle.assume_laws.specs.Assume.{Assumption, PlaceUnfolds}
use Rattle.assume_laws.specs.Sequences.{IsMeetingDifference, IsMeetingRow}

-- The query of an assumption over a graph: a literal that has the assumption's value and reads none but its variables, against 0, with a
-- care that holds always.
pub record IsAssumptionQuery (c : Assumption) (graph : List Node) (query : Query) : Type 0 where
  pub tree : Tree ℕ
  pub unfolds : PlaceUnfolds c.circuit c.order 0 c.output tree
  pub variables : List (Variable ℕ)
  pub are_variables : AreVariables ShiftBefore (tree ∷ []) variables
  pub places : List (ℕ × ℕ)
  pub distinct : AreDistinct places
  pub numbered : AllZip (IsNumberOf places) query.vars variables
  pub is_graph : IsGraph graph
  pub within : query.left.0 < 2 * length graph
  pub worth : (bits : ℕ → ℕ → Bool) (a : ℕ → Bool) → TakesBits places bits a → value graph a query.left.0 ≡ tree_value bits tree
  pub reads : (k v : ℕ) → IsReached graph (query.left.0 ∷ []) k → slice_get graph k ≡ Some (Input v) → Contains query.vars v
  pub right_is : query.right.0 ≡ 0
  pub care_is : query.care.0 ≡ 1

-- such a query has this answer
pub record IsAnswered (c : Assumption) (conflicts : ℕ) (decision : Decision) : Type 0 where
  pub graph : List Node
  pub query : Query
  pub asks : IsAssumptionQuery c graph query
  pub decides : Decides graph query conflicts decision

-- The row meets the assumption: it is that of an assignment of the assumption's variables that makes it 1, up to 16 variables of the least
-- one, and 0 elsewhere.
pub record IsKeptRow (c : Assumption) (count : ℕ) (row : ℕ → Bool) : Type 0 where
  pub tree : Tree ℕ
  pub variables : List (Variable ℕ)
  pub bits : List Bool
  pub difference : IsMeetingDifference c 0 tree variables bits
  pub row_is : (i : ℕ) → row i ≡ assigned same_shift variables bits i 0
  pub meets : IsMeetingRow c count row
