-- A query under an assumption.
use Rattle.std.specs.Prelude.{◌≡◌, ◌⊎◌, ◌↔◌, ℕ, ◌*◌, ◌<◌, Bool, true, List, [], ◌∷◌, length, slice_get, Some}
use Rattle.std.specs.List.{AllZip, Contains}
use Rattle.circuit_theory.specs.Query.{Variable, HasLeaf}
use Rattle.circuit_theory.specs.Tree.{Tree}
use Rattle.aig.specs.declared.node.Node.{Node}
use Rattle.aig.specs.declared.node.Node.TheVariants.{Input}
use Rattle.aig.specs.Cone.{IsReached}
use Rattle.aig.specs.Values.{value}
use Rattle.pair_decide.specs.declared.query.Query.{Query}
use Rattle.cbf_unfold.specs.unfold_places.Growing.{TakesBits}
use Rattle.cbf_unfold.specs.shift_variables.Variables.{variables_of}
use Rattle.cbf_unfold.specs.shift_variables.query_places.Places.{place_of}
use Rattle.obligations.specs.declared.obligation.Obligation.{Obligation}
use Rattle.assume_laws.specs.Assume.{Assumption, RowMeets, PlaceUnfolds}
use Rattle.assume_queries.specs.declared.assume_answers.order.VariableOrder.{VariableOrder}
use Rattle.assume_queries.specs.assume_answers.Order.{AreOrdered}

-- the row at each place that has one of the variables meets the assumption
abbrev pub MeetsAtEach : Assumption → List (ℕ × ℕ) → List ℕ → (ℕ → ℕ → Bool) → Type 0
MeetsAtEach c table vars bits = (v : ℕ) → Contains vars v → RowMeets c (λ i. bits i (place_of table v))

-- the assumption reads the variable at a place that has one of the variables
abbrev pub ReadsAtOne : Assumption → List (ℕ × ℕ) → List ℕ → Variable ℕ → Type 0
ReadsAtOne c table vars x = (v : ℕ) × (tree : Tree ℕ) × Contains vars v × PlaceUnfolds c.circuit c.order (place_of table v) c.output tree × HasLeaf x tree

-- r asks what q asks where the assumption holds at each place of q's variables: it has q's sides, a care that is 1 exactly there, and the
-- variables of q and of the assumption at these places, in order.
pub record IsUnder (order : VariableOrder) (c : Assumption) (h : List Node) (table : List (ℕ × ℕ)) (q r : Query) : Type 0 where
  pub left_is : r.left ≡ q.left
  pub right_is : r.right ≡ q.right
  pub within : r.care.0 < 2 * length h
  pub care_is : (bits : ℕ → ℕ → Bool) (a : ℕ → Bool) → TakesBits table bits a → (value h a r.care.0 ≡ true) ↔ MeetsAtEach c table q.vars bits
  pub reads : (k v : ℕ) → IsReached h (r.care.0 ∷ []) k → slice_get h k ≡ Some (Input v) → Contains r.vars v
  pub in_order : AreOrdered order table r.vars
  pub contains : (v : ℕ) → Contains q.vars v → Contains r.vars v
  pub exactly : (x : Variable ℕ) → Contains (variables_of table r.vars) x ↔ (Contains (variables_of table q.vars) x ⊎ ReadsAtOne c table q.vars x)

-- the same of all queries of an obligation, which is else as it was
pub record IsObligationUnder (order : VariableOrder) (c : Assumption) (h : List Node) (table : List (ℕ × ℕ)) (o u : Obligation) : Type 0 where
  pub name_is : u.name ≡ o.name
  pub size_is : u.size ≡ o.size
  pub decisive_is : u.decisive ≡ o.decisive
  pub queries : AllZip (IsUnder order c h table) o.queries u.queries
