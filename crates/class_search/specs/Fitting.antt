-- An enable against the members of a class.
use Rattle.std.specs.Prelude.{◌≡◌, ◌≢◌, ℕ, ◌*◌, ◌<◌, Bool, true, List, length, slice_get, Some}
use Rattle.event_nodes.specs.event_variables.aig.Rules.{IsAndOf}
use Rattle.event_nodes.specs.event_variables.aig.Values.{value}
use Rattle.event_nodes.specs.Nodes.{EventGraphView}
use Rattle.pair_decide.specs.declared.query.SameBy.{SameBy}
use Rattle.pair_decide.specs.declared.query.Decision.TheVariants as answer
use Rattle.class_search.specs.declared.compare.Compared.{Compared}
use Rattle.class_search.specs.declared.compare.Enable.{Enable}
use Rattle.class_search.specs.declared.fitting.Unlike.{Unlike}
use Rattle.class_search.specs.Comparing.{IsComparison}

-- no assignment under which both have care tells the two enables apart
pub record AreSameEnables (w : EventGraphView) (x y : Enable) : Type 0 where
  pub care : ℕ
  pub both : IsAndOf w.graph x.care.0 y.care.0 care
  pub within : care < 2 * length w.graph
  pub same : (a : ℕ → Bool) → value w.graph a care ≡ true → value w.graph a x.value.0 ≡ value w.graph a y.value.0

-- the answer to the query of the two enables isn't that they are the same
pub record IsUnlike (w : EventGraphView) (x y : Enable) (conflicts : ℕ) (r : Compared) : Type 0 where
  pub compared : IsComparison w x y conflicts r
  pub unlike : (by : SameBy) → r.decision ≢ answer.Same by

-- the enables of all members before are the same as the latch's, and the answer to the query of this member's and the latch's isn't that
pub record IsFirstUnlike (w : EventGraphView) (members : List Enable) (latch : Enable) (conflicts : ℕ) (u : Unlike) : Type 0 where
  pub enable : Enable
  pub at : slice_get members u.member ≡ Some enable
  pub before : (i : ℕ) (x : Enable) → i < u.member → slice_get members i ≡ Some x → AreSameEnables w x latch
  pub compared : IsComparison w enable latch conflicts u.compared
  pub unlike : (by : SameBy) → u.compared.decision ≢ answer.Same by
