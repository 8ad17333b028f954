-- What tells an enable from those of a class's members.
use Rattle.std.specs.Prelude.{◌≡◌, ℕ, ◌<◌, List, slice_get, Some, All}
use Rattle.pair_decide.specs.declared.query.Decision.TheVariants as answer
use Rattle.event_nodes.specs.Nodes.{EventGraphView, IsEventGraph, GrowsEvents}
use Rattle.class_search.specs.declared.compare.Enable.{Enable}
use Rattle.class_search.specs.declared.compare.Compared.{Compared}
use Rattle.class_search.specs.declared.fitting.Unlike.{Unlike}
use Rattle.class_search.specs.Comparing.{IsComparison, IsAlwaysComparison}
use Rattle.class_search.specs.Fitting.{AreSameEnables}
use Rattle.class_search.specs.declared.told.Difference.{Difference}
use Rattle.class_search.specs.declared.told.Told.{Told}

-- Between two states of the event graph the query of the latch and of the member at this place had this answer, where those of the members
-- before had told nothing apart.
pub record IsAnswered (v w : EventGraphView) (enables : List Enable) (latch : Enable) (conflicts member : ℕ) (reply : Compared) : Type 0 where
  pub at : EventGraphView
  pub since : GrowsEvents v at
  pub until : GrowsEvents at w
  pub kept : IsEventGraph at
  pub enable : Enable
  pub is : slice_get enables member ≡ Some enable
  pub before : (i : ℕ) (x : Enable) → i < member → slice_get enables i ≡ Some x → AreSameEnables at x latch
  pub compared : IsComparison at enable latch conflicts reply

-- the latch differs from this member, the first from which it does
abbrev pub IsTold : EventGraphView → EventGraphView → List Enable → Enable → ℕ → Told → Type 0
IsTold v w enables latch conflicts t = IsAnswered v w enables latch conflicts t.member (record { vars = t.difference.vars; decision = answer.Differs t.difference.bits })

-- Between two states of the event graph no assignment told the latch from any of the members.
pub record HaveAgreed (v w : EventGraphView) (enables : List Enable) (latch : Enable) : Type 0 where
  pub at : EventGraphView
  pub since : GrowsEvents v at
  pub until : GrowsEvents at w
  pub kept : IsEventGraph at
  pub same : All (λ x. AreSameEnables at x latch) enables

-- the difference of the first member that isn't known to agree
abbrev pub IsToldBy : Unlike → Told → Type 0
IsToldBy u t = (t.member ≡ u.member) × (u.compared ≡ record { vars = t.difference.vars; decision = answer.Differs t.difference.bits })

-- the enable is 0 somewhere where it has care
abbrev pub IsAlwaysTold : EventGraphView → Enable → ℕ → Difference → Type 0
IsAlwaysTold w latch conflicts d = IsAlwaysComparison w latch conflicts (record { vars = d.vars; decision = answer.Differs d.bits })
