-- Where a class query met the limit.
use Rattle.std.specs.Prelude.{◌≡◌, ℕ, ◌<◌, false, true, List, [], length, slice_get, Option, Some, None}
use Rattle.circuit_theory.specs.Circuit.{IsLatch}
use Rattle.circuit_theory.specs.Joined.{Either}
use Rattle.circuit_theory.specs.Run.{IsEnabled}
use Rattle.circuit_theory.specs.Tree.{Tree}
use Rattle.circuit_theory.specs.EventFrames.{AreNodeVariables, IsClassTree}
use Rattle.circuit_theory.specs.EventTotals.{IsAsked}
use Rattle.circuit_theory.specs.Frame.{EventSide, EventUnfolds}
use Rattle.sec_base.specs.declared.basics.Tag.{Tag}
use Rattle.class_search.specs.pair_decide.Proof.{Proof}
use Rattle.class_search.specs.pair_decide.Query.{Query}
use Rattle.class_search.specs.pair_decide.Answers.{IsAtLimit}
use Rattle.event_nodes.specs.Nodes.{EventGraphView, IsEventGraph}
use Rattle.event_nodes.specs.event_variables.Variables.{variables_of}
use Rattle.edbf_unfold.specs.class_queries.Enables.{IsEnableFunction, AsksEnables}
use Rattle.class_search.specs.declared.class.Class.{Class}
use Rattle.class_search.specs.declared.search.Unfit.{Unfit}
use Rattle.class_search.specs.declared.search.Unfit.TheVariants as unfit
use Rattle.event_classes.specs.declared.error.EventError.{EventError}
use Rattle.event_classes.specs.declared.error.EventError.TheVariants as event_error

-- the two functions of what a latch takes over, as trees at the root: with the latch at 0, and with it at 1
pub record EnableTrees {P : Type 0} (s : EventSide P) (u : P) : Type 0 where
  pub name : List ℕ
  pub next : P
  pub latch : IsLatch s.circuit name u next
  pub low : Tree (List ℕ)
  pub high : Tree (List ℕ)
  pub low_unfolds : EventUnfolds s (IsEnabled s.circuit) (Some (u, false)) next [] low
  pub high_unfolds : EventUnfolds s (IsEnabled s.circuit) (Some (u, true)) next [] high

-- the enables of two latches aren't made of the same two trees
pub record HaveTwoEnables {P : Type 0} (s : EventSide P) (u v : P) : Type 0 where
  pub left : EnableTrees s u
  pub right : EnableTrees s v
  pub two_trees : left.low ≡ right.low → left.high ≡ right.high → ⊥

-- the query, whose variables are those of the enables of both latches and more than 16, met the limit
pub record HasMetLimit (s : EventSide (Either ℕ ℕ)) (w : EventGraphView) (u v : Either ℕ ℕ) (q : Query) (conflicts : ℕ) (proof : Proof) : Type 0 where
  pub events : IsEventGraph w
  pub variables : AreNodeVariables (IsClassTree s u v) (variables_of w q.vars)
  pub limit : IsAtLimit w.graph q conflicts proof

-- The query of the latch's enable against 1, or against the enable of another latch that it was asked about in its turn, met the limit. The two
-- enables aren't made of the same trees.
abbrev pub IsLimitQuery : EventSide (Either ℕ ℕ) → (Tag → Either ℕ ℕ) → List (Either ℕ ℕ) → Either ℕ ℕ → Option Tag → ℕ → Proof → Type 0
IsLimitQuery s place taken u None conflicts proof = (w : EventGraphView) × (q : Query) × IsEnableFunction s w u q.left.0 q.care.0 × (q.right.0 ≡ 1) × HasMetLimit s w u u q conflicts proof
IsLimitQuery s place taken u (Some t) conflicts proof =
    IsAsked s taken u (Some (place t)) × ((w : EventGraphView) × (q : Query) × AsksEnables s w (place t) u q.left.0 q.right.0 q.care.0 × HasMetLimit s w (place t) u q conflicts proof) × HaveTwoEnables s (place t) u

-- the place of the class, and that of the member, are of the list
abbrev pub IsNamed : List Class → Unfit → Type 0
IsNamed classes (unfit.Always proof) = Unit {0}
IsNamed classes (unfit.Member at member proof) = (c : Class) × (slice_get classes at ≡ Some c) × (member < length c.tags.items)
IsNamed classes unfit.NoMemory = Unit {0}

-- what is answered of it
abbrev pub IsErrorOf : List Class → Tag → EventError → Unfit → Type 0
IsErrorOf classes tag e (unfit.Always proof) = e ≡ event_error.Limit tag None proof
IsErrorOf classes tag e (unfit.Member at member proof) = (c : Class) × (slice_get classes at ≡ Some c) × ((t : Tag) × (slice_get c.tags.items member ≡ Some t) × (e ≡ event_error.Limit tag (Some t) proof))
IsErrorOf classes tag e unfit.NoMemory = e ≡ event_error.NoMemory
