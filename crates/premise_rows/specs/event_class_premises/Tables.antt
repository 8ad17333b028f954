-- The same two latches: the table in which B's latch finds its class, and the query that would find it too.
use Rattle.std.specs.Prelude.{ℕ, [], ◌∷◌, ◌++◌, Contains}
use Rattle.circuit_theory.specs.Joined.{Either, Left, Right}
use Rattle.circuit_theory.specs.Classes.{EqualsMembers}
use Rattle.circuit_theory.specs.EventTotals.{IsMapSoFar}
use Rattle.circuit_laws.specs.event_laws.ClassSteps.{IsFirstFit}
use Rattle.event_nodes.specs.aig.Rules.{IsAndOf}
use Rattle.event_nodes.specs.Nodes.{EventGraphView, IsEventGraph, GrowsEvents}
use Rattle.edbf_unfold.specs.class_queries.Enables.{IsEnableFunction, IsSame}
use Rattle.edbf_unfold.specs.class_queries.Laws.{AreKept}
use Rattle.class_search.specs.class_fits.class_joining.Joining.{HasJoined, AreKnownEnables, AreMembers}
use Rattle.premise_rows.specs.event_pair_premises.Differing.{two_inputs, at_root}
use Rattle.premise_rows.specs.event_pair_premises.Held.{and_of}
use Rattle.premise_rows.specs.event_class_premises.ClassMap.{a_of, b_of, so_far, both_latches}

-- Behind e and a at the root: e with a, e without a, and the complement of the or of these two, which is that of e. So 11 is e too.
abbrev pub at_enables : EventGraphView
at_enables = record at_root { graph = two_inputs ++ and_of 2 4 ∷ and_of 2 7 ∷ and_of 7 9 ∷ [] }

-- e with the care 1 is of class 1
abbrev pub e_of_one : (ℕ × ℕ) × ℕ
e_of_one = ((2, 1), 1)

-- A's latch, with e and the care 1
abbrev pub left_member : Either ℕ ℕ × (ℕ × ℕ)
left_member = (Left 2, (2, 1))

-- A's latch is in the table, and stays there in the later graph. B's enable has its literals, so that B's latch is given class 1, and the table
-- goes on with it. Were B's enable the literal 11, it would be the same as that of the one member of class 1 wherever both have care.
pub record TablesMeetPremises : Type 0 where
  pub kept : AreKept (a_of 1) (b_of 0) at_enables
  pub map : IsMapSoFar (so_far 1 0) (Left 2 ∷ []) (Right 2 ∷ [])
  pub events : IsEventGraph at_root
  pub grows : GrowsEvents at_root at_enables
  pub known : AreKnownEnables (so_far 1 0) at_root (Left 2 ∷ []) (e_of_one ∷ [])
  pub known_later : AreKnownEnables (so_far 1 0) at_enables (Left 2 ∷ []) (e_of_one ∷ [])
  pub enable : IsEnableFunction (so_far 1 0) at_enables (Right 2) 2 1
  pub found : Contains (e_of_one ∷ []) e_of_one
  pub fits : IsFirstFit (so_far 1 0) (Left 2 ∷ []) (Right 2) 1
  pub joined : HasJoined (a_of 1) (b_of 0) (a_of 1) (b_of 1) (Left 2 ∷ []) [] (Right 2) 1
  pub known_next : AreKnownEnables (so_far 1 1) at_enables both_latches (e_of_one ∷ e_of_one ∷ [])
  pub members : AreMembers (so_far 1 0) at_enables (Left 2 ∷ []) 1 (left_member ∷ [])
  pub other_enable : IsEnableFunction (so_far 1 0) at_enables (Right 2) 11 1
  pub each_same : (m : Either ℕ ℕ × (ℕ × ℕ)) → Contains (left_member ∷ []) m → (both : ℕ) × IsAndOf at_enables.graph m.1.1 1 both × IsSame at_enables m.1.0 11 both
  pub equals : EqualsMembers (so_far 1 0) (Left 2 ∷ []) 1 (Right 2)
