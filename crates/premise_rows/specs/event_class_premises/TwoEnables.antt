-- Two circuits whose latches load under different inputs: the second founds a class of its own.
use Rattle.std.specs.Global.{Vec}
use Rattle.std.specs.Prelude.{◌≡◌, ◌==◌, ℕ, true, false, [], ◌∷◌, length, Contains}
use Rattle.circuit_theory.specs.Joined.{Either, Left, Right}
use Rattle.circuit_theory.specs.Classes.{classes_of, DiffersFromMember}
use Rattle.circuit_theory.specs.EventTotals.{IsMapSoFar}
use Rattle.circuit_theory.specs.Frame.{EventSide}
use Rattle.circuit_laws.specs.event_laws.ClassSteps.{IsFirstFit}
use Rattle.flat_net.specs.View.{NetView}
use Rattle.event_nodes.specs.aig.Rules.{IsAndOf}
use Rattle.event_nodes.specs.View.{EventCircuitView}
use Rattle.edbf_unfold.specs.class_queries.Enables.{both_of, IsEnableFunction, Distinguishes}
use Rattle.edbf_unfold.specs.class_queries.Laws.{AreKept}
use Rattle.class_search.specs.declared.class.Class.{Class}
use Rattle.class_search.specs.declared.compare.Enable.{Enable}
use Rattle.class_search.specs.declared.search.Fit.{Fit}
use Rattle.class_search.specs.declared.search.Fit.TheVariants as fit
use Rattle.class_search.specs.declared.told.Difference.{Difference}
use Rattle.class_search.specs.declared.told.Told.{Told}
use Rattle.class_search.specs.Search.{IsFit}
use Rattle.class_search.specs.class_fits.Members.{HasMembers, HaveMembers, class_of_fit}
use Rattle.class_search.specs.class_fits.class_joining.Joining.{HasJoined, AreMembers}
use Rattle.premise_rows.specs.event_pair_premises.Differing.{two_inputs, at_root}
use Rattle.premise_rows.specs.event_pair_premises.Held.{loads_a}
use Rattle.premise_rows.specs.event_class_premises.ClassMap.{a_of, a_tag, at_tag, both_latches}
use Rattle.premise_rows.specs.event_class_premises.Tables.{left_member}
use Rattle.premise_rows.specs.event_class_premises.Members.{HasOne, e_enable}

-- the gates of A's circuit, but that q loads e under a
abbrev pub loading_e : NetView
loading_e = record loads_a.net {
  gates = record { fanins = record { 0 = 1 } ∷ record { 0 = 0 } ∷ record { 0 = 2 } ∷ []; cover = 0; out = record { 0 = 3 } } ∷ record { fanins = record { 0 = 2 } ∷ []; cover = 1; out = record { 0 = 4 } } ∷ [];
}

-- with this class for its latch
abbrev pub e_of : ℕ → EventCircuitView
e_of k = record { net = loading_e; enabled = true ∷ []; order = 0 ∷ 1 ∷ []; classes = k ∷ [] }

abbrev pub two_of : ℕ → ℕ → EventSide (Either ℕ ℕ)
two_of j k = both_of (a_of j) (e_of k)

-- a, over the variables e and a
abbrev pub a_enable : Enable
a_enable = record { value = record { 0 = 4 }; care = record { 0 = 1 }; vars = 0 ∷ 1 ∷ [] }

-- where both are 0, a isn't 1
abbrev pub none_set : Difference
none_set = record { vars = 0 ∷ 1 ∷ []; bits = false ∷ false ∷ [] }

-- where e alone is 1, a differs from the enable of the first member
abbrev pub told_e : Told
told_e = record { member = 0; difference = record { vars = 0 ∷ 1 ∷ []; bits = true ∷ false ∷ [] } }

-- A's latch is the member of class 1, and where e alone is 1 it is told apart from the other circuit's, whose enable is a.
pub record ApartMeetsPremises : Type 0 where
  pub kept : AreKept (a_of 1) (e_of 0) at_root
  pub members : AreMembers (two_of 1 0) at_root (Left 2 ∷ []) 1 (left_member ∷ [])
  pub enable : IsEnableFunction (two_of 1 0) at_root (Right 2) 4 1
  pub among : Contains (left_member ∷ []) left_member
  pub both : IsAndOf two_inputs 1 1 1
  pub told : Distinguishes at_root 2 4 1 (λ v. v == 0)
  pub differs : DiffersFromMember (two_of 1 0) (Left 2 ∷ []) 1 (Right 2)

-- So that latch founds a class, whatever conflicts are allowed, and that is its first fit: class 2. With it class 1 keeps its member.
pub record FoundsClass (c : Class) (founds : Fit) : Type 0 where
  pub map : IsMapSoFar (two_of 1 0) (Left 2 ∷ []) (Right 2 ∷ [])
  pub number : classes_of (two_of 1 0) (Left 2 ∷ []) ≡ length (c ∷ [])
  pub members : HaveMembers (two_of 1 0) at_root at_tag (Left 2 ∷ []) (c ∷ [])
  pub fit : (conflicts : ℕ) → IsFit at_root at_root (c ∷ []) a_enable conflicts founds
  pub class_is : class_of_fit (c ∷ []) founds ≡ 2
  pub first : IsFirstFit (two_of 1 0) (Left 2 ∷ []) (Right 2) 2
  pub joined : HasJoined (a_of 1) (e_of 0) (a_of 1) (e_of 2) (Left 2 ∷ []) [] (Right 2) 2
  pub members_stay : HasMembers (two_of 1 2) at_root at_tag both_latches 1 c

-- so it is of each class with that member, and of each list of what tells the latch from it
abbrev pub FoundsMeetPremises : Type 0
FoundsMeetPremises = (c : Class) (told : Vec Told) → HasOne c a_tag e_enable → told.items ≡ told_e ∷ [] → FoundsClass c (fit.Founds none_set told)
