-- Class 1 of the same two latches, as the search has it: its members, and that B's latch joins it.
use Rattle.std.specs.Prelude.{◌≡◌, ℕ, [], ◌∷◌, ◌++◌, length}
use Rattle.circuit_theory.specs.Joined.{Left, Right}
use Rattle.circuit_theory.specs.Classes.{classes_of}
use Rattle.circuit_laws.specs.event_laws.ClassSteps.{IsFirstFit}
use Rattle.sec_base.specs.declared.basics.Tag.{Tag}
use Rattle.event_nodes.specs.Nodes.{IsEventGraph, GrowsEvents}
use Rattle.edbf_unfold.specs.class_queries.Enables.{IsEnableFunction}
use Rattle.edbf_unfold.specs.class_queries.Laws.{AreKept}
use Rattle.class_search.specs.declared.class.Class.{Class}
use Rattle.class_search.specs.declared.compare.Enable.{Enable}
use Rattle.class_search.specs.declared.search.Fit.TheVariants as fit
use Rattle.class_search.specs.Search.{IsFit}
use Rattle.class_search.specs.class_fits.Members.{HasMembers, HaveMembers, IsAmong}
use Rattle.class_search.specs.class_fits.class_joining.Joining.{HasJoined}
use Rattle.premise_rows.specs.event_pair_premises.Differing.{at_root}
use Rattle.premise_rows.specs.event_class_premises.ClassMap.{a_of, b_of, so_far, a_tag, b_tag, at_tag, both_latches}
use Rattle.premise_rows.specs.event_class_premises.Tables.{at_enables}

-- the class has one member, with this enable
pub record HasOne (c : Class) (t : Tag) (x : Enable) : Type 0 where
  pub tags : c.tags.items ≡ t ∷ []
  pub enables : c.enables.items ≡ x ∷ []

-- the class has one member more
pub record HasOneMore (c d : Class) (t : Tag) (x : Enable) : Type 0 where
  pub tags : d.tags.items ≡ c.tags.items ++ t ∷ []
  pub enables : d.enables.items ≡ c.enables.items ++ x ∷ []

-- e, over the variables e and a
abbrev pub e_enable : Enable
e_enable = record { value = record { 0 = 2 }; care = record { 0 = 1 }; vars = 0 ∷ 1 ∷ [] }

-- A's latch is the member of class 1, now and in the later graph. No assignment tells B's enable from its, and one tells it from `always`: so
-- B's latch joins class 1, whatever conflicts are allowed, and that is its first fit. The class keeps its member, or has B's latch as another one.
pub record MembersGoOn (c d : Class) : Type 0 where
  pub kept : AreKept (a_of 1) (b_of 0) at_root
  pub number : classes_of (so_far 1 0) (Left 2 ∷ []) ≡ length (c ∷ [])
  pub members : HaveMembers (so_far 1 0) at_root at_tag (Left 2 ∷ []) (c ∷ [])
  pub enable : IsEnableFunction (so_far 1 0) at_root (Right 2) 2 1
  pub fit : (conflicts : ℕ) → IsFit at_root at_root (c ∷ []) e_enable conflicts (fit.Joins 0)
  pub first : IsFirstFit (so_far 1 0) (Left 2 ∷ []) (Right 2) 1
  pub events : IsEventGraph at_root
  pub grows : GrowsEvents at_root at_enables
  pub members_later : HasMembers (so_far 1 0) at_enables at_tag (Left 2 ∷ []) 1 c
  pub joined : HasJoined (a_of 1) (b_of 0) (a_of 1) (b_of 1) (Left 2 ∷ []) [] (Right 2) 1
  pub among : IsAmong (so_far 1 0) at_root c.enables.items (length c.enables.items) (Right 2)
  pub members_stay : HasMembers (so_far 1 1) at_root at_tag both_latches 1 c
  pub members_join : HasMembers (so_far 1 1) at_root at_tag both_latches 1 d

-- so it is of each class with that member, and of each with one more
abbrev pub MembersMeetPremises : Type 0
MembersMeetPremises = (c d : Class) → HasOne c a_tag e_enable → HasOneMore c d b_tag e_enable → MembersGoOn c d
