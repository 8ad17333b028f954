-- Two latches that load under different inputs are of two classes.
use Rattle.std.specs.Global.{Vec}
use Rattle.std.proofs.Common.{◌≡◌, ℕ, true, false, List, [], ◌∷◌, length, slice_get, Some, refl, sym, ap, subst, arith, inl, inr}
use Rattle.std.specs.Prelude.{◌⊎◌, ◌==◌, codes}
use Rattle.std.specs.List.{Contains}
use Rattle.circuit_theory.specs.Joined.{Either, Left, Right}
use Rattle.circuit_theory.specs.Classes.{DiffersFromMember}
use Rattle.circuit_theory.specs.EventTotals.{IsMapSoFar}
use Rattle.circuit_theory.proofs.Lists.{Contains-head, only}
use Rattle.circuit_laws.specs.event_laws.ClassSteps.{IsFirstFit}
use Rattle.base_tables.proofs.Appended.{at-one}
use Rattle.event_nodes.specs.aig.Rules.{IsAndOf, simple_and}
use Rattle.event_nodes.specs.aig.Values.{value, lit_bit, node_bits, bits_from}
use Rattle.event_nodes.specs.event_variables.Variables.{GoesBefore, IsMergeOf}
use Rattle.edbf_unfold.specs.class_queries.Enables.{IsEnableFunction, Distinguishes}
use Rattle.edbf_unfold.specs.class_queries.Laws.{AreKept}
use Rattle.class_search.specs.declared.class.Class.{Class}
use Rattle.class_search.specs.declared.compare.Enable.{Enable}
use Rattle.class_search.specs.declared.search.Fit.TheVariants as fit
use Rattle.class_search.specs.declared.told.Told.{Told}
use Rattle.class_search.specs.Search.{AreTold, IsFit}
use Rattle.class_search.specs.Told.{IsAlwaysTold, IsTold}
use Rattle.class_search.specs.class_fits.Members.{HasMembers, HaveMembers}
use Rattle.class_search.specs.class_fits.class_joining.Joining.{HasJoined, AreMembers}
use Rattle.class_search.proofs.class_fits.Fitting.{fit_first}
use Rattle.class_search.proofs.class_fits.Members.{members_stay_on}
use Rattle.class_search.proofs.class_fits.class_joining.Giving.{class_given}
use Rattle.class_search.proofs.class_fits.class_joining.Members.{member_apart}
use Rattle.call_rows.proofs.circuit_samples.Each.{each_pair}
use Rattle.premise_rows.specs.event_pair_premises.Differing.{two_inputs, at_root, a_and_b}
use Rattle.premise_rows.specs.event_class_premises.ClassMap.{a_of, a_tag, at_tag}
use Rattle.premise_rows.specs.event_class_premises.Tables.{left_member}
use Rattle.premise_rows.specs.event_class_premises.Members.{HasOne, e_enable}
use Rattle.premise_rows.specs.event_class_premises.Totals.{q_latch}
use Rattle.premise_rows.specs.event_class_premises.TwoEnables.{e_of, two_of, a_enable, none_set, told_e, ApartMeetsPremises, FoundsClass, FoundsMeetPremises}
use Rattle.premise_rows.proofs.event_pair_premises.Differing.{meet_premises, root_kept}
use Rattle.premise_rows.proofs.event_pair_premises.HeldPair.{kept}
use Rattle.premise_rows.proofs.event_class_premises.ClassMap.{left_circuit}
use Rattle.premise_rows.proofs.event_class_premises.Members.{against_always, a_difference, one_member, have_one, stays}
use Rattle.premise_rows.proofs.event_class_premises.TwoNets.{e_sound, is_circuit, two_single, two_once, two_left, two_right, left_hold, right_hold, two_hold, two_depths, two_order}
use Rattle.premise_rows.proofs.event_class_premises.Pairs as pair

pub two_kept : AreKept (a_of 1) (e_of 0) at_root
two_kept = record { left_sound = kept.left_sound; right_sound = e_sound; left = left_circuit 1; right = is_circuit 0; events = root_kept }

left_function : IsEnableFunction (two_of 1 0) at_root (Left 2) 2 1
unfolding value node_bits bits_from lit_bit
left_function = pair.function (two_of 1 0) two_single two_once (left_hold 1 0) (right_hold 1 0) two_left two_right (two_hold 1 0) (two_order 1 0) at_root (codes "q") (Left 2) (Left 3) two_left (left_hold 1 0) 2 0 refl (λ a. refl) (λ a. refl) (omega arith) (omega arith)

right_function : IsEnableFunction (two_of 1 0) at_root (Right 2) 4 1
unfolding value node_bits bits_from lit_bit
right_function = pair.function (two_of 1 0) two_single two_once (left_hold 1 0) (right_hold 1 0) two_left two_right (two_hold 1 0) (two_order 1 0) at_root (codes "q") (Right 2) (Right 3) two_right (right_hold 1 0) 4 1 refl (λ a. refl) (λ a. refl) (omega arith) (omega arith)

members : AreMembers (two_of 1 0) at_root (Left 2 ∷ []) 1 (left_member ∷ [])
members = record {
  each = λ m h. subst (λ (x : Either ℕ ℕ × (ℕ × ℕ)). Contains (Left 2 ∷ []) x.0 × ((two_of 1 0).class x.0 ≡ 1) × IsEnableFunction (two_of 1 0) at_root x.0 x.1.0 x.1.1) (only left_member m h) (Contains-head (Left 2) [], refl, left_function);
  all = λ u h k. (left_member, Contains-head left_member [], subst (λ (v : Either ℕ ℕ). IsEnableFunction (two_of 1 0) at_root v 2 1) (only (Left 2) u h) left_function);
}

one_and_one : IsAndOf two_inputs 1 1 1
unfolding simple_and
one_and_one = refl

apart : true ≡ false → ⊥
apart e = cc

told : Distinguishes at_root 2 4 1 (λ v. v == 0)
unfolding value node_bits bits_from lit_bit
told = record { cared = refl; differ = apart }

pub differs : DiffersFromMember (two_of 1 0) (Left 2 ∷ []) 1 (Right 2)
differs = member_apart (a_of 1) (e_of 0) at_root (Left 2 ∷ []) 0 (left_member ∷ []) (Right 2) 4 1 left_member 1 (λ v. v == 0) two_kept members right_function (Contains-head left_member []) one_and_one told

pub apart_meets_premises : ApartMeetsPremises
apart_meets_premises = record {
  kept = two_kept;
  members = members;
  enable = right_function;
  among = Contains-head left_member [];
  both = one_and_one;
  told = told;
  differs = differs;
}

map : IsMapSoFar (two_of 1 0) (Left 2 ∷ []) (Right 2 ∷ [])
map = pair.map_one (two_of 1 0) two_single two_once (left_hold 1 0) (right_hold 1 0) two_left two_right (two_hold 1 0) (two_order 1 0) refl

merge : IsMergeOf at_root (0 ∷ 1 ∷ []) (0 ∷ 1 ∷ []) (0 ∷ 1 ∷ [])
merge = record { ordered = each_pair (GoesBefore at_root) (0 ∷ 1 ∷ []) ((inr (refl, inr (refl, omega arith)), tt), (tt, tt)); exactly = λ v. (λ h. inl h, λ h. either v h) }
  where
    either : (v : ℕ) → Contains (0 ∷ 1 ∷ []) v ⊎ Contains (0 ∷ 1 ∷ []) v → Contains (0 ∷ 1 ∷ []) v
    either v (inl h) = h
    either v (inr h) = h

a_told : (conflicts : ℕ) → IsAlwaysTold at_root a_enable conflicts none_set
a_told conflicts = record { query = against_always 4; left = refl; right = refl; care = refl; vars = refl; own = refl; decided = a_difference }

module _ (c : Class) (list : Vec Told) (one : HasOne c a_tag e_enable) (list_is : list.items ≡ told_e ∷ []) where
  is_told : (conflicts : ℕ) → IsTold at_root at_root c.enables.items a_enable conflicts told_e
  is_told conflicts = record {
    at = at_root;
    since = stays;
    until = stays;
    kept = root_kept;
    enable = e_enable;
    is = ap (λ (ys : List Enable). slice_get ys 0) one.enables;
    before = λ i x l. absurd (omega (arith, l));
    compared = record { query = a_and_b; left = refl; right = refl; both = one_and_one; within = omega arith; vars = refl; merged = merge; decided = meet_premises.differs };
  }

  are_told : (conflicts : ℕ) → AreTold at_root at_root (c ∷ []) a_enable conflicts (told_e ∷ [])
  are_told conflicts i t h =
      let e = at-one told_e t i h in
      (c, subst (λ (k : ℕ). slice_get (c ∷ []) k ≡ Some c) (sym e.0) refl, subst (IsTold at_root at_root c.enables.items a_enable conflicts) e.1 (is_told conflicts))

  founds : (conflicts : ℕ) → IsFit at_root at_root (c ∷ []) a_enable conflicts (fit.Founds none_set list)
  founds conflicts = (a_told conflicts, subst (AreTold at_root at_root (c ∷ []) a_enable conflicts) (sym list_is) (are_told conflicts), ap length list_is)

  has : HasMembers (two_of 1 0) at_root at_tag (Left 2 ∷ []) 1 c
  has = one_member (two_of 1 0) at_root at_tag 1 c a_tag e_enable one refl left_function [] (λ u h k. subst (λ (v : Either ℕ ℕ). IsEnableFunction (two_of 1 0) at_root v 2 1) (only (Left 2) u h) left_function)

  have : HaveMembers (two_of 1 0) at_root at_tag (Left 2 ∷ []) (c ∷ [])
  have = have_one (two_of 1 0) at_root at_tag 1 c a_tag e_enable one refl left_function [] refl has

  first : IsFirstFit (two_of 1 0) (Left 2 ∷ []) (Right 2) 2
  first = fit_first (a_of 1) (e_of 0) at_root at_root at_tag (Left 2 ∷ []) (Right 2) (c ∷ []) a_enable 0 (fit.Founds none_set list) two_kept refl have right_function (founds 0)

  joined : HasJoined (a_of 1) (e_of 0) (a_of 1) (e_of 2) (Left 2 ∷ []) [] (Right 2) 2
  joined = (class_given (a_of 1) (e_of 0) kept.left_sound e_sound (left_circuit 1) (is_circuit 0) two_depths (Left 2 ∷ []) [] 0 2 q_latch).1 refl map first

  pub founds_class : FoundsClass c (fit.Founds none_set list)
  founds_class = record {
    map = map;
    number = refl;
    members = have;
    fit = founds;
    class_is = refl;
    first = first;
    joined = joined;
    members_stay = members_stay_on (a_of 1) (e_of 0) (a_of 1) (e_of 2) at_root at_tag (Left 2 ∷ []) [] (Right 2) 1 2 c joined has (λ e. absurd (omega (arith, e)));
  }

pub founds_meet_premises : FoundsMeetPremises
founds_meet_premises c list one list_is = founds_class c list one list_is
