-- A class with one member, and how it goes on.
use Rattle.std.proofs.Common.{◌≡◌, ◌∙◌, ℕ, suc, true, false, List, [], ◌∷◌, length, slice_get, Some, refl, sym, ap, subst, arith, inl, inr}
use Rattle.std.specs.List.{All, Contains}
use Rattle.std.proofs.lemmas.List.Elements.{All-from_recursion}
use Rattle.std.proofs.lemmas.Option.{none-some}
use Rattle.circuit_theory.specs.Joined.{Either, Left, Right}
use Rattle.circuit_theory.specs.Frame.{EventSide}
use Rattle.circuit_theory.proofs.Lists.{only}
use Rattle.base_tables.proofs.Appended.{at-one}
use Rattle.sec_base.specs.declared.basics.Tag.{Tag}
use Rattle.event_nodes.specs.aig.Rules.{simple_and}
use Rattle.event_nodes.specs.aig.Values.{value, lit_bit, node_bits, bits_from}
use Rattle.event_nodes.specs.Nodes.{EventGraphView, GrowsEvents}
use Rattle.pair_decide.specs.declared.query.Query.{Query}
use Rattle.pair_decide.specs.Answers.{IsDifference}
use Rattle.pair_decide.specs.Queries.{Distinguishes, IsTrivial, numbered}
use Rattle.edbf_unfold.specs.class_queries.Enables.{IsEnableFunction}
use Rattle.edbf_unfold.specs.class_queries.Laws.{AreKept}
use Rattle.class_search.specs.declared.class.Class.{Class}
use Rattle.class_search.specs.declared.compare.Enable.{Enable}
use Rattle.class_search.specs.declared.search.Fit.TheVariants as fit
use Rattle.class_search.specs.Fitting.{AreSameEnables}
use Rattle.class_search.specs.Search.{IsFit}
use Rattle.class_search.specs.Told.{IsAlwaysTold}
use Rattle.class_search.specs.class_fits.Members.{IsAmong, IsMember, HasMembers, HaveMembers}
use Rattle.class_search.proofs.class_fits.Fitting.{fit_first}
use Rattle.class_search.proofs.class_fits.Members.{members_grow_on, members_stay_on, members_join_on}
use Rattle.premise_rows.specs.event_pair_premises.Differing.{two_inputs, at_root}
use Rattle.premise_rows.specs.event_class_premises.ClassMap.{a_of, b_of, so_far, a_tag, b_tag, at_tag}
use Rattle.premise_rows.specs.event_class_premises.Tables.{at_enables}
use Rattle.premise_rows.specs.event_class_premises.Members.{HasOne, HasOneMore, e_enable, MembersGoOn, MembersMeetPremises}
use Rattle.premise_rows.specs.event_class_premises.TwoEnables.{none_set}
use Rattle.premise_rows.proofs.event_pair_premises.Differing.{root_kept}
use Rattle.premise_rows.proofs.event_pair_premises.HeldPair.{kept}
use Rattle.premise_rows.proofs.event_class_premises.ClassMap.{left_circuit, right_circuit, joined}
use Rattle.premise_rows.proofs.event_class_premises.Tables.{grows, left_at_root, right_at_root}

-- the first latch that was taken is the one member of its class
module _ (s : EventSide (Either ℕ ℕ)) (w : EventGraphView) (at : Tag → Either ℕ ℕ) (class : ℕ) (c : Class) (t : Tag) (x : Enable) (h : HasOne c t x) (class_is : s.class (at t) ≡ class) (function : IsEnableFunction s w (at t) x.value.0 x.care.0) (after : List (Either ℕ ℕ)) where
  base : (i : ℕ) → IsMember s w (at t ∷ after) class c.enables.items i (at t) x
  base i = record { class_is = class_is; function = function; before = []; after = after; split = refl; earlier = λ v k is. absurd (omega (arith, k.1)) }

  at_zero : slice_get c.enables.items 0 ≡ Some x
  at_zero = ap (λ (ys : List Enable). slice_get ys 0) h.enables

  tag_is : (i : ℕ) (u : Tag) → slice_get c.tags.items i ≡ Some u → t ≡ u
  tag_is i u p = (at-one t u i (sym (ap (λ (ts : List Tag). slice_get ts i) h.tags) ∙ p)).1

  enable_is : (i : ℕ) (y : Enable) → slice_get c.enables.items i ≡ Some y → x ≡ y
  enable_is i y p = (at-one x y i (sym (ap (λ (ys : List Enable). slice_get ys i) h.enables) ∙ p)).1

  pub one_member : ((u : Either ℕ ℕ) → Contains (at t ∷ after) u → s.class u ≡ class → IsEnableFunction s w u x.value.0 x.care.0) → HasMembers s w at (at t ∷ after) class c
  one_member all =
      let tags : length c.tags.items ≡ 1 = ap length h.tags in
      let enables : length c.enables.items ≡ 1 = ap length h.enables in
      record {
        paired = tags ∙ sym enables;
        each = λ i u y p q.
            subst (λ (z : Tag). IsMember s w (at t ∷ after) class c.enables.items i (at z) y) (tag_is i u p) (subst (λ (z : Enable). IsMember s w (at t ∷ after) class c.enables.items i (at t) z) (enable_is i y q) (base i));
        all = λ u among is. (0, x, omega (arith, enables), at_zero, all u among is);
      }

  pub have_one : class ≡ 1 → HasMembers s w at (at t ∷ after) class c → HaveMembers s w at (at t ∷ after) (c ∷ [])
  have_one one members k d p =
      let e = at-one c d k p in
      let number : class ≡ suc k = omega (arith, one, e.0) in
      subst (λ (m : ℕ). HasMembers s w at (at t ∷ after) m d) number (subst (λ (z : Class). HasMembers s w at (at t ∷ after) class z) e.1 members)

pub stays : GrowsEvents at_root at_root
stays = record { graph = ([], refl); children = ([], refl); places = ([], refl) }

-- e isn't always 1
abbrev pub against_always : ℕ → Query
against_always lit = record { left = record { 0 = lit }; right = record { 0 = 1 }; care = record { 0 = 1 }; vars = 0 ∷ 1 ∷ [] }

differ : false ≡ true → ⊥
differ e = cc

e_apart : IsTrivial (against_always 2) → ⊥
e_apart (inl e) = omega (arith, e)
e_apart (inr e) = omega (arith, e)

e_off : Distinguishes two_inputs (against_always 2) (numbered (against_always 2) 0)
unfolding value node_bits bits_from lit_bit
e_off = record { care = refl; differ = differ }

e_difference : IsDifference two_inputs (against_always 2) (false ∷ false ∷ [])
e_difference = record { apart = e_apart; each = refl; distinguishes = e_off; least = λ few. (0, refl, record { in_range = omega arith; distinguishes = e_off; least = λ m l. absurd (omega (arith, l)) }) }

e_told : (conflicts : ℕ) → IsAlwaysTold at_root e_enable conflicts none_set
e_told conflicts = record { query = against_always 2; left = refl; right = refl; care = refl; vars = refl; own = refl; decided = e_difference }

-- so isn't a
a_apart : IsTrivial (against_always 4) → ⊥
a_apart (inl e) = omega (arith, e)
a_apart (inr e) = omega (arith, e)

a_off : Distinguishes two_inputs (against_always 4) (numbered (against_always 4) 0)
unfolding value node_bits bits_from lit_bit
a_off = record { care = refl; differ = differ }

pub a_difference : IsDifference two_inputs (against_always 4) (false ∷ false ∷ [])
a_difference = record { apart = a_apart; each = refl; distinguishes = a_off; least = λ few. (0, refl, record { in_range = omega arith; distinguishes = a_off; least = λ m l. absurd (omega (arith, l)) }) }

e_same : AreSameEnables at_root e_enable e_enable
unfolding simple_and
e_same = record { care = 1; both = refl; within = omega arith; same = λ a h. refl }

kept_now : AreKept (a_of 1) (b_of 0) at_root
kept_now = record { left_sound = kept.left_sound; right_sound = kept.right_sound; left = left_circuit 1; right = right_circuit 0; events = root_kept }

module _ (c d : Class) (one : HasOne c a_tag e_enable) (more : HasOneMore c d b_tag e_enable) where
  members : HasMembers (so_far 1 0) at_root at_tag (Left 2 ∷ []) 1 c
  members = one_member (so_far 1 0) at_root at_tag 1 c a_tag e_enable one refl left_at_root [] (λ u h k. subst (λ (v : Either ℕ ℕ). IsEnableFunction (so_far 1 0) at_root v 2 1) (only (Left 2) u h) left_at_root)

  have : HaveMembers (so_far 1 0) at_root at_tag (Left 2 ∷ []) (c ∷ [])
  have = have_one (so_far 1 0) at_root at_tag 1 c a_tag e_enable one refl left_at_root [] refl members

  same_members : All (λ x. AreSameEnables at_root x e_enable) c.enables.items
  same_members = subst (All (λ (x : Enable). AreSameEnables at_root x e_enable)) (sym one.enables) (All-from_recursion (λ (x : Enable). AreSameEnables at_root x e_enable) (e_enable ∷ []) (e_same, tt))

  joins : (conflicts : ℕ) → IsFit at_root at_root (c ∷ []) e_enable conflicts (fit.Joins 0)
  joins conflicts = (none_set, e_told conflicts, ([], λ i t h. absurd (none-some t h), refl, (c, refl, record { at = at_root; since = stays; until = stays; kept = root_kept; same = same_members })))

  among : IsAmong (so_far 1 0) at_root c.enables.items (length c.enables.items) (Right 2)
  among = let enables : length c.enables.items ≡ 1 = ap length one.enables in (0, e_enable, omega (arith, enables), ap (λ (ys : List Enable). slice_get ys 0) one.enables, right_at_root)

  pub go_on : MembersGoOn c d
  go_on = record {
    kept = kept_now;
    number = refl;
    members = have;
    enable = right_at_root;
    fit = joins;
    first = fit_first (a_of 1) (b_of 0) at_root at_root at_tag (Left 2 ∷ []) (Right 2) (c ∷ []) e_enable 0 (fit.Joins 0) kept_now refl have right_at_root (joins 0);
    events = root_kept;
    grows = grows;
    members_later = members_grow_on (so_far 1 0) at_root at_enables at_tag (Left 2 ∷ []) 1 c root_kept grows members;
    joined = joined;
    among = among;
    members_stay = members_stay_on (a_of 1) (b_of 0) (a_of 1) (b_of 1) at_root at_tag (Left 2 ∷ []) [] (Right 2) 1 1 c joined members (λ e. among);
    members_join = members_join_on (a_of 1) (b_of 0) (a_of 1) (b_of 1) at_root at_tag (Left 2 ∷ []) [] b_tag e_enable 1 c d joined members right_at_root more.tags more.enables;
  }

pub members_meet_premises : MembersMeetPremises
members_meet_premises c d one more = go_on c d one more
