-- The members of a class, while the graph grows and latches join.
use Rattle.std.proofs.Common.{◌≡◌, ◌∙◌, ◌+◌, ◌≤◌, ℕ, List, [], ◌∷◌, ◌++◌, length, slice_get, Some, refl, sym, ap, subst, arith, inl, inr, length-append}
use Rattle.std.specs.Prelude.{◌⊎◌, Contains}
use Rattle.std.proofs.lemmas.List.Elements.{Contains-append_cases, Contains-append_left, Contains-append_right}
use Rattle.std.proofs.lemmas.List.{append_assoc}
use Rattle.std.proofs.lemmas.Option.{slice_get_within}
use Rattle.circuit_theory.specs.Joined.{Either}
use Rattle.circuit_theory.proofs.Lists.{Contains-head, only}
use Rattle.circuit_theory.specs.Frame.{EventSide}
use Rattle.flat_net.proofs.Growth.{slice_get-append}
use Rattle.flat_net.proofs.CutNets.{slice_get-append_cases}
use Rattle.flat_net.proofs.Places.{one_at}
use Rattle.sec_base.specs.declared.basics.Tag.{Tag}
use Rattle.event_nodes.specs.Nodes.{EventGraphView, IsEventGraph, GrowsEvents}
use Rattle.event_nodes.specs.View.{EventCircuitView}
use Rattle.class_search.specs.declared.compare.Enable.{Enable}
use Rattle.edbf_unfold.specs.class_queries.Enables.{both_of}
use Rattle.edbf_unfold.proofs.class_queries.Staying.{functions_grow_with_graph}
use Rattle.class_search.specs.class_fits.class_joining.Joining.{HasJoined}
use Rattle.class_search.specs.class_fits.Members.{IsAmong, IsMember}
use Rattle.class_search.specs.class_fits.Laws.{MembersGrow, MembersStay, MembersJoin}

among_grows : (s : EventSide (Either ℕ ℕ)) (v w : EventGraphView) → IsEventGraph v → GrowsEvents v w → (enables : List Enable) (count : ℕ) (u : Either ℕ ℕ) → IsAmong s v enables count u → IsAmong s w enables count u
among_grows s v w is grows enables count u k = (k.0, k.1, k.2, k.3, functions_grow_with_graph s v w u k.1.value.0 k.1.care.0 is grows k.4)

pub members_grow_on : MembersGrow
members_grow_on s v w place taken class c is grows h = record {
  paired = h.paired;
  each = λ i t x at_t at_x. let m = h.each i t x at_t at_x in record {
    class_is = m.class_is;
    function = functions_grow_with_graph s v w (place t) x.value.0 x.care.0 is grows m.function;
    before = m.before;
    after = m.after;
    split = m.split;
    earlier = λ q k e. among_grows s v w is grows c.enables.items i q (m.earlier q k e);
  };
  all = λ u k e. among_grows s v w is grows c.enables.items (length c.enables.items) u (h.all u k e);
}

module _ (a b c d : EventCircuitView) (w : EventGraphView) (taken rest : List (Either ℕ ℕ)) (u : Either ℕ ℕ) (k : ℕ) (joined : HasJoined a b c d taken rest u k) where
  here : (q : Either ℕ ℕ) → Contains taken q → Contains (taken ++ u ∷ []) q
  here q h = Contains-append_left taken (u ∷ []) q h

  -- a latch that was taken has the literals of one of these enables, also where there are more behind
  among_stays : (enables more : List Enable) (count : ℕ) (q : Either ℕ ℕ) → Contains (taken ++ u ∷ []) q → IsAmong (both_of a b) w enables count q → IsAmong (both_of c d) w (enables ++ more) count q
  among_stays enables more count q h m = (m.0, m.1, m.2, slice_get-append enables more m.0 m.1 m.3, joined.functions w q m.1.value.0 m.1.care.0 h m.4)

  class_before : (q : Either ℕ ℕ) (class : ℕ) → Contains taken q → (both_of c d).class q ≡ class → (both_of a b).class q ≡ class
  class_before q class h e = joined.kept q h ∙ e

  member_stays : (class : ℕ) (enables more : List Enable) (i : ℕ) (q : Either ℕ ℕ) (x : Enable) → IsMember (both_of a b) w taken class enables i q x → IsMember (both_of c d) w (taken ++ u ∷ []) class (enables ++ more) i q x
  member_stays class enables more i q x m = record {
    class_is = sym (joined.kept q inside) ∙ m.class_is;
    function = joined.functions w q x.value.0 x.care.0 (here q inside) m.function;
    before = m.before;
    after = m.after ++ u ∷ [];
    split = ap (λ (qs : List (Either ℕ ℕ)). qs ++ u ∷ []) m.split ∙ append_assoc m.before (q ∷ m.after) (u ∷ []);
    earlier = λ r h e. let t = earlier_taken r h in among_stays enables more i r (here r t) (m.earlier r h (class_before r class t e));
  }
    where
      inside : Contains taken q
      inside = subst (λ (qs : List (Either ℕ ℕ)). Contains qs q) (sym m.split) (Contains-append_right m.before (q ∷ m.after) q (Contains-head q m.after))

      earlier_taken : (r : Either ℕ ℕ) → Contains m.before r → Contains taken r
      earlier_taken r h = subst (λ (qs : List (Either ℕ ℕ)). Contains qs r) (sym m.split) (Contains-append_left m.before (q ∷ m.after) r h)

append_none : (xs : List Enable) → xs ++ [] ≡ xs
append_none [] = refl
append_none (x ∷ xs) = ap (λ (ys : List Enable). x ∷ ys) (append_none xs)

pub members_stay_on : MembersStay
members_stay_on a b c d w place taken rest u class k m joined h own = record {
  paired = h.paired;
  each = λ i t x at_t at_x. subst (λ (es : List Enable). IsMember (both_of c d) w (taken ++ u ∷ []) class es i (place t) x) (append_none m.enables.items) (member_stays a b c d w taken rest u k joined class m.enables.items [] i (place t) x (h.each i t x at_t at_x));
  all = λ q k e. go q e (Contains-append_cases taken (u ∷ []) q k);
}
  where
    all_of : (q : Either ℕ ℕ) → Contains (taken ++ u ∷ []) q → IsAmong (both_of a b) w m.enables.items (length m.enables.items) q → IsAmong (both_of c d) w m.enables.items (length m.enables.items) q
    all_of q h n = (n.0, n.1, n.2, n.3, joined.functions w q n.1.value.0 n.1.care.0 h n.4)

    last : Contains (taken ++ u ∷ []) u
    last = Contains-append_right taken (u ∷ []) u (Contains-head u [])

    go : (q : Either ℕ ℕ) → (both_of c d).class q ≡ class → Contains taken q ⊎ Contains (u ∷ []) q → IsAmong (both_of c d) w m.enables.items (length m.enables.items) q
    go q e (inl n) = all_of q (Contains-append_left taken (u ∷ []) q n) (h.all q n (joined.kept q n ∙ e))
    go q e (inr n) =
        let same : u ≡ q = only u q n in
        subst (IsAmong (both_of c d) w m.enables.items (length m.enables.items)) same
        (all_of u last (own (sym joined.class_is ∙ (ap (both_of c d).class same ∙ e))))

pub members_join_on : MembersJoin
members_join_on a b c d w place taken rest t x class m n joined h function tags enables = record {
  paired = let p = ap length tags in let q = ap length enables in omega (arith, p, q, h.paired, length-append m.tags.items (t ∷ []), length-append m.enables.items (x ∷ []));
  each = λ i s y at_s at_y. onto i (place s) y (each_of i s y (slice_get-append_cases m.tags.items (t ∷ []) i s (moved_tags i s at_s)) (slice_get-append_cases m.enables.items (x ∷ []) i y (moved_enables i y at_y)));
  all = λ q k e. all_onto q (all_of q e (Contains-append_cases taken (place t ∷ []) q k));
}
  where
    moved_tags : (i : ℕ) (s : Tag) → slice_get n.tags.items i ≡ Some s → slice_get (m.tags.items ++ t ∷ []) i ≡ Some s
    moved_tags i s at = subst (λ (ts : List Tag). slice_get ts i ≡ Some s) tags at

    moved_enables : (i : ℕ) (y : Enable) → slice_get n.enables.items i ≡ Some y → slice_get (m.enables.items ++ x ∷ []) i ≡ Some y
    moved_enables i y at = subst (λ (es : List Enable). slice_get es i ≡ Some y) enables at

    onto : (i : ℕ) (q : Either ℕ ℕ) (y : Enable) → IsMember (both_of c d) w (taken ++ place t ∷ []) class (m.enables.items ++ x ∷ []) i q y → IsMember (both_of c d) w (taken ++ place t ∷ []) class n.enables.items i q y
    onto i q y k = subst (λ (es : List Enable). IsMember (both_of c d) w (taken ++ place t ∷ []) class es i q y) (sym enables) k

    all_onto : (q : Either ℕ ℕ) → IsAmong (both_of c d) w (m.enables.items ++ x ∷ []) (length (m.enables.items ++ x ∷ [])) q → IsAmong (both_of c d) w n.enables.items (length n.enables.items) q
    all_onto q k = subst (λ (es : List Enable). IsAmong (both_of c d) w es (length es) q) (sym enables) k

    last : Contains (taken ++ place t ∷ []) (place t)
    last = Contains-append_right taken (place t ∷ []) (place t) (Contains-head (place t) [])

    longer : (count : ℕ) → count ≤ length m.enables.items → (q : Either ℕ ℕ) → IsAmong (both_of c d) w (m.enables.items ++ x ∷ []) count q → IsAmong (both_of c d) w (m.enables.items ++ x ∷ []) (length (m.enables.items ++ x ∷ [])) q
    longer count small q k = (k.0, k.1, omega (arith, k.2, small, length-append m.enables.items (x ∷ [])), k.3, k.4)

    old_all : (q : Either ℕ ℕ) → Contains taken q → (both_of c d).class q ≡ class → IsAmong (both_of c d) w (m.enables.items ++ x ∷ []) (length m.enables.items) q
    old_all q k e = among_stays a b c d w taken rest (place t) class joined m.enables.items (x ∷ []) (length m.enables.items) q (Contains-append_left taken (place t ∷ []) q k) (h.all q k (joined.kept q k ∙ e))

    -- the enable behind the others is the one that was put
    put_at : slice_get (m.enables.items ++ x ∷ []) (length m.enables.items) ≡ Some x
    put_at = at_end m.enables.items
      where
        at_end : (es : List Enable) → slice_get (es ++ x ∷ []) (length es) ≡ Some x
        at_end [] = refl
        at_end (e ∷ es) = at_end es

    all_of : (q : Either ℕ ℕ) → (both_of c d).class q ≡ class → Contains taken q ⊎ Contains (place t ∷ []) q → IsAmong (both_of c d) w (m.enables.items ++ x ∷ []) (length (m.enables.items ++ x ∷ [])) q
    all_of q e (inl k) = longer (length m.enables.items) (omega arith) q (old_all q k e)
    all_of q e (inr k) =
        subst (IsAmong (both_of c d) w (m.enables.items ++ x ∷ []) (length (m.enables.items ++ x ∷ []))) (only (place t) q k)
        (length m.enables.items, x, omega (arith, length-append m.enables.items (x ∷ [])), put_at, joined.functions w (place t) x.value.0 x.care.0 last function)

    new_member : IsMember (both_of c d) w (taken ++ place t ∷ []) class (m.enables.items ++ x ∷ []) (length m.enables.items) (place t) x
    new_member = record {
      class_is = joined.class_is;
      function = joined.functions w (place t) x.value.0 x.care.0 last function;
      before = taken;
      after = [];
      split = refl;
      earlier = old_all;
    }

    each_of : (i : ℕ) (s : Tag) (y : Enable) → (slice_get m.tags.items i ≡ Some s) ⊎ ((j : ℕ) × (i ≡ length m.tags.items + j) × (slice_get (t ∷ []) j ≡ Some s)) →
        (slice_get m.enables.items i ≡ Some y) ⊎ ((j : ℕ) × (i ≡ length m.enables.items + j) × (slice_get (x ∷ []) j ≡ Some y)) → IsMember (both_of c d) w (taken ++ place t ∷ []) class (m.enables.items ++ x ∷ []) i (place s) y
    each_of i s y (inl at_s) (inl at_y) = member_stays a b c d w taken rest (place t) class joined class m.enables.items (x ∷ []) i (place s) y (h.each i s y at_s at_y)
    each_of i s y (inl at_s) (inr (j, e, at_y)) = absurd (omega (arith, slice_get_within m.tags.items i s at_s, e, h.paired))
    each_of i s y (inr (j, e, at_s)) (inl at_y) = absurd (omega (arith, slice_get_within m.enables.items i y at_y, e, h.paired))
    each_of i s y (inr (j, e, at_s)) (inr (k, f, at_y)) =
        let zero_j = slice_get_within (t ∷ []) j s at_s in
        let first_j : j ≡ 0 = omega (arith, zero_j) in
        let zero_k = slice_get_within (x ∷ []) k y at_y in
        let first_k : k ≡ 0 = omega (arith, zero_k) in
        let tag : t ≡ s = one_at (t ∷ []) 0 t s refl (subst (λ (q : ℕ). slice_get (t ∷ []) q ≡ Some s) first_j at_s) in
        let enable : x ≡ y = one_at (x ∷ []) 0 x y refl (subst (λ (q : ℕ). slice_get (x ∷ []) q ≡ Some y) first_k at_y) in
        let place_is : length m.enables.items ≡ i = omega (arith, f, first_k) in
        subst (λ (q : ℕ). IsMember (both_of c d) w (taken ++ place t ∷ []) class (m.enables.items ++ x ∷ []) q (place s) y) place_is
        (subst (λ (q : Tag). IsMember (both_of c d) w (taken ++ place t ∷ []) class (m.enables.items ++ x ∷ []) (length m.enables.items) (place q) y) tag
        (subst (IsMember (both_of c d) w (taken ++ place t ∷ []) class (m.enables.items ++ x ∷ []) (length m.enables.items) (place t)) enable new_member))
