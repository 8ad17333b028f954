-- What is kept, one class after the other.
use Rattle.std.proofs.Common.{◌≡◌, ◌∙◌, ◌+◌, ℕ, zero, suc, List, [], ◌∷◌, ◌++◌, length, slice_get, Some, refl, sym, ap, subst, arith, inl, inr, length-append, append-nil, append_assoc}
use Rattle.std.specs.Prelude.{◌⊎◌}
use Rattle.std.proofs.lemmas.Option.{slice_get_within}
use Rattle.class_search.proofs.flat_net.CutNets.{slice_get-append_cases}
use Rattle.class_search.proofs.flat_net.Places.{one_at}
use Rattle.sec_base.specs.declared.basics.Tag.{Tag}
use Rattle.event_nodes.specs.Nodes.{EventGraphView}
use Rattle.class_search.specs.declared.class.Class.{Class}
use Rattle.class_search.specs.declared.told.Told.{Told}
use Rattle.class_search.specs.declared.class_separations.apart.Apart.{Apart}
use Rattle.class_search.specs.class_separations.Telling.{HasKeptTo, IsApartOf}

none_at : {X : Type 0} (i : ℕ) (y : X) → slice_get [] i ≡ Some y → ⊥
none_at zero y q = cc
none_at (suc i) y q = cc

pub kept_none : (w : EventGraphView) (classes : List Class) (latch : Tag) (told : List Told) (old : List Apart) → HasKeptTo w classes latch told 0 old old
kept_none w classes latch told old = record { more = []; is = sym (append-nil old); long = refl; each = λ k c t x at_c at_t at_x. absurd (none_at k x at_x) }

pub kept_next : (w : EventGraphView) (classes : List Class) (latch : Tag) (told : List Told) (k : ℕ) (old made new : List Apart) (one : Apart) (c : Class) (t : Told) → HasKeptTo w classes latch told k old made → new ≡ made ++ one ∷ [] →
    slice_get classes k ≡ Some c → slice_get told k ≡ Some t → IsApartOf w c latch t one → HasKeptTo w classes latch told (k + 1) old new
kept_next w classes latch told k old made new one c t kept is at_c at_t here = record {
  more = kept.more ++ one ∷ [];
  is = is ∙ (ap (λ (xs : List Apart). xs ++ one ∷ []) kept.is ∙ append_assoc old kept.more (one ∷ []));
  long = let e = length-append kept.more (one ∷ []) in omega (arith, e, kept.long);
  each = λ j d u x at_d at_u at_x. go j d u x at_d at_u (slice_get-append_cases kept.more (one ∷ []) j x at_x);
}
  where
    go : (j : ℕ) (d : Class) (u : Told) (x : Apart) → slice_get classes j ≡ Some d → slice_get told j ≡ Some u → (slice_get kept.more j ≡ Some x) ⊎ ((i : ℕ) × (j ≡ length kept.more + i) × (slice_get (one ∷ []) i ≡ Some x)) → IsApartOf w d latch u x
    go j d u x at_d at_u (inl h) = kept.each j d u x at_d at_u h
    go j d u x at_d at_u (inr (i, e, h)) =
        let inside = slice_get_within (one ∷ []) i x h in
        let first : i ≡ 0 = omega (arith, inside) in
        let same : one ≡ x = one_at (one ∷ []) 0 one x refl (subst (λ (n : ℕ). slice_get (one ∷ []) n ≡ Some x) first h) in
        let number : j ≡ k = omega (arith, e, first, kept.long) in
        let class : c ≡ d = one_at classes k c d at_c (subst (λ (n : ℕ). slice_get classes n ≡ Some d) number at_d) in
        let reply : t ≡ u = one_at told k t u at_t (subst (λ (n : ℕ). slice_get told n ≡ Some u) number at_u) in
        subst (IsApartOf w d latch u) same (subst (λ (v : Told). IsApartOf w d latch v one) reply (subst (λ (q : Class). IsApartOf w q latch t one) class here))
