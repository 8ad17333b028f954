-- Tags of members and of what is told apart go on to name latches.
use Rattle.std.proofs.Common.{◌≡◌, ◌≢◌, ◌∙◌, ◌+◌, ◌≤◌, ℕ, zero, suc, List, [], ◌∷◌, ◌++◌, length, slice_get, slice_set, Option, Some, None, sym, subst, arith, inl, inr}
use Rattle.std.specs.Prelude.{◌⊎◌}
use Rattle.std.proofs.lemmas.Option.{slice_get_within}
use Rattle.circuit_theory.proofs.Lists.{only, of_at}
use Rattle.flat_net.specs.View.{NetView}
use Rattle.flat_net.proofs.CutNets.{slice_get-append_cases}
use Rattle.flat_net.proofs.Nets.{some_at}
use Rattle.sec_base.specs.declared.basics.Tag.{Tag}
use Rattle.event_nodes.specs.Nodes.{EventGraphView}
use Rattle.class_search.specs.event_order.Order.{IsTagOf}
use Rattle.class_search.specs.declared.class.Class.{Class}
use Rattle.class_search.specs.declared.told.Difference.{Difference}
use Rattle.class_search.specs.declared.told.Told.{Told}
use Rattle.class_search.specs.declared.class_separations.apart.Apart.{Apart}
use Rattle.class_search.specs.class_separations.Telling.{HasKept, IsApartOf, always_apart}
use Rattle.event_classes.specs.Named.{NamesLatches, AreNamed}
use Rattle.class_search.proofs.class_fits.Standing.{at_set}

none_at : {X : Type 0} (i : ℕ) (y : X) → slice_get [] i ≡ Some y → ⊥
none_at zero y q = cc
none_at (suc i) y q = cc

-- nothing has no tags
pub named_none : (a b : NetView) → AreNamed a b [] []
named_none a b = record { members = λ k i c t at_c at_t. absurd (none_at k c at_c); apart = λ i x at. absurd (none_at i x at) }

same_some : {s t : Tag} → Some s ≡ Some t → s ≡ t
same_some e = cc

same_low : {o : Option Tag} {s t : Tag} → o ≡ Some s → o ≡ Some t → s ≡ t
same_low e f = same_some (sym e ∙ f)

none_some : {t : Tag} → None ≡ Some t → ⊥
none_some e = cc

module _ (a b : NetView) (classes : List Class) (aparts : List Apart) (named : AreNamed a b classes aparts) (tag : Tag) (latch : IsTagOf a b tag) where
  -- the members of a class with the latch behind
  pushed : (o p : Class) → ((i : ℕ) (t : Tag) → slice_get o.tags.items i ≡ Some t → IsTagOf a b t) → p.tags.items ≡ o.tags.items ++ tag ∷ [] → (i : ℕ) (t : Tag) → slice_get p.tags.items i ≡ Some t → IsTagOf a b t
  pushed o p each tags i t at = go (slice_get-append_cases o.tags.items (tag ∷ []) i t (subst (λ (ts : List Tag). slice_get ts i ≡ Some t) tags at))
    where
      go : (slice_get o.tags.items i ≡ Some t) ⊎ ((j : ℕ) × (i ≡ length o.tags.items + j) × (slice_get (tag ∷ []) j ≡ Some t)) → IsTagOf a b t
      go (inl h) = each i t h
      go (inr (j, e, h)) = subst (IsTagOf a b) (only tag t (of_at (tag ∷ []) j t h)) latch

  -- the latch joins the class
  pub named_joins : (at : ℕ) (o p : Class) → slice_get classes at ≡ Some o → p.tags.items ≡ o.tags.items ++ tag ∷ [] → AreNamed a b (slice_set classes at p) aparts
  named_joins at o p at_o tags = record { members = λ k i c t at_c at_t. go k i c t (at_set classes at p k c at_c) at_t; apart = named.apart }
    where
      go : (k i : ℕ) (c : Class) (t : Tag) → ((k ≡ at) × (c ≡ p)) ⊎ ((k ≢ at) × (slice_get classes k ≡ Some c)) → slice_get c.tags.items i ≡ Some t → IsTagOf a b t
      go k i c t (inl e) at_t = pushed o p (λ j u h. named.members at j o u at_o h) tags i t (subst (λ (d : Class). slice_get d.tags.items i ≡ Some t) e.1 at_t)
      go k i c t (inr e) at_t = named.members k i c t e.1 at_t

  -- what tells it from a class
  apart_named : (w : EventGraphView) (c : Class) (t : Told) (x : Apart) → ((i : ℕ) (u : Tag) → slice_get c.tags.items i ≡ Some u → IsTagOf a b u) → IsApartOf w c tag t x → NamesLatches a b x
  apart_named w c t x each k = record { high = subst (IsTagOf a b) (sym k.high) latch; low = λ u n. subst (IsTagOf a b) (same_low k.low n) (each t.member k.tag k.tag_at) }

  -- it founds a class
  module _ (w : EventGraphView) (always : Difference) (told : List Told) (new : List Apart) (few : length told ≤ length classes) (keeps : HasKept w classes tag always told aparts new) where
    first_named : (x : Apart) → (i : ℕ) → (slice_get aparts i ≡ Some x) ⊎ ((j : ℕ) × (i ≡ length aparts + j) × (slice_get (always_apart tag always ∷ []) j ≡ Some x)) → NamesLatches a b x
    first_named x i (inl h) = named.apart i x h
    first_named x i (inr (j, e, h)) = subst (NamesLatches a b) (only (always_apart tag always) x (of_at (always_apart tag always ∷ []) j x h)) (record { high = latch; low = λ t n. absurd (none_some n) })

    kept_named : (i : ℕ) (x : Apart) → (slice_get (aparts ++ always_apart tag always ∷ []) i ≡ Some x) ⊎ ((j : ℕ) × (i ≡ length (aparts ++ always_apart tag always ∷ []) + j) × (slice_get keeps.more j ≡ Some x)) → NamesLatches a b x
    kept_named i x (inl h) = first_named x i (slice_get-append_cases aparts (always_apart tag always ∷ []) i x h)
    kept_named i x (inr (j, e, h)) =
        let inside = slice_get_within keeps.more j x h in
        let t = some_at told j (omega (arith, inside, keeps.long)) in
        let c = some_at classes j (omega (arith, inside, keeps.long, few)) in
        apart_named w c.0 t.0 x (λ l u at. named.members j l c.0 u c.1 at) (keeps.each j c.0 t.0 x c.1 t.1 h)

    pub named_founds : (o p : Class) → o.tags.items ≡ [] → p.tags.items ≡ o.tags.items ++ tag ∷ [] → AreNamed a b (classes ++ p ∷ []) new
    named_founds o p none tags = record {
      members = λ k i c t at_c at_t. go k i c t (slice_get-append_cases classes (p ∷ []) k c at_c) at_t;
      apart = λ i x at. kept_named i x (slice_get-append_cases (aparts ++ always_apart tag always ∷ []) keeps.more i x (subst (λ (xs : List Apart). slice_get xs i ≡ Some x) keeps.is at));
    }
      where
        go : (k i : ℕ) (c : Class) (t : Tag) → (slice_get classes k ≡ Some c) ⊎ ((j : ℕ) × (k ≡ length classes + j) × (slice_get (p ∷ []) j ≡ Some c)) → slice_get c.tags.items i ≡ Some t → IsTagOf a b t
        go k i c t (inl h) at_t = named.members k i c t h at_t
        go k i c t (inr (j, e, h)) at_t =
            pushed o p (λ l u n. absurd (none_at l u (subst (λ (ts : List Tag). slice_get ts l ≡ Some u) none n))) tags i t (subst (λ (d : Class). slice_get d.tags.items i ≡ Some t) (sym (only p c (of_at (p ∷ []) j c h))) at_t)
