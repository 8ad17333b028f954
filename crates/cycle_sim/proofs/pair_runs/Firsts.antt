-- The first cycle in which a pair is settled in both circuits, with one cycle more.
use Rattle.std.proofs.Common.{◌≡◌, ℕ, ◌<◌, Bool, true, false, List, [], ◌∷◌, ◌++◌, length, slice_get, Option, Some, None, inl, inr, ◌⊎◌, refl, sym, ◌∙◌, ap, arith}
use Rattle.std.proofs.lemmas.Option.{slice_get_within, same_Some, none-some}
use Rattle.cycle_sim.specs.declared.pair_runs.shown.Shown.{Shown}
use Rattle.cycle_sim.specs.pair_runs.Listing.{is_settled, first_with, IsSettledIn, IsFirstIn}
use Rattle.cycle_sim.proofs.Lists.{append_left, append_last}
use Rattle.cycle_sim.proofs.pair_runs.Places.{pushed_at}

true_or_false : (b : Bool) → b ≡ true → b ≡ false → ⊥
true_or_false true p q = cc
true_or_false false p q = cc

-- of no cycle a pair is the first
pub none_first : (place : ℕ) → IsFirstIn [] place None
none_first place t h = none-some h.shown h.cycle_at

module _ (cycles : List (List Shown)) (shown : List Shown) (place : ℕ) (s : Shown) (at : slice_get shown place ≡ Some s) where
  abbrev more : List (List Shown)
  more = cycles ++ shown ∷ []

  -- what is so in one cycle more is so before, or in that cycle
  before_or_last : (t : ℕ) → IsSettledIn more place t → IsSettledIn cycles place t ⊎ ((t ≡ length cycles) × (is_settled s ≡ true))
  before_or_last t h = go (pushed_at cycles shown t h.shown h.cycle_at)
    where
      go : (slice_get cycles t ≡ Some h.shown) ⊎ ((t ≡ length cycles) × (shown ≡ h.shown)) → IsSettledIn cycles place t ⊎ ((t ≡ length cycles) × (is_settled s ≡ true))
      go (inl here) = inl (record { shown = h.shown; both = h.both; cycle_at = here; pair_at = h.pair_at; settled = h.settled })
      go (inr last) =
          let same : s ≡ h.both = same_Some s h.both (sym at ∙ (ap (λ (ss : List Shown). slice_get ss place) last.1 ∙ h.pair_at)) in
          inr (last.0, ap is_settled same ∙ h.settled)

  pub first_more : (first : Option ℕ) → IsFirstIn cycles place first → IsFirstIn more place (first_with first (length cycles) s)
  first_more (Some first) is = (
    record { shown = is.0.shown; both = is.0.both; cycle_at = append_left cycles (shown ∷ []) first is.0.shown is.0.cycle_at; pair_at = is.0.pair_at; settled = is.0.settled },
    λ t h there. go t h (before_or_last t there),
  )
    where
      go : (t : ℕ) → t < first → IsSettledIn cycles place t ⊎ ((t ≡ length cycles) × (is_settled s ≡ true)) → ⊥
      go t h (inl earlier) = is.1 t h earlier
      go t h (inr last) = let w = slice_get_within cycles first is.0.shown is.0.cycle_at in let e = last.0 in omega (arith, w, e, h)
  first_more None is = by (is_settled s) refl
    where
      later : is_settled s ≡ false → (t : ℕ) → IsSettledIn cycles place t ⊎ ((t ≡ length cycles) × (is_settled s ≡ true)) → ⊥
      later e t (inl earlier) = is t earlier
      later e t (inr last) = true_or_false (is_settled s) last.1 e

      sooner : (t : ℕ) → t < length cycles → IsSettledIn cycles place t ⊎ ((t ≡ length cycles) × (is_settled s ≡ true)) → ⊥
      sooner t h (inl earlier) = is t earlier
      sooner t h (inr last) = let e = last.0 in omega (arith, e, h)

      by : (b : Bool) → is_settled s ≡ b → IsFirstIn more place (first_with None (length cycles) s)
      by true e =
          let here : IsFirstIn more place (Some (length cycles)) = (record { shown = shown; both = s; cycle_at = append_last cycles shown; pair_at = at; settled = e }, λ t h there. sooner t h (before_or_last t there)) in
          rw e here
      by false e = let none : IsFirstIn more place None = λ t there. later e t (before_or_last t there) in rw e none
