-- What holds of the elements of a net's lists, by their places.
use Rattle.std.proofs.Common.{◌≡◌, ◌<◌, ◌∙◌, ℕ, List, length, slice_get, unwrap_or, Some, sym, ap, subst, arith, inl, inr}
use Rattle.std.specs.Prelude.{◌⊎◌}
use Rattle.std.specs.List.{All}
use Rattle.std.proofs.lemmas.Bool.{cases_order}
use Rattle.std.proofs.lemmas.List.Elements.{All-get_or, All-contains}
use Rattle.std.proofs.lemmas.Option.{slice_get_within, get_or_from_slice_get, same_Some}
use Rattle.circuit_theory.specs.Cover.{Cover}
use Rattle.flat_net.specs.declared.signals.Signal.{Signal}
use Rattle.flat_net.specs.declared.parts.Gate.{Gate}
use Rattle.flat_net.specs.declared.parts.Driver.TheVariants as driver
use Rattle.flat_net.specs.View.{NetView, cover_of, no_cover}
use Rattle.flat_net.specs.Sound.{IsSound, IsGateOf, IsInOrder}

-- what holds of each element holds of the one at a place
pub All-at : {X : Type 0} (P : X → Type 0) (xs : List X) (i : ℕ) (x : X) → slice_get xs i ≡ Some x → All P xs → P x
All-at P xs i x here all = subst P (get_or_from_slice_get xs i x x here) (All-get_or P xs i x (slice_get_within xs i x here) all)

-- one place has one element
pub one_at : {X : Type 0} (xs : List X) (i : ℕ) (x y : X) → slice_get xs i ≡ Some x → slice_get xs i ≡ Some y → x ≡ y
one_at xs i x y first second = same_Some x y (sym first ∙ second)

-- a gate's cover is the one with its number
pub cover_of-is : (covers : List Cover) (g : Gate) (cover : Cover) → slice_get covers g.cover ≡ Some cover → cover_of covers g ≡ cover
cover_of-is covers g cover here = ap (λ o. unwrap_or o no_cover) here

module _ (n : NetView) (sound : IsSound n) (j : ℕ) (g : Gate) (at : slice_get n.gates j ≡ Some g) where
  pub gate_of : IsGateOf n j g
  gate_of = sound.gates j g at

  -- the gate's cover is in range
  pub cover_within : g.cover < length n.covers
  cover_within = slice_get_within n.covers g.cover gate_of.cover gate_of.covered

  -- and has a column for each fan-in
  pub cover_fits : (cover : Cover) → slice_get n.covers g.cover ≡ Some cover → cover.width ≡ length g.fanins
  cover_fits cover here = ap (λ c. c.width) (one_at n.covers g.cover cover gate_of.cover here gate_of.covered) ∙ gate_of.width

  -- the gate's signal and its fan-ins are in range
  pub out_within : g.out.0 < length n.drivers
  out_within = slice_get_within n.drivers g.out.0 _ gate_of.owner

  pub fanins_within : All (λ f. f.0 < length n.drivers) g.fanins
  fanins_within k d below = omega (arith, gate_of.above k d below, out_within)

-- each gate stands behind the gates that drive its fan-ins
pub sound_in_order : (n : NetView) → IsSound n → IsInOrder n
sound_in_order n sound j k g f at reads drives = pick (cases_order k j)
  where
    below : f.0 < g.out.0
    below = All-contains (λ (s : Signal). s.0 < g.out.0) g.fanins f (sound.gates j g at).above reads

    driven : (h : Gate) × (slice_get n.gates k ≡ Some h) × (h.out.0 ≡ f.0)
    driven = sound.drivers f.0 (driver.Gate k) drives

    pick : (k ≡ j) ⊎ ((k < j) ⊎ (j < k)) → k < j
    pick (inl same) =
        let one : driven.0 ≡ g = one_at n.gates j driven.0 g (ap (slice_get n.gates) (sym same) ∙ driven.1) at in
        absurd (omega (arith, below, driven.2, ap (λ (h : Gate). h.out.0) one))
    pick (inr (inl before)) = before
    pick (inr (inr behind)) = absurd (omega (arith, below, driven.2, sound.ordered j k g driven.0 behind at driven.1))
