-- One place more is counted.
use Rattle.std.proofs.Common.{◌≡◌, ◌∙◌, ◌+◌, ◌-◌, ◌^◌, ◌<◌, ◌≤◌, ℕ, List, [], ◌∷◌, ◌++◌, length, Result, Ok, Err, ap, arith, inl, inr}
use Rattle.std.specs.Prelude.{◌⊎◌}
use Rattle.std.specs.List.{Contains}
use Rattle.std.proofs.lemmas.List.Sums.{sum_by_push}
use Rattle.flat_net.specs.Sound.{IsSound}
use Rattle.flat_net.specs.View.{NetView}
use Rattle.flat_net.proofs.Growth.{length-push}
use Rattle.event_nodes.specs.declared.error.EventUnfoldError.{EventUnfoldError}
use Rattle.event_nodes.specs.declared.error.EventUnfoldError.TheVariants as unfold_error
use Rattle.event_nodes.specs.Visited.{CounterView, IsWeighed, places_weight}
use Rattle.flat_net.specs.Weights.{weight_at}
use Rattle.flat_net.proofs.Drivers.{weight_positive}
use Rattle.aig.proofs.Interned.{there_or_not}

-- it was there, or it goes last
pub counted_cases : (old new : List (ℕ × ℕ)) (p : ℕ × ℕ) → (Contains old p → new ≡ old) → ((Contains old p → ⊥) → new ≡ old ++ p ∷ []) → ((new ≡ old) × Contains old p) ⊎ (new ≡ old ++ p ∷ [])
counted_cases old new p known added = go (there_or_not old p)
  where
    go : Contains old p ⊎ (Contains old p → ⊥) → ((new ≡ old) × Contains old p) ⊎ (new ≡ old ++ p ∷ [])
    go (inl h) = inl (known h, h)
    go (inr n) = inr (added n)

-- where the table is no longer, it was there
pub counted_old : (old new : List (ℕ × ℕ)) (p : ℕ × ℕ) → ((new ≡ old) × Contains old p) ⊎ (new ≡ old ++ p ∷ []) → length new ≡ length old → (new ≡ old) × Contains old p
counted_old old new p (inl h) same = h
counted_old old new p (inr e) same = absurd (omega (arith, ap length e, length-push old p, same))

pub counted_new : (old new : List (ℕ × ℕ)) (p : ℕ × ℕ) → ((new ≡ old) × Contains old p) ⊎ (new ≡ old ++ p ∷ []) → (length new ≡ length old → ⊥) → new ≡ old ++ p ∷ []
counted_new old new p (inl h) other = absurd (other (ap length h.0))
counted_new old new p (inr e) other = e

module _ (n : NetView) (sound : IsSound n) (c : CounterView) (weighed : IsWeighed n c) (new : List (ℕ × ℕ)) (p : ℕ × ℕ) (pushed : new ≡ c.places ++ p ∷ []) where
  heavier : places_weight n new ≡ c.weight + weight_at n p.1
  heavier = ap (places_weight n) pushed ∙ (sum_by_push (λ (q : ℕ × ℕ). weight_at n q.1) c.places p ∙ ap (λ (k : ℕ). k + weight_at n p.1) weighed.sum)

  pub weighed_more : (more : ℕ) → more ≡ weight_at n p.1 → more ≤ 2000000 - c.weight → IsWeighed n (record { places = new; weight = c.weight + more })
  weighed_more more is room = record {
    sum = heavier ∙ ap (λ (k : ℕ). c.weight + k) (symmetric is);
    small = omega (arith, room, weighed.small);
    few = let one = weight_positive n sound p.1 in omega (arith, ap length pushed, length-push c.places p, weighed.few, one, is);
  }
    where
      symmetric : {a b : ℕ} → a ≡ b → b ≡ a
      symmetric e = cc

  pub passed_weight : 2000000 - c.weight < weight_at n p.1 → 2000000 < places_weight n new
  passed_weight h = omega (arith, h, heavier, weighed.small)

-- there is room for one place more
pub room_for_place : (n : NetView) (c : CounterView) → IsWeighed n c → length c.places + 1 < 2 ^ 32
room_for_place n c w = omega (arith, w.few, w.small)

pub weight_fits : (w more : ℕ) → w ≤ 2000000 → more ≤ 2000000 - w → w + more < 2 ^ 32
weight_fits w more small room = omega (arith, small, room)

-- a value is no refusal
pub ok_apart : {X P : Type 0} {v : X} (e : EventUnfoldError) → ◌≡◌ {A = Result X EventUnfoldError} (Ok v) (Err e) → P
ok_apart e q = cc

pub large_apart : {X : Type 0} → ◌≡◌ {A = Result X EventUnfoldError} (Err unfold_error.TooLarge) (Err unfold_error.TooManyEvents) → ⊥
large_apart q = cc
