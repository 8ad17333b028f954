-- The three nets keep what each net keeps, and nothing drives but inputs.
use Rattle.std.proofs.Common.{◌≡◌, ℕ, zero, suc, ◌+◌, ◌<◌, List, [], ◌∷◌, slice_get, Some, refl, subst, arith}
use Rattle.std.specs.Prelude.{codes}
use Rattle.std.specs.List.{Contains}
use Rattle.std.proofs.lemmas.List.Elements.{All-nil, All-cons}
use Rattle.std.proofs.lemmas.Option.{none-some, same_Some, slice_get_within}
use Rattle.sec_base.specs.Cover.{IsCoverSound}
use Rattle.base_tables.specs.Table.{AreDistinct}
use Rattle.base_tables.proofs.Appended.{distinct-push}
use Rattle.flat_net.specs.declared.parts.Port.{Port}
use Rattle.flat_net.specs.Sound.{Drives, IsInputOf, IsSound}
use Rattle.event_setup.specs.event_meaning.event_names.event_fits.Circuits.{AreNets}
use Rattle.premise_rows.specs.event_outcome_samples.Different.{shows_a, shows_b, b_is_one}

-- F holds of each element at its place, counted from k on
abbrev EachFrom : {X : Type 0} → (ℕ → X → Type 0) → ℕ → List X → Type 0
EachFrom F k [] = Unit {0}
EachFrom F k (x ∷ xs) = F k x × EachFrom F (suc k) xs

each_from : {X : Type 0} (F : ℕ → X → Type 0) (k : ℕ) (xs : List X) → EachFrom F k xs → (i j : ℕ) (x : X) → j ≡ k + i → slice_get xs i ≡ Some x → F j x
each_from F k [] all i j x e h = absurd (none-some x h)
each_from F k (y ∷ ys) all zero j x e h = subst (λ (m : ℕ). F m x) (let same : k ≡ j = omega (arith, e) in same) (subst (F k) (same_Some y x h) all.0)
each_from F k (y ∷ ys) all (suc i) j x e h = each_from F (suc k) ys all.1 i j x (omega (arith, e)) h

each : {X : Type 0} (F : ℕ → X → Type 0) (xs : List X) → EachFrom F 0 xs → (i : ℕ) (x : X) → slice_get xs i ≡ Some x → F i x
each F xs all i x h = each_from F 0 xs all i i x (omega arith) h

one_name : (name : List ℕ) → AreDistinct (name ∷ [])
one_name name i j x h k =
    let a : i < 1 = slice_get_within (name ∷ []) i x h in
    let b : j < 1 = slice_get_within (name ∷ []) j x k in
    omega (arith, a, b)

pub both_names : AreDistinct (codes "a" ∷ codes "b" ∷ [])
both_names = distinct-push (codes "a" ∷ []) (codes "b") (one_name (codes "a")) refl

pub left_sound : IsSound shows_a
left_sound = record {
  inputs = each (IsInputOf shows_a) shows_a.inputs (record { owner = refl; named = refl }, (record { owner = refl; named = refl }, tt));
  gates = λ j g h. absurd (none-some g h);
  ordered = λ i j g h less l r. absurd (none-some g l);
  latches = λ j l h. absurd (none-some l h);
  drivers = each (Drives shows_a) shows_a.drivers ((_, refl, refl), ((_, refl, refl), tt));
  outputs = All-cons (λ (port : Port). port.signal.0 < 2) (record { name = codes "y"; signal = record { 0 = 0 } }) [] (omega arith) (All-nil (λ (port : Port). port.signal.0 < 2));
  covers = All-nil IsCoverSound;
  named = refl;
  distinct = both_names;
  few = omega arith;
  few_inputs = omega arith;
  few_gates = omega arith;
  few_latches = omega arith;
  few_covers = omega arith;
}

pub right_sound : IsSound shows_b
right_sound = record {
  inputs = each (IsInputOf shows_b) shows_b.inputs (record { owner = refl; named = refl }, (record { owner = refl; named = refl }, tt));
  gates = λ j g h. absurd (none-some g h);
  ordered = λ i j g h less l r. absurd (none-some g l);
  latches = λ j l h. absurd (none-some l h);
  drivers = each (Drives shows_b) shows_b.drivers ((_, refl, refl), ((_, refl, refl), tt));
  outputs = All-cons (λ (port : Port). port.signal.0 < 2) (record { name = codes "y"; signal = record { 0 = 1 } }) [] (omega arith) (All-nil (λ (port : Port). port.signal.0 < 2));
  covers = All-nil IsCoverSound;
  named = refl;
  distinct = both_names;
  few = omega arith;
  few_inputs = omega arith;
  few_gates = omega arith;
  few_latches = omega arith;
  few_covers = omega arith;
}

pub assumed_sound : IsSound b_is_one
assumed_sound = record {
  inputs = each (IsInputOf b_is_one) b_is_one.inputs (record { owner = refl; named = refl }, tt);
  gates = λ j g h. absurd (none-some g h);
  ordered = λ i j g h less l r. absurd (none-some g l);
  latches = λ j l h. absurd (none-some l h);
  drivers = each (Drives b_is_one) b_is_one.drivers ((_, refl, refl), tt);
  outputs = All-cons (λ (port : Port). port.signal.0 < 1) (record { name = codes "ok"; signal = record { 0 = 0 } }) [] (omega arith) (All-nil (λ (port : Port). port.signal.0 < 1));
  covers = All-nil IsCoverSound;
  named = refl;
  distinct = one_name (codes "b");
  few = omega arith;
  few_inputs = omega arith;
  few_gates = omega arith;
  few_latches = omega arith;
  few_covers = omega arith;
}

pub nets : AreNets shows_a shows_b
nets = record { left = left_sound; right = right_sound; left_distinct = one_name (codes "y"); right_distinct = one_name (codes "y") }

-- nothing is an element of no list
pub nothing : {X : Type 0} (x : X) → Contains [] x → ⊥
nothing x h = omega (arith, h.1)
