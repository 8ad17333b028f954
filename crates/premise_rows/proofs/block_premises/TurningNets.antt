-- The two nets keep what each net keeps.
use Rattle.std.proofs.Common.{◌≡◌, ℕ, zero, suc, ◌+◌, ◌<◌, List, [], ◌∷◌, slice_get, Some, refl, subst, arith, inl, inr}
use Rattle.std.specs.Prelude.{codes}
use Rattle.std.specs.List.{All}
use Rattle.std.proofs.lemmas.List.Elements.{All-from_recursion}
use Rattle.std.proofs.lemmas.Option.{none-some, same_Some, slice_get_within}
use Rattle.sec_base.specs.Cover.{IsPlace, IsCube, IsCoverSound}
use Rattle.base_tables.specs.Table.{AreDistinct}
use Rattle.base_tables.proofs.Appended.{distinct-push}
use Rattle.flat_net.specs.declared.parts.Gate.{Gate}
use Rattle.flat_net.specs.declared.parts.Port.{Port}
use Rattle.flat_net.specs.declared.signals.Signal.{Signal}
use Rattle.flat_net.specs.Sound.{Drives, IsInputOf, IsGateOf, IsLatchOf, IsSound}
use Rattle.pair_texts.specs.design_rows.Designs.{xor_cover}
use Rattle.premise_rows.specs.block_premises.EqualByBlocks.{one_turning, two_turning}

-- F holds of each element at its place, counted from k on
abbrev pub EachFrom : {X : Type 0} → (ℕ → X → Type 0) → ℕ → List X → Type 0
EachFrom F k [] = Unit {0}
EachFrom F k (x ∷ xs) = F k x × EachFrom F (suc k) xs

each_from : {X : Type 0} (F : ℕ → X → Type 0) (k : ℕ) (xs : List X) → EachFrom F k xs → (i j : ℕ) (x : X) → j ≡ k + i → slice_get xs i ≡ Some x → F j x
each_from F k [] all i j x e h = absurd (none-some x h)
each_from F k (y ∷ ys) all zero j x e h = subst (λ (m : ℕ). F m x) (let same : k ≡ j = omega (arith, e) in same) (subst (F k) (same_Some y x h) all.0)
each_from F k (y ∷ ys) all (suc i) j x e h = each_from F (suc k) ys all.1 i j x (omega (arith, e)) h

pub each : {X : Type 0} (F : ℕ → X → Type 0) (xs : List X) → EachFrom F 0 xs → (i : ℕ) (x : X) → slice_get xs i ≡ Some x → F i x
each F xs all i x h = each_from F 0 xs all i i x (omega arith) h

covered : All IsCoverSound (xor_cover ∷ [])
covered = All-from_recursion IsCoverSound (xor_cover ∷ []) (
  record {
    cubes = All-from_recursion (IsCube 2) (codes "10" ∷ codes "01" ∷ []) (
      (refl, All-from_recursion IsPlace (codes "10") (inr (inl refl), (inl refl, tt))),
      ((refl, All-from_recursion IsPlace (codes "01") (inl refl, (inr (inl refl), tt))), tt),
    );
    empty_is_on = λ e. refl;
  },
  tt,
)

pub one_name : (name : List ℕ) → AreDistinct (name ∷ [])
one_name name i j x h k =
    let a : i < 1 = slice_get_within (name ∷ []) i x h in
    let b : j < 1 = slice_get_within (name ∷ []) j x k in
    omega (arith, a, b)

one_distinct : AreDistinct one_turning.names
one_distinct = distinct-push (codes "a" ∷ codes "q" ∷ []) (codes "n") (distinct-push (codes "a" ∷ []) (codes "q") (one_name (codes "a")) refl) refl

two_distinct : AreDistinct two_turning.names
two_distinct =
    distinct-push (codes "a" ∷ codes "r" ∷ codes "s" ∷ codes "m" ∷ []) (codes "k")
    (distinct-push (codes "a" ∷ codes "r" ∷ codes "s" ∷ []) (codes "m") (distinct-push (codes "a" ∷ codes "r" ∷ []) (codes "s") (distinct-push (codes "a" ∷ []) (codes "r") (one_name (codes "a")) refl) refl) refl) refl

-- what gates read stands below them
pub reads : (out p q : ℕ) → p < out → q < out → All (λ (f : Signal). f.0 < out) (record { 0 = p } ∷ record { 0 = q } ∷ [])
reads out p q l r = All-from_recursion (λ (f : Signal). f.0 < out) (record { 0 = p } ∷ record { 0 = q } ∷ []) (l, (r, tt))

pub one_is_sound : IsSound one_turning
one_is_sound = record {
  inputs = each (IsInputOf one_turning) one_turning.inputs (record { owner = refl; named = refl }, tt);
  gates = each (IsGateOf one_turning) one_turning.gates (record { owner = refl; above = reads 2 0 1 (omega arith) (omega arith); cover = xor_cover; covered = refl; width = refl }, tt);
  ordered = λ i j g h less l r. absurd (let one : j < 1 = slice_get_within one_turning.gates j h r in omega (arith, less, one));
  latches = each (IsLatchOf one_turning) one_turning.latches (record { owner = refl; named = refl; within = omega arith }, tt);
  drivers = each (Drives one_turning) one_turning.drivers ((_, refl, refl), ((_, refl, refl), ((_, refl, refl), tt)));
  outputs = All-from_recursion (λ (port : Port). port.signal.0 < 3) one_turning.outputs (omega arith, tt);
  covers = covered;
  named = refl;
  distinct = one_distinct;
  few = omega arith;
  few_inputs = omega arith;
  few_gates = omega arith;
  few_latches = omega arith;
  few_covers = omega arith;
}

two_ordered : (i j : ℕ) (g h : Gate) → i < j → slice_get two_turning.gates i ≡ Some g → slice_get two_turning.gates j ≡ Some h → g.out.0 < h.out.0
two_ordered zero zero g h less l r = absurd (omega (arith, less))
two_ordered zero (suc zero) g h less l r =
    let first : (3 ≡ g.out.0) = each (λ i (k : Gate). (i ≡ 0) → 3 ≡ k.out.0) two_turning.gates ((λ e. refl), ((λ e. absurd (omega (arith, e))), tt)) 0 g l refl in
    let second : (4 ≡ h.out.0) = each (λ i (k : Gate). (i ≡ 1) → 4 ≡ k.out.0) two_turning.gates ((λ e. absurd (omega (arith, e))), ((λ e. refl), tt)) 1 h r refl in
    omega (arith, first, second)
two_ordered i (suc (suc j)) g h less l r = absurd (let two : suc (suc j) < 2 = slice_get_within two_turning.gates (suc (suc j)) h r in omega (arith, two))
two_ordered (suc i) zero g h less l r = absurd (omega (arith, less))
two_ordered (suc i) (suc zero) g h less l r = absurd (omega (arith, less))

pub two_is_sound : IsSound two_turning
two_is_sound = record {
  inputs = each (IsInputOf two_turning) two_turning.inputs (record { owner = refl; named = refl }, tt);
  gates = each (IsGateOf two_turning) two_turning.gates (
    record { owner = refl; above = reads 3 0 2 (omega arith) (omega arith); cover = xor_cover; covered = refl; width = refl },
    (record { owner = refl; above = reads 4 0 1 (omega arith) (omega arith); cover = xor_cover; covered = refl; width = refl }, tt),
  );
  ordered = two_ordered;
  latches = each (IsLatchOf two_turning) two_turning.latches (record { owner = refl; named = refl; within = omega arith }, (record { owner = refl; named = refl; within = omega arith }, tt));
  drivers = each (Drives two_turning) two_turning.drivers ((_, refl, refl), ((_, refl, refl), ((_, refl, refl), ((_, refl, refl), ((_, refl, refl), tt)))));
  outputs = All-from_recursion (λ (port : Port). port.signal.0 < 5) two_turning.outputs (omega arith, tt);
  covers = covered;
  named = refl;
  distinct = two_distinct;
  few = omega arith;
  few_inputs = omega arith;
  few_gates = omega arith;
  few_latches = omega arith;
  few_covers = omega arith;
}
