-- Inputs and latches of one of two nets are those of both nets side by side.
use Rattle.std.proofs.Common.{◌≡◌, ◌∙◌, ◌+◌, ◌<◌, ℕ, List, ◌++◌, length, map, slice_get, Some, sym, ap, subst, arith}
use Rattle.std.proofs.Math.ListN.{get_or-append, length-append}
use Rattle.std.proofs.lemmas.List.{get_or-append-add}
use Rattle.std.proofs.lemmas.Option.{slice_get_within, get_or_from_slice_get, slice_get-get_or}
use Rattle.circuit_theory.specs.Circuit.{IsLatch}
use Rattle.circuit_theory.specs.Tree.{IsInputNumber}
use Rattle.circuit_theory.specs.Joined.{Either, Left, Right, moved_name, joined}
use Rattle.circuit_theory.proofs.Lists.{length-map}
use Rattle.circuit_theory.proofs.Numbers.{slice_get-map, at_beside}
use Rattle.circuit_laws.proofs.Joined.{left_equation}
use Rattle.circuit_laws.proofs.JoinedParts.{right_equation}
use Rattle.flat_net.specs.declared.parts.Driver.TheVariants as driver
use Rattle.flat_net.specs.View.{NetView, circuit_of, named}
use Rattle.flat_net.specs.Sound.{IsSound}
use Rattle.flat_net.proofs.Drivers.{driven_latch, latch_equation_stands}

at_left : {X : Type 0} (xs ys : List X) (i : ℕ) (x : X) → slice_get xs i ≡ Some x → slice_get (xs ++ ys) i ≡ Some x
at_left xs ys i x at =
    let inside = slice_get_within xs i x at in
    let more : i < length (xs ++ ys) = omega (arith, inside, length-append xs ys) in
    slice_get-get_or (xs ++ ys) i x more ∙ ap Some (get_or-append xs ys x i inside ∙ get_or_from_slice_get xs i x x at)

at_right : {X : Type 0} (xs ys : List X) (n i : ℕ) (x : X) → length xs ≡ n → slice_get ys i ≡ Some x → slice_get (xs ++ ys) (n + i) ≡ Some x
at_right xs ys n i x long at =
    let inside = slice_get_within ys i x at in
    let more : length xs + i < length (xs ++ ys) = omega (arith, inside, length-append xs ys) in
    ap (λ k. slice_get (xs ++ ys) (k + i)) (sym long) ∙ (slice_get-get_or (xs ++ ys) (length xs + i) x more ∙ ap Some (get_or-append-add xs ys i x ∙ get_or_from_slice_get ys i x x at))

module _ (a b : NetView) (left right : List ℕ) (left_long : length left ≡ length a.inputs) where
  -- an input of A with its number
  pub left_number : (sound : IsSound a) (s i k : ℕ) → slice_get a.drivers s ≡ Some (driver.Input i) → slice_get left i ≡ Some k → IsInputNumber (joined (circuit_of a) (circuit_of b)) (left ++ right) (Left s) k
  left_number sound s i k drives number =
      let p = sound.drivers s (driver.Input i) drives in
      let at : slice_get (map (moved_name {Q = Either ℕ ℕ} Left) (map named a.inputs)) i ≡ Some (moved_name Left (named p.0)) = slice_get-map (moved_name Left) (map named a.inputs) i (named p.0) (slice_get-map named a.inputs i p.0 p.1) in
      subst (λ (q : ℕ). IsInputNumber (joined (circuit_of a) (circuit_of b)) (left ++ right) (Left q) k) p.2
      (at_beside (joined (circuit_of a) (circuit_of b)).inputs (left ++ right) i k (moved_name Left (named p.0))
      (at_left (map (moved_name Left) (map named a.inputs)) (map (moved_name Right) (map named b.inputs)) i (moved_name Left (named p.0)) at) (at_left left right i k number))

  -- an input of B with its number
  pub right_number : (sound : IsSound b) (s i k : ℕ) → slice_get b.drivers s ≡ Some (driver.Input i) → slice_get right i ≡ Some k → IsInputNumber (joined (circuit_of a) (circuit_of b)) (left ++ right) (Right s) k
  right_number sound s i k drives number =
      let p = sound.drivers s (driver.Input i) drives in
      let at : slice_get (map (moved_name {Q = Either ℕ ℕ} Right) (map named b.inputs)) i ≡ Some (moved_name Right (named p.0)) = slice_get-map (moved_name Right) (map named b.inputs) i (named p.0) (slice_get-map named b.inputs i p.0 p.1) in
      let long : length (map (moved_name {Q = Either ℕ ℕ} Left) (map named a.inputs)) ≡ length a.inputs = length-map (moved_name Left) (map named a.inputs) ∙ length-map named a.inputs in
      subst (λ (q : ℕ). IsInputNumber (joined (circuit_of a) (circuit_of b)) (left ++ right) (Right q) k) p.2
      (at_beside (joined (circuit_of a) (circuit_of b)).inputs (left ++ right) (length a.inputs + i) k (moved_name Right (named p.0))
      (at_right (map (moved_name Left) (map named a.inputs)) (map (moved_name Right) (map named b.inputs)) (length a.inputs) i (moved_name Right (named p.0)) long at)
      (at_right left right (length a.inputs) i k left_long number))

-- a latch of A, and of B
pub left_latch : (a b : NetView) (sound : IsSound a) (s j : ℕ) → slice_get a.drivers s ≡ Some (driver.Latch j) → (name : List ℕ) × (next : Either ℕ ℕ) × IsLatch (joined (circuit_of a) (circuit_of b)) name (Left s) next
left_latch a b sound s j drives =
    let l = driven_latch a sound s j drives in
    (l.0.name, Left l.0.next.0, left_equation (circuit_of a) (circuit_of b) _ (latch_equation_stands a sound s j drives l.0 l.1))

pub right_latch : (a b : NetView) (sound : IsSound b) (s j : ℕ) → slice_get b.drivers s ≡ Some (driver.Latch j) → (name : List ℕ) × (next : Either ℕ ℕ) × IsLatch (joined (circuit_of a) (circuit_of b)) name (Right s) next
right_latch a b sound s j drives =
    let l = driven_latch b sound s j drives in
    (l.0.name, Right l.0.next.0, right_equation (circuit_of a) (circuit_of b) _ (latch_equation_stands b sound s j drives l.0 l.1))
