-- Inputs and their numbers; tests that tell equal numbers and names.
use Rattle.std.proofs.Common.{◌≡◌, ℕ, Bool, true, false, List, [], ◌∷◌, refl, subst, arith, inl, inr}
use Rattle.std.specs.Prelude.{◌&&◌, ◌==◌}
use Rattle.std.specs.List.{Contains}
use Rattle.circuit_theory.specs.Names.{same_name}
use Rattle.circuit_theory.specs.Circuit.{Named}
use Rattle.circuit_theory.specs.Tree.{StandsBeside}
use Rattle.circuit_theory.proofs.Lists.{Contains-head, Contains-tail}

pub test_same : (j i : ℕ) → (j == i) ≡ true → j ≡ i
test_same j i h = grind arith

pub test_refl : (i : ℕ) → (i == i) ≡ true
test_refl i = grind arith

both : (x y : Bool) → (x && y) ≡ true → (x ≡ true) × (y ≡ true)
both true y h = (refl, h)
both false y h = cc

pub same_name-sound : (xs ys : List ℕ) → same_name xs ys ≡ true → xs ≡ ys
same_name-sound [] [] h = refl
same_name-sound [] (y ∷ ys) h = cc
same_name-sound (x ∷ xs) [] h = cc
same_name-sound (x ∷ xs) (y ∷ ys) h =
    let parts = both (x == y) (same_name xs ys) h in
    let head = test_same x y parts.0 in
    let tail = same_name-sound xs ys parts.1 in cc

-- a place with a number is an input
pub beside_is_input : {P : Type 0} (inputs : List (Named P)) (order : List ℕ) (p : P) (i : ℕ) → StandsBeside inputs order p i → (name : List ℕ) × Contains inputs (record { name = name; place = p })
beside_is_input [] order p i h = absurd h
beside_is_input (n ∷ inputs) [] p i h = absurd h
beside_is_input {P} (n ∷ inputs) (j ∷ order) p i (inl h) = (n.name, subst (λ (q : P). Contains (n ∷ inputs) (record { name = n.name; place = q })) h.0 (Contains-head n inputs))
beside_is_input (n ∷ inputs) (j ∷ order) p i (inr h) = let r = beside_is_input inputs order p i h in (r.0, Contains-tail n _ inputs r.1)
