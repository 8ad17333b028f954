-- Whether two places are one, computed.
use Rattle.std.proofs.Common.{◌≡◌, ℕ, Bool, true, false, List, [], ◌∷◌, refl, ap₂, eqb-true, eq-eqb}
use Rattle.std.specs.Prelude.{◌==◌, ◌&&◌}
use Rattle.std.proofs.lemmas.Bool.{and_parts}
use Rattle.circuit_theory.specs.Names.{same_name}
use Rattle.circuit_theory.proofs.Inputs.{same_name-sound}
use Rattle.circuit_theory.proofs.Numbers.{same_name-refl}
use Rattle.blif_read.specs.Design.{Inside, Place}

abbrev same_steps : List Inside → List Inside → Bool
same_steps [] [] = true
same_steps [] (t ∷ q) = false
same_steps (s ∷ p) [] = false
same_steps (s ∷ p) (t ∷ q) = same_name s.model t.model && ((s.instance == t.instance) && same_steps p q)

-- two places are one
abbrev pub is_one_place : Place → Place → Bool
is_one_place p q = same_steps p.path q.path && same_name p.name q.name

same_steps-is : (p q : List Inside) → same_steps p q ≡ true → p ≡ q
same_steps-is [] [] h = refl
same_steps-is [] (t ∷ q) h = cc
same_steps-is (s ∷ p) [] h = cc
same_steps-is (s ∷ p) (t ∷ q) h =
    let first = and_parts (same_name s.model t.model) ((s.instance == t.instance) && same_steps p q) h in
    let second = and_parts (s.instance == t.instance) (same_steps p q) first.1 in
    let step : s ≡ t = ap₂ (λ (m : List ℕ) (k : ℕ). record { model = m; instance = k }) (same_name-sound s.model t.model first.0) (eqb-true s.instance t.instance second.0) in
    ap₂ (λ (z : Inside) (zs : List Inside). z ∷ zs) step (same_steps-is p q second.1)

same_steps-itself : (p : List Inside) → same_steps p p ≡ true
same_steps-itself [] = refl
same_steps-itself (s ∷ p) = ap₂ (λ x y. x && y) (same_name-refl s.model) (ap₂ (λ x y. x && y) (eq-eqb s.instance s.instance refl) (same_steps-itself p))

pub is_one_place-sound : (p q : Place) → is_one_place p q ≡ true → p ≡ q
is_one_place-sound p q h =
    let parts = and_parts (same_steps p.path q.path) (same_name p.name q.name) h in
    ap₂ (λ (path : List Inside) (name : List ℕ). record { path = path; name = name }) (same_steps-is p.path q.path parts.0) (same_name-sound p.name q.name parts.1)

pub is_one_place-itself : (p : Place) → is_one_place p p ≡ true
is_one_place-itself p = ap₂ (λ x y. x && y) (same_steps-itself p.path) (same_name-refl p.name)
