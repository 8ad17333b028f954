-- The output of a name, by the place of its name.
use Rattle.std.proofs.Common.{◌≡◌, ℕ, zero, suc, ◌+◌, ◌<◌, Bool, true, false, cond, List, [], ◌∷◌, ◌++◌, map, length, get_or, take, refl, sym, ◌∙◌, ap, arith, add-one, Some, slice_get}
use Rattle.std.specs.List.{Contains}
use Rattle.std.proofs.lemmas.Option.{slice_get_within, slice_get-get_or, get_or_from_slice_get, none-some}
use Rattle.std.proofs.Math.Seq.{take-suc}
use Rattle.circuit_theory.specs.Names.{same_name}
use Rattle.circuit_theory.specs.Agree.{place_named}
use Rattle.circuit_theory.proofs.Inputs.{same_name-sound}
use Rattle.circuit_theory.proofs.Numbers.{same_name-refl}
use Rattle.flat_net.specs.declared.parts.Port.{Port}
use Rattle.flat_net.specs.View.{named}
use Rattle.flat_net.specs.Table.{AreDistinct}
use Rattle.sec_setup.proofs.ports.Shared.{some_is}

no_true_false : true ≡ false → ⊥
no_true_false e = cc

abbrev pub names_of : List Port → List (List ℕ)
names_of ports = map (λ (p : Port). p.name) ports

tail_distinct : {X : Type 0} (x : X) (xs : List X) → AreDistinct (x ∷ xs) → AreDistinct xs
tail_distinct x xs distinct i j y hi hj = let e : suc i ≡ suc j = distinct (suc i) (suc j) y hi hj in omega arith

-- where names are distinct, the output with the name is the one of the name
pub place_named-at : (ports : List Port) (name : List ℕ) (i : ℕ) (port : Port) → AreDistinct (names_of ports) → slice_get (names_of ports) i ≡ Some name → slice_get ports i ≡ Some port →
    place_named (map named ports) name ≡ Some port.signal.0
place_named-at [] name i port distinct h at = absurd (let l = slice_get_within [] i port at in omega arith)
place_named-at (p ∷ ports) name zero port distinct h at =
    ap (λ b. cond b (Some p.signal.0) (place_named (map named ports) name)) (ap (λ n. same_name n name) (some_is h) ∙ same_name-refl name) ∙ ap (λ (q : Port). Some q.signal.0) (some_is at)
place_named-at (p ∷ ports) name (suc i) port distinct h at = go (same_name p.name name) refl (place_named-at ports name i port (tail_distinct p.name (names_of ports) distinct) h at)
  where
    go : (b : Bool) → same_name p.name name ≡ b → place_named (map named ports) name ≡ Some port.signal.0 → place_named (map named (p ∷ ports)) name ≡ Some port.signal.0
    go true e later = absurd (let same : 0 ≡ suc i = distinct 0 (suc i) name (ap Some (same_name-sound p.name name e)) h in omega arith)
    go false e later = ap (λ b. cond b (Some p.signal.0) (place_named (map named ports) name)) e ∙ later

-- the output of a name is one of the outputs
pub place_named-from : (ports : List Port) (name : List ℕ) (q : ℕ) → place_named (map named ports) name ≡ Some q → (port : Port) × Contains ports port × (port.name ≡ name) × (port.signal.0 ≡ q)
place_named-from [] name q h = absurd (none-some q h)
place_named-from (p ∷ ports) name q h = go (same_name p.name name) refl (λ k. place_named-from ports name q k)
  where
    Found : List Port → Type 0
    Found ps = (port : Port) × Contains ps port × (port.name ≡ name) × (port.signal.0 ≡ q)

    go : (b : Bool) → same_name p.name name ≡ b → (place_named (map named ports) name ≡ Some q → Found ports) → Found (p ∷ ports)
    go true e later = (
      p,
      (0, omega arith, refl),
      same_name-sound p.name name e,
      some_is (sym (ap (λ b. cond b (Some p.signal.0) (place_named (map named ports) name)) e) ∙ h),
    )
    go false e later =
        let r = later (sym (ap (λ b. cond b (Some p.signal.0) (place_named (map named ports) name)) e) ∙ h) in
        (r.0, (suc r.1.0, omega (arith, r.1.1), r.1.2), r.2, r.3)

-- where a name stands, a port stands
pub port_within : (ports : List Port) (i : ℕ) (name : List ℕ) → slice_get (names_of ports) i ≡ Some name → i < length ports
port_within [] i name h = slice_get_within [] i name h
port_within (p ∷ ports) zero name h = omega arith
port_within (p ∷ ports) (suc i) name h = let ih = port_within ports i name h in omega arith

-- the element that a loop is at
pub item_at : {X : Type 0} (xs ys : List X) (i : ℕ) (x : X) → ys ≡ xs → i < length ys → x ≡ get_or ys i x → slice_get xs i ≡ Some x
item_at xs ys i x same h is = ap (λ zs. slice_get zs i) (sym same) ∙ (slice_get-get_or ys i x h ∙ ap Some (sym is))

-- the front with one element more
pub take_next : {X : Type 0} (xs : List X) (i : ℕ) (x : X) → slice_get xs i ≡ Some x → take (i + 1) xs ≡ take i xs ++ x ∷ []
take_next {X} xs i x at =
    ap (λ k. take k xs) (add-one i) ∙ (take-suc xs i x (slice_get_within xs i x at) ∙ ap (λ (y : X). take i xs ++ y ∷ []) (get_or_from_slice_get xs i x x at))
