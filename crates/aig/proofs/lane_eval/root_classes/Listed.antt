-- The variables of a graph: each that has a node, and none twice.
use Rattle.std.proofs.Common.{◌≡◌, ◌≢◌, ℕ, zero, suc, ◌+◌, ◌<◌, List, [], ◌∷◌, ◌++◌, length, take, get_or, slice_get, Some, refl, sym, ◌∙◌, ap, subst, arith, inl, inr}
use Rattle.std.specs.Prelude.{◌⊎◌, Contains}
use Rattle.std.specs.List.{AllPairs}
use Rattle.std.proofs.lemmas.Option.{none-some, same_Some, slice_get-get_or}
use Rattle.std.proofs.lemmas.List.{take_more}
use Rattle.circuit_theory.proofs.Lists.{Contains-head, Contains-tail, Contains-cases, of_at}
use Rattle.aig.specs.declared.node.Node.{Node}
use Rattle.aig.specs.declared.node.Node.TheVariants.{Constant, Input, And}
use Rattle.aig.specs.lane_eval.root_classes.Inputs.{inputs_of}

pub inputs_of-append : (g h : List Node) → inputs_of (g ++ h) ≡ inputs_of g ++ inputs_of h
inputs_of-append [] h = refl
inputs_of-append (Constant ∷ g) h = inputs_of-append g h
inputs_of-append (Input v ∷ g) h = ap (λ (vs : List ℕ). v ∷ vs) (inputs_of-append g h)
inputs_of-append (And l r ∷ g) h = inputs_of-append g h

-- each variable that has a node is listed
pub inputs_of-has : (g : List Node) (n v : ℕ) → slice_get g n ≡ Some (Input v) → Contains (inputs_of g) v
inputs_of-has [] n v at = absurd (none-some (Input v) at)
inputs_of-has (Constant ∷ g) zero v at = let e : Constant ≡ Input v = same_Some Constant (Input v) at in absurd (cc)
inputs_of-has (Constant ∷ g) (suc n) v at = inputs_of-has g n v at
inputs_of-has (Input u ∷ g) zero v at =
    let e : Input u ≡ Input v = same_Some (Input u) (Input v) at in
    let same : u ≡ v = cc in
    subst (λ (w : ℕ). Contains (u ∷ inputs_of g) w) same (Contains-head u (inputs_of g))
inputs_of-has (Input u ∷ g) (suc n) v at = Contains-tail u v (inputs_of g) (inputs_of-has g n v at)
inputs_of-has (And l r ∷ g) zero v at = let e : And l r ≡ Input v = same_Some (And l r) (Input v) at in absurd (cc)
inputs_of-has (And l r ∷ g) (suc n) v at = inputs_of-has g n v at

-- each listed variable has a node
pub inputs_of-from : (g : List Node) (v : ℕ) → Contains (inputs_of g) v → (n : ℕ) × (slice_get g n ≡ Some (Input v))
inputs_of-from [] v has = absurd (omega (arith, has.1))
inputs_of-from (Constant ∷ g) v has = let w = inputs_of-from g v has in (suc w.0, w.1)
inputs_of-from (Input u ∷ g) v has = by (λ later. inputs_of-from g v later) (Contains-cases u v (inputs_of g) has)
  where
    by : (Contains (inputs_of g) v → (n : ℕ) × (slice_get g n ≡ Some (Input v))) → (u ≡ v) ⊎ Contains (inputs_of g) v → (n : ℕ) × (slice_get (Input u ∷ g) n ≡ Some (Input v))
    by rest (inl e) = (0, ap (λ (w : ℕ). Some (Input w)) e)
    by rest (inr later) = let w = rest later in (suc w.0, w.1)
inputs_of-from (And l r ∷ g) v has = let w = inputs_of-from g v has in (suc w.0, w.1)

-- one node more, which is a variable's
pub inputs_of-input : (g : List Node) (n v : ℕ) (d : Node) (vars new : List ℕ) → n < length g → get_or g n d ≡ Input v → vars ≡ inputs_of (take n g) → new ≡ vars ++ v ∷ [] → new ≡ inputs_of (take (n + 1) g)
inputs_of-input g n v d vars new within at are more =
    let last : inputs_of (get_or g n d ∷ []) ≡ v ∷ [] = ap (λ (node : Node). inputs_of (node ∷ [])) at in
    more ∙ ap (λ (vs : List ℕ). vs ++ v ∷ []) are ∙ ap (λ (vs : List ℕ). inputs_of (take n g) ++ vs) (sym last) ∙ sym (inputs_of-append (take n g) (get_or g n d ∷ [])) ∙ ap inputs_of (sym (take_more g n d within))

append-nothing : (xs : List ℕ) → xs ++ [] ≡ xs
append-nothing [] = refl
append-nothing (x ∷ xs) = ap (λ (ys : List ℕ). x ∷ ys) (append-nothing xs)

not_input : (node : Node) → ((v : ℕ) → node ≡ Input v → ⊥) → inputs_of (node ∷ []) ≡ []
not_input Constant h = refl
not_input (Input v) h = absurd (h v refl)
not_input (And l r) h = refl

-- one node more, which isn't
pub inputs_of-other : (g : List Node) (n : ℕ) (d : Node) (vars : List ℕ) → n < length g → ((v : ℕ) → get_or g n d ≡ Input v → ⊥) → vars ≡ inputs_of (take n g) → vars ≡ inputs_of (take (n + 1) g)
inputs_of-other g n d vars within not are =
    are ∙ sym (append-nothing (inputs_of (take n g))) ∙ ap (λ (vs : List ℕ). inputs_of (take n g) ++ vs) (sym (not_input (get_or g n d) not))
    ∙ sym (inputs_of-append (take n g) (get_or g n d ∷ [])) ∙ ap inputs_of (sym (take_more g n d within))

-- no variable stands twice, where no node does
pub inputs_of-distinct : (g : List Node) → ((n m v : ℕ) → slice_get g n ≡ Some (Input v) → slice_get g m ≡ Some (Input v) → n ≡ m) → AllPairs (λ u v. u ≢ v) (inputs_of g)
inputs_of-distinct [] once i j d below inside = absurd (omega (arith, inside))
inputs_of-distinct (Constant ∷ g) once i j d below inside =
    inputs_of-distinct g (λ n m v at there. let e : suc n ≡ suc m = once (suc n) (suc m) v at there in omega arith) i j d below inside
inputs_of-distinct (And l r ∷ g) once i j d below inside =
    inputs_of-distinct g (λ n m v at there. let e : suc n ≡ suc m = once (suc n) (suc m) v at there in omega arith) i j d below inside
inputs_of-distinct (Input u ∷ g) once zero zero d below inside = absurd (omega (arith, below))
inputs_of-distinct (Input u ∷ g) once (suc i) zero d below inside = absurd (omega (arith, below))
inputs_of-distinct (Input u ∷ g) once zero (suc j) d below inside = λ same.
    let within : j < length (inputs_of g) = omega (arith, inside) in
    let has = slice_get-get_or (inputs_of g) j d within in
    let there = inputs_of-from g u (of_at (inputs_of g) j u (has ∙ ap Some (sym same))) in
    let e : 0 ≡ suc there.0 = once 0 (suc there.0) u refl there.1 in
    absurd (omega (arith, e))
inputs_of-distinct (Input u ∷ g) once (suc i) (suc j) d below inside =
    inputs_of-distinct g (λ n m v at there. let e : suc n ≡ suc m = once (suc n) (suc m) v at there in omega arith) i j d (omega (arith, below)) (omega (arith, inside))
