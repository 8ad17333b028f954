-- Pairs and names in turn.
use Rattle.std.proofs.Common.{◌≡◌, ℕ, ◌+◌, ◌<◌, ◌||◌, not, cond, Bool, true, false, List, [], ◌∷◌, ◌++◌, map, length, take, drop, get_or, refl, sym, ◌∙◌, ap, ap₂, Option, Some, None, arith, suc, drop-cons}
use Rattle.std.specs.Str.{bytes_eq}
use Rattle.std.proofs.lemmas.List.Folds.{list_any-append}
use Rattle.std.proofs.lemmas.List.{map-append, take_more}
use Rattle.base_tables.specs.Table.{is_among}
use Rattle.circuit_theory.specs.Interface.{◌or_else◌}
use Rattle.blif_read.specs.declared.design.BlifModel.{BlifModel}
use Rattle.blif_read.specs.declared.design.Pair.{Pair}
use Rattle.blif_read.specs.Design.{input_formals}
use Rattle.elaborate.specs.declared.error.FlatError.{FlatError}
use Rattle.elaborate.specs.declared.error.FlatError.TheVariants as flat_error
use Rattle.elaborate.specs.declared.tables.Formals.{Formals}
use Rattle.elaborate.specs.Walking.{when, named_fault, pairs_fault, first_outside, formals_of, ports_fault}
use Rattle.elaborate.specs.Scopes.{AreFormals}

pub rest_at : {X : Type 0} (xs : List X) (i : ℕ) (x : X) → i < length xs → x ≡ get_or xs i x → drop i xs ≡ x ∷ drop (i + 1) xs
rest_at xs i x room at = let next : suc i ≡ i + 1 = omega arith in drop-cons xs i x room ∙ ap₂ (λ y k. y ∷ drop k xs) (sym at) next

-- one more of what a function gives
pub map_more : {X Y : Type 0} (f : X → Y) (xs : List X) (i : ℕ) (x : X) (before now : List Y) → i < length xs → x ≡ get_or xs i x → before ≡ map f (take i xs) → now ≡ before ++ f x ∷ [] → now ≡ map f (take (i + 1) xs)
map_more f xs i x before now room at is e =
    e ∙ ap (λ ys. ys ++ f x ∷ []) is ∙ sym (map-append f (take i xs) (x ∷ [])) ∙ ap (map f) (ap (λ y. take i xs ++ y ∷ []) at ∙ sym (take_more xs i x room))

-- equal tests find the same fault
pairs_same : (a b : List ℕ → Bool) → ((n : List ℕ) → a n ≡ b n) → (seen : List (List ℕ)) (pairs : List Pair) → pairs_fault a seen pairs ≡ pairs_fault b seen pairs
pairs_same a b same seen [] = refl
pairs_same a b same seen (p ∷ pairs) =
    ap₂ (λ t f. when (not t) (flat_error.UnknownFormal p.formal) or_else when (is_among seen p.formal) (flat_error.FormalTwice p.formal) or_else f) (same p.formal) (pairs_same a b same (seen ++ p.formal ∷ []) pairs)

outside_append : (seen xs ys : List (List ℕ)) → first_outside seen (xs ++ ys) ≡ (first_outside seen xs or_else first_outside seen ys)
outside_append seen [] ys = refl
outside_append seen (x ∷ xs) ys = by (outside_append seen xs ys) (not (is_among seen x))
  where
    by : first_outside seen (xs ++ ys) ≡ (first_outside seen xs or_else first_outside seen ys) → (b : Bool) → cond b (Some x) (first_outside seen (xs ++ ys)) ≡ (cond b (Some x) (first_outside seen xs) or_else first_outside seen ys)
    by rest true = refl
    by rest false = rest

-- the faults of a model's pairs, by its tables
pub ports_are : (m : BlifModel) (f : Formals) (pairs : List Pair) (seen : List (List ℕ)) → AreFormals m f → seen ≡ map (λ p. p.formal) pairs →
    ports_fault m pairs ≡ (pairs_fault (λ n. is_among f.inputs n || is_among f.outputs n) [] pairs or_else named_fault flat_error.OpenInput (first_outside seen m.inputs or_else first_outside seen m.clocks))
ports_are m f pairs seen are is = ap₂ (λ x y. x or_else named_fault flat_error.OpenInput y)
    (pairs_same (is_among (formals_of m)) (λ n. is_among f.inputs n || is_among f.outputs n) known [] pairs)
    (ap (λ s. first_outside s (input_formals m)) (sym is) ∙ outside_append seen m.inputs m.clocks)
  where
    known : (n : List ℕ) → is_among (formals_of m) n ≡ (is_among f.inputs n || is_among f.outputs n)
    known n = list_any-append (λ x. bytes_eq n x) (input_formals m) m.outputs ∙ ap₂ (λ a b. a || b) (sym (are.inputs n)) (sym (are.outputs n))

-- where the pairs have a fault, so have the ports
pub ports_pairs : (m : BlifModel) (f : Formals) (pairs : List Pair) (e : FlatError) → AreFormals m f → pairs_fault (λ n. is_among f.inputs n || is_among f.outputs n) [] pairs ≡ Some e → ports_fault m pairs ≡ Some e
ports_pairs m f pairs e are h = ports_are m f pairs (map (λ p. p.formal) pairs) are refl ∙ ap (λ x. x or_else named_fault flat_error.OpenInput (first_outside (map (λ p. p.formal) pairs) m.inputs or_else first_outside (map (λ p. p.formal) pairs) m.clocks)) h

-- the fault of an open input
pub ports_input : (m : BlifModel) (f : Formals) (pairs : List Pair) (seen : List (List ℕ)) (e : FlatError) → AreFormals m f → seen ≡ map (λ p. p.formal) pairs → pairs_fault (λ n. is_among f.inputs n || is_among f.outputs n) [] pairs ≡ None →
    named_fault flat_error.OpenInput (first_outside seen m.inputs) ≡ Some e → ports_fault m pairs ≡ Some e
ports_input m f pairs seen e are is none h = ports_are m f pairs seen are is ∙ ap (λ x. x or_else named_fault flat_error.OpenInput (first_outside seen m.inputs or_else first_outside seen m.clocks)) none ∙ by (first_outside seen m.inputs) h
  where
    by : (o : Option (List ℕ)) → named_fault flat_error.OpenInput o ≡ Some e → named_fault flat_error.OpenInput (o or_else first_outside seen m.clocks) ≡ Some e
    by None k = absurd (cc)
    by (Some n) k = k

-- behind the inputs the clocks decide
pub ports_clocks : (m : BlifModel) (f : Formals) (pairs : List Pair) (seen : List (List ℕ)) → AreFormals m f → seen ≡ map (λ p. p.formal) pairs → pairs_fault (λ n. is_among f.inputs n || is_among f.outputs n) [] pairs ≡ None → first_outside seen m.inputs ≡ None →
    ports_fault m pairs ≡ named_fault flat_error.OpenInput (first_outside seen m.clocks)
ports_clocks m f pairs seen are is none inputs =
    ports_are m f pairs seen are is ∙ ap (λ x. x or_else named_fault flat_error.OpenInput (first_outside seen m.inputs or_else first_outside seen m.clocks)) none ∙ ap (λ o. named_fault flat_error.OpenInput (o or_else first_outside seen m.clocks)) inputs
