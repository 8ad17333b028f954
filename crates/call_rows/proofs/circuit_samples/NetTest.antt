-- A test that a small circuit is a flat net, so that it is shown of a sample by computing.
use Rattle.std.proofs.Common.{◌≡◌, ◌≢◌, ℕ, zero, suc, ◌+◌, ◌<◌, Bool, true, false, List, [], ◌∷◌, ◌++◌, length, map, refl, sym, ◌∙◌, ap, subst, arith, inl, inr, Some, slice_get}
use Rattle.std.specs.Prelude.{◌⊎◌, ◌&&◌, ◌||◌, ◌==◌, not, nat_lt, slice_index_or}
use Rattle.std.specs.List.{All, AllPairs, Contains}
use Rattle.std.proofs.lemmas.List.Elements.{All-nil, All-cons, Contains-append_cases}
use Rattle.std.proofs.lemmas.List.Kept.{AllPairs-cons}
use Rattle.std.proofs.lemmas.Option.{slice_get-get_or}
use Rattle.circuit_theory.specs.Circuit.{Circuit, Equation, Gate, Latch, Port, Named, IsInput, out_of}
use Rattle.circuit_theory.specs.Net.{IsAbove, IsWithin, IsDriven, IsNet}
use Rattle.circuit_theory.proofs.Lists.{Contains-head, Contains-tail, Contains-cases, Contains-map_from, All-from_each, at_of}
use Rattle.circuit_theory.proofs.Inputs.{test_same, test_refl}
use Rattle.circuit_theory.proofs.Numbers.{distinct_at, slice_get-map}

abbrev pub number_among : List ℕ → ℕ → Bool
number_among [] n = false
number_among (m ∷ ms) n = (m == n) || number_among ms n

abbrev pub numbers_distinct : List ℕ → Bool
numbers_distinct [] = true
numbers_distinct (n ∷ ns) = not (number_among ns n) && numbers_distinct ns

abbrev pub all_below : ℕ → List ℕ → Bool
all_below out [] = true
all_below out (f ∷ fs) = nat_lt f out && all_below out fs

abbrev pub equation_test : ℕ → Equation ℕ → Bool
equation_test size (Gate out fanins cover) = nat_lt out size && all_below out fanins
equation_test size (Latch name out next) = nat_lt out size && nat_lt next size
equation_test size (Port out from) = false

abbrev pub equations_test : ℕ → List (Equation ℕ) → Bool
equations_test size [] = true
equations_test size (e ∷ es) = equation_test size e && equations_test size es

abbrev pub all_among : List ℕ → ℕ → Bool
all_among ns zero = true
all_among ns (suc size) = number_among ns size && all_among ns size

-- the places that are driven, one for each input and equation
abbrev pub driven_places : Circuit ℕ → List ℕ
driven_places c = map (λ i. i.place) c.inputs ++ map out_of c.equations

abbrev pub net_test : Circuit ℕ → ℕ → Bool
net_test c size =
    let driven = driven_places c in
    numbers_distinct driven && (equations_test size c.equations && all_among driven size)

both : (x y : Bool) → (x && y) ≡ true → (x ≡ true) × (y ≡ true)
both true y h = (refl, h)
both false y h = cc

lt_from : (m n : ℕ) → nat_lt m n ≡ true → m < n
lt_from m n h = grind arith

number_among-complete : (ns : List ℕ) (n : ℕ) → Contains ns n → number_among ns n ≡ true
number_among-complete [] n h = absurd (omega (arith, h.1))
number_among-complete (m ∷ ms) n h = go (Contains-cases m n ms h) (λ k. number_among-complete ms n k)
  where
    or_true : (b : Bool) → (b || true) ≡ true
    or_true true = refl
    or_true false = refl

    go : (m ≡ n) ⊎ Contains ms n → (Contains ms n → number_among ms n ≡ true) → number_among (m ∷ ms) n ≡ true
    go (inl e) later = ap (λ b. b || number_among ms n) (subst (λ k. (m == k) ≡ true) e (test_refl m))
    go (inr k) later = ap (λ b. (m == n) || b) (later k) ∙ or_true (m == n)

number_among-sound : (ns : List ℕ) (n : ℕ) → number_among ns n ≡ true → Contains ns n
number_among-sound [] n h = cc
number_among-sound (m ∷ ms) n h = go (m == n) refl (λ k. number_among-sound ms n k)
  where
    go : (b : Bool) → (m == n) ≡ b → (number_among ms n ≡ true → Contains ms n) → Contains (m ∷ ms) n
    go true e later = subst (Contains (m ∷ ms)) (test_same m n e) (Contains-head m ms)
    go false e later = Contains-tail m n ms (later (sym (ap (λ b. b || number_among ms n) e) ∙ h))

pub numbers_distinct-sound : (ns : List ℕ) → numbers_distinct ns ≡ true → AllPairs (λ m n. m ≢ n) ns
numbers_distinct-sound [] h = λ i j d l k. absurd (omega arith)
numbers_distinct-sound (n ∷ ns) h =
    let parts = both (not (number_among ns n)) (numbers_distinct ns) h in
    AllPairs-cons (λ m k. m ≢ k) n ns (All-from_each (λ m. n ≢ m) ns (λ m k e. wrong (ap not (number_among-complete ns n (subst (Contains ns) (sym e) k))) parts.0)) (numbers_distinct-sound ns parts.1)
  where
    wrong : {b : Bool} → b ≡ false → b ≡ true → ⊥
    wrong p q = cc

all_below-sound : (out : ℕ) (fs : List ℕ) → all_below out fs ≡ true → All (λ f. f < out) fs
all_below-sound out [] h = All-nil (λ f. f < out)
all_below-sound out (f ∷ fs) h = let parts = both (nat_lt f out) (all_below out fs) h in All-cons (λ g. g < out) f fs (lt_from f out parts.0) (all_below-sound out fs parts.1)

equation_test-sound : (size : ℕ) (e : Equation ℕ) → equation_test size e ≡ true → IsAbove e × IsWithin size e
equation_test-sound size (Gate out fanins cover) h = let parts = both (nat_lt out size) (all_below out fanins) h in (all_below-sound out fanins parts.1, lt_from out size parts.0)
equation_test-sound size (Latch name out next) h = let parts = both (nat_lt out size) (nat_lt next size) h in (tt, (lt_from out size parts.0, lt_from next size parts.1))
equation_test-sound size (Port out from) h = cc

equations_test-sound : (size : ℕ) (es : List (Equation ℕ)) → equations_test size es ≡ true → (e : Equation ℕ) → Contains es e → IsAbove e × IsWithin size e
equations_test-sound size [] h e k = absurd (omega (arith, k.1))
equations_test-sound size (x ∷ es) h e k =
    let parts = both (equation_test size x) (equations_test size es) h in
    go (Contains-cases x e es k) (equation_test-sound size x parts.0) (λ m. equations_test-sound size es parts.1 e m)
  where
    go : (x ≡ e) ⊎ Contains es e → IsAbove x × IsWithin size x → (Contains es e → IsAbove e × IsWithin size e) → IsAbove e × IsWithin size e
    go (inl q) here later = subst (λ y. IsAbove y × IsWithin size y) q here
    go (inr m) here later = later m

all_among-sound : (ns : List ℕ) (size : ℕ) → all_among ns size ≡ true → (s : ℕ) → s < size → Contains ns s
all_among-sound ns zero h s l = absurd (omega arith)
all_among-sound ns (suc size) h s l = let parts = both (number_among ns size) (all_among ns size) h in go (which s size l) parts.0 (λ k. all_among-sound ns size parts.1 s k)
  where
    which : (m n : ℕ) → m < suc n → (m ≡ n) ⊎ (m < n)
    which m n h = grind arith

    go : (s ≡ size) ⊎ (s < size) → number_among ns size ≡ true → (s < size → Contains ns s) → Contains ns s
    go (inl e) here later = number_among-sound ns s (ap (number_among ns) e ∙ here)
    go (inr k) here later = later k

slice_get-left : {X : Type 0} (xs ys : List X) (i : ℕ) (x : X) → slice_get xs i ≡ Some x → slice_get (xs ++ ys) i ≡ Some x
slice_get-left [] ys i x h = absurd (nothing i h)
  where
    nothing : (i : ℕ) → slice_get [] i ≡ Some x → ⊥
    nothing zero q = cc
    nothing (suc i) q = cc
slice_get-left (y ∷ xs) ys zero x h = h
slice_get-left (y ∷ xs) ys (suc i) x h = slice_get-left xs ys i x h

slice_get-right : {X : Type 0} (xs ys : List X) (i : ℕ) (x : X) → slice_get ys i ≡ Some x → slice_get (xs ++ ys) (length xs + i) ≡ Some x
slice_get-right [] ys i x h = ap (slice_get ys) (let e : 0 + i ≡ i = omega arith in e) ∙ h
slice_get-right (y ∷ xs) ys i x h =
    ap (slice_get (y ∷ xs ++ ys)) (let e : suc (length xs) + i ≡ suc (length xs + i) = omega arith in e) ∙ slice_get-right xs ys i x h

slice_get-low : {X : Type 0} (xs : List X) (i : ℕ) (x : X) → slice_get xs i ≡ Some x → i < length xs
slice_get-low [] zero x h = cc
slice_get-low [] (suc i) x h = cc
slice_get-low (y ∷ xs) zero x h = omega arith
slice_get-low (y ∷ xs) (suc i) x h = let l = slice_get-low xs i x h in omega arith

map_length : {X Y : Type 0} (f : X → Y) (xs : List X) → length (map f xs) ≡ length xs
map_length f [] = refl
map_length f (x ∷ xs) = ap suc (map_length f xs)

some_is : {X : Type 0} {x y : X} → Some x ≡ Some y → x ≡ y
some_is q = cc

-- what passes the test is a flat net
pub net_test-sound : (c : Circuit ℕ) (size : ℕ) → net_test c size ≡ true → IsNet c size
net_test-sound c size h = record {
  single = record { one = one; no_input = no_input };
  inputs = λ i j d l k e. let z = same_input i j d l k e in omega (arith, z);
  above = All-from_each IsAbove c.equations (λ e k. (each e k).0);
  within = All-from_each (IsWithin size) c.equations (λ e k. (each e k).1);
  driven = driven;
}
  where
    parts : (numbers_distinct (driven_places c) ≡ true) × ((equations_test size c.equations && all_among (driven_places c) size) ≡ true)
    parts = both (numbers_distinct (driven_places c)) (equations_test size c.equations && all_among (driven_places c) size) h

    rest : (equations_test size c.equations ≡ true) × (all_among (driven_places c) size ≡ true)
    rest = both (equations_test size c.equations) (all_among (driven_places c) size) parts.1

    distinct : AllPairs (λ m n. m ≢ n) (driven_places c)
    distinct = numbers_distinct-sound (driven_places c) parts.0

    each : (e : Equation ℕ) → Contains c.equations e → IsAbove e × IsWithin size e
    each e k = equations_test-sound size c.equations rest.0 e k

    place_of : Named ℕ → ℕ
    place_of i = i.place

    input_at : (i : ℕ) (n : Named ℕ) → slice_get c.inputs i ≡ Some n → slice_get (driven_places c) i ≡ Some n.place
    input_at i n k = slice_get-left (map place_of c.inputs) (map out_of c.equations) i n.place (slice_get-map place_of c.inputs i n k)

    equation_at : (i : ℕ) (e : Equation ℕ) → slice_get c.equations i ≡ Some e → slice_get (driven_places c) (length (map place_of c.inputs) + i) ≡ Some (out_of e)
    equation_at i e k = slice_get-right (map place_of c.inputs) (map out_of c.equations) i (out_of e) (slice_get-map out_of c.equations i e k)

    one : (e f : Equation ℕ) → Contains c.equations e → Contains c.equations f → out_of e ≡ out_of f → e ≡ f
    one e f k m q =
        let x = at_of c.equations e k in
        let y = at_of c.equations f m in
        let same : length (map place_of c.inputs) + x.0 ≡ length (map place_of c.inputs) + y.0 = distinct_at (λ n. n) (driven_places c) distinct _ _ (out_of e) (out_of f) (equation_at x.0 e x.1) (equation_at y.0 f y.1) q in
        some_is (sym x.1 ∙ (ap (slice_get c.equations) (let z : x.0 ≡ y.0 = omega arith in z) ∙ y.1))

    no_input : (e : Equation ℕ) → Contains c.equations e → IsInput c (out_of e) → ⊥
    no_input e k i =
        let x = at_of c.equations e k in
        let y = at_of c.inputs (record { name = i.0; place = out_of e }) i.1 in
        let same : length (map place_of c.inputs) + x.0 ≡ y.0 = distinct_at (λ n. n) (driven_places c) distinct _ _ (out_of e) (out_of e) (equation_at x.0 e x.1) (input_at y.0 _ y.1) refl in
        let low = slice_get-low c.inputs y.0 _ y.1 in
        let long = map_length place_of c.inputs in
        omega arith

    same_input : (i j : ℕ) (d : Named ℕ) → i < j → j < length c.inputs → (slice_index_or c.inputs i d).place ≡ (slice_index_or c.inputs j d).place → i ≡ j
    same_input i j d l k e =
        distinct_at (λ n. n) (driven_places c) distinct i j _ _ (input_at i _ (slice_get-get_or c.inputs i d (omega arith))) (input_at j _ (slice_get-get_or c.inputs j d k)) e

    driven : (s : ℕ) → s < size → IsDriven c s
    driven s l = go (Contains-append_cases (map place_of c.inputs) (map out_of c.equations) s (all_among-sound (driven_places c) size rest.1 s l))
      where
        go : Contains (map place_of c.inputs) s ⊎ Contains (map out_of c.equations) s → IsDriven c s
        go (inl k) = let r = Contains-map_from place_of c.inputs s k in inl (r.0.name, subst (λ p. Contains c.inputs (record { name = r.0.name; place = p })) r.2 r.1)
        go (inr k) = let r = Contains-map_from out_of c.equations s k in inr (r.0, r.1, r.2)
