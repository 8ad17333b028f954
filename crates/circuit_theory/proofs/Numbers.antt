-- The numbers of inputs: each input has one, each number is one input's, and a number that both circuits have is that of one name.
use Rattle.std.proofs.Common.{◌≡◌, ◌≢◌, ℕ, zero, suc, ◌<◌, Bool, true, false, List, [], ◌∷◌, get_or, map, refl, sym, ◌∙◌, ap, subst, arith, inl, inr, Some, slice_get}
use Rattle.std.specs.Prelude.{◌⊎◌, ◌&&◌, ◌||◌, ◌==◌}
use Rattle.std.specs.List.{Contains, AllPairs}
use Rattle.std.proofs.lemmas.Option.{slice_get_within, get_or_from_slice_get}
use Rattle.circuit_theory.specs.Names.{same_name, is_among}
use Rattle.circuit_theory.specs.Circuit.{Circuit, Named}
use Rattle.circuit_theory.specs.Tree.{StandsBeside, AreNumbered}
use Rattle.circuit_theory.specs.Interface.{AreNumbersOf}
use Rattle.circuit_theory.proofs.Lists.{Contains-head, Contains-tail, Contains-cases, at_of, of_at}
use Rattle.circuit_theory.proofs.Inputs.{test_refl, same_name-sound}

-- of elements whose keys are distinct, one key stands at one place
pub distinct_at : {X Y : Type 0} (f : X → Y) (xs : List X) → AllPairs (λ x y. f x ≢ f y) xs → (i j : ℕ) (x y : X) → slice_get xs i ≡ Some x → slice_get xs j ≡ Some y → f x ≡ f y → i ≡ j
distinct_at {X} f xs distinct i j x y hi hj e = go (order i j)
  where
    order : (i j : ℕ) → (i ≡ j) ⊎ ((i < j) ⊎ (j < i))
    order i j = grind arith

    at_i : (d : X) → get_or xs i d ≡ x
    at_i d = get_or_from_slice_get xs i x d hi

    at_j : (d : X) → get_or xs j d ≡ y
    at_j d = get_or_from_slice_get xs j y d hj

    go : (i ≡ j) ⊎ ((i < j) ⊎ (j < i)) → i ≡ j
    go (inl q) = q
    go (inr (inl l)) = absurd (distinct i j x l (slice_get_within xs j y hj) (ap f (at_i x) ∙ (e ∙ sym (ap f (at_j x)))))
    go (inr (inr l)) = absurd (distinct j i x l (slice_get_within xs i x hi) (ap f (at_j x) ∙ (sym e ∙ sym (ap f (at_i x)))))

pub slice_get-map : {X Y : Type 0} (f : X → Y) (xs : List X) (i : ℕ) (x : X) → slice_get xs i ≡ Some x → slice_get (map f xs) i ≡ Some (f x)
slice_get-map f [] i x h = absurd (let k = slice_get_within [] i x h in omega arith)
slice_get-map f (y ∷ xs) zero x h = ap Some (ap f (unwrap h))
  where
    unwrap : Some y ≡ Some x → y ≡ x
    unwrap q = cc
slice_get-map f (y ∷ xs) (suc i) x h = slice_get-map f xs i x h

-- an input and its number stand at one place of both lists
pub beside_at : {P : Type 0} (inputs : List (Named P)) (order : List ℕ) (p : P) (i : ℕ) → StandsBeside inputs order p i →
    (k : ℕ) × (n : Named P) × (slice_get inputs k ≡ Some n) × (n.place ≡ p) × (slice_get order k ≡ Some i)
beside_at [] order p i h = absurd h
beside_at (n ∷ inputs) [] p i h = absurd h
beside_at (n ∷ inputs) (j ∷ order) p i (inl h) = (0, n, refl, h.0, ap Some h.1)
beside_at (n ∷ inputs) (j ∷ order) p i (inr h) = let r = beside_at inputs order p i h in (suc r.0, r.1, r.2, r.3, r.4)

pub at_beside : {P : Type 0} (inputs : List (Named P)) (order : List ℕ) (k i : ℕ) (n : Named P) → slice_get inputs k ≡ Some n → slice_get order k ≡ Some i → StandsBeside inputs order n.place i
at_beside [] order k i n h g = absurd (let l = slice_get_within [] k n h in omega arith)
at_beside (m ∷ inputs) [] k i n h g = absurd (let l = slice_get_within [] k i g in omega arith)
at_beside {P} (m ∷ inputs) (j ∷ order) zero i n h g = inl (ap (λ (x : Named P). x.place) (unwrap h), unwrap g)
  where
    unwrap : {X : Type 0} {x y : X} → Some x ≡ Some y → x ≡ y
    unwrap q = cc
at_beside (m ∷ inputs) (j ∷ order) (suc k) i n h g = inr (at_beside inputs order k i n h g)

some_is : {X : Type 0} {x y : X} → Some x ≡ Some y → x ≡ y
some_is q = cc

-- where no two inputs are one place, a place has one number
pub one_number : {P : Type 0} (inputs : List (Named P)) (order : List ℕ) → AllPairs (λ i j. i.place ≢ j.place) inputs → (p : P) (i j : ℕ) → StandsBeside inputs order p i → StandsBeside inputs order p j → i ≡ j
one_number {P} inputs order distinct p i j l r =
    let a = beside_at inputs order p i l in
    let b = beside_at inputs order p j r in
    let k : a.0 ≡ b.0 = distinct_at (λ (n : Named P). n.place) inputs distinct a.0 b.0 a.1 b.1 a.2 b.2 (a.3 ∙ sym b.3) in
    some_is (sym a.4 ∙ (ap (slice_get order) k ∙ b.4))

-- where no two numbers are one, a number is one place's
pub one_place : {P : Type 0} (inputs : List (Named P)) (order : List ℕ) → AllPairs (λ i j. i ≢ j) order → (p q : P) (i : ℕ) → StandsBeside inputs order p i → StandsBeside inputs order q i → p ≡ q
one_place {P} inputs order distinct p q i l r =
    let a = beside_at inputs order p i l in
    let b = beside_at inputs order q i r in
    let k : a.0 ≡ b.0 = distinct_at (λ n. n) order distinct a.0 b.0 i i a.4 b.4 refl in
    let n : a.1 ≡ b.1 = some_is (sym a.2 ∙ (ap (slice_get inputs) k ∙ b.2)) in
    sym a.3 ∙ (ap (λ (m : Named P). m.place) n ∙ b.3)

pub same_name-refl : (xs : List ℕ) → same_name xs xs ≡ true
same_name-refl [] = refl
same_name-refl (x ∷ xs) = let h = test_refl x in let t = same_name-refl xs in both (x == x) (same_name xs xs) h t
  where
    both : (a b : Bool) → a ≡ true → b ≡ true → (a && b) ≡ true
    both true b h t = t
    both false b h t = h

-- a name that the test finds is there, and one that it doesn't find isn't
pub is_among-sound : (names : List (List ℕ)) (name : List ℕ) → is_among names name ≡ true → Contains names name
is_among-sound [] name h = cc
is_among-sound (n ∷ names) name h = go (same_name name n) refl (λ k. is_among-sound names name k)
  where
    go : (b : Bool) → same_name name n ≡ b → (is_among names name ≡ true → Contains names name) → Contains (n ∷ names) name
    go true e later = subst (λ (m : List ℕ). Contains (n ∷ names) m) (sym (same_name-sound name n e)) (Contains-head n names)
    go false e later = Contains-tail n name names (later (sym (ap (λ b. b || is_among names name) e) ∙ h))

pub is_among-complete : (names : List (List ℕ)) (name : List ℕ) → Contains names name → is_among names name ≡ true
is_among-complete [] name h = absurd (omega (arith, h.1))
is_among-complete (n ∷ names) name h = go (Contains-cases n name names h) (λ k. is_among-complete names name k)
  where
    or_true : (b : Bool) → (b || true) ≡ true
    or_true true = refl
    or_true false = refl

    go : (n ≡ name) ⊎ Contains names name → (Contains names name → is_among names name ≡ true) → is_among (n ∷ names) name ≡ true
    go (inl e) later = ap (λ b. b || is_among names name) (ap (same_name name) e ∙ same_name-refl name)
    go (inr k) later = ap (λ b. same_name name n || b) (later k) ∙ or_true (same_name name n)

-- the numbers that the interface gives tell apart what they should
pub numbers_are : {P Q : Type 0} (a : Circuit P) (b : Circuit Q) (shared : List (List ℕ)) (left right : List ℕ) →
    AreNumbersOf (map (λ n. n.name) a.inputs) shared left right → AreNumbersOf (map (λ n. n.name) b.inputs) shared right left → AreNumbered a b left right
numbers_are {P} {Q} a b shared left right l r = record {
  left_once = λ p q i h k. one_place a.inputs left l.distinct p q i h k;
  right_once = λ p q i h k. one_place b.inputs right r.distinct p q i h k;
  shared = λ p q i h k. common p q i (beside_at a.inputs left p i h) (beside_at b.inputs right q i k);
}
  where
    name_at : {R : Type 0} (c : Circuit R) (k i : ℕ) (p : R) (numbers others : List ℕ) → AreNumbersOf (map (λ n. n.name) c.inputs) shared numbers others →
        (n : Named R) → slice_get c.inputs k ≡ Some n → slice_get numbers k ≡ Some i → Contains others i → slice_get shared i ≡ Some n.name
    name_at {R} c k i p numbers others are n h g m = go (is_among shared n.name) refl
      where
        own : slice_get (map (λ (x : Named R). x.name) c.inputs) k ≡ Some n.name
        own = slice_get-map (λ (x : Named R). x.name) c.inputs k n h

        go : (t : Bool) → is_among shared n.name ≡ t → slice_get shared i ≡ Some n.name
        go true e =
            let there = at_of shared n.name (is_among-sound shared n.name e) in
            let same : there.0 ≡ i = some_is (sym (are.common k there.0 n.name own there.1) ∙ g) in
            sym (ap (slice_get shared) same) ∙ there.1
        go false e = absurd ((are.left_out k i n.name own (λ c. no (sym (is_among-complete shared n.name c) ∙ e)) g).1 m)
          where
            no : true ≡ false → ⊥
            no q = cc

    common : (p : P) (q : Q) (i : ℕ) → (k : ℕ) × (n : Named P) × (slice_get a.inputs k ≡ Some n) × (n.place ≡ p) × (slice_get left k ≡ Some i) →
        (j : ℕ) × (m : Named Q) × (slice_get b.inputs j ≡ Some m) × (m.place ≡ q) × (slice_get right j ≡ Some i) →
        (name : List ℕ) × Contains a.inputs (record { name = name; place = p }) × Contains b.inputs (record { name = name; place = q })
    common p q i x y =
        let mine = name_at a x.0 i p left right l x.1 x.2 x.4 (of_at right y.0 i y.4) in
        let theirs = name_at b y.0 i q right left r y.1 y.2 y.4 (of_at left x.0 i x.4) in
        let same : y.1.name ≡ x.1.name = some_is (sym theirs ∙ mine) in (
          x.1.name,
          subst (λ (z : P). Contains a.inputs (record { name = x.1.name; place = z })) x.3 (of_at a.inputs x.0 x.1 x.2),
          subst (λ (z : Q). Contains b.inputs (record { name = x.1.name; place = z })) y.3 (subst (λ (z : List ℕ). Contains b.inputs (record { name = z; place = y.1.place })) same (of_at b.inputs y.0 y.1 y.2)),
        )
