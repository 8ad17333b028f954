-- Bits of variables: by their numbers in a table, and as inputs at shifts.
use Rattle.std.proofs.Common.{◌≡◌, ◌≢◌, ℕ, zero, suc, ◌+◌, ◌<◌, ◌≤◌, Bool, true, false, cond, List, [], ◌∷◌, ◌++◌, map, length, take, get_or, set, slice_get, Some, refl, sym, ◌∙◌, ap, subst, arith, add-one, get_or-set_same, get_or-set_other, inl, inr}
use Rattle.std.specs.Prelude.{◌⊎◌, ◌&&◌, ◌==◌}
use Rattle.std.specs.List.{All, AllPairs, Contains}
use Rattle.std.proofs.lemmas.List.Elements.{All-head, All-tail}
use Rattle.std.proofs.lemmas.Option.{slice_get_within, slice_get-get_or, get_or_from_slice_get, same_Some}
use Rattle.std.proofs.Math.Seq.{take-suc}
use Rattle.circuit_theory.specs.Query.{Variable, assigned, same_shift}
use Rattle.circuit_theory.proofs.Lists.{Contains-head, Contains-tail}
use Rattle.circuit_theory.proofs.Inputs.{test_same, test_refl}
use Rattle.circuit_theory.proofs.Numbers.{distinct_at}
use Rattle.circuit_theory.proofs.Sums.{same_or_not}
use Rattle.base_tables.specs.Table.{AreDistinct}
use Rattle.pair_decide.specs.Queries.{assigned_to}
use Rattle.cbf_unfold.specs.shift_variables.Variables.{variable_of, variables_of}

pub test_differs : (i j : ℕ) → (i ≡ j → ⊥) → (i == j) ≡ false
test_differs i j apart = go (i == j) refl
  where
    go : (b : Bool) → (i == j) ≡ b → (i == j) ≡ false
    go true e = absurd (apart (test_same i j e))
    go false e = e

-- the front with one element more
pub take_next : {X : Type 0} (xs : List X) (i : ℕ) (x : X) → slice_get xs i ≡ Some x → take (i + 1) xs ≡ take i xs ++ x ∷ []
take_next {X} xs i x at =
    ap (λ k. take k xs) (add-one i) ∙ (take-suc xs i x (slice_get_within xs i x at) ∙ ap (λ (y : X). take i xs ++ y ∷ []) (get_or_from_slice_get xs i x x at))

-- the element at a place is none of those before
pub is_new : {X : Type 0} (xs : List X) (i : ℕ) (x : X) → AreDistinct xs → slice_get xs i ≡ Some x → Contains (take i xs) x → ⊥
is_new {X} xs i x distinct at h =
    let there = taken xs i h.0 x (slice_get-get_or (take i xs) h.0 x h.1 ∙ ap Some h.2) in
    let same : h.0 ≡ i = distinct h.0 i x there at in
    omega (arith, short xs i, h.1, same)
  where
    taken : (ys : List X) (n k : ℕ) (y : X) → slice_get (take n ys) k ≡ Some y → slice_get ys k ≡ Some y
    taken [] zero k y e = e
    taken [] (suc n) k y e = e
    taken (z ∷ ys) zero k y e = absurd (let l = slice_get_within [] k y e in omega arith)
    taken (z ∷ ys) (suc n) zero y e = e
    taken (z ∷ ys) (suc n) (suc k) y e = taken ys n k y e

    short : (ys : List X) (n : ℕ) → length (take n ys) ≤ n
    short [] zero = omega arith
    short [] (suc n) = omega arith
    short (y ∷ ys) zero = omega arith
    short (y ∷ ys) (suc n) = let ih = short ys n in omega arith

-- numbers that differ in pairs stand once each
pub once_each : (xs : List ℕ) → AllPairs (λ u v. u ≢ v) xs → AreDistinct xs
once_each xs pairs i j x at_i at_j = distinct_at (λ (n : ℕ). n) xs pairs i j x x at_i at_j refl

pub length_take : {X Y : Type 0} (n : ℕ) (xs : List X) (ys : List Y) → length xs ≡ length ys → length (take n xs) ≡ length (take n ys)
length_take zero xs ys h = refl
length_take (suc n) [] [] h = refl
length_take (suc n) [] (y ∷ ys) h = absurd (let z : 0 ≡ suc (length ys) = h in omega arith)
length_take (suc n) (x ∷ xs) [] h = absurd (let z : suc (length xs) ≡ 0 = h in omega arith)
length_take (suc n) (x ∷ xs) (y ∷ ys) h = ap suc (length_take n xs ys (let z : suc (length xs) ≡ suc (length ys) = h in omega arith))

-- one number more, which is new, has its bit
pub assigned_new : (us : List ℕ) (bits : List Bool) (u : ℕ) (bit : Bool) → length us ≡ length bits → (Contains us u → ⊥) → assigned_to (us ++ u ∷ []) (bits ++ bit ∷ []) u ≡ bit
assigned_new [] [] u bit h new = ap (λ t. cond t bit false) (test_refl u)
assigned_new [] (c ∷ bits) u bit h new = absurd (let z : 0 ≡ suc (length bits) = h in omega arith)
assigned_new (w ∷ us) [] u bit h new = absurd (let z : suc (length us) ≡ 0 = h in omega arith)
assigned_new (w ∷ us) (c ∷ bits) u bit h new =
    ap (λ t. cond t c (assigned_to (us ++ u ∷ []) (bits ++ bit ∷ []) u)) (test_differs w u (λ e. new (subst (Contains (w ∷ us)) e (Contains-head w us))))
    ∙ assigned_new us bits u bit (let z : suc (length us) ≡ suc (length bits) = h in omega arith) (λ k. new (Contains-tail w u us k))

-- and all others stay as they were
pub assigned_old : (us : List ℕ) (bits : List Bool) (u n : ℕ) (bit : Bool) → length us ≡ length bits → (u ≡ n → ⊥) → assigned_to (us ++ u ∷ []) (bits ++ bit ∷ []) n ≡ assigned_to us bits n
assigned_old [] [] u n bit h apart = ap (λ t. cond t bit false) (test_differs u n apart)
assigned_old [] (c ∷ bits) u n bit h apart = absurd (let z : 0 ≡ suc (length bits) = h in omega arith)
assigned_old (w ∷ us) [] u n bit h apart = absurd (let z : suc (length us) ≡ 0 = h in omega arith)
assigned_old (w ∷ us) (c ∷ bits) u n bit h apart = ap (λ r. cond (w == n) c r) (assigned_old us bits u n bit (let z : suc (length us) ≡ suc (length bits) = h in omega arith) apart)

-- what a loop has written that writes each number's bit at its place
pub written : (numbers : List ℕ) (bits made : List Bool) (k u : ℕ) (bit : Bool) → AllPairs (λ u v. u ≢ v) numbers → length numbers ≡ length bits → slice_get numbers k ≡ Some u → slice_get bits k ≡ Some bit → u < length made →
    ((n : ℕ) → get_or made n false ≡ assigned_to (take k numbers) (take k bits) n) → (n : ℕ) → get_or (set made u bit) n false ≡ assigned_to (take (k + 1) numbers) (take (k + 1) bits) n
written numbers bits made k u bit differ each at_number at_bit within before n =
    go (same_or_not u n) ∙ sym (ap (λ (us : List ℕ). assigned_to us (take (k + 1) bits) n) (take_next numbers k u at_number) ∙ ap (λ (bs : List Bool). assigned_to (take k numbers ++ u ∷ []) bs n) (take_next bits k bit at_bit))
  where
    sizes : length (take k numbers) ≡ length (take k bits)
    sizes = length_take k numbers bits each

    go : (u ≡ n) ⊎ (u ≢ n) → get_or (set made u bit) n false ≡ assigned_to (take k numbers ++ u ∷ []) (take k bits ++ bit ∷ []) n
    go (inl e) =
        ap (λ m. get_or (set made u bit) m false) (sym e)
        ∙ (get_or-set_same made u bit false within
        ∙ (sym (assigned_new (take k numbers) (take k bits) u bit sizes (is_new numbers k u (once_each numbers differ) at_number))
        ∙ ap (λ m. assigned_to (take k numbers ++ u ∷ []) (take k bits ++ bit ∷ []) m) e))
    go (inr apart) =
        get_or-set_other made u n bit false (λ e. apart (sym e)) ∙ (before n ∙ sym (assigned_old (take k numbers) (take k bits) u n bit sizes apart))

-- no bit is set where nothing was written
pub nothing_set : (size n : ℕ) (made : List Bool) → ((i : ℕ) → i < size → get_or made i false ≡ false) → length made ≡ size → get_or made n false ≡ false
nothing_set size n made zeros long = go (below_or_above n size)
  where
    below_or_above : (i j : ℕ) → (i < j) ⊎ (j ≤ i)
    below_or_above i j = grind arith

    past : (xs : List Bool) (i : ℕ) → length xs ≤ i → get_or xs i false ≡ false
    past [] zero h = refl
    past [] (suc i) h = refl
    past (x ∷ xs) zero h = absurd (omega arith)
    past (x ∷ xs) (suc i) h = past xs i (omega arith)

    go : (n < size) ⊎ (size ≤ n) → get_or made n false ≡ false
    go (inl h) = zeros n h
    go (inr h) = past made n (omega (arith, h, long))

-- a number of the table has the bit of its input at its shift
pub assigned_alike : (places : List (ℕ × ℕ)) (vars : List ℕ) (bits : List Bool) → AreDistinct places → All (λ v. v < length places) vars → (v : ℕ) (p : ℕ × ℕ) → slice_get places v ≡ Some p →
    assigned_to vars bits v ≡ assigned same_shift (variables_of places vars) bits p.0 p.1
assigned_alike places [] bits distinct within v p at = refl
assigned_alike places (u ∷ us) [] distinct within v p at = refl
assigned_alike places (u ∷ us) (bit ∷ bits) distinct within v p at =
    let rest = assigned_alike places us bits distinct (All-tail (λ w. w < length places) u us within) v p at in
    go (u == v) refl rest
  where
    x : Variable ℕ
    x = variable_of places u

    here : slice_get places u ≡ Some (get_or places u (0, 0))
    here = slice_get-get_or places u (0, 0) (All-head (λ w. w < length places) u us within)

    Chosen : Bool → Type 0
    Chosen b = cond b bit (assigned_to us bits v) ≡ cond ((x.input == p.0) && (x.at == p.1)) bit (assigned same_shift (variables_of places us) bits p.0 p.1)

    same_place : u ≡ v → get_or places u (0, 0) ≡ p
    same_place e = same_Some (get_or places u (0, 0)) p (sym here ∙ (ap (slice_get places) e ∙ at))

    apart : (u ≡ v → ⊥) → (b c : Bool) → (x.input == p.0) ≡ b → (x.at == p.1) ≡ c → ((x.input == p.0) && (x.at == p.1)) ≡ false
    apart ne false c e f = ap (λ t. t && (x.at == p.1)) e
    apart ne true false e f = ap (λ t. t && (x.at == p.1)) e ∙ f
    apart ne true true e f =
        let one : get_or places u (0, 0) ≡ p = λ i. (test_same x.input p.0 e i, test_same x.at p.1 f i) in
        absurd (ne (distinct u v p (here ∙ ap Some one) at))

    go : (b : Bool) → (u == v) ≡ b → assigned_to us bits v ≡ assigned same_shift (variables_of places us) bits p.0 p.1 → Chosen (u == v)
    go true e rest =
        let place = same_place (test_same u v e) in
        let both : ((x.input == p.0) && (x.at == p.1)) ≡ true =
        ap (λ t. t && (x.at == p.1)) (ap (λ i. i == p.0) (ap (λ (q : ℕ × ℕ). q.0) place) ∙ test_refl p.0) ∙ (ap (λ i. i == p.1) (ap (λ (q : ℕ × ℕ). q.1) place) ∙ test_refl p.1) in
        ap (λ t. cond t bit (assigned_to us bits v)) e ∙ sym (ap (λ t. cond t bit (assigned same_shift (variables_of places us) bits p.0 p.1)) both)
    go false e rest =
        let ne : u ≡ v → ⊥ = λ same. no_true_false (sym (ap (λ w. w == v) same ∙ test_refl v) ∙ e) in
        ap (λ t. cond t bit (assigned_to us bits v)) e ∙ (rest ∙ sym (ap (λ t. cond t bit (assigned same_shift (variables_of places us) bits p.0 p.1)) (apart ne (x.input == p.0) (x.at == p.1) refl refl)))
      where
        no_true_false : true ≡ false → ⊥
        no_true_false q = cc

-- variables of one shift have the bits of their inputs
pub assigned_in_shift : (places : List (ℕ × ℕ)) (vars : List ℕ) (bits : List Bool) (shift : ℕ) → ((v : ℕ) → Contains vars v → (variable_of places v).at ≡ shift) → (i : ℕ) →
    assigned_to (map (λ v. (variable_of places v).input) vars) bits i ≡ assigned same_shift (variables_of places vars) bits i shift
assigned_in_shift places [] bits shift each i = refl
assigned_in_shift places (u ∷ us) [] shift each i = refl
assigned_in_shift places (u ∷ us) (bit ∷ bits) shift each i =
    let x : Variable ℕ = variable_of places u in
    let rest = assigned_in_shift places us bits shift (λ v h. each v (Contains-tail u v us h)) i in
    let here : (x.at == shift) ≡ true = ap (λ s. s == shift) (each u (Contains-head u us)) ∙ test_refl shift in
    ap (λ r. cond (x.input == i) bit r) rest ∙ ap (λ t. cond t bit (assigned same_shift (variables_of places us) bits i shift)) (sym (ap (λ t. (x.input == i) && t) here ∙ and_true (x.input == i)))
  where
    and_true : (b : Bool) → (b && true) ≡ b
    and_true true = refl
    and_true false = refl

module _ (shift i : ℕ) where
  -- variables of other shifts tell nothing
  no_shift : (x : Variable ℕ) (xs : List (Variable ℕ)) (bit : Bool) (bits : List Bool) → (x.at ≡ shift → ⊥) → assigned same_shift (x ∷ xs) (bit ∷ bits) i shift ≡ assigned same_shift xs bits i shift
  no_shift x xs bit bits apart =
      ap (λ t. cond t bit (assigned same_shift xs bits i shift)) (ap (λ t. (x.input == i) && t) (test_differs x.at shift apart) ∙ and_false (x.input == i))
    where
      and_false : (b : Bool) → (b && false) ≡ false
      and_false true = refl
      and_false false = refl

  none_of_shift : (xs : List (Variable ℕ)) (bits : List Bool) → ((x : Variable ℕ) → Contains xs x → x.at ≡ shift → ⊥) → assigned same_shift xs bits i shift ≡ false
  none_of_shift [] bits none = refl
  none_of_shift (x ∷ xs) [] none = refl
  none_of_shift (x ∷ xs) (bit ∷ bits) none = no_shift x xs bit bits (none x (Contains-head x xs)) ∙ none_of_shift xs bits (λ y h. none y (Contains-tail x y xs h))

  -- so those before and those behind may be left out
  pub front_left_out : (xs ys : List (Variable ℕ)) (bs cs : List Bool) → length xs ≡ length bs → ((x : Variable ℕ) → Contains xs x → x.at ≡ shift → ⊥) → assigned same_shift (xs ++ ys) (bs ++ cs) i shift ≡ assigned same_shift ys cs i shift
  front_left_out [] ys [] cs h none = refl
  front_left_out [] ys (b ∷ bs) cs h none = absurd (let z : 0 ≡ suc (length bs) = h in omega arith)
  front_left_out (x ∷ xs) ys [] cs h none = absurd (let z : suc (length xs) ≡ 0 = h in omega arith)
  front_left_out (x ∷ xs) ys (b ∷ bs) cs h none =
      no_shift x (xs ++ ys) b (bs ++ cs) (none x (Contains-head x xs))
      ∙ front_left_out xs ys bs cs (let z : suc (length xs) ≡ suc (length bs) = h in omega arith) (λ y k. none y (Contains-tail x y xs k))

  pub back_left_out : (xs ys : List (Variable ℕ)) (bs cs : List Bool) → length xs ≡ length bs → ((x : Variable ℕ) → Contains ys x → x.at ≡ shift → ⊥) → assigned same_shift (xs ++ ys) (bs ++ cs) i shift ≡ assigned same_shift xs bs i shift
  back_left_out [] ys [] cs h none = none_of_shift ys cs none
  back_left_out [] ys (b ∷ bs) cs h none = absurd (let z : 0 ≡ suc (length bs) = h in omega arith)
  back_left_out (x ∷ xs) ys [] cs h none = absurd (let z : suc (length xs) ≡ 0 = h in omega arith)
  back_left_out (x ∷ xs) ys (b ∷ bs) cs h none =
      ap (λ r. cond ((x.input == i) && same_shift x.at shift) b r) (back_left_out xs ys bs cs (let z : suc (length xs) ≡ suc (length bs) = h in omega arith) none)
