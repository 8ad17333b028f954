-- Rows under other names, and rows behind others.
use Rattle.std.proofs.Common.{◌≡◌, ℕ, zero, suc, ◌+◌, ◌<◌, Bool, List, [], ◌∷◌, ◌++◌, length, get_or, slice_get, refl, sym, ◌∙◌, ap, subst, arith, inl, inr, ◌⊎◌, Some}
use Rattle.std.proofs.lemmas.Option.{none-some, same_Some, slice_get_within, slice_get-get_or}
use Rattle.cycle_sim.proofs.Lists.{below_or_here}
use Rattle.restart.specs.Sequence.{IsRowUnder, AreRowsUnder}

-- what stands in a list stands there in a longer one
pub before_more : {X : Type 0} (xs ys : List X) (i : ℕ) (x : X) → slice_get xs i ≡ Some x → slice_get (xs ++ ys) i ≡ Some x
before_more [] ys i x h = absurd (none-some x h)
before_more (y ∷ xs) ys zero x h = h
before_more (y ∷ xs) ys (suc i) x h = before_more xs ys i x h

-- what stands in a list with one more at its end stood there, or is the one
pub last_or_before : {X : Type 0} (xs : List X) (y : X) (i : ℕ) (x : X) → slice_get (xs ++ y ∷ []) i ≡ Some x → (slice_get xs i ≡ Some x) ⊎ ((i ≡ length xs) × (y ≡ x))
last_or_before [] y zero x h = inr (refl, some_is h)
  where
    some_is : Some y ≡ Some x → y ≡ x
    some_is q = cc
last_or_before [] y (suc i) x h = absurd (none-some x h)
last_or_before (z ∷ xs) y zero x h = inl h
last_or_before (z ∷ xs) y (suc i) x h = go (last_or_before xs y i x h)
  where
    go : (slice_get xs i ≡ Some x) ⊎ ((i ≡ length xs) × (y ≡ x)) → (slice_get xs i ≡ Some x) ⊎ ((suc i ≡ suc (length xs)) × (y ≡ x))
    go (inl k) = inl k
    go (inr k) = inr (ap suc k.0, k.1)

-- the one behind a list stands there
pub at_end : {X : Type 0} (xs : List X) (x : X) → slice_get (xs ++ x ∷ []) (length xs) ≡ Some x
at_end [] x = refl
at_end (y ∷ xs) x = at_end xs x

-- the bits of so many names
abbrev pub RowUpTo : List (List ℕ) → List Bool → List (List ℕ) → List Bool → ℕ → Type 0
RowUpTo header row names bits k =
    (i j : ℕ) (name : List ℕ) (bit : Bool) → slice_get header i ≡ Some name → slice_get row i ≡ Some bit → slice_get names j ≡ Some name → j < k → slice_get bits j ≡ Some bit

-- one bit more
pub bit_more : (header : List (List ℕ)) (row : List Bool) (names : List (List ℕ)) (bits : List Bool) (k : ℕ) (name : List ℕ) (b : Bool) → length bits ≡ k → slice_get names k ≡ Some name →
    ((i : ℕ) (bit : Bool) → slice_get header i ≡ Some name → slice_get row i ≡ Some bit → b ≡ bit) → RowUpTo header row names bits k → RowUpTo header row names (bits ++ b ∷ []) (k + 1)
bit_more header row names bits k name b size at is before i j n bit h r m low = go (below_or_here j k low)
  where
    go : (j < k) ⊎ (j ≡ k) → slice_get (bits ++ b ∷ []) j ≡ Some bit
    go (inl l) = before_more bits (b ∷ []) j bit (before i j n bit h r m l)
    go (inr e) =
        let same : name ≡ n = same_Some name n (sym at ∙ (ap (slice_get names) (sym e) ∙ m)) in
        ap (slice_get (bits ++ b ∷ [])) (e ∙ sym size) ∙ (at_end bits b ∙ ap Some (is i bit (h ∙ ap Some (sym same)) r))

-- each of the rows that are made has the bits of its row
abbrev pub RowsSo : List (List ℕ) → List (List Bool) → List (List ℕ) → List (List Bool) → Type 0
RowsSo header rows names made = (t : ℕ) (row bits : List Bool) → slice_get rows t ≡ Some row → slice_get made t ≡ Some bits → IsRowUnder header row names bits

-- one row more
pub row_more : (header : List (List ℕ)) (rows : List (List Bool)) (names : List (List ℕ)) (made : List (List Bool)) (k : ℕ) (row b : List Bool) → length made ≡ k → slice_get rows k ≡ Some row → IsRowUnder header row names b →
    RowsSo header rows names made → RowsSo header rows names (made ++ b ∷ [])
row_more header rows names made k row b size at is before t r bits here there = go (last_or_before made b t bits there)
  where
    go : (slice_get made t ≡ Some bits) ⊎ ((t ≡ length made) × (b ≡ bits)) → IsRowUnder header r names bits
    go (inl m) = before t r bits here m
    go (inr e) =
        let same : row ≡ r = same_Some row r (sym at ∙ (ap (slice_get rows) (sym (e.0 ∙ size)) ∙ here)) in
        subst (λ (c : List Bool). IsRowUnder header r names c) e.1 (subst (λ (c : List Bool). IsRowUnder header c names b) same is)

-- rows that begin with such rows begin with the rows
pub begins_with_rows : (header : List (List ℕ)) (rows made more : List (List Bool)) (names : List (List ℕ)) (all : List (List Bool)) → AreRowsUnder header rows names made → all ≡ made ++ more →
    (t : ℕ) (row : List Bool) → slice_get rows t ≡ Some row → (bits : List Bool) × (slice_get all t ≡ Some bits) × IsRowUnder header row names bits
begins_with_rows header rows made more names all are is t row at =
    let low = slice_get_within rows t row at in
    let here : slice_get made t ≡ Some (get_or made t []) = slice_get-get_or made t [] (omega (arith, low, are.size)) in
    (get_or made t [], ap (λ (rs : List (List Bool)). slice_get rs t) is ∙ before_more made more t (get_or made t []) here, are.each t row (get_or made t []) at here)
