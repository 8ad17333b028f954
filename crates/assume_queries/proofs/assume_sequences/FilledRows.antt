-- Rows with a meeting row where no variable stands.
use Rattle.std.proofs.Common.{◌≡◌, ℕ, zero, suc, ◌+◌, ◌-◌, ◌<◌, ◌≤◌, Bool, true, false, cond, nat_le, List, [], ◌∷◌, ◌++◌, length, get_or, refl, sym, ◌∙◌, ap, arith}
use Rattle.std.specs.Prelude.{◌||◌}
use Rattle.std.specs.List.{list_any}
use Rattle.circuit_theory.specs.Query.{Variable, same_shift}
use Rattle.circuit_theory.specs.Sequence.{sequence_value, sequence_row, sequence_rows_from, sequence_rows}
use Rattle.circuit_laws.proofs.Windows.{rows_length}
use Rattle.cbf_unfold.proofs.shift_variables.CycleRows.{rows_more, row_by_bits, le_true}
use Rattle.circuit_laws.specs.reset_laws.Reset.{reset_rows}
use Rattle.assume_laws.specs.Sequences.{filled}
use Rattle.assume_queries.specs.assume_sequences.Filled.{bit_of, row_or}

-- one more is asked
pub any_push : {X : Type 0} (test : X → Bool) (xs : List X) (x : X) → list_any test (xs ++ x ∷ []) ≡ (list_any test xs || test x)
any_push test [] x = or_false (test x)
  where
    or_false : (b : Bool) → (b || false) ≡ b
    or_false true = refl
    or_false false = refl
any_push {X} test (y ∷ xs) x = ap (λ b. test y || b) (any_push test xs x) ∙ assoc (test y)
  where
    assoc : (b : Bool) → (b || (list_any test xs || test x)) ≡ ((b || list_any test xs) || test x)
    assoc true = refl
    assoc false = refl

-- the row of a cycle
row_there : (last : ℕ) (a : ℕ → ℕ → Bool) (count from n k : ℕ) → k < n → get_or (sequence_rows_from last a count from n) k [] ≡ sequence_row last a (from + k) 0 count
row_there last a count from zero k h = absurd (omega (arith, h))
row_there last a count from (suc n) zero h = ap (λ c. sequence_row last a c 0 count) (let e : from ≡ from + 0 = omega arith in e)
row_there last a count from (suc n) (suc k) h = row_there last a count (suc from) n k (omega (arith, h)) ∙ ap (λ c. sequence_row last a c 0 count) (let e : suc from + k ≡ from + suc k = omega arith in e)

-- rows with the same bits at the cycle's place
row_same : (last cycle : ℕ) (x y : ℕ → ℕ → Bool) → ((i : ℕ) → x i (last - cycle) ≡ y i (last - cycle)) → (first count : ℕ) → sequence_row last x cycle first count ≡ sequence_row last y cycle first count
row_same last cycle x y h first zero = refl
row_same last cycle x y h first (suc count) =
    let head : sequence_value last x first cycle ≡ sequence_value last y first cycle = ap (λ b. cond (nat_le cycle last) b false) (h first) in
    let tail : sequence_row last x cycle (suc first) count ≡ sequence_row last y cycle (suc first) count = row_same last cycle x y h (suc first) count in
    cc

pub rows_size : (last : ℕ) (x : ℕ → ℕ → Bool) (count : ℕ) (rows : List (List Bool)) → rows ≡ sequence_rows last x count → length rows ≡ suc last
rows_size last x count rows e = ap length e ∙ rows_length last x count 0 (suc last)

-- the row that stays, or the meeting row, is the one with these bits
next_row : (last : ℕ) (x y : ℕ → ℕ → Bool) (rows : List (List Bool)) (meeting : List Bool) (cycle : ℕ) → cycle ≤ last → rows ≡ sequence_rows last x (length meeting) → (stays : Bool) →
    (stays ≡ true → (i : ℕ) → y i (last - cycle) ≡ x i (last - cycle)) → (stays ≡ false → (i : ℕ) → y i (last - cycle) ≡ bit_of meeting i) →
    row_or stays (get_or rows cycle []) meeting ≡ sequence_row last y cycle 0 (length meeting)
next_row last x y rows meeting cycle early is true kept other =
    ap (λ (rs : List (List Bool)). get_or rs cycle []) is
    ∙ (row_there last x (length meeting) 0 (suc last) cycle (omega (arith, early))
    ∙ (ap (λ k. sequence_row last x k 0 (length meeting)) (let e : 0 + cycle ≡ cycle = omega arith in e) ∙ row_same last cycle x y (λ i. sym (kept refl i)) 0 (length meeting)))
next_row last x y rows meeting cycle early is false kept other =
    row_by_bits last y cycle 0 (length meeting) meeting refl (λ i h. sym (other refl i) ∙ (ap (λ b. cond b (y i (last - cycle)) false) (sym (le_true cycle last early)) ∙ ap (λ k. sequence_value last y k cycle) (let e : i ≡ 0 + i = omega arith in e)))

-- one row more
more_rows : (last : ℕ) (y : ℕ → ℕ → Bool) (count cycle : ℕ) (made more : List (List Bool)) (row : List Bool) → more ≡ made ++ row ∷ [] → made ≡ sequence_rows_from last y count 0 cycle → row ≡ sequence_row last y cycle 0 count →
    more ≡ sequence_rows_from last y count 0 (cycle + 1)
more_rows last y count cycle made more row pushed before is =
    pushed
    ∙ (ap (λ (rs : List (List Bool)). rs ++ row ∷ []) before
    ∙ (ap (λ (r : List Bool). sequence_rows_from last y count 0 cycle ++ r ∷ []) is
    ∙ (ap (λ k. sequence_rows_from last y count 0 cycle ++ sequence_row last y k 0 count ∷ []) (let e : cycle ≡ 0 + cycle = omega arith in e)
    ∙ (sym (rows_more last y count 0 cycle) ∙ ap (λ n. sequence_rows_from last y count 0 n) (let e : suc cycle ≡ cycle + 1 = omega arith in e)))))

module _ (sides : List (Variable ℕ)) (meeting : List Bool) where
  abbrev full : (ℕ → ℕ → Bool) → ℕ → ℕ → Bool
  full x = filled same_shift sides (bit_of meeting) x

  pub shifts_more : (rows made more : List (List Bool)) (row : List Bool) (cycle : ℕ) (stays : Bool) → cycle < length rows → stays ≡ list_any (λ (v : Variable ℕ). same_shift v.at (length rows - 1 - cycle)) sides →
      row ≡ row_or stays (get_or rows cycle []) meeting → more ≡ made ++ row ∷ [] → (last : ℕ) (x : ℕ → ℕ → Bool) → rows ≡ sequence_rows last x (length meeting) →
      made ≡ sequence_rows_from last (full x) (length meeting) 0 cycle → more ≡ sequence_rows_from last (full x) (length meeting) 0 (cycle + 1)
  shifts_more rows made more row cycle stays inside has is pushed last x rows_are before =
      let long = rows_size last x (length meeting) rows rows_are in
      let place : length rows - 1 - cycle ≡ last - cycle = omega (arith, long) in
      let any : stays ≡ list_any (λ (v : Variable ℕ). same_shift v.at (last - cycle)) sides = has ∙ ap (λ k. list_any (λ (v : Variable ℕ). same_shift v.at k) sides) place in
      more_rows last (full x) (length meeting) cycle made more row pushed before
      (is
      ∙ next_row last x (full x) rows meeting cycle (omega (arith, inside, long)) rows_are stays (λ e i. ap (λ b. cond b (x i (last - cycle)) (bit_of meeting i)) (sym any ∙ e)) (λ e i. ap (λ b. cond b (x i (last - cycle)) (bit_of meeting i)) (sym any ∙ e)))

  pub cycles_more : (rows made more : List (List Bool)) (row : List Bool) (cycle : ℕ) (stays : Bool) → cycle < length rows → stays ≡ list_any (λ (v : Variable ℕ). same_shift v.at cycle) sides →
      row ≡ row_or stays (get_or rows cycle []) meeting → more ≡ made ++ row ∷ [] → (last : ℕ) (x : ℕ → ℕ → Bool) → rows ≡ reset_rows last x (length meeting) →
      made ≡ sequence_rows_from last (λ i k. full x i (last - k)) (length meeting) 0 cycle → more ≡ sequence_rows_from last (λ i k. full x i (last - k)) (length meeting) 0 (cycle + 1)
  cycles_more rows made more row cycle stays inside has is pushed last x rows_are before =
      let back : ℕ → ℕ → Bool = λ i k. x i (last - k) in
      let long = rows_size last back (length meeting) rows rows_are in
      let early : cycle ≤ last = omega (arith, inside, long) in
      let place : cycle ≡ last - (last - cycle) = omega (arith, early) in
      let any : stays ≡ list_any (λ (v : Variable ℕ). same_shift v.at (last - (last - cycle))) sides = has ∙ ap (λ k. list_any (λ (v : Variable ℕ). same_shift v.at k) sides) place in
      more_rows last (λ i k. full x i (last - k)) (length meeting) cycle made more row pushed before
      (is
      ∙ next_row last back (λ i k. full x i (last - k)) rows meeting cycle early rows_are stays (λ e i. ap (λ b. cond b (x i (last - (last - cycle))) (bit_of meeting i)) (sym any ∙ e))
      (λ e i. ap (λ b. cond b (x i (last - (last - cycle))) (bit_of meeting i)) (sym any ∙ e)))
