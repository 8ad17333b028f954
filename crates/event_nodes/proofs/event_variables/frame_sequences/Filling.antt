-- Rows, variable by variable.
use Rattle.std.proofs.Common.{◌≡◌, ◌≢◌, ◌∙◌, ◌+◌, ◌-◌, ◌<◌, ◌≤◌, ℕ, zero, suc, Bool, true, false, cond, List, [], ◌∷◌, length, set, drop, get_or, slice_get, Some, refl, sym, ap, subst, arith, inl, inr, add-one, Vec, length-set, get_or-set_same, get_or-set_other, nat_le}
use Rattle.std.specs.Prelude.{◌⊎◌, ◌&&◌, ◌==◌, replicate}
use Rattle.std.specs.List.{All}
use Rattle.std.specs.declared.alloc.Global.{Global}
use Rattle.std.proofs.Math.Seq.{drop-cons}
use Rattle.std.proofs.lemmas.List.{length-replicate}
use Rattle.std.proofs.lemmas.List.Elements.{All-contains}
use Rattle.std.proofs.lemmas.Option.{slice_get_within, slice_get-get_or, get_or_from_slice_get}
use Rattle.circuit_theory.specs.Names.{same_name}
use Rattle.circuit_theory.specs.Query.{Variable}
use Rattle.circuit_theory.specs.Sequence.{sequence_value, sequence_row, sequence_rows, sequence_rows_from}
use Rattle.circuit_theory.proofs.Inputs.{same_name-sound, test_refl, test_same}
use Rattle.circuit_theory.proofs.Lists.{of_at}
use Rattle.circuit_theory.proofs.Numbers.{same_name-refl}
use Rattle.circuit_theory.proofs.Sums.{same_or_not}
use Rattle.circuit_theory.specs.EventFrames.{frame_of}
use Rattle.circuit_theory.specs.Frame.{always_node, bits_as_shifts}
use Rattle.event_nodes.specs.Nodes.{EventGraphView}
use Rattle.event_nodes.specs.event_variables.Variables.{variable_of, variables_of}
use Rattle.event_nodes.specs.event_variables.frame_sequences.Frames.{IsRowOf, AreRowsOf, HasPut, with_variable, rows_in}

differs : (i j : ℕ) → i ≢ j → (i == j) ≡ false
differs i j apart = go (i == j) refl
  where
    go : (b : Bool) → (i == j) ≡ b → (i == j) ≡ false
    go true e = absurd (apart (test_same i j e))
    go false e = e

early_true : (m n : ℕ) → m ≤ n → nat_le m n ≡ true
early_true m n h = grind arith

-- a row by its bits
row_by_bits : (last : ℕ) (a : ℕ → ℕ → Bool) (cycle first count : ℕ) (row : List Bool) → length row ≡ count → ((i : ℕ) → i < count → get_or row i false ≡ sequence_value last a (first + i) cycle) → row ≡ sequence_row last a cycle first count
row_by_bits last a cycle first zero [] long bits = refl
row_by_bits last a cycle first zero (b ∷ row) long bits = absurd (let z : suc (length row) ≡ 0 = long in omega arith)
row_by_bits last a cycle first (suc count) [] long bits = absurd (let z : 0 ≡ suc count = long in omega arith)
row_by_bits last a cycle first (suc count) (b ∷ row) long bits =
    let head : b ≡ sequence_value last a first cycle = bits 0 (omega arith) ∙ ap (λ k. sequence_value last a k cycle) (let e : first + 0 ≡ first = omega arith in e) in
    let tail : row ≡ sequence_row last a cycle (suc first) count =
    row_by_bits last a cycle (suc first) count row (let z : suc (length row) ≡ suc count = long in omega arith)
    (λ i h. bits (suc i) (omega arith) ∙ ap (λ k. sequence_value last a k cycle) (let e : first + suc i ≡ suc first + i = omega arith in e)) in
    cc

always_long : (k : ℕ) → length (always_node k) ≡ k
always_long zero = refl
always_long (suc k) = ap suc (always_long k)

-- two paths that differ are no one name
not_same : (xs ys : List ℕ) → xs ≢ ys → same_name xs ys ≡ false
not_same xs ys differ = go (same_name xs ys) refl
  where
    go : (b : Bool) → same_name xs ys ≡ b → same_name xs ys ≡ false
    go true e = absurd (differ (same_name-sound xs ys e))
    go false e = e

module _ (x : Variable (List ℕ)) (bit : Bool) (a : ℕ → ℕ → Bool) (i k : ℕ) where
  apart : x.at ≢ always_node k → with_variable x bit a i k ≡ a i k
  apart differ = go (x.input == i) refl
    where
      go : (b : Bool) → (x.input == i) ≡ b → with_variable x bit a i k ≡ a i k
      go true e = ap (λ t. cond (t && same_name x.at (always_node k)) bit (a i k)) e ∙ ap (λ t. cond t bit (a i k)) (not_same x.at (always_node k) differ)
      go false e = ap (λ t. cond (t && same_name x.at (always_node k)) bit (a i k)) e

  other_input : x.input ≢ i → with_variable x bit a i k ≡ a i k
  other_input differ = ap (λ t. cond (t && same_name x.at (always_node k)) bit (a i k)) (differs x.input i differ)

  own : x.input ≡ i → x.at ≡ always_node k → with_variable x bit a i k ≡ bit
  own input at =
      ap (λ t. cond (t && same_name x.at (always_node k)) bit (a i k)) (ap (λ n. x.input == n) (sym input) ∙ test_refl x.input)
      ∙ ap (λ t. cond t bit (a i k)) (ap (λ (ys : List ℕ). same_name x.at ys) (sym at) ∙ same_name-refl x.at)

-- a variable that stands in none of the rows
pub put_none : (last count : ℕ) (x : Variable (List ℕ)) (bit : Bool) (rows : List (Vec Bool Global)) → ((k : ℕ) → k ≤ last → x.at ≡ always_node k → x.input < count → ⊥) → (a : ℕ → ℕ → Bool) → AreRowsOf last count a rows → AreRowsOf last count (with_variable x bit a) rows
put_none last count x bit rows none a h = record {
  long = h.long;
  each = λ cycle row at. (let r = h.each cycle row at in (r.0, λ i inside. r.1 i inside ∙ sym (pick i inside (last - cycle) (omega arith))));
}
  where
    pick : (i : ℕ) → i < count → (k : ℕ) → k ≤ last → with_variable x bit a i k ≡ a i k
    pick i inside k early = go (same_or_not x.input i)
      where
        go : (x.input ≡ i) ⊎ (x.input ≢ i) → with_variable x bit a i k ≡ a i k
        go (inl e) = apart x bit a i k (λ at. none k early at (omega (arith, e, inside)))
        go (inr differ) = other_input x bit a i k differ

-- one before the first row, or of no input of the rows
pub put_past : (last count steps : ℕ) (x : Variable (List ℕ)) (bit : Bool) (rows : List (Vec Bool Global)) → x.at ≡ always_node steps → (last < steps) ⊎ (count ≤ x.input) → (a : ℕ → ℕ → Bool) → AreRowsOf last count a rows → AreRowsOf last count (with_variable x bit a) rows
put_past last count steps x bit rows path past = put_none last count x bit rows (λ k early at inside. go k early (sym (always_long steps) ∙ (ap length (sym path ∙ at) ∙ always_long k)) inside past)
  where
    go : (k : ℕ) → k ≤ last → steps ≡ k → x.input < count → (last < steps) ⊎ (count ≤ x.input) → ⊥
    go k early same inside (inl l) = omega (arith, early, same, l)
    go k early same inside (inr l) = omega (arith, inside, l)

-- no bit is set in rows that were just made
pub row_unset : (count : ℕ) (row : List Bool) → row ≡ replicate count false → (i : ℕ) → i < count → get_or row i false ≡ false
row_unset count row is i inside = ap (λ (r : List Bool). get_or r i false) is ∙ go count i
  where
    go : (n i : ℕ) → get_or (replicate n false) i false ≡ false
    go zero zero = refl
    go zero (suc i) = refl
    go (suc n) zero = refl
    go (suc n) (suc i) = go n i

-- rows that were just made
pub unset_are : (last count : ℕ) (rows : List (Vec Bool Global)) → length rows ≡ last + 1 → All (λ (row : Vec Bool Global). row.items ≡ replicate count false) rows → AreRowsOf last count (λ i k. false) rows
unset_are last count rows long unset = record {
  long = long;
  each = λ cycle row at. (let is = All-contains (λ (r : Vec Bool Global). r.items ≡ replicate count false) rows row unset (of_at rows cycle row at) in (ap length is ∙ length-replicate count false, row_unset count row.items is));
}

-- one variable more, before those behind it
pub fill_next : (w : EventGraphView) (vars : List ℕ) (bits : List Bool) (left last count : ℕ) (rows new : List (Vec Bool Global)) → left ≤ length vars → length bits ≡ length vars → 0 < left → HasPut last count (variable_of w (get_or vars (left - 1) 0)) (get_or bits (left - 1) false) rows new →
    AreRowsOf last count (bits_as_shifts (frame_of (variables_of w (drop left vars)) (drop left bits))) rows → AreRowsOf last count (bits_as_shifts (frame_of (variables_of w (drop (left - 1) vars)) (drop (left - 1) bits))) new
fill_next w vars bits left last count rows new within each some put h =
    subst (λ (vs : List ℕ). AreRowsOf last count (bits_as_shifts (frame_of (variables_of w vs) (drop (left - 1) bits))) new) (sym (front vars 0 (omega (arith, within, some))))
    (subst (λ (bs : List Bool). AreRowsOf last count (bits_as_shifts (frame_of (variables_of w (get_or vars (left - 1) 0 ∷ drop left vars)) bs)) new) (sym (front bits false (omega (arith, within, some, each))))
    (put (bits_as_shifts (frame_of (variables_of w (drop left vars)) (drop left bits))) h))
  where
    front : {X : Type 0} (xs : List X) (x : X) → left - 1 < length xs → drop (left - 1) xs ≡ get_or xs (left - 1) x ∷ drop left xs
    front xs x inside = drop-cons xs (left - 1) x inside ∙ ap (λ k. get_or xs (left - 1) x ∷ drop k xs) (let e : suc (left - 1) ≡ left = omega (arith, some) in e)

-- one that stands in a row
pub put_one : (last count steps : ℕ) (x : Variable (List ℕ)) (bit : Bool) (rows : List (Vec Bool Global)) (old made : Vec Bool Global) → steps ≤ last → x.input < count → x.at ≡ always_node steps → slice_get rows (last - steps) ≡ Some old → made.items ≡ set old.items x.input bit →
    (a : ℕ → ℕ → Bool) → AreRowsOf last count a rows → AreRowsOf last count (with_variable x bit a) (set rows (last - steps) made)
put_one last count steps x bit rows old made early inside path at_old is_made a h = record {
  long = length-set rows (last - steps) made ∙ h.long;
  each = λ cycle row at. go cycle row at (same_or_not cycle (last - steps));
}
  where
    new : List (Vec Bool Global)
    new = set rows (last - steps) made

    before : IsRowOf last count a (last - steps) old.items
    before = h.each (last - steps) old at_old

    in_rows : last - steps < length rows
    in_rows = slice_get_within rows (last - steps) old at_old

    own_row : (i : ℕ) → i < count → get_or (set old.items x.input bit) i false ≡ with_variable x bit a i (last - (last - steps))
    own_row i in_count = pick (same_or_not i x.input)
      where
        back : last - (last - steps) ≡ steps
        back = omega (arith, early)

        pick : (i ≡ x.input) ⊎ (i ≢ x.input) → get_or (set old.items x.input bit) i false ≡ with_variable x bit a i (last - (last - steps))
        pick (inl e) =
            ap (λ n. get_or (set old.items x.input bit) n false) e ∙ (get_or-set_same old.items x.input bit false (let z : x.input < length old.items = omega (arith, before.0, inside) in z)
            ∙ sym (own x bit a i (last - (last - steps)) (sym e) (path ∙ ap always_node (sym back))))
        pick (inr differ) = get_or-set_other old.items x.input i bit false differ ∙ (before.1 i in_count ∙ sym (other_input x bit a i (last - (last - steps)) (λ e. differ (sym e))))

    go : (cycle : ℕ) (row : Vec Bool Global) → slice_get new cycle ≡ Some row → (cycle ≡ last - steps) ⊎ (cycle ≢ last - steps) → IsRowOf last count (with_variable x bit a) cycle row.items
    go cycle row at (inl e) =
        subst (λ c. IsRowOf last count (with_variable x bit a) c row.items) (sym e)
        (subst (λ (r : Vec Bool Global). IsRowOf last count (with_variable x bit a) (last - steps) r.items) same
        (subst (IsRowOf last count (with_variable x bit a) (last - steps)) (sym is_made) (length-set old.items x.input bit ∙ before.0, own_row)))
      where
        same : made ≡ row
        same = sym (get_or-set_same rows (last - steps) made row in_rows) ∙ get_or_from_slice_get new (last - steps) row row (ap (slice_get new) (sym e) ∙ at)
    go cycle row at (inr differ) =
        (r.0, λ i in_count. r.1 i in_count ∙ sym (apart x bit a i (last - cycle) (λ e. other_cycle (lengths e))))
      where
        in_old : cycle < length rows
        in_old = let within = slice_get_within new cycle row at in let long = length-set rows (last - steps) made in omega (arith, within, long)

        old_row : get_or rows cycle row ≡ row
        old_row = sym (get_or-set_other rows (last - steps) cycle made row differ) ∙ get_or_from_slice_get new cycle row row at

        r : IsRowOf last count a cycle row.items
        r = h.each cycle row (slice_get-get_or rows cycle row in_old ∙ ap Some old_row)

        lengths : {k : ℕ} → x.at ≡ always_node k → steps ≡ k
        lengths {k} e = sym (always_long steps) ∙ (ap length (sym path ∙ e) ∙ always_long k)

        other_cycle : steps ≡ last - cycle → ⊥
        other_cycle e = let long = h.long in differ (omega (arith, e, in_old, long, early))

-- the rows are the sequence
pub rows_are : (last count : ℕ) (a : ℕ → ℕ → Bool) (rows : List (Vec Bool Global)) → AreRowsOf last count a rows → rows_in rows ≡ sequence_rows last a count
rows_are last count a rows h = go rows 0 (suc last) (h.long ∙ add-one last) (omega arith) (λ j row at. subst (λ c. IsRowOf last count a c row.items) (let e : j ≡ 0 + j = omega arith in e) (h.each j row at))
  where
    value_is : (i cycle : ℕ) → cycle ≤ last → a i (last - cycle) ≡ sequence_value last a i cycle
    value_is i cycle early = sym (ap (λ t. cond t (a i (last - cycle)) false) (early_true cycle last early))

    go : (rest : List (Vec Bool Global)) (cycle n : ℕ) → length rest ≡ n → cycle + n ≤ suc last → ((j : ℕ) (row : Vec Bool Global) → slice_get rest j ≡ Some row → IsRowOf last count a (cycle + j) row.items) → rows_in rest ≡ sequence_rows_from last a count cycle n
    go [] cycle zero long within each = refl
    go [] cycle (suc n) long within each = absurd (let z : 0 ≡ suc n = long in omega arith)
    go (row ∷ rest) cycle zero long within each = absurd (let z : suc (length rest) ≡ 0 = long in omega arith)
    go (row ∷ rest) cycle (suc n) long within each =
        let here = subst (λ c. IsRowOf last count a c row.items) (let e : cycle + 0 ≡ cycle = omega arith in e) (each 0 row refl) in
        let first : row.items ≡ sequence_row last a cycle 0 count =
        row_by_bits last a cycle 0 count row.items here.0 (λ i inside. here.1 i inside ∙ (value_is i cycle (omega (arith, within)) ∙ ap (λ k. sequence_value last a k cycle) (let e : i ≡ 0 + i = omega arith in e))) in
        let others : rows_in rest ≡ sequence_rows_from last a count (suc cycle) n =
        go rest (suc cycle) n (let z : suc (length rest) ≡ suc n = long in omega arith) (omega (arith, within)) (λ j r at. subst (λ c. IsRowOf last count a c r.items) (let e : cycle + suc j ≡ suc cycle + j = omega arith in e) (each (suc j) r at)) in
        cc
