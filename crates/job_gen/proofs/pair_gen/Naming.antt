-- Cells of one name are one cell.
use Rattle.std.proofs.Common.{◌≡◌, ℕ, ◌+◌, ◌/◌, ◌%◌, ◌<◌, ◌==◌, ◌&&◌, not, Bool, true, false, true≢false, if◌then◌else◌, List, [], ◌∷◌, ◌++◌, decimal, refl, sym, ◌∙◌, ap, ap₂, arith, zero, suc, ne_eqb, append_assoc, length, slice_get, Some}
use Rattle.std.specs.List.{list_all}
use Rattle.std.specs.Fmt.{digits, digits_onto, digit_glyph}
use Rattle.std.proofs.lemmas.Bool.{and_parts, lt-ltb}
use Rattle.std.proofs.lemmas.Fmt.{decimal_injective}
use Rattle.std.proofs.lemmas.Option.{slice_get_within, same_Some}
use Rattle.circuit_theory.specs.declared.Side.{Side}
use Rattle.circuit_theory.specs.declared.Side.TheVariants.{A, B}
use Rattle.base_tables.specs.Table.{is_among}
use Rattle.base_tables.proofs.TableLemmas.{is_among-at}
use Rattle.job_gen.specs.declared.pair_gen.cells.Cell.{Cell}
use Rattle.job_gen.specs.declared.pair_gen.cells.Cell.TheVariants.{Input, Latch, Gate}
use Rattle.job_gen.specs.pair_gen.Cells.{name_of, output_name}
use Rattle.job_gen.specs.pair_gen.Sketch.{cell_at, number_of, first_of}
use Rattle.job_gen.proofs.pair_gen.Firsts.{length-first_of, first_of-at}
use Rattle.job_gen.proofs.pair_gen.Numbers.{IsPlaced, of_cell}

-- a text without `_`
abbrev lacks_bar : List ℕ → Bool
lacks_bar bytes = list_all (λ b. not (b == 95)) bytes

-- the first `_` parts a text in one way
split : (a b x y : List ℕ) → lacks_bar a ≡ true → lacks_bar b ≡ true → a ++ 95 ∷ x ≡ b ++ 95 ∷ y → (a ≡ b) × (x ≡ y)
split [] [] x y ha hb e = (refl, cc)
split [] (d ∷ b) x y ha hb e =
    let first : 95 ≡ d = cc in
    absurd (true≢false (sym (and_parts (not (d == 95)) (list_all (λ c. not (c == 95)) b) hb).0 ∙ ap (λ c. not (c == 95)) (sym first)))
split (c ∷ a) [] x y ha hb e =
    let first : c ≡ 95 = cc in
    absurd (true≢false (sym (and_parts (not (c == 95)) (list_all (λ d. not (d == 95)) a) ha).0 ∙ ap (λ d. not (d == 95)) first))
split (c ∷ a) (d ∷ b) x y ha hb e =
    let first : c ≡ d = cc in
    let rest : a ++ 95 ∷ x ≡ b ++ 95 ∷ y = cc in
    let parts = split a b x y (and_parts (not (c == 95)) (list_all (λ z. not (z == 95)) a) ha).1 (and_parts (not (d == 95)) (list_all (λ z. not (z == 95)) b) hb).1 rest in
    (ap₂ (λ z zs. z ∷ zs) first parts.0, parts.1)

glyph_lacks : (d : ℕ) → d < 10 → not (digit_glyph false d == 95) ≡ true
glyph_lacks d l = ap (λ (b : Bool). not ((if b then 48 + d else 87 + d) == 95)) (lt-ltb d 10 l) ∙ ap not (ne_eqb (48 + d) 95 (λ e. absurd (omega (arith, e, l))))

onto_lacks : (k n : ℕ) (xs : List ℕ) → lacks_bar xs ≡ true → lacks_bar (digits_onto k 10 false n xs) ≡ true
onto_lacks zero n xs h = h
onto_lacks (suc k) n xs h = by (n / 10 == 0) (onto_lacks k (n / 10) (digit_glyph false (n % 10) ∷ xs) more) more
  where
    more : lacks_bar (digit_glyph false (n % 10) ∷ xs) ≡ true
    more = ap₂ (λ a b. a && b) (glyph_lacks (n % 10) (omega arith)) h

    by : (b : Bool) → lacks_bar (digits_onto k 10 false (n / 10) (digit_glyph false (n % 10) ∷ xs)) ≡ true → lacks_bar (digit_glyph false (n % 10) ∷ xs) ≡ true →
        lacks_bar (if b then digit_glyph false (n % 10) ∷ xs else digits_onto k 10 false (n / 10) (digit_glyph false (n % 10) ∷ xs)) ≡ true
    by true rest one = one
    by false rest one = rest

-- a number holds no `_`
decimal_lacks : (n : ℕ) → lacks_bar (decimal n) ≡ true
unfolding digits
decimal_lacks n = onto_lacks 64 n [] refl

-- numbers below 42 of one text are one
same_number : (m n : ℕ) → m < 42 → n < 42 → decimal m ≡ decimal n → m ≡ n
same_number m n hm hn e = decimal_injective m n (omega arith) (omega arith) e

-- the names of a latch and of a gate, from their first letter on
letter_of : Side → ℕ
letter_of A = 113
letter_of B = 114

latch_form : (circuit : Side) (s c : ℕ) → name_of circuit (Latch s c) ≡ letter_of circuit ∷ (decimal s ++ 95 ∷ decimal c)
unfolding letter_of
latch_form A s c = ap (λ (rest : List ℕ). 113 ∷ rest) (append_assoc (decimal s) (95 ∷ []) (decimal c))
latch_form B s c = ap (λ (rest : List ℕ). 114 ∷ rest) (append_assoc (decimal s) (95 ∷ []) (decimal c))

gate_form : (circuit : Side) (s l c : ℕ) → name_of circuit (Gate s l c) ≡ 103 ∷ (decimal s ++ 95 ∷ (decimal l ++ 95 ∷ decimal c))
gate_form circuit s l c =
    let outer : (((decimal s ++ 95 ∷ []) ++ decimal l) ++ 95 ∷ []) ++ decimal c ≡ ((decimal s ++ 95 ∷ []) ++ decimal l) ++ 95 ∷ decimal c =
    append_assoc ((decimal s ++ 95 ∷ []) ++ decimal l) (95 ∷ []) (decimal c) in
    let middle : ((decimal s ++ 95 ∷ []) ++ decimal l) ++ 95 ∷ decimal c ≡ (decimal s ++ 95 ∷ []) ++ (decimal l ++ 95 ∷ decimal c) =
    append_assoc (decimal s ++ 95 ∷ []) (decimal l) (95 ∷ decimal c) in
    let inner : (decimal s ++ 95 ∷ []) ++ (decimal l ++ 95 ∷ decimal c) ≡ decimal s ++ 95 ∷ (decimal l ++ 95 ∷ decimal c) =
    append_assoc (decimal s) (95 ∷ []) (decimal l ++ 95 ∷ decimal c) in
    ap (λ (rest : List ℕ). 103 ∷ rest) (outer ∙ middle ∙ inner)

-- another first letter
letter_high : (circuit : Side) → 103 < letter_of circuit
unfolding letter_of
letter_high A = omega arith
letter_high B = omega arith

letter_low : (circuit : Side) → letter_of circuit < 120
unfolding letter_of
letter_low A = omega arith
letter_low B = omega arith

apart : (x y : ℕ) (xs ys : List ℕ) → x ∷ xs ≡ y ∷ ys → x < y → ⊥
apart x y xs ys e l = let first : x ≡ y = cc in omega (arith, first, l)

same_latch : (circuit : Side) (s c t d : ℕ) → IsPlaced (Latch s c) → IsPlaced (Latch t d) → name_of circuit (Latch s c) ≡ name_of circuit (Latch t d) → Latch s c ≡ Latch t d
same_latch circuit s c t d h k e =
    let whole : letter_of circuit ∷ (decimal s ++ 95 ∷ decimal c) ≡ letter_of circuit ∷ (decimal t ++ 95 ∷ decimal d) = sym (latch_form circuit s c) ∙ e ∙ latch_form circuit t d in
    let rest : decimal s ++ 95 ∷ decimal c ≡ decimal t ++ 95 ∷ decimal d = cc in
    let parts = split (decimal s) (decimal t) (decimal c) (decimal d) (decimal_lacks s) (decimal_lacks t) rest in
    ap₂ (λ (m n : ℕ). Latch m n) (same_number s t (omega (arith, h.0)) (omega (arith, k.0)) parts.0) (same_number c d (omega (arith, h.1)) (omega (arith, k.1)) parts.1)

same_gate : (circuit : Side) (s l c t m d : ℕ) → IsPlaced (Gate s l c) → IsPlaced (Gate t m d) → name_of circuit (Gate s l c) ≡ name_of circuit (Gate t m d) → Gate s l c ≡ Gate t m d
same_gate circuit s l c t m d h k e =
    let whole : 103 ∷ (decimal s ++ 95 ∷ (decimal l ++ 95 ∷ decimal c)) ≡ 103 ∷ (decimal t ++ 95 ∷ (decimal m ++ 95 ∷ decimal d)) = sym (gate_form circuit s l c) ∙ e ∙ gate_form circuit t m d in
    let rest : decimal s ++ 95 ∷ (decimal l ++ 95 ∷ decimal c) ≡ decimal t ++ 95 ∷ (decimal m ++ 95 ∷ decimal d) = cc in
    let stages = split (decimal s) (decimal t) (decimal l ++ 95 ∷ decimal c) (decimal m ++ 95 ∷ decimal d) (decimal_lacks s) (decimal_lacks t) rest in
    let parts = split (decimal l) (decimal m) (decimal c) (decimal d) (decimal_lacks l) (decimal_lacks m) stages.1 in
    ap₂ (λ (a b : ℕ). Gate a b c) (same_number s t (omega (arith, h.0)) (omega (arith, k.0)) stages.0) (same_number l m h.1 k.1 parts.0)
    ∙ ap (Gate t m) (same_number c d (omega (arith, h.2)) (omega (arith, k.2)) parts.1)

-- cells of one name are one
pub same_cell : (circuit : Side) (x y : Cell) → IsPlaced x → IsPlaced y → name_of circuit x ≡ name_of circuit y → x ≡ y
same_cell circuit (Input c) (Input d) h k e =
    let whole : 120 ∷ decimal c ≡ 120 ∷ decimal d = e in
    let rest : decimal c ≡ decimal d = cc in
    ap Input (same_number c d (omega (arith, h)) (omega (arith, k)) rest)
same_cell circuit (Input c) (Latch t d) h k e = absurd (apart (letter_of circuit) 120 (decimal t ++ 95 ∷ decimal d) (decimal c) (sym (latch_form circuit t d) ∙ sym e) (letter_low circuit))
same_cell circuit (Input c) (Gate t m d) h k e = absurd (apart 103 120 (decimal t ++ 95 ∷ (decimal m ++ 95 ∷ decimal d)) (decimal c) (sym (gate_form circuit t m d) ∙ sym e) (omega arith))
same_cell circuit (Latch s c) (Input d) h k e = absurd (apart (letter_of circuit) 120 (decimal s ++ 95 ∷ decimal c) (decimal d) (sym (latch_form circuit s c) ∙ e) (letter_low circuit))
same_cell circuit (Latch s c) (Latch t d) h k e = same_latch circuit s c t d h k e
same_cell circuit (Latch s c) (Gate t m d) h k e =
    absurd (apart 103 (letter_of circuit) (decimal t ++ 95 ∷ (decimal m ++ 95 ∷ decimal d)) (decimal s ++ 95 ∷ decimal c) (sym (gate_form circuit t m d) ∙ sym e ∙ latch_form circuit s c) (letter_high circuit))
same_cell circuit (Gate s l c) (Input d) h k e = absurd (apart 103 120 (decimal s ++ 95 ∷ (decimal l ++ 95 ∷ decimal c)) (decimal d) (sym (gate_form circuit s l c) ∙ e) (omega arith))
same_cell circuit (Gate s l c) (Latch t d) h k e =
    absurd (apart 103 (letter_of circuit) (decimal s ++ 95 ∷ (decimal l ++ 95 ∷ decimal c)) (decimal t ++ 95 ∷ decimal d) (sym (gate_form circuit s l c) ∙ e ∙ latch_form circuit t d) (letter_high circuit))
same_cell circuit (Gate s l c) (Gate t m d) h k e = same_gate circuit s l c t m d h k e

-- numbers of cells of one name are one
same_place : (circuit : Side) (m n : ℕ) → m < 5200 → n < 5200 → name_of circuit (cell_at m) ≡ name_of circuit (cell_at n) → m ≡ n
same_place circuit m n hm hn e =
    let one = of_cell m hm in
    let other = of_cell n hn in
    sym one.number ∙ ap number_of (same_cell circuit (cell_at m) (cell_at n) one.placed other.placed e) ∙ other.number

-- the next name is new
pub fresh : (circuit : Side) (names : List (List ℕ)) (n : ℕ) (name : List ℕ) → names ≡ first_of (λ m. name_of circuit (cell_at m)) n → n < 5200 → name ≡ name_of circuit (cell_at n) → is_among names name ≡ false
fresh circuit names n name list within here = by (is_among names name) refl
  where
    by : (b : Bool) → is_among names name ≡ b → is_among names name ≡ false
    by false e = e
    by true e =
        let at = is_among-at names name e in
        let low = slice_get_within names at.0 name at.1 in
        let before : at.0 < n = let long = ap length list ∙ length-first_of (λ m. name_of circuit (cell_at m)) n in omega (arith, low, long) in
        let there : Some (name_of circuit (cell_at at.0)) ≡ Some name =
        sym (first_of-at (λ m. name_of circuit (cell_at m)) n at.0 before) ∙ ap (λ (ns : List (List ℕ)). slice_get ns at.0) (sym list) ∙ at.1 in
        let same = same_place circuit at.0 n (omega arith) within (same_Some (name_of circuit (cell_at at.0)) name there ∙ here) in
        absurd (omega (arith, same, before))

-- the names of the outputs are distinct
pub same_output : (c d : ℕ) → c < 40 → d < 40 → output_name c ≡ output_name d → c ≡ d
same_output c d h k e =
    let whole : 121 ∷ decimal c ≡ 121 ∷ decimal d = e in
    let rest : decimal c ≡ decimal d = cc in
    same_number c d (omega (arith, h)) (omega (arith, k)) rest
