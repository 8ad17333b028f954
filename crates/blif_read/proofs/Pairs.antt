-- Where a pair is split.
use Rattle.std.proofs.Common.{◌≡◌, ℕ, ◌+◌, ◌<◌, ◌≤◌, Bool, true, false, ◌&&◌, List, [], ◌∷◌, length, take, drop, get_or, refl, sym, ◌∙◌, ap, arith, length-drop, length-take}
use Rattle.std.specs.List.{before_first, after_first, position_or_len}
use Rattle.std.proofs.lemmas.List.Sums.{position_or_len_is}
use Rattle.blif_read.specs.blif_lines.Lines.{is_empty}
use Rattle.blif_read.specs.Spelled.{is_equals}
use Rattle.blif_read.specs.Fault.{is_pair}

pub place_found : (p : ℕ → Bool) (xs : List ℕ) (i : ℕ) → i < length xs → ((k : ℕ) → k < i → p (get_or xs k 0) ≡ false) → p (get_or xs i 0) ≡ true → i ≡ position_or_len p xs
place_found p xs i h before here = sym (position_or_len_is p xs i 0 (omega arith) before (λ _. here))

pub place_none : (p : ℕ → Bool) (xs : List ℕ) → ((k : ℕ) → k < length xs → p (get_or xs k 0) ≡ false) → length xs ≡ position_or_len p xs
place_none p xs before = sym (position_or_len_is p xs (length xs) 0 (omega arith) before (λ h. absurd (omega arith)))

some_items : {X : Type 0} (xs : List X) → 0 < length xs → is_empty xs ≡ false
some_items [] h = absurd (omega arith)
some_items (x ∷ xs) h = refl

no_items : {X : Type 0} (xs : List X) → length xs ≡ 0 → is_empty xs ≡ true
no_items [] h = refl
no_items (x ∷ xs) h = absurd (omega arith)

-- with bytes before and after the place of `=`
pub pair_at : (token : List ℕ) (place : ℕ) → place ≡ position_or_len is_equals token → 0 < place → place + 1 < length token → is_pair token ≡ true
pair_at token place e some more =
    let before : is_empty (before_first is_equals token) ≡ false = some_items (take (position_or_len is_equals token) token) (simp (length-take, ← e) (omega arith)) in
    let after : is_empty (after_first is_equals token) ≡ false = some_items (drop (position_or_len is_equals token + 1) token) (simp (length-drop, ← e) (omega arith)) in
    rw before (rw after refl)

-- with nothing before it
pub no_formal : (token : List ℕ) (place : ℕ) → place ≡ position_or_len is_equals token → place ≡ 0 → is_pair token ≡ false
no_formal token place e none =
    let before : is_empty (before_first is_equals token) ≡ true = ap (λ n. is_empty (take n token)) (sym e ∙ none) in
    rw before refl

andb_false : (b : Bool) → (b && false) ≡ false
andb_false true = refl
andb_false false = refl

-- with nothing after it
pub no_actual : (token : List ℕ) (place : ℕ) → place ≡ position_or_len is_equals token → length token ≤ place + 1 → is_pair token ≡ false
no_actual token place e none =
    let after : is_empty (after_first is_equals token) ≡ true = no_items (drop (position_or_len is_equals token + 1) token) (simp (length-drop, ← e) (omega arith)) in
    rw after (andb_false _)
