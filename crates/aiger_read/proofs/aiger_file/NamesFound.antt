-- Names by their keys, and names that repeat.
use Rattle.std.proofs.Common.{◌≡◌, ℕ, zero, suc, ◌+◌, Bool, true, false, not, cond, ◌||◌, List, [], ◌∷◌, ◌++◌, slice_get, Some, refl, sym, ◌∙◌, ap, arith, append_assoc, append-nil}
use Rattle.std.specs.Prelude.{bytes_eq}
use Rattle.std.proofs.lemmas.Slice.Eq.{bytes_eq-Decides}
use Rattle.std.proofs.lemmas.Option.{none-some, same_Some}
use Rattle.base_tables.specs.Table.{is_among, AreDistinct}
use Rattle.aiger_read.specs.declared.aiger_file.symbol.Named.{Named}
use Rattle.aiger_read.specs.aiger_file.Names.{name_beside, name_of, names_from, repeats}

distinct_rest : (key : List ℕ) (keys : List (List ℕ)) → AreDistinct (key ∷ keys) → AreDistinct keys
distinct_rest key keys once = λ i j x at_i at_j. let e : suc i ≡ suc j = once (suc i) (suc j) x at_i at_j in cc

-- the name at the place of its key
pub name_there : (keys names : List (List ℕ)) (key name : List ℕ) (id : ℕ) → AreDistinct keys → slice_get keys id ≡ Some key → slice_get names id ≡ Some name → name_beside keys names key ≡ name
name_there [] names key name id once here there = absurd (none-some key here)
name_there (k ∷ keys) [] key name id once here there = absurd (none-some name there)
name_there (k ∷ keys) (n ∷ names) key name zero once here there =
    let same = (bytes_eq-Decides key k).1 (sym (same_Some k key here)) in
    rw same (same_Some n name there)
name_there (k ∷ keys) (n ∷ names) key name (suc id) once here there = go (bytes_eq key k) refl (name_there keys names key name id (distinct_rest k keys once) here there)
  where
    go : (b : Bool) → bytes_eq key k ≡ b → name_beside keys names key ≡ name → cond b n (name_beside keys names key) ≡ name
    go true is later = let e : 0 ≡ suc id = once 0 (suc id) key (ap (λ (x : List ℕ). Some x) (sym ((bytes_eq-Decides key k).0 is))) here in absurd (omega arith)
    go false is later = later

-- the key itself where it isn't there
pub name_absent : (keys names : List (List ℕ)) (key : List ℕ) → is_among keys key ≡ false → name_beside keys names key ≡ key
name_absent [] names key none = refl
name_absent (k ∷ keys) [] key none = refl
name_absent (k ∷ keys) (n ∷ names) key none = go (bytes_eq key k) none (λ among. name_absent keys names key among)
  where
    go : (b : Bool) → (b || is_among keys key) ≡ false → (is_among keys key ≡ false → name_beside keys names key ≡ key) → cond b n (name_beside keys names key) ≡ key
    go true among later = cc
    go false among later = later among

-- the first of the names, and the others
pub next_name : (symbols : Named) (letter n m k : ℕ) → n ≡ suc m → names_from symbols letter n k ≡ name_of symbols letter k ∷ names_from symbols letter m (k + 1)
next_name symbols letter n m k is = ap (λ i. names_from symbols letter i k) is

pub repeats_behind : (before xs ys : List (List ℕ)) → repeats before (xs ++ ys) ≡ repeats before xs || repeats (before ++ xs) ys
repeats_behind before [] ys = ap (λ (b : List (List ℕ)). repeats b ys) (sym (append-nil before))
repeats_behind before (x ∷ xs) ys = go (is_among before x) (repeats_behind (before ++ x ∷ []) xs ys)
  where
    go : (b : Bool) → repeats (before ++ x ∷ []) (xs ++ ys) ≡ repeats (before ++ x ∷ []) xs || repeats ((before ++ x ∷ []) ++ xs) ys → (b || repeats (before ++ x ∷ []) (xs ++ ys)) ≡ (b || repeats (before ++ x ∷ []) xs) || repeats (before ++ x ∷ xs) ys
    go true later = refl
    go false later = later ∙ ap (λ (b : List (List ℕ)). repeats (before ++ x ∷ []) xs || repeats b ys) (append_assoc before (x ∷ []) xs)

-- names that are added in turn
pub distinct_by : (first second third : List (List ℕ)) → not (repeats [] (first ++ second) || repeats [] third) ≡ not ((repeats [] first || repeats first second) || repeats [] third)
distinct_by first second third = ap (λ b. not (b || repeats [] third)) (repeats_behind [] first second)

-- an answer that says that nothing repeats
pub repeats_by : (fresh repeated : Bool) → fresh ≡ not repeated → fresh ≡ false → repeated ≡ true
repeats_by fresh true is told = refl
repeats_by fresh false is told = cc

pub none_repeats_by : (fresh repeated : Bool) → fresh ≡ not repeated → fresh ≡ true → repeated ≡ false
none_repeats_by fresh true is told = cc
none_repeats_by fresh false is told = refl
