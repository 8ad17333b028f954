-- A text that grows by pieces is a front of the file.
use Rattle.std.proofs.Common.{◌≡◌, ◌+◌, ◌≤◌, ℕ, List, ◌++◌, [], length, take, drop, Option, Some, None, refl, sym, ap, subst, ◌∙◌, ◌<◌, ◌⊎◌, inl, inr, arith}
use Rattle.std.specs.Prelude.{IfSome, Ok, Err}
use Rattle.std.proofs.lemmas.List.{length-append, length-take, length-take-le, take_all}
use Rattle.std.proofs.Math.Seq.{take-add}
use Rattle.base_shelves.specs.Outside.{Gives, NoneFell, Rose}

-- one piece more
pub longer_front : (bytes text room new : List ℕ) (from count : ℕ) → from ≡ length text → count ≤ length room → text ≡ take (length text) bytes
    → Gives bytes from count room → new ≡ text ++ take count room → new ≡ take (length new) bytes
longer_front bytes text room new from count at fits front gives grown =
    let len : length new ≡ length text + count = ap length grown ∙ length-append text (take count room) ∙ ap (λ n. length text + n) (length-take-le count room fits) in
    let piece : take count room ≡ take count (drop (length text) bytes) = gives.copied ∙ ap (λ n. take count (drop n bytes)) at in
    grown ∙ ap (λ p. text ++ p) piece ∙ ap (λ t. t ++ take count (drop (length text) bytes)) front ∙ sym (take-add (length text) count bytes) ∙ ap (λ n. take n bytes) (sym len)

-- the same of what may not be told
pub longer_told : (held now : Option (List ℕ)) (text room new : List ℕ) (from count : ℕ) → now ≡ held → from ≡ length text → count ≤ length room
    → IfSome held (λ bytes. text ≡ take (length text) bytes) → IfSome now (λ bytes. Gives bytes from count room) → new ≡ text ++ take count room
    → IfSome held (λ bytes. new ≡ take (length new) bytes)
longer_told None now text room new from count same at fits front gives grown = tt
longer_told (Some bytes) now text room new from count same at fits front gives grown =
    longer_front bytes text room new from count at fits front (subst (λ o. IfSome o (λ b. Gives b from count room)) same gives) grown

-- a front at whose end nothing more is held is the whole
pub whole_front : (bytes text room : List ℕ) (from count : ℕ) → from ≡ length text → count ≡ 0 → 0 < length room → text ≡ take (length text) bytes → Gives bytes from count room → text ≡ bytes
whole_front bytes text room from count at none wide front gives = front ∙ take_all (length text) bytes (by (gives.ends none))
  where
    by : (length bytes ≤ from) ⊎ (length room ≡ 0) → length bytes ≤ length text
    by (inl past) = omega (arith, past, at)
    by (inr narrow) = absurd (omega (arith, narrow, wide))

-- the same of what may not be told
pub whole_told : (held now : Option (List ℕ)) (text room new : List ℕ) (from count : ℕ) → now ≡ held → new ≡ text → from ≡ length text → count ≡ 0 → 0 < length room
    → IfSome held (λ bytes. text ≡ take (length text) bytes) → IfSome now (λ bytes. Gives bytes from count room) → IfSome held (λ bytes. new ≡ bytes)
whole_told None now text room new from count same made at none wide front gives = tt
whole_told (Some bytes) now text room new from count same made at none wide front gives =
    made ∙ whole_front bytes text room from count at none wide front (subst (λ o. IfSome o (λ b. Gives b from count room)) same gives)

-- what is told isn't an error
pub ok_err : {T E : Type 0} (v : T) (e : E) → Ok v ≡ Err e → ⊥
ok_err v e wrong = cc

-- nothing is a front of what may be told
pub front_none : (held : Option (List ℕ)) (text : List ℕ) → text ≡ [] → IfSome held (λ bytes. text ≡ take (length text) bytes)
front_none None text none = tt
front_none (Some bytes) text none = subst (λ (t : List ℕ). t ≡ take (length t) bytes) (sym none) refl

-- more was read than the limit
pub past_limit : (held : Option (List ℕ)) (text : List ℕ) (limit : ℕ) → limit < length text → IfSome held (λ bytes. text ≡ take (length text) bytes) → IfSome held (λ bytes. limit < length bytes)
past_limit None text limit past front = tt
past_limit (Some bytes) text limit past front = let long = ap length front in omega (arith, past, long, length-take (length text) bytes)

-- counts that don't fall
pub none_fell : (faults : List ℕ → ℕ) → NoneFell faults faults
none_fell faults path = omega arith

pub fell_more : (before between now : List ℕ → ℕ) → NoneFell before between → NoneFell between now → NoneFell before now
fell_more before between now first then path = omega (arith, first path, then path)

-- a count that rose later rose in all
pub rose_before : (before between now : ℕ) → before ≤ between → Rose between now → Rose before now
rose_before before between now first rose = omega (arith, first, rose)
