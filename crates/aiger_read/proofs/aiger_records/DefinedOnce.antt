-- Records that define each literal once, and marks before there are any.
use Rattle.std.proofs.Common.{◌≡◌, ℕ, zero, suc, ◌+◌, ◌*◌, ◌≤◌, Bool, true, false, true≢false, List, [], ◌∷◌, ◌++◌, length, replicate, slice_get, slice_index_or, Some, refl, sym, ◌∙◌, ap, subst, arith, inl, inr}
use Rattle.std.specs.Prelude.{◌⊎◌, ◌||◌, ◌==◌}
use Rattle.std.proofs.lemmas.Bool.Decides.{Decides-eqb}
use Rattle.std.proofs.lemmas.List.{get_or-replicate, length-replicate}
use Rattle.std.proofs.lemmas.List.Folds.{list_any_at, list_any-append}
use Rattle.std.proofs.lemmas.Option.{none-some, same_Some, slice_get_within, get_or_from_slice_get}
use Rattle.aiger_read.specs.declared.aiger_records.record.Record.{Record}
use Rattle.aiger_read.specs.declared.aiger_records.record.Record.TheVariants.{Input}
use Rattle.aiger_read.specs.aiger_records.Records.{inputs_to}
use Rattle.aiger_read.specs.declared.aiger_records.header.Header.{Header}
use Rattle.aiger_read.specs.aiger_records.Faults.{defined_by, is_literal, is_defined, is_defined_again, DefinesOnce, AreMarks}

-- the old items, and the new one
push_cases : {X : Type 0} (xs : List X) (y : X) (i : ℕ) (x : X) → slice_get (xs ++ y ∷ []) i ≡ Some x → (slice_get xs i ≡ Some x) ⊎ ((i ≡ length xs) × (y ≡ x))
push_cases [] y zero x h = inr (refl, same_Some y x h)
push_cases [] y (suc i) x h = absurd (none-some x h)
push_cases (z ∷ xs) y zero x h = inl h
push_cases {X} (z ∷ xs) y (suc i) x h = later (push_cases xs y i x h)
  where
    later : (slice_get xs i ≡ Some x) ⊎ ((i ≡ length xs) × (y ≡ x)) → (slice_get xs i ≡ Some x) ⊎ ((suc i ≡ suc (length xs)) × (y ≡ x))
    later (inl old) = inl old
    later (inr new) = inr (ap suc new.0, new.1)

-- a record that stands there defines its literal
pub defined_there : (records : List Record) (i literal : ℕ) (r : Record) → slice_get records i ≡ Some r → defined_by r ≡ Some literal → is_defined records literal ≡ true
defined_there records i literal r h d =
    list_any_at (λ s. is_literal literal (defined_by s)) records i r (slice_get_within records i r h)
    (subst (λ (s : Record). is_literal literal (defined_by s) ≡ true) (sym (get_or_from_slice_get records i r r h)) (ap (is_literal literal) d ∙ (Decides-eqb literal literal).1 refl))

-- one record more, whose literal isn't defined yet
pub once_more : (records : List Record) (found : Record) → DefinesOnce records → is_defined_again records (defined_by found) ≡ false → DefinesOnce (records ++ found ∷ [])
once_more records found once new i j literal r s hi hj di dj = go (push_cases records found i r hi) (push_cases records found j s hj)
  where
    apart : (k : ℕ) (t : Record) → slice_get records k ≡ Some t → defined_by t ≡ Some literal → defined_by found ≡ Some literal → ⊥
    apart k t h d own = true≢false (sym (defined_there records k literal t h d) ∙ ap (is_defined_again records) (sym own) ∙ new)

    go : (slice_get records i ≡ Some r) ⊎ ((i ≡ length records) × (found ≡ r)) → (slice_get records j ≡ Some s) ⊎ ((j ≡ length records) × (found ≡ s)) → i ≡ j
    go (inl first) (inl second) = once i j literal r s first second di dj
    go (inl first) (inr second) = absurd (apart i r first di (ap defined_by second.1 ∙ dj))
    go (inr first) (inl second) = absurd (apart j s second dj (ap defined_by first.1 ∙ di))
    go (inr first) (inr second) = first.0 ∙ sym second.0

-- the first n variables aren't the next
not_later : (n k : ℕ) → n ≤ k → is_defined (inputs_to n) (2 * suc k) ≡ false
not_later zero k l = refl
not_later (suc n) k l =
    list_any-append (λ s. is_literal (2 * suc k) (defined_by s)) (inputs_to n) (Input (2 * suc n) ∷ [])
    ∙ ap (λ (b : Bool). b || ((2 * suc n == 2 * suc k) || false)) (not_later n k (omega (arith, l)))
    ∙ ap (λ (b : Bool). b || false) (apart (2 * suc n == 2 * suc k) refl)
  where
    apart : (b : Bool) → (2 * suc n == 2 * suc k) ≡ b → (2 * suc n == 2 * suc k) ≡ false
    apart true e = absurd (let same = (Decides-eqb (2 * suc n) (2 * suc k)).0 e in omega (arith, l, same))
    apart false e = e

pub input_is_new : (records : List Record) (n literal : ℕ) → records ≡ inputs_to n → literal ≡ 2 * suc n → is_defined records literal ≡ false
input_is_new records n literal is same =
    subst (λ (rs : List Record). is_defined rs literal ≡ false) (sym is) (subst (λ (l : ℕ). is_defined (inputs_to n) l ≡ false) (sym same) (not_later n n (omega arith)))

-- no records, and no marks
pub none_marked : (h : Header) (records : List Record) (marks : List Bool) → records ≡ [] → marks ≡ replicate (h.greatest + 1) false → AreMarks h records marks
none_marked h records marks none all = record {
  size = ap length all ∙ length-replicate (h.greatest + 1) false;
  each = λ v within. ap (λ (ms : List Bool). slice_index_or ms v false) all ∙ (get_or-replicate (h.greatest + 1) v false false (omega (arith, within)) ∙ ap (λ (rs : List Record). is_defined rs (2 * v)) (sym none));
}
