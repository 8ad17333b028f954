-- Literals, and what a trail makes of them.
use Rattle.std.proofs.Common.{◌≡◌, ◌≢◌, ◌⊎◌, ℕ, zero, suc, ◌+◌, ◌*◌, ◌<◌, ◌≤◌, Bool, true, false, not, List, length, refl, sym, ◌∙◌, ap, subst, arith, inl, inr, Some}
use Rattle.std.specs.Prelude.{slice_get, if◌then◌else◌}
use Rattle.std.specs.List.{Contains}
use Rattle.std.proofs.lemmas.Bool.{cases_eq, cases_lt}
use Rattle.clause_base.specs.Literals.{Literal, negation}
use Rattle.clause_base.proofs.Members.{same_literal, other_sign}
use Rattle.clause_watch.specs.Rows.{row_of}
use Rattle.clause_watch.specs.Trails.{At, TrueBefore, FreeBefore, IsTrail}
use Rattle.clause_watch.specs.Range.{AllInRange, InRange}
use Rattle.clause_watch.specs.declared.entry.Entry.{Entry}
use Rattle.clause_watch.specs.declared.watchers.Watcher.{Watcher}
use Rattle.clause_watch.proofs.Lists.{get_one, get_within, at_number}
use Rattle.clause_watch.proofs.Trails.{not_both}

pub sign_cases : (b c : Bool) → (b ≡ c) ⊎ (b ≢ c)
sign_cases true true = inl refl
sign_cases true false = inr (λ e. cc)
sign_cases false true = inr (λ e. cc)
sign_cases false false = inl refl

pub same_or_other : (l m : Literal) → (l ≡ m) ⊎ (l ≢ m)
same_or_other l m = go (cases_eq l.variable m.variable) (sign_cases l.positive m.positive)
  where
    go : (l.variable ≡ m.variable) ⊎ (l.variable ≢ m.variable) → (l.positive ≡ m.positive) ⊎ (l.positive ≢ m.positive) → (l ≡ m) ⊎ (l ≢ m)
    go (inl e) (inl f) = inl (same_literal l m e f)
    go (inl e) (inr n) = inr (λ q. n (ap (λ (x : Literal). x.positive) q))
    go (inr n) s = inr (λ q. n (ap (λ (x : Literal). x.variable) q))

pub same_sign : (b c : Bool) → not b ≡ not c → b ≡ c
same_sign true true e = refl
same_sign true false e = cc
same_sign false true e = cc
same_sign false false e = refl

pub same_negation : (l m : Literal) → negation l ≡ negation m → l ≡ m
same_negation l m e = same_literal l m (ap (λ (x : Literal). x.variable) e) (same_sign l.positive m.positive (ap (λ (x : Literal). x.positive) e))

-- a clause's literals are in range
pub range_of : (variables : ℕ) (known : List (List Literal)) (n : ℕ) (c : List Literal) (l : Literal) → InRange variables known → slice_get known n ≡ Some c → Contains c l → (0 < l.variable) × (l.variable ≤ variables)
range_of variables known n c l range there holds =
    let all : AllInRange variables c = at_number (AllInRange variables) known n c range there in
    let P : Literal → Type 0 = λ x. (0 < x.variable) × (x.variable ≤ variables) in
    subst P holds.2 (all holds.0 l holds.1)

pub row_below : (sign : Bool) (variable variables : ℕ) → variable ≤ variables → 2 * variable + (if sign then 1 else 0) < 2 * variables + 2
row_below true variable variables h = omega arith
row_below false variable variables h = omega arith

-- a literal of a clause in range has a row
pub row_in_range : (variables : ℕ) (c : List Literal) (l : Literal) (rows : List (List Watcher)) → AllInRange variables c → Contains c l → length rows ≡ 2 * variables + 2 → row_of l < length rows
row_in_range variables c l rows range holds sized =
    let P : Literal → Type 0 = λ x. (0 < x.variable) × (x.variable ≤ variables) in
    let within : (0 < l.variable) × (l.variable ≤ variables) = subst P holds.2 (range holds.0 l holds.1) in
    subst (λ i. row_of l < i) (sym sized) (row_below l.positive l.variable variables within.1)

-- a literal is true, false or free
pub truth_cases : (t : List Entry) (l : Literal) (n : ℕ) → n ≤ length t → TrueBefore t n l ⊎ (TrueBefore t n (negation l) ⊎ FreeBefore t n l)
truth_cases t l zero h = inr (inr (λ k m below at. absurd (omega (arith, below))))
truth_cases t l (suc n) h = go (truth_cases t l n (omega arith)) (get_within t n (omega arith))
  where
    go : TrueBefore t n l ⊎ (TrueBefore t n (negation l) ⊎ FreeBefore t n l) → (e : Entry) × (slice_get t n ≡ Some e) → TrueBefore t (suc n) l ⊎ (TrueBefore t (suc n) (negation l) ⊎ FreeBefore t (suc n) l)
    go (inl p) e = inl (p.0, omega (arith, p.1), p.2)
    go (inr (inl p)) e = inr (inl (p.0, omega (arith, p.1), p.2))
    go (inr (inr free)) e = here free e.0 e.1 (cases_eq e.0.literal.variable l.variable) (sign_cases e.0.literal.positive l.positive)
      where
        here : FreeBefore t n l → (e : Entry) → slice_get t n ≡ Some e → (e.literal.variable ≡ l.variable) ⊎ (e.literal.variable ≢ l.variable) → (e.literal.positive ≡ l.positive) ⊎ (e.literal.positive ≢ l.positive) →
            TrueBefore t (suc n) l ⊎ (TrueBefore t (suc n) (negation l) ⊎ FreeBefore t (suc n) l)
        here free e there (inl same) (inl sign) = inl (n, omega arith, (e, there, same_literal e.literal l same sign))
        here free e there (inl same) (inr differ) = inr (inl (n, omega arith, (e, there, same_literal e.literal (negation l) same (sym (other_sign l.positive e.literal.positive (λ q. differ (sym q)))))))
        here free e there (inr differ) s = inr (inr (λ k m below at. more k m below at (cases_lt k n)))
          where
            more : (k : ℕ) (m : Literal) → k < suc n → At t k m → (k < n) ⊎ (n ≤ k) → m.variable ≢ l.variable
            more k m below at (inl lt) = free k m lt at
            more k m below at (inr ge) =
                let same : k ≡ n = omega (arith, below, ge) in
                let one : e ≡ at.0 = get_one t n e at.0 there (subst (λ i. slice_get t i ≡ Some at.0) same at.1) in
                λ q. differ (ap (λ (x : Entry). x.literal.variable) one ∙ ap (λ (x : Literal). x.variable) at.2 ∙ q)

-- a literal that is true or free isn't false at any place
pub never_false : (known : List (List Literal)) (t : List Entry) (l : Literal) (k : ℕ) → IsTrail known t → TrueBefore t (length t) l ⊎ FreeBefore t (length t) l → k < length t → At t k (negation l) → ⊥
never_false known t l k is (inl p) below at = not_both known t (length t) (length t) l is p (k, below, at)
never_false known t l k is (inr free) below at = free k (negation l) below at refl
