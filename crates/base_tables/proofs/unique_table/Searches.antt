-- A search for a key that has come so far.
use Rattle.std.proofs.Common.{◌≡◌, ◌≢◌, ℕ, ◌+◌, ◌-◌, ◌<◌, ◌≤◌, ◌⊎◌, inl, inr, List, length, slice_get, Some, min, Contains, sym, ap, ◌∙◌, arith, below_more}
use Rattle.std.proofs.lemmas.Bool.{cases_order}
use Rattle.base_tables.proofs.unique_table.Elements.{at_of}
use Rattle.base_tables.specs.unique_table.Places.{slot_at, Stands, IsTable}

-- at each of the first places stands the number of another key
abbrev pub Passed : {K : Type 0} → (ℕ → ℕ) → List K → List ℕ → K → ℕ → Type 0
Passed {K} at keys slots key steps = (step : ℕ) → step < steps → (n : ℕ) × (slot_at at slots step ≡ n + 1) × (slice_get keys n ≡ Some key → ⊥)

pub passed-none : {K : Type 0} (at : ℕ → ℕ) (keys : List K) (slots : List ℕ) (key : K) → Passed at keys slots key 0
passed-none at keys slots key = λ step below. absurd (omega arith)

-- one place more
pub passed-more : {K : Type 0} (at : ℕ → ℕ) (keys : List K) (slots : List ℕ) (key other : K) (step slot : ℕ) → Passed at keys slots key step → slot_at at slots step ≡ slot → slot ≢ 0 → slice_get keys (slot - 1) ≡ Some other → (Some other ≡ Some key → ⊥)
    → Passed at keys slots key (step + 1)
passed-more {K} at keys slots key other step slot passed is some there differ =
    below_more (λ (e : ℕ). (n : ℕ) × (slot_at at slots e ≡ n + 1) × (slice_get keys n ≡ Some key → ⊥)) step passed (slot - 1, is ∙ back slot some, λ same. differ (sym there ∙ same))
  where
    back : (n : ℕ) → n ≢ 0 → n ≡ n - 1 + 1
    back n h = omega arith

module _ {K : Type 0} (place : K → ℕ → ℕ) (tries : ℕ) (keys : List K) (slots : List ℕ) (table : IsTable place tries keys slots) (key : K) where
  -- before the end of the search stands no number of the key
  passed-before : (number step : ℕ) → slice_get keys number ≡ Some key → Passed (place key) keys slots key step → (s : Stands (place key) tries slots number) → s.step < step → ⊥
  passed-before number step there passed s below =
      let (n, is, other) = passed s.step below in
      let same : n ≡ number = omega (arith, sym is ∙ s.here) in
      other (ap (slice_get keys) same ∙ there)

  -- a free place ends the search
  pub passed-free : (step : ℕ) → Passed (place key) keys slots key step → slot_at (place key) slots step ≡ 0 → Contains keys key → ⊥
  passed-free step passed free there = let at = at_of keys key there in by at.0 at.1 (table.stand at.0 key at.1)
    where
      by : (number : ℕ) → slice_get keys number ≡ Some key → Stands (place key) tries slots number → ⊥
      by number at s = cases (cases_order s.step step)
        where
          cases : (s.step ≡ step) ⊎ ((s.step < step) ⊎ (step < s.step)) → ⊥
          cases (inl e) = let none : 0 ≡ number + 1 = sym free ∙ ap (λ (k : ℕ). slot_at (place key) slots k) (sym e) ∙ s.here in omega (arith, none)
          cases (inr (inl below)) = passed-before number step at passed s below
          cases (inr (inr above)) = s.taken step above free

  -- so does the last place
  pub passed-all : (step : ℕ) → Passed (place key) keys slots key step → min tries (length slots) ≤ step → Contains keys key → ⊥
  passed-all step passed last there = let at = at_of keys key there in by at.0 at.1 (table.stand at.0 key at.1)
    where
      by : (number : ℕ) → slice_get keys number ≡ Some key → Stands (place key) tries slots number → ⊥
      by number at s = passed-before number step at passed s (omega (arith, s.early, s.inside, last))
