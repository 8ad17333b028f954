-- One row is written, or one clause of a row taken away.
use Rattle.std.proofs.Common.{◌≡◌, ◌≢◌, ◌⊎◌, ℕ, zero, suc, ◌+◌, ◌-◌, ◌*◌, ◌<◌, ◌≤◌, Bool, true, false, List, [], ◌∷◌, ◌++◌, length, get_or, refl, sym, ◌∙◌, ap, subst, arith, inl, inr, Option, Some, None}
use Rattle.std.specs.Prelude.{slice_get, unwrap_or, replicate, if◌then◌else◌}
use Rattle.std.proofs.Math.ListN.{set}
use Rattle.std.proofs.lemmas.Bool.{cases_eq, cases_lt}
use Rattle.std.proofs.lemmas.List.{length-set, length-replicate}
use Rattle.std.proofs.lemmas.Option.{slice_get_within, slice_get-get_or, slice_get_cases, get_or_from_slice_get}
use Rattle.clause_base.specs.Literals.{Literal}
use Rattle.clause_base.proofs.Members.{same_literal}
use Rattle.clause_watch.specs.Rows.{row_of, row, IsTaken, IsAdded, IsRemoved, AreEmpty}
use Rattle.clause_watch.specs.declared.watchers.Watcher.{Watcher}
use Rattle.clause_watch.proofs.Lists.{get_set_same, get_set_other}

-- two literals have two rows
same_place : (b c : Bool) (v w : ℕ) → 2 * v + (if b then 1 else 0) ≡ 2 * w + (if c then 1 else 0) → (v ≡ w) × (b ≡ c)
same_place true true v w e = (omega arith, refl)
same_place true false v w e = absurd (omega arith)
same_place false true v w e = absurd (omega arith)
same_place false false v w e = (omega arith, refl)

row_apart : (l m : Literal) → row_of l ≡ row_of m → l ≡ m
row_apart l m e = let s = same_place l.positive m.positive l.variable m.variable e in same_literal l m s.0 s.1

-- a row with a clause is there
pub row_within : (rows : List (List Watcher)) (l : Literal) (place : ℕ) → place < length (row rows l) → row_of l < length rows
row_within rows l place h = go ((slice_get_cases rows (row_of l)).1)
  where
    go : ((x : _) × (row_of l < length rows) × (slice_get rows (row_of l) ≡ Some x) × (get_or rows (row_of l) x ≡ x)) ⊎ ((length rows ≤ row_of l) × (slice_get rows (row_of l) ≡ None)) → row_of l < length rows
    go (inl w) = w.1
    go (inr w) =
        let none : row rows l ≡ [] = ap (λ (o : Option (List Watcher)). unwrap_or o []) w.1 in
        let empty : length (row rows l) ≡ 0 = ap (λ (r : List Watcher). length r) none in
        absurd (omega arith)

row_read : (rows : List (List Watcher)) (l : Literal) (d : List Watcher) → row_of l < length rows → row rows l ≡ get_or rows (row_of l) d
row_read rows l d within = ap (λ (o : Option (List Watcher)). unwrap_or o []) (slice_get-get_or rows (row_of l) d within)

written : (rows : List (List Watcher)) (l : Literal) (new : List Watcher) → row_of l < length rows → row (set rows (row_of l) new) l ≡ new
written rows l new within = ap (λ (o : Option (List Watcher)). unwrap_or o []) (get_set_same rows (row_of l) new within)

unwritten : (rows : List (List Watcher)) (l m : Literal) (new : List Watcher) → m ≢ l → row (set rows (row_of l) new) m ≡ row rows m
unwritten rows l m new differ = ap (λ (o : Option (List Watcher)). unwrap_or o []) (get_set_other rows (row_of l) (row_of m) new (λ e. differ (row_apart m l e)))

-- what was read at the place of the literal's row is the row
is_row : (rows : List (List Watcher)) (l : Literal) (i : ℕ) (old : List Watcher) → i ≡ row_of l → row_of l < length rows → old ≡ get_or rows i old → old ≡ row rows l
is_row rows l i old is within reads = subst (λ n. old ≡ get_or rows n old) is reads ∙ sym (row_read rows l old within)

-- a place of the literal's row is one of what was read there
pub in_row : (rows now : List (List Watcher)) (l : Literal) (place i : ℕ) (old : List Watcher) → rows ≡ now → i ≡ row_of l → old ≡ get_or rows i old → place < length (row now l) → place < length old
in_row rows now l place i old same is reads h =
    let there : old ≡ get_or now i old = reads ∙ ap (λ (rs : List (List Watcher)). get_or rs i old) same in
    subst (λ (r : List Watcher). place < length r) (sym (is_row now l i old is (row_within now l place h) there)) h

-- one clause more
pub added : (rows now : List (List Watcher)) (l : Literal) (w : Watcher) (i : ℕ) (old new : List Watcher) → rows ≡ now → i ≡ row_of l → row_of l < length now → old ≡ get_or rows i old → new ≡ old ++ w ∷ [] → IsAdded now l w (set rows i new)
added rows now l w i old new view is within reads h =
    let inside = subst (λ (rs : List (List Watcher)). row_of l < length rs) (sym view) within in
    let whole : IsAdded rows l w (set rows i new) =
    subst (λ n. IsAdded rows l w (set rows n new)) (sym is) (record {
      sized = length-set rows (row_of l) new;
      here = written rows l new inside ∙ h ∙ ap (λ (o : List Watcher). o ++ w ∷ []) (is_row rows l i old is inside reads);
      others = λ m differ. unwritten rows l m new differ;
    }) in
    subst (λ (rs : List (List Watcher)). IsAdded rs l w (set rows i new)) view whole

-- one clause less
pub removed : (rows now : List (List Watcher)) (l : Literal) (place : ℕ) (i : ℕ) (old new : List Watcher) → rows ≡ now → i ≡ row_of l → row_of l < length now → old ≡ get_or rows i old → IsTaken old place new → IsRemoved now l place (set rows i new)
removed rows now l place i old new view is within reads h =
    let inside = subst (λ (rs : List (List Watcher)). row_of l < length rs) (sym view) within in
    let whole : IsRemoved rows l place (set rows i new) =
    subst (λ n. IsRemoved rows l place (set rows n new)) (sym is) (record {
      sized = length-set rows (row_of l) new;
      here = subst (λ (r : List Watcher). IsTaken (row rows l) place r) (sym (written rows l new inside)) (subst (λ (r : List Watcher). IsTaken r place new) (is_row rows l i old is inside reads) h);
      others = λ m differ. unwritten rows l m new differ;
    }) in
    subst (λ (rs : List (List Watcher)). IsRemoved rs l place (set rows i new)) view whole

-- rows without clauses
empty_at : (n k : ℕ) → unwrap_or (slice_get (replicate {A = List Watcher} n []) k) [] ≡ []
empty_at zero k = refl
empty_at (suc n) zero = refl
empty_at (suc n) (suc k) = empty_at n k

pub all_empty : (variables n : ℕ) (rows : List (List Watcher)) → rows ≡ replicate n [] → n ≡ 2 * variables + 2 → AreEmpty variables rows
all_empty variables n rows is count =
    subst (AreEmpty variables) (sym is) (record { sized = length-replicate {A = List Watcher} n [] ∙ count; empty = λ l. empty_at n (row_of l) })

-- one is taken away, and the last one put in its place
pub taken : (old new : List Watcher) (place n m : ℕ) → n ≡ length old → m ≡ length new → place < n → m + 1 ≡ n →
    ((d : Watcher) → place + 1 < n → get_or new place d ≡ get_or old (n - 1) d) × ((k : ℕ) (d : Watcher) → k ≢ place → k + 1 < n → get_or new k d ≡ get_or old k d) → IsTaken old place new
taken old new place n m is_n is_m inside shorter by = record {
  shorter = omega arith;
  stays = λ q e there differ. stay q e there differ (cases_lt (q + 1) n);
  only = λ q e there. one q e there (cases_eq q place);
}
  where
    stay : (q : ℕ) (e : Watcher) → slice_get old q ≡ Some e → q ≢ place → (q + 1 < n) ⊎ (n ≤ q + 1) → (r : ℕ) × (slice_get new r ≡ Some e) × (place ≤ q → place ≤ r)
    stay q e there differ (inl lt) =
        let same : get_or new q e ≡ e = by.1 q e differ lt ∙ get_or_from_slice_get old q e e there in
        (q, slice_get-get_or new q e (omega arith) ∙ ap (λ (x : Watcher). Some x) same, λ h. h)
    stay q e there differ (inr ge) =
        let within = slice_get_within old q e there in
        let last : q ≡ n - 1 = omega arith in
        let before : place + 1 < n = omega arith in
        let same : get_or new place e ≡ e = by.0 e before ∙ get_or_from_slice_get old (n - 1) e e (subst (λ k. slice_get old k ≡ Some e) last there) in
        (place, slice_get-get_or new place e (omega arith) ∙ ap (λ (x : Watcher). Some x) same, λ h. omega arith)

    one : (q : ℕ) (e : Watcher) → slice_get new q ≡ Some e → (q ≡ place) ⊎ (q ≡ place → ⊥) → (r : ℕ) × (slice_get old r ≡ Some e) × (r ≢ place) × ((r ≡ q) ⊎ ((q ≡ place) × (r ≡ length new)))
    one q e there (inl is) =
        let within = slice_get_within new q e there in
        let before : place + 1 < n = omega arith in
        let same : get_or old (n - 1) e ≡ e = sym (by.0 e before) ∙ get_or_from_slice_get new place e e (subst (λ k. slice_get new k ≡ Some e) is there) in
        (n - 1, slice_get-get_or old (n - 1) e (omega arith) ∙ ap (λ (x : Watcher). Some x) same, λ f. omega (arith, f, before), inr (is, omega arith))
    one q e there (inr differ) =
        let within = slice_get_within new q e there in
        let same : get_or old q e ≡ e = sym (by.1 q e differ (omega arith)) ∙ get_or_from_slice_get new q e e there in
        (q, slice_get-get_or old q e (omega arith) ∙ ap (λ (x : Watcher). Some x) same, differ, inl refl)
