-- The literals that a trail makes false.
use Rattle.std.proofs.Common.{◌≡◌, ℕ, zero, suc, ◌+◌, ◌<◌, ◌≤◌, Bool, true, false, cond, List, [], ◌∷◌, ◌++◌, length, take, get_or, refl, sym, ◌∙◌, ap, subst, arith, inl, inr, Option, Some, None}
use Rattle.std.specs.Prelude.{◌⊎◌, ◌||◌, slice_get, slice_index_or}
use Rattle.std.specs.List.{All, Contains}
use Rattle.std.proofs.lemmas.List.{map-append, get_or_past, get_or_default, get_or-take, length-take-le, take_more}
use Rattle.std.proofs.lemmas.List.Elements.{All-nil, All-push, All-contains, Contains-append_cases}
use Rattle.std.proofs.lemmas.Option.{slice_get_within}
use Rattle.proof_check.specs.Literals.{Literal, negation}
use Rattle.proof_check.specs.Clauses.{IsClause}
use Rattle.proof_check.proofs.Members.{same_literal, not_same_sign, other_sign, one_of_variable, Contains-head, Contains-later, Contains-cases, Contains-none}
use Rattle.clause_watch.specs.Trails.{TrueBefore, FreeBefore}
use Rattle.clause_watch.specs.declared.entry.Entry.{Entry}
use Rattle.clause_watch.proofs.Literals.{sign_cases}
use Rattle.lrat_core.specs.Logs.{is_in, is_met, first_open}
use Rattle.lrat_core.proofs.Marking.{any_contains, contains_any}
use Rattle.lrat_core.specs.certificate_writer.Hinting.{falsified_by, IsWithin, AreWithin, IsConsistent, first_of}

negation_twice : (l : Literal) → negation (negation l) ≡ l
negation_twice l = go l.variable l.positive
  where
    go : (v : ℕ) (b : Bool) → ◌≡◌ {A = Literal} (negation (negation (record { variable = v; positive = b }))) (record { variable = v; positive = b })
    go v true = refl
    go v false = refl

-- an entry makes the negation of its literal false
entry_falsifies : (t : List Entry) (k : ℕ) (e : Entry) → slice_get t k ≡ Some e → Contains (falsified_by t) (negation e.literal)
entry_falsifies [] k e h = absurd (let z : None ≡ Some e = h in cc)
entry_falsifies (x ∷ t) zero e h = let same : x ≡ e = cc in subst (λ (y : Entry). Contains (falsified_by (x ∷ t)) (negation y.literal)) same (Contains-head (negation x.literal) (falsified_by t))
entry_falsifies (x ∷ t) (suc k) e h = Contains-later (negation x.literal) (falsified_by t) (negation e.literal) (entry_falsifies t k e h)

falsified_entry : (t : List Entry) (l : Literal) → Contains (falsified_by t) l → (k : ℕ) × (e : Entry) × (slice_get t k ≡ Some e) × (negation e.literal ≡ l)
falsified_entry [] l h = absurd (Contains-none l h)
falsified_entry (x ∷ t) l h = go (Contains-cases (negation x.literal) (falsified_by t) l h) (λ k. falsified_entry t l k)
  where
    go : (negation x.literal ≡ l) ⊎ Contains (falsified_by t) l → (Contains (falsified_by t) l → (k : ℕ) × (e : Entry) × (slice_get t k ≡ Some e) × (negation e.literal ≡ l)) → (k : ℕ) × (e : Entry) × (slice_get (x ∷ t) k ≡ Some e) × (negation e.literal ≡ l)
    go (inl e) later = (0, x, refl, e)
    go (inr k) later = let w = later k in (suc w.0, w.1, w.2, w.3)

pub true_in : (t : List Entry) (l : Literal) → TrueBefore t (length t) (negation l) → is_in (falsified_by t) l ≡ true
true_in t l h =
    let there : Contains (falsified_by t) (negation h.2.0.literal) = entry_falsifies t h.0 h.2.0 h.2.1 in
    contains_any (falsified_by t) l (subst (Contains (falsified_by t)) (ap negation h.2.2 ∙ negation_twice l) there)

not_in : (literals : List Literal) (l : Literal) → (Contains literals l → ⊥) → is_in literals l ≡ false
not_in literals l h = go (is_in literals l) refl
  where
    go : (b : Bool) → is_in literals l ≡ b → is_in literals l ≡ false
    go true e = absurd (h (any_contains literals l e))
    go false e = e

free_absent : (t : List Entry) (l m : Literal) → FreeBefore t (length t) l → m.variable ≡ l.variable → Contains (falsified_by t) m → ⊥
free_absent t l m free same h =
    let w = falsified_entry t m h in
    free w.0 w.1.literal (slice_get_within t w.0 w.1 w.2) (w.1, w.2, refl) (ap (λ (x : Literal). x.variable) w.3 ∙ same)

pub free_in : (t : List Entry) (l : Literal) → FreeBefore t (length t) l → (is_in (falsified_by t) l ≡ false) × (is_in (falsified_by t) (negation l) ≡ false)
free_in t l free = (not_in (falsified_by t) l (free_absent t l l free refl), not_in (falsified_by t) (negation l) (free_absent t l (negation l) free refl))

-- a literal that is false isn't true
pub false_in : (t : List Entry) (l : Literal) → IsConsistent (falsified_by t) → TrueBefore t (length t) (negation l) → (is_in (falsified_by t) l ≡ true) × (is_in (falsified_by t) (negation l) ≡ false)
false_in t l consistent h = (true_in t l h, not_in (falsified_by t) (negation l) (consistent l (any_contains (falsified_by t) l (true_in t l h))))

pub met_in : (t : List Entry) (l : Literal) → TrueBefore t (length t) l → is_in (falsified_by t) (negation l) ≡ true
met_in t l h = true_in t (negation l) (subst (TrueBefore t (length t)) (sym (negation_twice l)) h)

-- a clause, literal by literal
both_false : (a b : Bool) → (a || b) ≡ false → (a ≡ false) × (b ≡ false)
both_false true b e = absurd (let z : true ≡ false = e in cc)
both_false false b e = (refl, e)

pub met_at : (f c : List Literal) (l : Literal) → Contains c l → is_in f (negation l) ≡ true → is_met f c ≡ true
met_at f [] l h e = absurd (Contains-none l h)
met_at f (x ∷ c) l h e = go (Contains-cases x c l h) (λ k. met_at f c l k e)
  where
    right : (a b : Bool) → b ≡ true → (a || b) ≡ true
    right true b q = refl
    right false b q = q

    go : (x ≡ l) ⊎ Contains c l → (Contains c l → is_met f c ≡ true) → (is_in f (negation x) || is_met f c) ≡ true
    go (inl same) later = ap (λ b. b || is_met f c) (ap (λ (y : Literal). is_in f (negation y)) same ∙ e)
    go (inr k) later = right (is_in f (negation x)) (is_met f c) (later k)

pub not_met_more : (f front : List Literal) (x : Literal) → is_met f front ≡ false → is_in f (negation x) ≡ false → is_met f (front ++ x ∷ []) ≡ false
not_met_more f [] x h e = ap (λ b. b || false) e
not_met_more f (y ∷ front) x h e =
    let w = both_false (is_in f (negation y)) (is_met f front) h in
    ap (λ b. b || is_met f (front ++ x ∷ [])) w.0 ∙ not_met_more f front x w.1 e

pub open_same : (f front : List Literal) (x : Literal) (o : Option Literal) → first_open f front ≡ o → is_in f x ≡ true → first_open f (front ++ x ∷ []) ≡ o
open_same f [] x o h e = ap (λ b. cond b None (Some x)) e ∙ h
open_same f (y ∷ front) x o h e = go (is_in f y) h (λ q. open_same f front x o q e)
  where
    go : (b : Bool) → cond b (first_open f front) (Some y) ≡ o → (first_open f front ≡ o → first_open f (front ++ x ∷ []) ≡ o) → cond b (first_open f (front ++ x ∷ [])) (Some y) ≡ o
    go true q later = later q
    go false q later = q

pub open_more : (f front : List Literal) (x : Literal) (o : Option Literal) → first_open f front ≡ o → is_in f x ≡ false → first_open f (front ++ x ∷ []) ≡ first_of o x
open_more f [] x o h e = ap (λ b. cond b None (Some x)) e ∙ ap (λ q. first_of q x) h
open_more f (y ∷ front) x o h e = go (is_in f y) h (λ q. open_more f front x o q e)
  where
    go : (b : Bool) → cond b (first_open f front) (Some y) ≡ o → (first_open f front ≡ o → first_open f (front ++ x ∷ []) ≡ first_of o x) → cond b (first_open f (front ++ x ∷ [])) (Some y) ≡ first_of o x
    go true q later = later q
    go false q later = ap (λ r. first_of r x) q

-- a literal that is left open is in the clause, and isn't false
open_there : (f c : List Literal) (l : Literal) → first_open f c ≡ Some l → Contains c l × (is_in f l ≡ false)
open_there f [] l h = absurd (let z : None ≡ Some l = h in cc)
open_there f (x ∷ c) l h = go (is_in f x) refl h (λ q. open_there f c l q)
  where
    go : (b : Bool) → is_in f x ≡ b → cond b (first_open f c) (Some x) ≡ Some l → (first_open f c ≡ Some l → Contains c l × (is_in f l ≡ false)) → Contains (x ∷ c) l × (is_in f l ≡ false)
    go true e q later = let w = later q in (Contains-later x c l w.0, w.1)
    go false e q later = let same : x ≡ l = cc in (subst (Contains (x ∷ c)) same (Contains-head x c), ap (is_in f) (sym same) ∙ e)

unmet_member : (f c : List Literal) (l : Literal) → is_met f c ≡ false → Contains c l → is_in f (negation l) ≡ false
unmet_member f c l h there = go (is_in f (negation l)) refl
  where
    go : (b : Bool) → is_in f (negation l) ≡ b → is_in f (negation l) ≡ false
    go true e = absurd (let z : false ≡ true = sym h ∙ met_at f c l there e in cc)
    go false e = e

pub open_within : (v : ℕ) (f c : List Literal) (l : Literal) → IsWithin v c → first_open f c ≡ Some l → (0 < l.variable) × (l.variable ≤ v)
open_within v f c l all h = All-contains (λ (m : Literal). (0 < m.variable) × (m.variable ≤ v)) c l all (open_there f c l h).0

absent : (literals : List Literal) (l : Literal) → is_in literals l ≡ false → Contains literals l → ⊥
absent literals l e h = let z : true ≡ false = sym (contains_any literals l h) ∙ e in cc

-- its variable has no value
pub open_free : (t : List Entry) (c : List Literal) (l : Literal) → is_met (falsified_by t) c ≡ false → first_open (falsified_by t) c ≡ Some l → FreeBefore t (length t) l
open_free t c l unmet is_open k m below at same = go (sign_cases m.positive l.positive)
  where
    own : Contains c l × (is_in (falsified_by t) l ≡ false)
    own = open_there (falsified_by t) c l is_open

    there : Contains (falsified_by t) (negation m)
    there = subst (λ (x : Literal). Contains (falsified_by t) (negation x)) at.2 (entry_falsifies t k at.0 at.1)

    go : (m.positive ≡ l.positive) ⊎ (m.positive ≡ l.positive → ⊥) → ⊥
    go (inl e) = absent (falsified_by t) (negation l) (unmet_member (falsified_by t) c l unmet own.0) (subst (λ (x : Literal). Contains (falsified_by t) (negation x)) (same_literal m l same e) there)
    go (inr n) = absent (falsified_by t) l own.1 (subst (Contains (falsified_by t)) (same_literal (negation m) l same (other_sign m.positive l.positive n)) there)

-- one more literal is true
pub falsified_push : (t : List Entry) (l : Literal) (u : List Entry) → u ≡ t ++ record { literal = l; reason = None } ∷ [] → falsified_by u ≡ falsified_by t ++ negation l ∷ []
falsified_push t l u e = ap falsified_by e ∙ map-append (λ (x : Entry). negation x.literal) t (record { literal = l; reason = None } ∷ [])

pub still_consistent : (f c : List Literal) (l : Literal) → IsConsistent f → first_open f c ≡ Some l → IsConsistent (f ++ negation l ∷ [])
still_consistent f c l consistent is_open m h k = go (which m h) (which (negation m) k)
  where
    free : Contains f l → ⊥
    free = absent f l (open_there f c l is_open).1

    which : (x : Literal) → Contains (f ++ negation l ∷ []) x → Contains f x ⊎ (negation l ≡ x)
    which x j = pick (Contains-append_cases f (negation l ∷ []) x j)
      where
        last : (negation l ≡ x) ⊎ Contains [] x → Contains f x ⊎ (negation l ≡ x)
        last (inl e) = inr e
        last (inr z) = absurd (Contains-none x z)

        pick : Contains f x ⊎ Contains (negation l ∷ []) x → Contains f x ⊎ (negation l ≡ x)
        pick (inl i) = inl i
        pick (inr i) = last (Contains-cases (negation l) [] x i)

    go : Contains f m ⊎ (negation l ≡ m) → Contains f (negation m) ⊎ (negation l ≡ negation m) → ⊥
    go (inl i) (inl j) = consistent m i j
    go (inl i) (inr e) = free (subst (Contains f) (sym (negation_twice m) ∙ (ap negation (sym e) ∙ negation_twice l)) i)
    go (inr e) (inl j) = free (subst (Contains f) (ap negation (sym e) ∙ negation_twice l) j)
    go (inr e) (inr f) = not_same_sign m.positive (ap (λ (x : Literal). x.positive) (sym e ∙ f))

-- the clause of a number
pub within_at : (v : ℕ) (known : List (List Literal)) (n : ℕ) → AreWithin v known → IsWithin v (slice_index_or known n [])
within_at v known n all = go (below_or n (length known))
  where
    below_or : (a b : ℕ) → (a < b) ⊎ (b ≤ a)
    below_or a b = grind arith

    go : (n < length known) ⊎ (length known ≤ n) → IsWithin v (slice_index_or known n [])
    go (inl lt) = all n [] lt
    go (inr le) = subst (IsWithin v) (sym (get_or_past known n [] le)) (All-nil (λ (m : Literal). (0 < m.variable) × (m.variable ≤ v)))

-- a clause whose literals are made false
pub clause_free : (t : List Entry) (c : List Literal) (i : ℕ) (x : Literal) → IsClause c → i < length c → x ≡ get_or c i x → falsified_by t ≡ take i c → FreeBefore t (length t) (negation x)
clause_free t c i x ordered lt is so k m below at same =
    let there : Contains (take i c) (negation m) = subst (λ ls. Contains ls (negation m)) so (subst (λ (y : Literal). Contains (falsified_by t) (negation y)) at.2 (entry_falsifies t k at.0 at.1)) in
    let under : there.0 < i = let q = there.1 in omega (arith, q, length-take-at) in
    let here : get_or c there.0 (negation m) ≡ negation m = sym (get_or-take i c there.0 (negation m) under) ∙ there.2 in
    let less : (get_or c there.0 (negation m)).variable < (get_or c i (negation m)).variable = ordered there.0 i (negation m) under lt in
    let first : (get_or c there.0 (negation m)).variable ≡ m.variable = ap (λ (y : Literal). y.variable) here in
    let second : (get_or c i (negation m)).variable ≡ x.variable = ap (λ (y : Literal). y.variable) (get_or_default c i (negation m) x lt ∙ sym is) in
    let z : ⊥ = omega (arith, less, first, second, same) in z
  where
    length-take-at : length (take i c) ≡ i
    length-take-at = length-take-le i c (omega arith)

pub clause_consistent : (t : List Entry) (c : List Literal) → IsClause c → falsified_by t ≡ c → IsConsistent (falsified_by t)
clause_consistent t c ordered so =
    subst IsConsistent (sym so) (λ l h k. not_same_sign l.positive (ap (λ (x : Literal). x.positive) (one_of_variable c l (negation l) ordered h k refl)))

-- one more of the clauses
pub one_more_clause : (clauses : List (List Literal)) (k : ℕ) (x : List Literal) → k < length clauses → x ≡ get_or clauses k x → All IsClause (take k clauses) → IsClause x → All IsClause (take (k + 1) clauses)
one_more_clause clauses k x lt is all own =
    subst (All IsClause) (sym (take_more clauses k x lt)) (All-push IsClause (take k clauses) (get_or clauses k x) all (subst IsClause is own))
