-- What is accepted shows that no assignment meets all clauses.
use Rattle.std.proofs.Common.{◌≡◌, ℕ, zero, suc, Bool, true, false, not, cond, List, [], ◌∷◌, ◌++◌, refl, sym, ◌∙◌, ap, inl, inr, Some, None}
use Rattle.std.specs.Prelude.{◌⊎◌, nat_eq}
use Rattle.std.specs.List.{Contains}
use Rattle.std.proofs.lemmas.List.Elements.{Contains-append_cases}
use Rattle.proof_check.specs.Literals.{Literal, negation, literal_value}
use Rattle.proof_check.specs.Clauses.{clause_value, Satisfies}
use Rattle.proof_check.proofs.Members.{Contains-cases, Contains-none}
use Rattle.proof_check.proofs.Sound.{true_literal, true_clause, at_number}
use Rattle.lrat_core.specs.States.{Live, State, with_clause, without, without_all, numbered}
use Rattle.lrat_core.specs.Hints.{HintsGive}
use Rattle.lrat_core.specs.Sequences.{AdditionGives, LineGives, LinesGive, AddsEmpty, Accepted, after}
use Rattle.lrat_core.specs.Laws.{AcceptedIsUnsatisfiable}
use Rattle.lrat_core.specs.declared.hints.Hint.{Hint}
use Rattle.lrat_core.specs.Lines.{Addition, Line}
use Rattle.lrat_core.specs.Lines as line

-- each live clause is true
abbrev pub AllTrue : (ℕ → Bool) → Live → Type 0
AllTrue v live = (id : ℕ) (c : List Literal) → live id ≡ Some c → clause_value v c ≡ true

-- each of these literals is false
abbrev AllFalse : (ℕ → Bool) → List Literal → Type 0
AllFalse v falsified = (l : Literal) → Contains falsified l → literal_value v l ≡ true → ⊥

-- a literal and its negation are not both true
not_both : (v : ℕ → Bool) (l : Literal) → literal_value v l ≡ true → literal_value v (negation l) ≡ true → ⊥
not_both v l = go l.positive (v l.variable)
  where
    go : (s b : Bool) → (cond s b (not b)) ≡ true → (cond (not s) b (not b)) ≡ true → ⊥
    go true true e f = cc
    go true false e f = cc
    go false true e f = cc
    go false false e f = cc

-- one more literal is false
one_more : (v : ℕ → Bool) (falsified : List Literal) (l : Literal) → AllFalse v falsified → literal_value v l ≡ true → AllFalse v (falsified ++ negation l ∷ [])
one_more v falsified l all is m h e = go (Contains-append_cases falsified (negation l ∷ []) m h)
  where
    go : Contains falsified m ⊎ Contains (negation l ∷ []) m → ⊥
    go (inl k) = all m k e
    go (inr k) = pick (Contains-cases (negation l) [] m k)
      where
        pick : (negation l ≡ m) ⊎ Contains [] m → ⊥
        pick (inl same) = not_both v l is (ap (literal_value v) same ∙ e)
        pick (inr z) = Contains-none m z

-- hints that accept can't be followed where all live clauses are true and all these literals false
hints_sound : (v : ℕ → Bool) {live : Live} {falsified : List Literal} {hints : List Hint} → HintsGive live falsified hints None → AllTrue v live → AllFalse v falsified → ⊥
hints_sound v (HintsGive.conflict {c = c} {id = id} p f) alive all =
    let w = true_literal v c (alive id c p) in
    all w.0 (f w.0 w.1) w.2
hints_sound v {falsified = falsified} (HintsGive.unit {c = c} {l = l} {id = id} p u rest) alive all =
    let w = true_literal v c (alive id c p) in
    let same : w.0 ≡ l = u.only w.0 w.1 (λ k. all w.0 k w.2) in
    hints_sound v rest alive (one_more v falsified l all (sym (ap (literal_value v) same) ∙ w.2))

-- what the hints show is true
pub shown : (v : ℕ → Bool) (live : Live) (c : List Literal) (hints : List Hint) → HintsGive live c hints None → AllTrue v live → clause_value v c ≡ true
shown v live c hints h alive = go (clause_value v c) refl
  where
    go : (b : Bool) → clause_value v c ≡ b → clause_value v c ≡ true
    go true e = e
    go false e = absurd (hints_sound v h alive (λ l k t. let z : true ≡ false = sym (true_clause v c l k t) ∙ e in cc))

pub added : (v : ℕ → Bool) (state : State) (a : Addition) → AdditionGives state a None → AllTrue v state.live → clause_value v a.literals ≡ true
added v state a (AdditionGives.above p h) alive = shown v state.live a.literals a.hints h alive

pub with_true : (v : ℕ → Bool) (live : Live) (id : ℕ) (c : List Literal) → AllTrue v live → clause_value v c ≡ true → AllTrue v (with_clause live id c)
with_true v live id c alive is q d e = go (nat_eq id q) e
  where
    go : (b : Bool) → cond b (Some c) (live q) ≡ Some d → clause_value v d ≡ true
    go true h = let same : c ≡ d = cc in sym (ap (clause_value v) same) ∙ is
    go false h = alive q d h

without_true : (v : ℕ → Bool) (live : Live) (id : ℕ) → AllTrue v live → AllTrue v (without live id)
without_true v live id alive q d e = go (nat_eq id q) e
  where
    go : (b : Bool) → cond b None (live q) ≡ Some d → clause_value v d ≡ true
    go true h = cc
    go false h = alive q d h

pub without_all_true : (v : ℕ → Bool) (live : Live) (ids : List ℕ) → AllTrue v live → AllTrue v (without_all live ids)
without_all_true v live [] alive = alive
without_all_true v live (id ∷ ids) alive = without_all_true v (without live id) ids (without_true v live id alive)

pub after_true : (v : ℕ → Bool) (state : State) (l : Line) → LineGives state l None → AllTrue v state.live → AllTrue v (after state l).live
after_true v state (line.Adds a) h alive = with_true v state.live a.id a.literals alive (added v state a h alive)
after_true v state (line.Deletes ids) h alive = without_all_true v state.live ids alive

pub empty_false : (v : ℕ → Bool) (state : State) (l : Line) → LineGives state l None → AddsEmpty l → AllTrue v state.live → ⊥
empty_false v state (line.Adds a) h e alive = let z : false ≡ true = sym (ap (clause_value v) e) ∙ added v state a h alive in cc
empty_false v state (line.Deletes ids) h e alive = e

pub lines_sound : (v : ℕ → Bool) {state : State} {number : ℕ} {lines : List Line} {last : ℕ} → LinesGive state number lines (Accepted last) → AllTrue v state.live → ⊥
lines_sound v {state} (LinesGive.last {line = l} h e) alive = empty_false v state l h e alive
lines_sound v {state} (LinesGive.next {line = l} h e rest) alive = lines_sound v rest (after_true v state l h alive)

pub numbered_true : (v : ℕ → Bool) (clauses : List (List Literal)) → Satisfies v clauses → AllTrue v (numbered clauses)
numbered_true v clauses sat zero c e = cc
numbered_true v clauses sat (suc k) c e = at_number (λ d. clause_value v d ≡ true) clauses k c sat e

pub accepted_sound : AcceptedIsUnsatisfiable
accepted_sound clauses lines number h v sat = lines_sound v h (numbered_true v clauses sat)
