-- Entries that are put last, and the clauses that end in them.
use Rattle.std.proofs.Common.{◌≡◌, ℕ, suc, ◌+◌, ◌<◌, ◌≤◌, Bool, true, false, not, cond, ◌&&◌, List, [], ◌∷◌, ◌++◌, length, drop, get_or, refl, sym, ◌∙◌, ap, subst, arith, Option, Some, Result, Ok, Err}
use Rattle.std.specs.Prelude.{◌==◌}
use Rattle.std.proofs.Math.Seq.{drop-cons}
use Rattle.std.proofs.lemmas.Bool.{eq-eqb, ne_eqb}
use Rattle.proof_check.specs.Literals as words
use Rattle.text_numbers.specs.Lines.{tokens_of, is_passed_over}
use Rattle.text_numbers.specs.Numbers.{behind}
use Rattle.text_numbers.specs.declared.kinds.TextError.{TextError}
use Rattle.text_numbers.specs.declared.kinds.TextError.TheVariants.{At, NoMemory}
use Rattle.text_numbers.specs.declared.kinds.TextKind.TheVariants.{BadCount}
use Rattle.lrat_core.specs.declared.dimacs_text.entries.Entry.{Entry}
use Rattle.lrat_core.specs.declared.dimacs_text.entries.Entry.TheVariants.{Literal, End}
use Rattle.lrat_core.specs.dimacs_text.Formulas.{Formula}
use Rattle.lrat_core.specs.declared.dimacs_text.counts.Header.{Header}
use Rattle.lrat_core.specs.dimacs_text.Entries.{entries_of, is_end, ends, is_open, clauses_from}
use Rattle.text_numbers.specs.Answers.{IsGiven}
use Rattle.lrat_core.specs.dimacs_text.Parts.{IsLineFault}
use Rattle.lrat_core.specs.dimacs_text.Dimacs.{is_past, line_entries, line_then, end_of, body_from}

pub open_put : (entries : List Entry) (e : Entry) → is_open (entries ++ e ∷ []) ≡ not (is_end e)
open_put [] e = refl
open_put (x ∷ []) e = refl
open_put (x ∷ y ∷ more) e = open_put (y ∷ more) e

pub count_put : (entries : List Entry) (e : Entry) → ends (entries ++ e ∷ []) ≡ ends entries + cond (is_end e) 1 0
count_put [] (Literal l) = omega arith
count_put [] End = omega arith
count_put (Literal l ∷ more) e = count_put more e
count_put (End ∷ more) e = let h = count_put more e in let g : suc (ends (more ++ e ∷ [])) ≡ suc (ends more) + cond (is_end e) 1 0 = omega (arith, h) in g

pub end_read : (entries : List Entry) (i : ℕ) (d : Entry) (front new : List words.Literal) → i < length entries → get_or entries i d ≡ End → new ≡ [] →
    clauses_from front (drop i entries) ≡ front ∷ clauses_from new (drop (i + 1) entries)
end_read entries i d front new lt e none =
    ap (clauses_from front) (drop-cons entries i d lt ∙ ap (λ x. x ∷ drop (suc i) entries) e)
    ∙ (ap (λ ls. front ∷ clauses_from ls (drop (suc i) entries)) (sym none) ∙ ap (λ k. front ∷ clauses_from new (drop k entries)) (let q : suc i ≡ i + 1 = omega arith in q))

pub line_read : (limit : ℕ) (before : List Entry) (line : List ℕ) (o : Option (List Entry)) → is_passed_over (tokens_of line) ≡ false → behind before (entries_of limit (tokens_of line)) ≡ o →
    line_entries limit before line ≡ o
line_read limit before line o e f = ap (λ b. cond b (Some before) (behind before (entries_of limit (tokens_of line)))) e ∙ f

pub goes_on : (header : Header) (number : ℕ) (entries new : List Entry) (left lines : List (List ℕ)) (line : List ℕ) → left ≡ line ∷ lines → line_entries header.variables entries line ≡ Some new →
    is_past header.clauses new ≡ false → body_from header entries number left ≡ body_from header new (suc number) lines
goes_on header number entries new left lines line e is few =
    ap (body_from header entries number) e
    ∙ (ap (λ p. line_then header number p (λ es. body_from header es (suc number) lines)) is ∙ ap (λ b. cond b (Err (At number BadCount)) (body_from header new (suc number) lines)) few)

pub line_stops : (header : Header) (number : ℕ) (entries : List Entry) (left lines : List (List ℕ)) (line : List ℕ) (r : Result Formula TextError) → left ≡ line ∷ lines →
    line_then header number (line_entries header.variables entries line) (λ es. body_from header es (suc number) lines) ≡ r → body_from header entries number left ≡ r
line_stops header number entries left lines line r e is = ap (body_from header entries number) e ∙ is

pub few_ends : (entries : List Entry) → ends entries ≤ length entries
few_ends [] = omega arith
few_ends (Literal l ∷ more) = let h = few_ends more in omega (arith, h)
few_ends (End ∷ more) = let h = few_ends more in omega (arith, h)

-- a line's fault is that of the text
pub line_fails : (header : Header) (n number : ℕ) (entries : List Entry) (left lines : List (List ℕ)) (line : List ℕ) (r : Result Formula TextError) (e : TextError) → r ≡ body_from header entries (suc n) left →
    left ≡ line ∷ lines → number ≡ n + 1 → IsLineFault header entries line number e → IsGiven r (Err e)
line_fails header n number entries left lines line r (At k kind) same split p h =
    let q : number ≡ suc n = omega (arith, p) in
    same ∙ line_stops header (suc n) entries left lines line (Err (At k kind)) split (subst (λ m. IsLineFault header entries line m (At k kind)) q h (λ es. body_from header es (suc (suc n)) lines))
line_fails header n number entries left lines line r NoMemory same split p h = tt

-- what the entries are after the last line
abbrev pick : Header → List Entry → Bool → Result Formula TextError
pick header entries b = cond b (Ok (record { variables = header.variables; clauses = clauses_from [] entries })) (Err (At 0 BadCount))

pub wrong_count : (header : Header) (entries : List Entry) → (ends entries ≡ header.clauses → ⊥) → end_of header entries ≡ Err (At 0 BadCount)
wrong_count header entries h = ap (λ b. pick header entries (b && not (is_open entries))) (ne_eqb (ends entries) header.clauses h)

pub still_open : (header : Header) (entries : List Entry) → is_open entries ≡ true → end_of header entries ≡ Err (At 0 BadCount)
still_open header entries h = ap (λ b. pick header entries ((ends entries == header.clauses) && not b)) h ∙ go (ends entries == header.clauses)
  where
    go : (b : Bool) → pick header entries (b && false) ≡ Err (At 0 BadCount)
    go true = refl
    go false = refl

pub all_there : (header : Header) (entries : List Entry) → ends entries ≡ header.clauses → is_open entries ≡ false → end_of header entries ≡ Ok (record { variables = header.variables; clauses = clauses_from [] entries })
all_there header entries h k =
    ap (λ b. pick header entries (b && not (is_open entries))) (eq-eqb (ends entries) header.clauses h) ∙ ap (λ b. pick header entries (not b)) k
