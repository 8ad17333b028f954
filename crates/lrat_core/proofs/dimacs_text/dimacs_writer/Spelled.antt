-- The text of clauses spells these clauses.
use Rattle.std.proofs.Common.{◌≡◌, ℕ, suc, ◌+◌, ◌<◌, ◌≤◌, ◌^◌, true, false, not, cond, ◌&&◌, List, [], ◌∷◌, ◌++◌, length, map, refl, sym, ◌∙◌, ap, ap₂, arith, append_assoc, codes, Some, Ok, Err, inl, inr}
use Rattle.std.specs.Prelude.{◌⊎◌, nat_lt}
use Rattle.std.specs.Fmt.{decimal}
use Rattle.std.specs.List.{All, flat_map}
use Rattle.std.proofs.lemmas.Bool.{eq-eqb}
use Rattle.std.proofs.lemmas.Bool.Decides.{leb_tells}
use Rattle.std.proofs.lemmas.List.{append-nil}
use Rattle.std.proofs.lemmas.List.Elements.{All-nil, All-cons, All-head, All-tail, All-append}
use Rattle.proof_check.specs.Literals.{Literal}
use Rattle.text_numbers.specs.Lines.{lines_of, tokens_of, is_passed_over}
use Rattle.text_numbers.specs.Numbers.{with_first, behind}
use Rattle.text_numbers.specs.declared.numbers.TheConstants.{MAX_SIZE}
use Rattle.text_numbers.specs.declared.kinds.TextError.TheVariants.{At}
use Rattle.text_numbers.specs.declared.kinds.TextKind.TheVariants.{BadCount}
use Rattle.lrat_core.specs.dimacs_text.Formulas.{Formula}
use Rattle.lrat_core.specs.declared.dimacs_text.counts.Header.{Header}
use Rattle.lrat_core.specs.declared.dimacs_text.entries.Entry.{Entry}
use Rattle.lrat_core.specs.declared.dimacs_text.entries.Entry.TheVariants as entry
use Rattle.lrat_core.specs.dimacs_text.Entries.{entries_of, ends, is_open, clauses_from}
use Rattle.lrat_core.specs.dimacs_text.Dimacs.{begun, is_past, line_entries, end_of, body_from, header_from, header_of}
use Rattle.lrat_core.proofs.dimacs_text.Headings.{here}
use Rattle.lrat_core.proofs.dimacs_text.Putting.{open_put, count_put, line_read, goes_on}
use Rattle.lrat_core.specs.dimacs_text.dimacs_writer.Written.{literal_text, literal_piece, clause_line, clause_text, dimacs_text}
use Rattle.lrat_core.specs.dimacs_text.dimacs_writer.Laws.{WrittenIsSpelled}
use Rattle.lrat_core.proofs.dimacs_text.dimacs_writer.Lining.{Plain, Solid, solid_plain, line_off, token_off, last_token}
use Rattle.lrat_core.proofs.dimacs_text.dimacs_writer.Numerals.{some_digits, solid_digits, count_is, literal_entry, literal_some, literal_solid, literal_first}

-- a literal of a variable up to the limit, and clauses of such
abbrev InRange : ℕ → Literal → Type 0
InRange limit l = (0 < l.variable) × (l.variable ≤ limit)

abbrev AllIn : ℕ → List Literal → Type 0
AllIn limit c = All (InRange limit) c

-- the entries of a clause
abbrev entries : List Literal → List Entry
entries c = map entry.Literal c ++ entry.End ∷ []

module _ (limit : ℕ) (small : limit ≤ 2 ^ 30) where
  var_small : (l : Literal) → InRange limit l → l.variable ≤ 2 ^ 30
  var_small l h = let k = h.1 in omega (arith, k, small)

  line_tokens : (c : List Literal) → AllIn limit c → tokens_of (clause_line c) ≡ map literal_text c ++ (48 ∷ []) ∷ []
  line_tokens [] h = refl
  line_tokens (l ∷ c) h =
      let own = All-head (InRange limit) l c h in
      let first : clause_line (l ∷ c) ≡ literal_text l ++ 32 ∷ clause_line c = simp append_assoc in
      ap tokens_of first ∙ (token_off (literal_text l) (clause_line c) (literal_some l own.0 (var_small l own)) (literal_solid l own.0 (var_small l own)) ∙ ap (λ ts. literal_text l ∷ ts) (line_tokens c (All-tail (InRange limit) l c h)))

  line_spelled : (c : List Literal) → AllIn limit c → entries_of limit (map literal_text c ++ (48 ∷ []) ∷ []) ≡ Some (entries c)
  line_spelled [] h = refl
  line_spelled (l ∷ c) h =
      let own = All-head (InRange limit) l c h in
      ap₂ with_first (literal_entry l own.0 (var_small l own) limit own.1) (line_spelled c (All-tail (InRange limit) l c h))

  line_shown : (c : List Literal) → AllIn limit c → is_passed_over (tokens_of (clause_line c)) ≡ false
  line_shown c h = ap is_passed_over (line_tokens c h) ∙ go c h
    where
      go : (d : List Literal) → AllIn limit d → is_passed_over (map literal_text d ++ (48 ∷ []) ∷ []) ≡ false
      go [] k = refl
      go (l ∷ d) k = let own = All-head (InRange limit) l d k in literal_first l own.0 (var_small l own)

  line_plain : (c : List Literal) → AllIn limit c → Plain (clause_line c)
  line_plain c h = All-append (λ b. 14 ≤ b) (flat_map literal_piece c) (48 ∷ []) (pieces c h) (All-cons (λ b. 14 ≤ b) 48 [] (omega arith) (All-nil (λ b. 14 ≤ b)))
    where
      pieces : (d : List Literal) → AllIn limit d → Plain (flat_map literal_piece d)
      pieces [] k = All-nil (λ b. 14 ≤ b)
      pieces (l ∷ d) k =
          let own = All-head (InRange limit) l d k in
          All-append (λ b. 14 ≤ b) (literal_piece l) (flat_map literal_piece d)
          (All-append (λ b. 14 ≤ b) (literal_text l) (32 ∷ []) (solid_plain (literal_text l) (literal_solid l own.0 (var_small l own))) (All-cons (λ b. 14 ≤ b) 32 [] (omega arith) (All-nil (λ b. 14 ≤ b))))
          (pieces d (All-tail (InRange limit) l d k))

  line_is : (before : List Entry) (c : List Literal) → AllIn limit c → line_entries limit before (clause_line c) ≡ Some (before ++ entries c)
  line_is before c h = line_read limit before (clause_line c) (Some (before ++ entries c)) (line_shown c h) (ap (λ ts. behind before (entries_of limit ts)) (line_tokens c h) ∙ ap (behind before) (line_spelled c h))

kept : (before : List Entry) (c : List Literal) → ends (before ++ map entry.Literal c) ≡ ends before
kept [] [] = refl
kept [] (l ∷ c) = kept [] c
kept (entry.Literal m ∷ more) c = kept more c
kept (entry.End ∷ more) c = ap suc (kept more c)

parted : (before : List Entry) (c : List Literal) → before ++ entries c ≡ (before ++ map entry.Literal c) ++ entry.End ∷ []
parted before c = sym (append_assoc before (map entry.Literal c) (entry.End ∷ []))

one_more : (before : List Entry) (c : List Literal) → ends (before ++ entries c) ≡ ends before + 1
one_more before c = ap ends (parted before c) ∙ (count_put (before ++ map entry.Literal c) entry.End ∙ ap (λ k. k + 1) (kept before c))

closed : (before : List Entry) (c : List Literal) → is_open (before ++ entries c) ≡ false
closed before c = ap is_open (parted before c) ∙ open_put (before ++ map entry.Literal c) entry.End

begun_is : (es : List Entry) → is_open es ≡ false → begun es ≡ ends es
begun_is es e = ap (λ b. cond b (ends es + 1) (ends es)) e

not_past : (clauses : ℕ) (es : List Entry) → is_open es ≡ false → ends es ≤ clauses → is_past clauses es ≡ false
not_past clauses es e h = ap (nat_lt clauses) (begun_is es e) ∙ go (leb_tells (suc clauses) (ends es))
  where
    go : ((nat_lt clauses (ends es) ≡ true) × (suc clauses ≤ ends es)) ⊎ ((nat_lt clauses (ends es) ≡ false) × (ends es < suc clauses)) → nat_lt clauses (ends es) ≡ false
    go (inl k) = absurd (let z = k.1 in omega (arith, z, h))
    go (inr k) = k.0

text_line : (c : List Literal) (rest : List ℕ) → clause_text c ++ rest ≡ clause_line c ++ 10 ∷ rest
text_line c rest = simp append_assoc

-- the lines of clauses, behind entries in which as many clauses have ended as are left out of the count
body_is : (header : Header) → header.variables ≤ 2 ^ 30 → (cs : List (List Literal)) (es : List Entry) (number : ℕ) → All (AllIn header.variables) cs → is_open es ≡ false → ends es + length cs ≡ header.clauses →
    body_from header es number (lines_of (flat_map clause_text cs)) ≡ Ok (record { variables = header.variables; clauses = clauses_from [] (es ++ flat_map entries cs) })
body_is header small [] es number range shut count =
    ap (λ b. cond b (Err (At number BadCount)) (end_of header es)) (not_past header.clauses es shut (omega arith))
    ∙ (ap (λ b. cond (b && not (is_open es)) (Ok whole) (Err (At 0 BadCount))) (eq-eqb (ends es) header.clauses (omega arith))
    ∙ (ap (λ b. cond (not b) (Ok whole) (Err (At 0 BadCount))) shut ∙ ap (λ xs. Ok (record { variables = header.variables; clauses = clauses_from [] xs })) (sym (append-nil es))))
  where
    whole : Formula
    whole = record { variables = header.variables; clauses = clauses_from [] es }
body_is header small (c ∷ cs) es number range shut count =
    let own = All-head (AllIn header.variables) c cs range in
    let more = one_more es c in
    let lines : lines_of (flat_map clause_text (c ∷ cs)) ≡ clause_line c ∷ lines_of (flat_map clause_text cs) = ap lines_of (text_line c (flat_map clause_text cs)) ∙ line_off (clause_line c) (flat_map clause_text cs) (line_plain header.variables small c own) in
    goes_on header number es (es ++ entries c) (lines_of (flat_map clause_text (c ∷ cs))) (lines_of (flat_map clause_text cs)) (clause_line c) lines (line_is header.variables small es c own)
    (not_past header.clauses (es ++ entries c) (closed es c) (omega arith))
    ∙ (body_is header small cs (es ++ entries c) (suc number) (All-tail (AllIn header.variables) c cs range) (closed es c) (omega arith)
    ∙ ap (λ xs. Ok (record { variables = header.variables; clauses = clauses_from [] xs })) (append_assoc es (entries c) (flat_map entries cs)))

-- the clauses that end in the entries of clauses
clause_back : (front c : List Literal) (more : List Entry) → clauses_from front (map entry.Literal c ++ entry.End ∷ more) ≡ (front ++ c) ∷ clauses_from [] more
clause_back front [] more = ap (λ ls. ls ∷ clauses_from [] more) (sym (append-nil front))
clause_back front (l ∷ c) more = clause_back (front ++ l ∷ []) c more ∙ ap (λ ls. ls ∷ clauses_from [] more) (append_assoc front (l ∷ []) c)

clauses_back : (cs : List (List Literal)) → clauses_from [] (flat_map entries cs) ≡ cs
clauses_back [] = refl
clauses_back (c ∷ cs) = ap (clauses_from []) (append_assoc (map entry.Literal c) (entry.End ∷ []) (flat_map entries cs)) ∙ (clause_back [] c (flat_map entries cs) ∙ ap (λ ds. c ∷ ds) (clauses_back cs))

-- the header
module _ (variables clauses : ℕ) (few : variables ≤ 2 ^ 30) (also : clauses ≤ 2 ^ 30) where
  wide : variables ≤ MAX_SIZE
  wide = omega arith

  also_wide : clauses ≤ MAX_SIZE
  also_wide = omega arith

  abbrev header_line : List ℕ
  header_line = codes "p cnf " ++ decimal variables ++ 32 ∷ [] ++ decimal clauses

  p_solid : Solid (codes "p")
  p_solid = All-cons (λ b. 33 ≤ b) 112 [] (omega arith) (All-nil (λ b. 33 ≤ b))

  cnf_solid : Solid (codes "cnf")
  cnf_solid =
      All-cons (λ b. 33 ≤ b) 99 (110 ∷ 102 ∷ []) (omega arith) (All-cons (λ b. 33 ≤ b) 110 (102 ∷ []) (omega arith) (All-cons (λ b. 33 ≤ b) 102 [] (omega arith) (All-nil (λ b. 33 ≤ b))))

  header_tokens : tokens_of header_line ≡ codes "p" ∷ codes "cnf" ∷ decimal variables ∷ decimal clauses ∷ []
  header_tokens =
      ap (λ xs. tokens_of (codes "p cnf " ++ xs)) (append_assoc (decimal variables) (32 ∷ []) (decimal clauses))
      ∙ (token_off (codes "p") (codes "cnf" ++ 32 ∷ (decimal variables ++ 32 ∷ decimal clauses)) (omega arith) p_solid
      ∙ ap (λ ts. codes "p" ∷ ts) (token_off (codes "cnf") (decimal variables ++ 32 ∷ decimal clauses) (omega arith) cnf_solid
      ∙ ap (λ ts. codes "cnf" ∷ ts) (token_off (decimal variables) (decimal clauses) (some_digits variables wide) (solid_digits variables wide)
      ∙ ap (λ ts. decimal variables ∷ ts) (last_token (decimal clauses) (some_digits clauses also_wide) (solid_digits clauses also_wide)))))

  header_is : Some (record { variables = variables; clauses = clauses }) ≡ header_of (tokens_of header_line)
  header_is = sym (ap header_of header_tokens ∙ ap₂ header_from (count_is variables few) (count_is clauses also))

  header_plain : Plain header_line
  header_plain =
      All-append (λ b. 14 ≤ b) (codes "p cnf " ++ decimal variables ++ 32 ∷ []) (decimal clauses)
      (All-append (λ b. 14 ≤ b) (codes "p cnf " ++ decimal variables) (32 ∷ [])
      (All-append (λ b. 14 ≤ b) (codes "p cnf ") (decimal variables)
      (All-append (λ b. 14 ≤ b) (codes "p") (codes " cnf ") (solid_plain (codes "p") p_solid) (All-append (λ b. 14 ≤ b) (32 ∷ []) (codes "cnf ") blank (All-append (λ b. 14 ≤ b) (codes "cnf") (32 ∷ []) (solid_plain (codes "cnf") cnf_solid) blank)))
      (solid_plain (decimal variables) (solid_digits variables wide)))
      blank)
      (solid_plain (decimal clauses) (solid_digits clauses also_wide))
    where
      blank : Plain (32 ∷ [])
      blank = All-cons (λ b. 14 ≤ b) 32 [] (omega arith) (All-nil (λ b. 14 ≤ b))

  header_shown : is_passed_over (tokens_of header_line) ≡ false
  header_shown = ap is_passed_over header_tokens

pub written_is_spelled : WrittenIsSpelled
written_is_spelled variables clauses are =
    let n = length clauses in
    let header : Header = record { variables = variables; clauses = n } in
    let rest = flat_map clause_text clauses in
    let few = are.few_variables in
    let also = are.few_clauses in
    let line = header_line variables n few also in
    let lines : lines_of (dimacs_text variables clauses) ≡ line ∷ lines_of rest = ap lines_of (append_assoc line (10 ∷ []) rest) ∙ line_off line rest (header_plain variables n few also) in
    here 1 (lines_of (dimacs_text variables clauses)) (lines_of rest) line (Some header) lines (header_shown variables n few also) (header_is variables n few also)
    ∙ (body_is header few clauses [] 2 are.range refl (let q : 0 + n ≡ n = omega arith in q) ∙ ap (λ cs. Ok (record { variables = variables; clauses = cs })) (clauses_back clauses))
