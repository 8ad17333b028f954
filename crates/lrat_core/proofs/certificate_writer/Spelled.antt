-- The text of an addition spells it.
use Rattle.std.proofs.Common.{◌≡◌, ℕ, ◌<◌, ◌≤◌, ◌^◌, Bool, true, false, not, cond, ◌&&◌, List, [], ◌∷◌, ◌++◌, length, map, get_or, refl, ◌∙◌, ap, ap₂, arith, append_assoc, codes, Some}
use Rattle.std.specs.Prelude.{◌==◌, bytes_eq}
use Rattle.std.specs.Fmt.{decimal}
use Rattle.std.specs.List.{All, flat_map, list_all, before_first, after_first}
use Rattle.std.proofs.lemmas.Bool.{ne_eqb}
use Rattle.std.proofs.lemmas.List.Elements.{All-nil, All-cons, All-head, All-tail, All-append}
use Rattle.proof_check.specs.Literals.{Literal}
use Rattle.text_numbers.specs.Lines.{tokens_of, begins_with, is_empty}
use Rattle.text_numbers.specs.Numbers.{with_first, numbers_of, positive, is_zero}
use Rattle.text_numbers.specs.declared.numbers.TheConstants.{MAX_SIZE}
use Rattle.text_numbers.specs.declared.numbers.Number.{Number}
use Rattle.lrat_core.specs.dimacs_text.Literals.{is_literal, literal_of}
use Rattle.lrat_core.specs.dimacs_text.dimacs_writer.Written.{literal_text, literal_piece}
use Rattle.lrat_core.proofs.dimacs_text.dimacs_writer.Lining.{Plain, Solid, solid_plain, token_off}
use Rattle.lrat_core.proofs.dimacs_text.dimacs_writer.Numerals.{at_most, some_digits, solid_digits, digit, no_comment, number_is, literal_number, literal_some, literal_solid}
use Rattle.lrat_core.specs.Lines.{Addition, Adds}
use Rattle.lrat_core.specs.declared.hints.Hint.{Hint}
use Rattle.lrat_core.specs.declared.hints.Hint.TheVariants.{Clause, Negative}
use Rattle.lrat_core.specs.lrat_text.Spellings.{Nothing, Malformed, Spells, hint_of, is_ended, is_addition, addition_of, deletion_of, has_d, without_second, in_numbers, spelling_by, is_comment, spelling_of}
use Rattle.lrat_core.specs.certificate_writer.Texts.{number_piece, hint_piece, addition_text}
use Rattle.lrat_core.specs.certificate_writer.Hinting.{IsWithin}
use Rattle.lrat_core.proofs.certificate_writer.Ranges.{IsNumbered}
use Rattle.lrat_core.proofs.certificate_writer.Zeros.{before_is, after_is, has_it}

abbrev InRange : ℕ → Literal → Type 0
InRange v l = (0 < l.variable) × (l.variable ≤ v)

-- what the tokens of literals and of hints are as numbers
abbrev as_number : Literal → Number
as_number l = record { size = l.variable; is_negative = not l.positive }

abbrev hint_text : Hint → List ℕ
hint_text (Clause id) = decimal id
hint_text (Negative size) = 45 ∷ decimal size

abbrev hint_number : Hint → Number
hint_number (Clause id) = positive id
hint_number (Negative size) = record { size = size; is_negative = true }

abbrev zero_text : List ℕ
zero_text = 48 ∷ []

abbrev zero_number : Number
zero_number = positive 0

-- the line without its line feed
abbrev pub hints_line : List Hint → List ℕ
hints_line hs = flat_map hint_piece hs ++ zero_text

abbrev pub literals_line : List Literal → List Hint → List ℕ
literals_line c hs = flat_map literal_piece c ++ 48 ∷ 32 ∷ hints_line hs

abbrev pub addition_line : Addition → List ℕ
addition_line a = number_piece a.id ++ literals_line a.literals a.hints

pub addition_lined : (a : Addition) (rest : List ℕ) → addition_text a ++ rest ≡ addition_line a ++ 10 ∷ rest
addition_lined a rest = simp append_assoc

zero_solid : Solid zero_text
zero_solid = All-cons (λ b. 33 ≤ b) 48 [] (omega arith) (All-nil (λ b. 33 ≤ b))

nonzero : (n : ℕ) → 0 < n → (n == 0) ≡ false
nonzero n h = ne_eqb n 0 (λ e. let z : ⊥ = omega (arith, h, e) in z)

-- hints
hints_tokens : (hs : List Hint) → All (IsNumbered MAX_SIZE) hs → tokens_of (hints_line hs) ≡ map hint_text hs ++ zero_text ∷ []
hints_tokens [] h = refl
hints_tokens (Clause id ∷ hs) h =
    let own = All-head (IsNumbered MAX_SIZE) (Clause id) hs h in
    let first : hints_line (Clause id ∷ hs) ≡ decimal id ++ 32 ∷ hints_line hs = simp append_assoc in
    ap tokens_of first ∙ (token_off (decimal id) (hints_line hs) (some_digits id own.1) (solid_digits id own.1) ∙ ap (λ ts. decimal id ∷ ts) (hints_tokens hs (All-tail (IsNumbered MAX_SIZE) (Clause id) hs h)))
hints_tokens (Negative size ∷ hs) h = absurd (All-head (IsNumbered MAX_SIZE) (Negative size) hs h)

hints_numbers : (hs : List Hint) → All (IsNumbered MAX_SIZE) hs → numbers_of (map hint_text hs ++ zero_text ∷ []) ≡ Some (map hint_number hs ++ zero_number ∷ [])
hints_numbers [] h = refl
hints_numbers (Clause id ∷ hs) h =
    let own = All-head (IsNumbered MAX_SIZE) (Clause id) hs h in
    ap₂ with_first (number_is id own.1) (hints_numbers hs (All-tail (IsNumbered MAX_SIZE) (Clause id) hs h))
hints_numbers (Negative size ∷ hs) h = absurd (All-head (IsNumbered MAX_SIZE) (Negative size) hs h)

hints_back : (hs : List Hint) → All (IsNumbered MAX_SIZE) hs → map hint_of (map hint_number hs) ≡ hs
hints_back [] h = refl
hints_back (Clause id ∷ hs) h = ap (λ (xs : List Hint). Clause id ∷ xs) (hints_back hs (All-tail (IsNumbered MAX_SIZE) (Clause id) hs h))
hints_back (Negative size ∷ hs) h = absurd (All-head (IsNumbered MAX_SIZE) (Negative size) hs h)

hints_nonzero : (hs : List Hint) → All (IsNumbered MAX_SIZE) hs → All (λ n. is_zero n ≡ false) (map hint_number hs)
hints_nonzero [] h = All-nil (λ (n : Number). is_zero n ≡ false)
hints_nonzero (Clause id ∷ hs) h =
    let own = All-head (IsNumbered MAX_SIZE) (Clause id) hs h in
    All-cons (λ (n : Number). is_zero n ≡ false) (positive id) (map hint_number hs) (nonzero id own.0) (hints_nonzero hs (All-tail (IsNumbered MAX_SIZE) (Clause id) hs h))
hints_nonzero (Negative size ∷ hs) h = absurd (All-head (IsNumbered MAX_SIZE) (Negative size) hs h)

hints_plain : (hs : List Hint) → All (IsNumbered MAX_SIZE) hs → Plain (flat_map hint_piece hs)
hints_plain [] h = All-nil (λ b. 14 ≤ b)
hints_plain (Clause id ∷ hs) h =
    let own = All-head (IsNumbered MAX_SIZE) (Clause id) hs h in
    All-append (λ b. 14 ≤ b) (number_piece id) (flat_map hint_piece hs)
    (All-append (λ b. 14 ≤ b) (decimal id) (32 ∷ []) (solid_plain (decimal id) (solid_digits id own.1)) (All-cons (λ b. 14 ≤ b) 32 [] (omega arith) (All-nil (λ b. 14 ≤ b))))
    (hints_plain hs (All-tail (IsNumbered MAX_SIZE) (Clause id) hs h))
hints_plain (Negative size ∷ hs) h = absurd (All-head (IsNumbered MAX_SIZE) (Negative size) hs h)

-- literals
module _ (v : ℕ) (small : v ≤ 2 ^ 30) where
  var_small : (l : Literal) → InRange v l → l.variable ≤ 2 ^ 30
  var_small l h = let k = h.1 in omega (arith, k, small)

  literals_tokens : (c : List Literal) (hs : List Hint) → IsWithin v c → tokens_of (literals_line c hs) ≡ map literal_text c ++ zero_text ∷ tokens_of (hints_line hs)
  literals_tokens [] hs h = token_off zero_text (hints_line hs) (omega arith) zero_solid
  literals_tokens (l ∷ c) hs h =
      let own = All-head (InRange v) l c h in
      let first : literals_line (l ∷ c) hs ≡ literal_text l ++ 32 ∷ literals_line c hs = simp append_assoc in
      ap tokens_of first ∙ (token_off (literal_text l) (literals_line c hs) (literal_some l own.0 (var_small l own)) (literal_solid l own.0 (var_small l own)) ∙ ap (λ ts. literal_text l ∷ ts) (literals_tokens c hs (All-tail (InRange v) l c h)))

  literals_numbers : (c : List Literal) (tokens : List (List ℕ)) (numbers : List Number) → IsWithin v c → numbers_of tokens ≡ Some numbers → numbers_of (map literal_text c ++ tokens) ≡ Some (map as_number c ++ numbers)
  literals_numbers [] tokens numbers h e = e
  literals_numbers (l ∷ c) tokens numbers h e =
      let own = All-head (InRange v) l c h in
      ap₂ with_first (literal_number l own.0 (var_small l own)) (literals_numbers c tokens numbers (All-tail (InRange v) l c h) e)

  literals_nonzero : (c : List Literal) → IsWithin v c → All (λ n. is_zero n ≡ false) (map as_number c)
  literals_nonzero [] h = All-nil (λ (n : Number). is_zero n ≡ false)
  literals_nonzero (l ∷ c) h = All-cons (λ (n : Number). is_zero n ≡ false) (as_number l) (map as_number c) (nonzero l.variable (All-head (InRange v) l c h).0) (literals_nonzero c (All-tail (InRange v) l c h))

  literals_there : (c : List Literal) → IsWithin v c → list_all (is_literal v) (map as_number c) ≡ true
  literals_there [] h = refl
  literals_there (l ∷ c) h =
      let own = All-head (InRange v) l c h in
      ap₂ (λ a b. a && b) (ap₂ (λ a b. a && b) (at_most 1 l.variable own.0) (at_most l.variable v own.1)) (literals_there c (All-tail (InRange v) l c h))

  literals_plain : (c : List Literal) → IsWithin v c → Plain (flat_map literal_piece c)
  literals_plain [] h = All-nil (λ b. 14 ≤ b)
  literals_plain (l ∷ c) h =
      let own = All-head (InRange v) l c h in
      All-append (λ b. 14 ≤ b) (literal_piece l) (flat_map literal_piece c)
      (All-append (λ b. 14 ≤ b) (literal_text l) (32 ∷ []) (solid_plain (literal_text l) (literal_solid l own.0 (var_small l own))) (All-cons (λ b. 14 ≤ b) 32 [] (omega arith) (All-nil (λ b. 14 ≤ b))))
      (literals_plain c (All-tail (InRange v) l c h))

  same : (l : Literal) → literal_of (as_number l) ≡ l
  same l = go l.variable l.positive
    where
      go : (n : ℕ) (b : Bool) → literal_of (record { size = n; is_negative = not b }) ≡ record { variable = n; positive = b }
      go n true = refl
      go n false = refl

  literals_back : (c : List Literal) → map literal_of (map as_number c) ≡ c
  literals_back [] = refl
  literals_back (l ∷ c) = ap₂ (λ (x : Literal) (xs : List Literal). x ∷ xs) (same l) (literals_back c)

  -- the second token isn't `d`
  no_d : (c : List Literal) (tokens : List (List ℕ)) (first : List ℕ) → IsWithin v c → has_d (first ∷ map literal_text c ++ zero_text ∷ tokens) ≡ false
  no_d [] tokens first h = refl
  no_d (l ∷ c) tokens first h = let own = All-head (InRange v) l c h in go l.positive
    where
      wide : l.variable ≤ MAX_SIZE
      wide = let k = (All-head (InRange v) l c h).1 in omega (arith, k, small)

      other : (ds : List ℕ) → 0 < length ds → (get_or ds 0 0 ≡ 100 → ⊥) → bytes_eq ds (codes "d") ≡ false
      other [] some k = absurd (omega (arith, some))
      other (x ∷ xs) some k = ap (λ b. b && bytes_eq xs []) (ne_eqb x 100 k)

      go : (b : Bool) → bytes_eq (cond b (decimal l.variable) (45 ∷ decimal l.variable)) (codes "d") ≡ false
      go true = other (decimal l.variable) (some_digits l.variable wide) (λ e. let r = digit l.variable wide 0 (some_digits l.variable wide) in let z : ⊥ = omega (arith, r, e) in z)
      go false = refl

  -- a line that begins with a digit isn't passed over
  shown : (digits rest : List ℕ) → 0 < length digits → begins_with 99 digits ≡ false → is_comment ((digits ++ 32 ∷ []) ++ rest) ≡ false
  shown [] rest some e = absurd (omega (arith, some))
  shown (x ∷ digits) rest some e = e

  module _ (a : Addition) (id_small : a.id ≤ MAX_SIZE) (within : IsWithin v a.literals) (numbered : All (IsNumbered MAX_SIZE) a.hints) where
    line_tokens : tokens_of (addition_line a) ≡ decimal a.id ∷ map literal_text a.literals ++ (zero_text ∷ map hint_text a.hints ++ zero_text ∷ [])
    line_tokens =
        ap tokens_of (append_assoc (decimal a.id) (32 ∷ []) (literals_line a.literals a.hints))
        ∙ (token_off (decimal a.id) (literals_line a.literals a.hints) (some_digits a.id id_small) (solid_digits a.id id_small)
        ∙ ap (λ ts. decimal a.id ∷ ts) (literals_tokens a.literals a.hints within ∙ ap (λ ts. map literal_text a.literals ++ zero_text ∷ ts) (hints_tokens a.hints numbered)))

    abbrev hint_numbers : List Number
    hint_numbers = map hint_number a.hints ++ zero_number ∷ []

    abbrev numbers : List Number
    numbers = map as_number a.literals ++ zero_number ∷ hint_numbers

    line_numbers : numbers_of (decimal a.id ∷ map literal_text a.literals ++ (zero_text ∷ map hint_text a.hints ++ zero_text ∷ [])) ≡ Some (positive a.id ∷ numbers)
    line_numbers =
        ap₂ with_first (number_is a.id id_small)
        (literals_numbers a.literals (zero_text ∷ map hint_text a.hints ++ zero_text ∷ []) (zero_number ∷ hint_numbers) within (ap (with_first (Some zero_number)) (hints_numbers a.hints numbered)))

    front : before_first is_zero numbers ≡ map as_number a.literals
    front = before_is is_zero (map as_number a.literals) zero_number hint_numbers (literals_nonzero a.literals within) refl

    behind_it : after_first is_zero numbers ≡ hint_numbers
    behind_it = after_is is_zero (map as_number a.literals) zero_number hint_numbers (literals_nonzero a.literals within) refl

    ended : is_ended hint_numbers ≡ true
    ended =
        ap₂ (λ p q. p && q) (has_it is_zero (map hint_number a.hints) zero_number [] (hints_nonzero a.hints numbered) refl)
        (ap is_empty (after_is is_zero (map hint_number a.hints) zero_number [] (hints_nonzero a.hints numbered) refl))

    is_one : is_addition v numbers ≡ true
    is_one =
        ap₂ (λ p q. p && q) (has_it is_zero (map as_number a.literals) zero_number hint_numbers (literals_nonzero a.literals within) refl)
        (ap₂ (λ p q. p && q) (ap is_ended behind_it ∙ ended) (ap (list_all (is_literal v)) front ∙ literals_there a.literals within))

    hints_are : map hint_of (before_first is_zero (after_first is_zero numbers)) ≡ a.hints
    hints_are =
        ap (λ ns. map hint_of (before_first is_zero ns)) behind_it
        ∙ (ap (map hint_of) (before_is is_zero (map hint_number a.hints) zero_number [] (hints_nonzero a.hints numbered) refl) ∙ hints_back a.hints numbered)

    read_back : addition_of v (positive a.id ∷ numbers) ≡ Spells (Adds a)
    read_back =
        ap (λ b. cond b (Spells (Adds (record { id = a.id; literals = map literal_of (before_first is_zero numbers); hints = map hint_of (before_first is_zero (after_first is_zero numbers)) }))) Malformed) is_one
        ∙ ap₂ (λ (c : List Literal) (hs : List Hint). Spells (Adds (record { id = a.id; literals = c; hints = hs }))) (ap (map literal_of) front ∙ literals_back a.literals) hints_are

    pub addition_spelled : spelling_of v (addition_line a) ≡ Spells (Adds a)
    addition_spelled =
        ap (λ ts. cond (is_comment (addition_line a)) Nothing (spelling_by v ts)) line_tokens
        ∙ (ap (λ b. cond b Nothing (spelling_by v (decimal a.id ∷ map literal_text a.literals ++ (zero_text ∷ map hint_text a.hints ++ zero_text ∷ []))))
        (shown (decimal a.id) (literals_line a.literals a.hints) (some_digits a.id id_small) (no_comment a.id id_small))
        ∙ (ap (λ b. cond b (in_numbers deletion_of (numbers_of (without_second (decimal a.id ∷ map literal_text a.literals ++ (zero_text ∷ map hint_text a.hints ++ zero_text ∷ []))))) (in_numbers (addition_of v) (numbers_of (decimal a.id ∷ map literal_text a.literals ++ (zero_text ∷ map hint_text a.hints ++ zero_text ∷ [])))))
        (no_d a.literals (map hint_text a.hints ++ zero_text ∷ []) (decimal a.id) within)
        ∙ (ap (in_numbers (addition_of v)) line_numbers ∙ read_back)))

    pub addition_plain : Plain (addition_line a)
    addition_plain =
        All-append (λ b. 14 ≤ b) (number_piece a.id) (literals_line a.literals a.hints)
        (All-append (λ b. 14 ≤ b) (decimal a.id) (32 ∷ []) (solid_plain (decimal a.id) (solid_digits a.id id_small)) blank)
        (All-append (λ b. 14 ≤ b) (flat_map literal_piece a.literals) (48 ∷ 32 ∷ hints_line a.hints) (literals_plain a.literals within)
        (All-cons (λ b. 14 ≤ b) 48 (32 ∷ hints_line a.hints) (omega arith) (All-cons (λ b. 14 ≤ b) 32 (hints_line a.hints) (omega arith)
        (All-append (λ b. 14 ≤ b) (flat_map hint_piece a.hints) zero_text (hints_plain a.hints numbered) (solid_plain zero_text zero_solid)))))
      where
        blank : Plain (32 ∷ [])
        blank = All-cons (λ b. 14 ≤ b) 32 [] (omega arith) (All-nil (λ b. 14 ≤ b))
