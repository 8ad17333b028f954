-- What a line of an LRAT text spells.
use Rattle.std.specs.Prelude.{◌≡◌, ℕ, ◌&&◌, ◌==◌, Bool, true, false, if◌then◌else◌, List, [], ◌∷◌, map, Option, Some, None, codes, bytes_eq, refl}
use Rattle.std.specs.List.{list_all, before_first, after_first}
use Rattle.text_numbers.specs.Lines.{is_empty, tokens_of}
use Rattle.text_numbers.specs.Numbers.{numbers_of, is_zero, has_zero}
use Rattle.text_numbers.specs.declared.numbers.Number.{Number}
use Rattle.lrat_core.specs.dimacs_text.Literals.{is_literal, literal_of}
use Rattle.lrat_core.specs.Lines.{Line, adds, Deletes}
use Rattle.lrat_core.specs.declared.hints.Hint.{Hint}
use Rattle.lrat_core.specs.declared.hints.Hint.TheVariants.{Clause, Negative}

pub data Spelling : Type 0 where
  -- nothing: the line is passed over
  Nothing : Spelling
  -- neither an addition nor a deletion
  Malformed : Spelling
  Spells : (line : Line) → Spelling

abbrev pub hint_of : Number → Hint
hint_of n = if n.is_negative then Negative n.size else Clause n.size

-- a number below 0 is put as 0, which no clause has
abbrev pub id_of : Number → ℕ
id_of n = if n.is_negative then 0 else n.size

-- one 0 stands there, at the end
abbrev pub is_ended : List Number → Bool
is_ended numbers = has_zero numbers && is_empty (after_first is_zero numbers)

-- literals of variables up to the limit, a 0, hints, and a 0 at the end
abbrev pub is_addition : ℕ → List Number → Bool
is_addition limit numbers = has_zero numbers && (is_ended (after_first is_zero numbers) && list_all (is_literal limit) (before_first is_zero numbers))

-- the addition `id literals 0 hints 0`
abbrev pub addition_of : ℕ → List Number → Spelling
addition_of limit [] = Malformed
addition_of limit (id ∷ numbers) =
    if is_addition limit numbers then Spells (adds (id_of id) (map literal_of (before_first is_zero numbers)) (map hint_of (before_first is_zero (after_first is_zero numbers)))) else Malformed

-- the deletion `id d ids 0`, without its `d`; its own number isn't looked at
abbrev pub deletion_of : List Number → Spelling
deletion_of [] = Malformed
deletion_of (id ∷ numbers) = if is_ended numbers then Spells (Deletes (map id_of (before_first is_zero numbers))) else Malformed

-- the second token is `d`
abbrev pub has_d : List (List ℕ) → Bool
has_d (first ∷ second ∷ more) = bytes_eq second (codes "d")
has_d tokens = false

-- all tokens but the second
abbrev pub without_second : List (List ℕ) → List (List ℕ)
without_second (first ∷ second ∷ more) = first ∷ more
without_second tokens = tokens

-- what the numbers spell, where there are no others
abbrev pub in_numbers : (List Number → Spelling) → Option (List Number) → Spelling
in_numbers spelling None = Malformed
in_numbers spelling (Some numbers) = spelling numbers

-- what the tokens of a line spell that isn't passed over
abbrev pub spelling_by : ℕ → List (List ℕ) → Spelling
spelling_by limit tokens = if has_d tokens then in_numbers deletion_of (numbers_of (without_second tokens)) else in_numbers (addition_of limit) (numbers_of tokens)

-- an empty line, or one that begins with `c`; blanks before it are bytes like others
abbrev pub is_comment : List ℕ → Bool
is_comment [] = true
is_comment (first ∷ line) = first == 99

-- what a line spells, where literals have variables up to the limit
abbrev pub spelling_of : ℕ → List ℕ → Spelling
spelling_of limit line = if is_comment line then Nothing else spelling_by limit (tokens_of line)

addition_example : spelling_of 2 (codes "7 1 -2 0 3 -4 0") ≡
    Spells (adds 7 (record { variable = 1; positive = true } ∷ record { variable = 2; positive = false } ∷ []) (Clause 3 ∷ Negative 4 ∷ []))
addition_example = refl

deletion_example : spelling_of 2 (codes "7 d 3 4 0") ≡ Spells (Deletes (3 ∷ 4 ∷ []))
deletion_example = refl

-- a hint has to stand between the two zeros, and nothing behind the second
open_example : spelling_of 2 (codes "7 0") ≡ Malformed
open_example = refl

more_example : spelling_of 2 (codes "7 0 1 0 2") ≡ Malformed
more_example = refl

limit_example : spelling_of 2 (codes "7 3 0 1 0") ≡ Malformed
limit_example = refl

comment_example : spelling_of 2 (codes "c 7") ≡ Nothing
comment_example = refl

-- a comment that a blank stands before, and blanks alone
blank_example : spelling_of 2 (codes " c 7") ≡ Malformed
blank_example = refl

blanks_example : spelling_of 2 (codes "  ") ≡ Malformed
blanks_example = refl
