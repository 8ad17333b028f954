-- What the hints of an added clause show. A list of false literals stands for the set of its literals.
use Rattle.std.specs.Prelude.{◌≡◌, ◌≢◌, ℕ, List, [], ◌∷◌, ◌++◌, Option, Some, None}
use Rattle.std.specs.List.{Contains}
use Rattle.proof_check.specs.Literals.{Literal, negation}
use Rattle.lrat_core.specs.States.{Live}
use Rattle.lrat_core.specs.declared.hints.Hint.{Hint}
use Rattle.lrat_core.specs.declared.hints.Hint.TheVariants.{Clause, Negative}
use Rattle.text_numbers.specs.declared.kinds.TextKind.{TextKind}
use Rattle.text_numbers.specs.declared.kinds.TextKind.TheVariants.{NegativeHint, BadHint, NotUnit, NoConflict}

-- each literal of the clause is false
abbrev pub IsFalsified : List Literal → List Literal → Type 0
IsFalsified falsified c = (l : Literal) → Contains c l → Contains falsified l

-- this literal of the clause alone isn't false
pub record IsUnit (falsified c : List Literal) (l : Literal) : Type 0 where
  pub there : Contains c l
  pub outside : Contains falsified l → ⊥
  pub only : (m : Literal) → Contains c m → (Contains falsified m → ⊥) → m ≡ l

-- two literals of the clause aren't false
pub record HasTwoOutside (falsified c : List Literal) : Type 0 where
  pub one : Literal
  pub other : Literal
  pub apart : one ≢ other
  pub one_there : Contains c one
  pub other_there : Contains c other
  pub one_outside : Contains falsified one → ⊥
  pub other_outside : Contains falsified other → ⊥

-- What the hints give, where these clauses are live and these literals are false: none is a hint whose clause is false before any
-- fault, and else there is the first fault.
pub data HintsGive (live : Live) : List Literal → List Hint → Option TextKind → Type 0 where
  none_left : {falsified : List Literal} → HintsGive live falsified [] (Some NoConflict)
  negative : {falsified : List Literal} {n : ℕ} {hints : List Hint} → HintsGive live falsified (Negative n ∷ hints) (Some NegativeHint)
  not_live : {falsified : List Literal} {id : ℕ} {hints : List Hint} → live id ≡ None → HintsGive live falsified (Clause id ∷ hints) (Some BadHint)
  not_unit : {falsified c : List Literal} {id : ℕ} {hints : List Hint} → live id ≡ Some c → HasTwoOutside falsified c → HintsGive live falsified (Clause id ∷ hints) (Some NotUnit)
  conflict : {falsified c : List Literal} {id : ℕ} {hints : List Hint} → live id ≡ Some c → IsFalsified falsified c → HintsGive live falsified (Clause id ∷ hints) None
  unit : {falsified c : List Literal} {l : Literal} {id : ℕ} {hints : List Hint} {given : Option TextKind} → live id ≡ Some c → IsUnit falsified c l →
      HintsGive live (falsified ++ negation l ∷ []) hints given → HintsGive live falsified (Clause id ∷ hints) given
