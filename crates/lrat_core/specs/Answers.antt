-- What the checker's parts answer.
use Rattle.std.specs.Prelude.{◌≡◌, ℕ, List, [], ◌∷◌, ◌++◌, Option, Some, None}
use Rattle.proof_check.specs.Literals.{Literal, negation}
use Rattle.lrat_core.specs.States.{Live, State, without_all}
use Rattle.lrat_core.specs.Hints.{HintsGive, IsFalsified, IsUnit, HasTwoOutside}
use Rattle.lrat_core.specs.Sequences.{DeletionGives, LineGives, after}
use Rattle.lrat_core.specs.declared.hints.Hint.{Hint}
use Rattle.lrat_core.specs.Lines.{Line}
use Rattle.lrat_core.specs.declared.looking.Outside.{Outside}
use Rattle.lrat_core.specs.declared.looking.Outside.TheVariants.{Nothing, One, More}
use Rattle.lrat_core.specs.declared.looking.Effect.{Effect}
use Rattle.lrat_core.specs.declared.looking.Effect.TheVariants.{Fails, Conflicts, Forces}
use Rattle.text_numbers.specs.declared.kinds.TextKind.{TextKind}
use Rattle.lrat_core.specs.declared.line_error.LineError.{LineError}
use Rattle.lrat_core.specs.declared.line_error.LineError.TheVariants as error

-- the literals of the clause that aren't false
abbrev pub IsOutside : List Literal → List Literal → Outside → Type 0
IsOutside falsified c Nothing = IsFalsified falsified c
IsOutside falsified c (One l) = IsUnit falsified c l
IsOutside falsified c More = HasTwoOutside falsified c

-- what the hint does, whatever hints follow
abbrev pub HintDoes : Live → List Literal → Hint → Effect → Type 0
HintDoes live falsified hint (Fails kind) = (hints : List Hint) → HintsGive live falsified (hint ∷ hints) (Some kind)
HintDoes live falsified hint Conflicts = (hints : List Hint) → HintsGive live falsified (hint ∷ hints) None
HintDoes live falsified hint (Forces l) = (hints : List Hint) (given : Option TextKind) → HintsGive live (falsified ++ negation l ∷ []) hints given → HintsGive live falsified (hint ∷ hints) given

-- the hints' fault
abbrev pub HintsFail : Live → List Literal → List Hint → LineError → Type 0
HintsFail live falsified hints (error.Fault kind) = HintsGive live falsified hints (Some kind)
HintsFail live falsified hints error.NoMemory = Unit {0}

abbrev pub IsDeleted : Live → List ℕ → Live → Type 0
IsDeleted old ids new = DeletionGives old ids None × (new ≡ without_all old ids)

abbrev pub IsNotDeleted : Live → List ℕ → LineError → Type 0
IsNotDeleted old ids (error.Fault kind) = DeletionGives old ids (Some kind)
IsNotDeleted old ids error.NoMemory = Unit {0}

-- the line is accepted
abbrev pub IsTaken : State → Line → State → Type 0
IsTaken old line new = LineGives old line None × (new ≡ after old line)

-- the line's fault
abbrev pub IsNotTaken : State → Line → LineError → Type 0
IsNotTaken old line (error.Fault kind) = LineGives old line (Some kind)
IsNotTaken old line error.NoMemory = Unit {0}
