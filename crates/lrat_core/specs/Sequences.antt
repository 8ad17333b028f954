-- Which sequences of lines are accepted, and the first fault of the others.
use Rattle.std.specs.Prelude.{◌≡◌, ℕ, suc, ◌<◌, ◌≤◌, List, [], ◌∷◌, Option, Some, None}
use Rattle.proof_check.specs.Literals.{Literal}
use Rattle.lrat_core.specs.States.{Live, State, with_clause, without, without_all, start}
use Rattle.lrat_core.specs.Hints.{HintsGive}
use Rattle.lrat_core.specs.Lines.{Addition, Line}
use Rattle.lrat_core.specs.Lines as line
use Rattle.text_numbers.specs.declared.kinds.TextKind.{TextKind}
use Rattle.text_numbers.specs.declared.kinds.TextKind.TheVariants.{BadId, NoEmpty}

-- an addition's first fault, or none
pub data AdditionGives (state : State) (a : Addition) : Option TextKind → Type 0 where
  low : a.id ≤ state.greatest → AdditionGives state a (Some BadId)
  above : {given : Option TextKind} → state.greatest < a.id → HintsGive state.live a.literals a.hints given → AdditionGives state a given

-- the first fault of taking these clauses out one after another, or none
pub data DeletionGives : Live → List ℕ → Option TextKind → Type 0 where
  none_left : {live : Live} → DeletionGives live [] None
  not_live : {live : Live} {id : ℕ} {ids : List ℕ} → live id ≡ None → DeletionGives live (id ∷ ids) (Some BadId)
  is_live : {live : Live} {id : ℕ} {ids : List ℕ} {c : List Literal} {given : Option TextKind} → live id ≡ Some c → DeletionGives (without live id) ids given → DeletionGives live (id ∷ ids) given

-- a line's first fault, or none
abbrev pub LineGives : State → Line → Option TextKind → Type 0
LineGives state (line.Adds a) given = AdditionGives state a given
LineGives state (line.Deletes ids) given = DeletionGives state.live ids given

-- after an accepted line
abbrev pub after : State → Line → State
after state (line.Adds a) = record { live = with_clause state.live a.id a.literals; greatest = a.id }
after state (line.Deletes ids) = record { live = without_all state.live ids; greatest = state.greatest }

-- the line adds the empty clause
abbrev pub AddsEmpty : Line → Type 0
AddsEmpty (line.Adds a) = a.literals ≡ []
AddsEmpty (line.Deletes ids) = ⊥

-- what becomes of a sequence of lines
pub data Verdict : Type 0 where
  -- the line of this number adds the empty clause, and all lines up to it are accepted
  Accepted : (number : ℕ) → Verdict
  -- the line of this number is the first faulty one; with number 0 all lines are accepted, and none adds the empty clause
  Refused : (number : ℕ) (kind : TextKind) → Verdict

-- what becomes of the lines from the one of this number on
pub data LinesGive : State → ℕ → List Line → Verdict → Type 0 where
  none_left : {state : State} {number : ℕ} → LinesGive state number [] (Refused 0 NoEmpty)
  faulty : {state : State} {number : ℕ} {line : Line} {lines : List Line} {kind : TextKind} → LineGives state line (Some kind) → LinesGive state number (line ∷ lines) (Refused number kind)
  last : {state : State} {number : ℕ} {line : Line} {lines : List Line} → LineGives state line None → AddsEmpty line → LinesGive state number (line ∷ lines) (Accepted number)
  next : {state : State} {number : ℕ} {line : Line} {lines : List Line} {verdict : Verdict} → LineGives state line None → (AddsEmpty line → ⊥) →
      LinesGive (after state line) (suc number) lines verdict → LinesGive state number (line ∷ lines) verdict

-- what becomes of the lines over these clauses
abbrev pub IsVerdict : List (List Literal) → List Line → Verdict → Type 0
IsVerdict clauses lines verdict = LinesGive (start clauses) 1 lines verdict
