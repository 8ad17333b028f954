-- What is wrong with a record, by the records before it.
use Rattle.std.specs.Prelude.{◌≡◌, ℕ, ◌+◌, ◌-◌, ◌*◌, ◌%◌, ◌≤◌, ◌==◌, nat_lt, ◌||◌, not, Bool, false, List, length, Option, Some, None, slice_index_or, slice_get}
use Rattle.std.specs.List.{list_any}
use Rattle.circuit_theory.specs.Interface.{◌or_else◌}
use Rattle.aiger_read.specs.declared.aiger_records.header.Header.{Header}
use Rattle.aiger_read.specs.declared.aiger_records.record.Record.{Record}
use Rattle.aiger_read.specs.declared.aiger_records.record.Record.TheVariants.{Input, Latch, Output, Gate, Packed}
use Rattle.aiger_read.specs.declared.aiger_records.error.AigerKind.{AigerKind}
use Rattle.aiger_read.specs.declared.aiger_records.error.AigerKind.TheVariants as kind
use Rattle.aiger_read.specs.aiger_records.Headers.{most, guard}

-- what each header without a fault keeps
pub record IsSmall (h : Header) : Type 0 where
  pub counts : h.inputs + h.latches + h.gates ≤ h.greatest
  pub greatest : h.greatest ≤ most
  pub outputs : h.outputs ≤ most

-- above the literals of the greatest variable
abbrev pub is_above : Header → ℕ → Bool
is_above h literal = nat_lt (2 * h.greatest + 1) literal

-- no literal that a record may define
abbrev pub is_undefinable : Header → ℕ → Bool
is_undefinable h literal = is_above h literal || (literal % 2 == 1) || (literal == 0)

abbrev pub has_bad_literal : Header → Record → Bool
has_bad_literal h (Input literal) = is_undefinable h literal
has_bad_literal h (Latch literal next reset) = is_undefinable h literal || is_above h next || is_above h reset
has_bad_literal h (Output literal) = is_above h literal
has_bad_literal h (Gate literal left right) = is_undefinable h literal || is_above h left || is_above h right
has_bad_literal h (Packed literal first second) = is_undefinable h literal

-- the literal that the record defines, if it defines one
abbrev pub defined_by : Record → Option ℕ
defined_by (Input literal) = Some literal
defined_by (Latch literal next reset) = Some literal
defined_by (Output literal) = None
defined_by (Gate literal left right) = Some literal
defined_by (Packed literal first second) = Some literal

abbrev pub is_literal : ℕ → Option ℕ → Bool
is_literal literal None = false
is_literal literal (Some other) = other == literal

-- whether one of the records defines the literal
abbrev pub is_defined : List Record → ℕ → Bool
is_defined records literal = list_any (λ r. is_literal literal (defined_by r)) records

abbrev pub is_defined_again : List Record → Option ℕ → Bool
is_defined_again before None = false
is_defined_again before (Some literal) = is_defined before literal

-- a reset is 0, 1, or the literal of its latch
abbrev pub has_bad_reset : Record → Bool
has_bad_reset (Latch literal next reset) = not ((reset == 0) || (reset == 1) || (reset == literal))
has_bad_reset r = false

-- the first difference isn't 0, and none is above what it is taken from
abbrev pub has_bad_delta : Record → Bool
has_bad_delta (Packed literal first second) = (first == 0) || nat_lt literal first || nat_lt (literal - first) second
has_bad_delta r = false

-- the first kind that holds of the record, after these
unfoldable pub fault_of : Header → List Record → Record → Option AigerKind
fault_of h before r =
    guard (has_bad_literal h r) kind.BadLiteral
    or_else guard (is_defined_again before (defined_by r)) kind.TwoDrivers
    or_else guard (has_bad_reset r) kind.BadReset
    or_else guard (has_bad_delta r) kind.BadDelta

-- no literal is defined by two of the records
abbrev pub DefinesOnce : List Record → Type 0
DefinesOnce records = (i j literal : ℕ) (r s : Record) → slice_get records i ≡ Some r → slice_get records j ≡ Some s → defined_by r ≡ Some literal → defined_by s ≡ Some literal → i ≡ j

-- the marks of the variables that the records define
pub record AreMarks (h : Header) (records : List Record) (marks : List Bool) : Type 0 where
  pub size : length marks ≡ h.greatest + 1
  pub each : (v : ℕ) → v ≤ h.greatest → slice_index_or marks v false ≡ is_defined records (2 * v)
