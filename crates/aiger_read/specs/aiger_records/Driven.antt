-- What records read, and whether that is defined.
use Rattle.std.specs.Prelude.{ℕ, ◌-◌, ◌*◌, ◌/◌, nat_lt, ◌||◌, Bool, List, [], ◌∷◌}
use Rattle.std.specs.List.{list_all}
use Rattle.aiger_read.specs.declared.aiger_records.record.Record.{Record}
use Rattle.aiger_read.specs.declared.aiger_records.record.Record.TheVariants.{Input, Latch, Output, Gate, Packed}
use Rattle.aiger_read.specs.aiger_records.Faults.{is_defined}

-- the literals that a record reads; a reset is no read
abbrev pub used_by : Record → List ℕ
used_by (Input literal) = []
used_by (Latch literal next reset) = next ∷ []
used_by (Output literal) = literal ∷ []
used_by (Gate literal left right) = left ∷ right ∷ []
used_by (Packed literal first second) = (literal - first) ∷ (literal - first - second) ∷ []

-- the variable of the literal is that of the constants, or it is defined
abbrev pub is_driven : List Record → ℕ → Bool
is_driven records literal = nat_lt literal 2 || is_defined records (2 * (literal / 2))

abbrev pub all_driven : List Record → Bool
all_driven records = list_all (λ r. list_all (is_driven records) (used_by r)) records
