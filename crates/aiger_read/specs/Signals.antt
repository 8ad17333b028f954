-- The order of a net's signals by the literals that they stand for.
use Rattle.std.specs.Prelude.{ℕ, ◌==◌, nat_lt, ◌||◌, Bool, if◌then◌else◌, List, [], ◌∷◌, ◌++◌, length, slice_index_or}
use Rattle.std.specs.List.{filter}
use Rattle.circuit_theory.specs.Cover.{Cover}
use Rattle.aiger_read.specs.declared.aiger_records.record.Record.{Record}
use Rattle.aiger_read.specs.aiger_file.aiger_graph.Circuit.{input_literals, and_cover, not_cover, zero_cover, one_cover}
use Rattle.aiger_read.specs.aiger_file.aiger_graph.Literals.{reads_in}
use Rattle.aiger_read.specs.SignalNames.{latch_literals}

-- whether a gate drives the literal
abbrev pub is_gate : List Record → ℕ → Bool
is_gate records literal = nat_lt literal 2 || nat_lt 0 (length (reads_in records literal))

-- the covers of each net of a file, and the number of the one for such reads
abbrev pub all_covers : List Cover
all_covers = zero_cover ∷ one_cover ∷ not_cover ∷ and_cover ∷ []

abbrev pub cover_number : ℕ → List ℕ → ℕ
cover_number literal [] = if literal == 0 then 0 else 1
cover_number literal (read ∷ []) = 2
cover_number literal (left ∷ right ∷ more) = 3

-- the literals of a net's signals: inputs, latches, then the gates in this order
abbrev pub all_literals : List Record → List ℕ → List ℕ
all_literals records order = input_literals records ++ latch_literals records ++ filter (is_gate records) order

-- the literal that a signal stands for
abbrev pub literal_at : List ℕ → ℕ → ℕ
literal_at literals s = slice_index_or literals s 0
