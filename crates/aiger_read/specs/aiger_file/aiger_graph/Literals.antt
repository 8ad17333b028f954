-- What literals read in the cycle in which they have their values.
use Rattle.std.specs.Prelude.{◌≡◌, ℕ, ◌+◌, ◌-◌, ◌<◌, ◌==◌, Bool, true, false, if◌then◌else◌, List, [], ◌∷◌, map, length, Option, Some, None, slice_set, slice_index_or}
use Rattle.std.specs.List.{range_with_len}
use Rattle.circuit_theory.specs.Cover.{Cover}
use Rattle.circuit_theory.specs.Circuit.{Equation, Gate as gate_equation}
use Rattle.aiger_read.specs.declared.aiger_records.record.Record.{Record}
use Rattle.aiger_read.specs.declared.aiger_records.record.Record.TheVariants.{Gate, Packed}
use Rattle.aiger_read.specs.aiger_records.Faults.{defined_by}
use Rattle.aiger_read.specs.aiger_file.aiger_graph.Circuit.{and_cover, not_cover, zero_cover, one_cover, is_used}

-- the operands of a gate
abbrev pub operands : Record → List ℕ
operands (Gate literal left right) = left ∷ right ∷ []
operands (Packed literal first second) = (literal - first) ∷ (literal - first - second) ∷ []
operands r = []

-- the reads of a variable's negation: the variable, where the negation is used
abbrev pub negated : Bool → ℕ → List ℕ
negated used literal = if used then literal ∷ [] else []

-- what a literal reads beside a record that defines this one: its operands, or what it negates, or what later records say
abbrev pub reads_by : Bool → Option ℕ → List ℕ → ℕ → List ℕ → List ℕ
reads_by used None ops literal later = later
reads_by used (Some d) ops literal later = if d == literal then ops else (if (d + 1) == literal then negated used d else later)

-- what a literal reads by these records of the file
abbrev pub reads_among : List Record → List Record → ℕ → List ℕ
reads_among file [] literal = []
reads_among file (r ∷ rs) literal = reads_by (is_used file literal) (defined_by r) (operands r) literal (reads_among file rs literal)

-- what a literal reads: a gate its operands, a negation that is used its variable
abbrev pub reads_in : List Record → ℕ → List ℕ
reads_in records literal = reads_among records records literal

-- what each literal below the size reads, by these records of the file
abbrev pub graph_among : List Record → List Record → ℕ → List (List ℕ)
graph_among file records size = map (reads_among file records) (range_with_len 0 size)

abbrev pub graph_of : List Record → ℕ → List (List ℕ)
graph_of records size = graph_among records records size

-- these literals are marked, too
abbrev pub with_marks : List ℕ → List Bool → List Bool
with_marks [] marks = marks
with_marks (u ∷ us) marks = with_marks us (slice_set marks u true)

-- the marks of the literals below the size that the records read
pub record AreUsed (records : List Record) (size : ℕ) (marks : List Bool) : Type 0 where
  pub count : length marks ≡ size
  pub each : (l : ℕ) → l < size → slice_index_or marks l false ≡ is_used records l

-- the graph with what one record more says, where these literals are used
abbrev pub with_reads : List Bool → Option ℕ → List ℕ → List (List ℕ) → List (List ℕ)
with_reads used None ops graph = graph
with_reads used (Some d) ops graph = slice_set (slice_set graph d ops) (d + 1) (negated (slice_index_or used (d + 1) false) d)

-- the cover of the gate that drives a literal with these reads
abbrev pub cover_by : ℕ → List ℕ → Cover
cover_by literal [] = if literal == 0 then zero_cover else one_cover
cover_by literal (read ∷ []) = not_cover
cover_by literal (left ∷ right ∷ more) = and_cover

-- the gate that drives the literal
abbrev pub gate_at : List Record → ℕ → Equation ℕ
gate_at records literal = gate_equation literal (reads_in records literal) (cover_by literal (reads_in records literal))
