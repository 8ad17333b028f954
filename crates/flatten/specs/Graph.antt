-- What each numbered signal reads in the cycle in which it has its value.
use Rattle.std.specs.Prelude.{ℕ, ◌<◌, Bool, true, false, List, [], map, Option, Some, None, slice_get}
use Rattle.elaborate.specs.declared.flat.FlatStatement.{FlatStatement}
use Rattle.elaborate.specs.declared.flat.FlatKind.{FlatKind}
use Rattle.elaborate.specs.declared.flat.FlatKind.TheVariants as kind
use Rattle.flatten.specs.declared.connectivity.source.Source.{Source}
use Rattle.flatten.specs.declared.connectivity.source.Source.TheVariants as source

-- the source is an input, nothing, or one of so many statements
abbrev pub IsSourceWithin : ℕ → Source → Type 0
IsSourceWithin count source.Open = Unit {0}
IsSourceWithin count source.Input = Unit {0}
IsSourceWithin count (source.Statement i) = i < count

abbrev pub quick_reads : List ℕ → FlatKind → List ℕ
quick_reads reads (kind.Gate model statement) = reads
quick_reads reads (kind.Latch edge control init) = []
quick_reads reads kind.Port = reads

abbrev pub reads_in : Option FlatStatement → List ℕ
reads_in None = []
reads_in (Some s) = quick_reads s.reads s.kind

-- what a signal with this source reads
abbrev pub source_reads : List FlatStatement → Source → List ℕ
source_reads statements source.Open = []
source_reads statements source.Input = []
source_reads statements (source.Statement i) = reads_in (slice_get statements i)

abbrev pub is_gate_kind : FlatKind → Bool
is_gate_kind (kind.Gate model statement) = true
is_gate_kind (kind.Latch edge control init) = false
is_gate_kind kind.Port = false

abbrev pub is_gate_in : Option FlatStatement → Bool
is_gate_in None = false
is_gate_in (Some s) = is_gate_kind s.kind

-- whether the source is a gate
abbrev pub is_gate_source : List FlatStatement → Source → Bool
is_gate_source statements source.Open = false
is_gate_source statements source.Input = false
is_gate_source statements (source.Statement i) = is_gate_in (slice_get statements i)

abbrev pub is_gate_by : List FlatStatement → Option Source → Bool
is_gate_by statements None = false
is_gate_by statements (Some s) = is_gate_source statements s

-- whether a gate drives the signal with this number
abbrev pub is_gate_out : List FlatStatement → List Source → ℕ → Bool
is_gate_out statements sources n = is_gate_by statements (slice_get sources n)

-- what each signal reads
abbrev pub graph_of : List FlatStatement → List Source → List (List ℕ)
graph_of statements sources = map (source_reads statements) sources
