-- What each flat statement keeps.
use Rattle.std.specs.Prelude.{ℕ, ◌+◌, nat_lt, ◌==◌, ◌&&◌, Bool, true, length, Some, None}
use Rattle.std.specs.List.{list_all}
use Rattle.elaborate.specs.declared.flat.FlatStatement.{FlatStatement}
use Rattle.elaborate.specs.declared.flat.FlatKind.{FlatKind}
use Rattle.elaborate.specs.declared.flat.FlatKind.TheVariants.{Gate, Latch, Port}

-- a latch's clock, if it has one, is below the size
abbrev pub has_clock_within : ℕ → FlatKind → Bool
has_clock_within size (Gate model statement) = true
has_clock_within size (Latch edge None init) = true
has_clock_within size (Latch edge (Some control) init) = nat_lt control size
has_clock_within size Port = true

-- each number of the statement is below the size
abbrev pub is_within : ℕ → FlatStatement → Bool
is_within size s = nat_lt s.out size && (list_all (λ n. nat_lt n size) s.reads && has_clock_within size s.kind)

-- whether this many signals can be read
abbrev pub can_read : ℕ → FlatKind → Bool
can_read count (Gate model statement) = true
can_read count (Latch edge control init) = count == 1
can_read count Port = count == 1

-- a latch reads one signal, and so does a port
abbrev pub reads_as_kind : FlatStatement → Bool
reads_as_kind s = can_read (length s.reads) s.kind

-- at how many places a statement writes its clock
abbrev pub clock_places : FlatKind → ℕ
clock_places (Gate model statement) = 0
clock_places (Latch edge None init) = 0
clock_places (Latch edge (Some control) init) = 1
clock_places Port = 0

-- at how many places a statement writes a signal's name
abbrev pub written_places : FlatStatement → ℕ
written_places s = length s.reads + 1 + clock_places s.kind
