-- Steps back along ports, over a table that says of each number from where a port drives it.
use Rattle.std.specs.Prelude.{◌≡◌, ℕ, zero, suc, ◌<◌, Bool, List, length, Option, Some, None, slice_get, slice_index, slice_index_or, unwrap_or, is_some, if◌then◌else◌}
use Rattle.elaborate.specs.declared.flat.FlatStatement.{FlatStatement}
use Rattle.elaborate.specs.declared.flat.FlatKind.{FlatKind}
use Rattle.elaborate.specs.declared.flat.FlatKind.TheVariants as kind
use Rattle.flatten.specs.declared.connectivity.source.Source.{Source}
use Rattle.flatten.specs.declared.connectivity.source.Source.TheVariants as source

abbrev pub other_side : List ℕ → FlatKind → Option ℕ
other_side reads (kind.Gate model statement) = None
other_side reads (kind.Latch edge control init) = None
other_side reads kind.Port = Some (slice_index reads 0)

abbrev pub port_in : Option FlatStatement → Option ℕ
port_in None = None
port_in (Some s) = other_side s.reads s.kind

-- from where a port drives what has this source
abbrev pub source_port : List FlatStatement → Source → Option ℕ
source_port statements source.Open = None
source_port statements source.Input = None
source_port statements (source.Statement i) = port_in (slice_get statements i)

-- the statement is there
abbrev pub IsStatementWithin : ℕ → Source → Type 0
IsStatementWithin count source.Open = Unit {0}
IsStatementWithin count source.Input = Unit {0}
IsStatementWithin count (source.Statement i) = i < count

-- each port comes from a number of the table
abbrev pub ArePortsWithin : List (Option ℕ) → Type 0
ArePortsWithin froms = (n m : ℕ) → slice_get froms n ≡ Some (Some m) → m < length froms

-- a port drives n
abbrev pub is_open : List (Option ℕ) → ℕ → Bool
is_open froms n = is_some (slice_index_or froms n None)

-- one port back, or where no port drives n, n itself
abbrev pub back : List (Option ℕ) → ℕ → ℕ
back froms n = unwrap_or (slice_index_or froms n None) n

-- so many ports back, or where following ends before, where it ends
unfoldable pub back_by : List (Option ℕ) → ℕ → ℕ → ℕ
back_by froms zero n = n
back_by froms (suc k) n = back_by froms k (back froms n)

-- the table says where following so many ports back comes to
pub record IsBackBy (froms : List (Option ℕ)) (k : ℕ) (at : List ℕ) : Type 0 where
  pub len : length at ≡ length froms
  pub each : (n m : ℕ) → slice_get at n ≡ Some m → back_by froms k n ≡ m
  pub within : (n m : ℕ) → slice_get at n ≡ Some m → m < length froms

-- the end, where no port drives it
abbrev pub net_at : List (Option ℕ) → ℕ → Option ℕ
net_at froms m = if is_open froms m then None else Some m

-- the table says of each number where following ports back from it ends, or that it doesn't end
pub record AreEnds (froms nets : List (Option ℕ)) : Type 0 where
  pub len : length nets ≡ length froms
  pub net : (n m : ℕ) → slice_get nets n ≡ Some (Some m) → ((k : ℕ) × (back_by froms k n ≡ m)) × (slice_get froms m ≡ Some None)
  pub ring : (n : ℕ) → slice_get nets n ≡ Some None → (m : ℕ) × (slice_get froms n ≡ Some (Some m)) × (slice_get nets m ≡ Some None)
