-- What drives each number, where ports come from, and nets, as tables.
use Rattle.std.specs.Prelude.{◌≡◌, ℕ, ◌<◌, List, ◌++◌, length, Option, Some, None, slice_get}
use Rattle.std.specs.List.{Contains}
use Rattle.flatten.specs.declared.connectivity.source.Source.{Source}
use Rattle.flatten.specs.declared.connectivity.source.Source.TheVariants as source
use Rattle.flatten.specs.connectivity.Wiring.{Wiring}
use Rattle.flatten.specs.connectivity.Faults.{HasNet}

-- what drives n, where the inputs and what the statements drive are these
abbrev pub IsSource : List ℕ → List ℕ → ℕ → Source → Type 0
IsSource inputs outs n source.Open = Contains (inputs ++ outs) n → ⊥
IsSource inputs outs n source.Input = Contains inputs n
IsSource inputs outs n (source.Statement i) = slice_get outs i ≡ Some n

-- the table says of each number what drives it
abbrev pub AreSources : List ℕ → List ℕ → List Source → Type 0
AreSources inputs outs sources = (n : ℕ) (s : Source) → slice_get sources n ≡ Some s → IsSource inputs outs n s

-- the table says of each number from where a port drives it, or that none does
pub record ArePorts (w : Wiring ℕ) (size : ℕ) (froms : List (Option ℕ)) : Type 0 where
  pub len : length froms ≡ size
  pub from : (n m : ℕ) → slice_get froms n ≡ Some (Some m) → Contains w.ports (record { out = n; from = m })
  pub all : (n m : ℕ) → Contains w.ports (record { out = n; from = m }) → slice_get froms n ≡ Some (Some m)
  pub within : (n m : ℕ) → slice_get froms n ≡ Some (Some m) → m < size

-- The table says of each number its net. A number without a net is driven by a port from one without a net.
pub record AreNets (w : Wiring ℕ) (size : ℕ) (nets : List (Option ℕ)) : Type 0 where
  pub len : length nets ≡ size
  pub net : (n m : ℕ) → slice_get nets n ≡ Some (Some m) → HasNet w n m
  pub ring : (n : ℕ) → slice_get nets n ≡ Some None → (m : ℕ) × Contains w.ports (record { out = n; from = m }) × (slice_get nets m ≡ Some None)
  pub no_net : (n m : ℕ) → slice_get nets n ≡ Some None → HasNet w n m → ⊥
  pub all : (n m : ℕ) → n < size → HasNet w n m → slice_get nets n ≡ Some (Some m)

-- nothing drives n
abbrev pub IsOpenIn : List Source → ℕ → Type 0
IsOpenIn sources n = slice_get sources n ≡ Some source.Open

-- for each number below the size its driver and its net
pub record HasTables (w : Wiring ℕ) (size : ℕ) (drivers : List Source) (ends : List (Option ℕ)) : Type 0 where
  pub len : length drivers ≡ size
  pub sources : AreSources (w.inputs ++ w.clocks) w.outs drivers
  pub nets : AreNets w size ends
