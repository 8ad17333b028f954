-- What the wiring of a flat design without faults of drivers and clocks gives.
use Rattle.std.specs.Prelude.{◌≡◌, ◌≢◌, ℕ, List, ◌++◌, Option, Some, None}
use Rattle.std.specs.List.{Contains}
use Rattle.elaborate.specs.blif_read.BlifModel.{BlifModel}
use Rattle.elaborate.specs.declared.flat.Flat.{Flat}
use Rattle.elaborate.specs.declared.error.FlatError.{FlatError}
use Rattle.elaborate.specs.declared.error.FlatError.TheVariants as fault
use Rattle.elaborate.specs.Flat.{named, name_at, view_of}
use Rattle.flatten.specs.declared.connectivity.source.Source.{Source}
use Rattle.flatten.specs.connectivity.Wiring.{Wiring}
use Rattle.flatten.specs.connectivity.Faults.{HasClockNet, IsClockNet, HasNoWireFault, IsWireFault}
use Rattle.flatten.specs.connectivity.Tables.{HasTables}

pub record WiredView : Type 0 where
  pub sources : List Source
  pub nets : List (Option ℕ)
  pub clock : Option ℕ

-- the clock net: each clock that has a net has this one; None where no clock has a net
abbrev pub IsClockOf : Wiring ℕ → Option ℕ → Type 0
IsClockOf w None = (i net : ℕ) → HasClockNet w i net → ⊥
IsClockOf w (Some clock) = IsClockNet w clock × ((i net : ℕ) → HasClockNet w i net → net ≡ clock)

-- for each number below the size its driver and its net, and the clock net, where there is no fault
pub record IsWired (w : Wiring ℕ) (size : ℕ) (wired : WiredView) : Type 0 where
  pub faultless : HasNoWireFault w
  pub tables : HasTables w size wired.sources wired.nets
  pub clock : IsClockOf w wired.clock
  pub clock_is_main : (c : ℕ) → wired.clock ≡ Some c → Contains (w.inputs ++ w.clocks) c

-- the error is want of memory, or the first fault of the design over its names, whatever models its covers are in
abbrev pub IsTold : Flat → FlatError → Type 0
IsTold flat e = e ≢ fault.NoMemory → (models : List BlifModel) → IsWireFault (named (name_at flat.names) (view_of models flat)) e

-- the design over its names has no fault of drivers and clocks
abbrev pub IsFaultless : Flat → Type 0
IsFaultless flat = (models : List BlifModel) (e : FlatError) → IsWireFault (named (name_at flat.names) (view_of models flat)) e → ⊥
