-- The net of a sound flat design.
use Rattle.std.specs.Prelude.{◌≡◌, ℕ, List, [], ◌∷◌, map, length, option_map}
use Rattle.std.specs.List.{All, Contains}
use Rattle.blif_read.specs.declared.design.BlifModel.{BlifModel}
use Rattle.flat_net.specs.declared.parts.Port.{Port}
use Rattle.flat_net.specs.declared.parts.LatchAt.{LatchAt}
use Rattle.flat_net.specs.View.{NetView, equation_of_gate}
use Rattle.elaborate.specs.declared.flat.Flat.{Flat}
use Rattle.elaborate.specs.declared.flat.FlatStatement.{FlatStatement}
use Rattle.elaborate.specs.declared.flat.FlatKind.{FlatKind}
use Rattle.elaborate.specs.declared.flat.FlatKind.TheVariants as kind
use Rattle.elaborate.specs.Flat.{name_at, first_of}
use Rattle.flatten.specs.connectivity.Wiring.{joined}
use Rattle.flatten.specs.connectivity.Wired.{WiredView}
use Rattle.net_assembly.specs.Built.{unclocked}
use Rattle.net_assembly.specs.Shown.{latch_data}
use Rattle.flatten.specs.Gated.{spot, HasSpot, gates_in, made_by, driver_of, net_equation}

-- What the net shows and what its latches take over is driven at a signal of the net.
pub record IsSpotted (flat : Flat) (wired : WiredView) (order : List ℕ) : Type 0 where
  pub outputs : All (HasSpot flat wired order) flat.outputs
  pub taken : (s : FlatStatement) (n : ℕ) → Contains flat.statements s → Contains (latch_data s.kind s.out s.reads) n → HasSpot flat wired order n

-- the number as a port, on the signal of its net
abbrev pub port_on : Flat → WiredView → List ℕ → ℕ → Port
port_on flat wired order n = record { name = name_at flat.names n; signal = record { 0 = spot flat wired order n } }

-- a statement as a latch from its data to what it drives, where it is one
abbrev pub latch_by : (ℕ → List ℕ) → (ℕ → ℕ) → FlatKind → ℕ → List ℕ → List LatchAt
latch_by name place (kind.Gate model statement) out reads = []
latch_by name place (kind.Latch edge control init) out reads = record { name = name out; next = record { 0 = place (first_of out reads) }; out = record { 0 = place out }; init = init } ∷ []
latch_by name place kind.Port out reads = []

abbrev pub latch_on : Flat → WiredView → List ℕ → FlatStatement → List LatchAt
latch_on flat wired order s = latch_by (name_at flat.names) (spot flat wired order) s.kind s.out s.reads

-- The net has the inputs but the clock, the outputs, the latches and the gates, each number read as the signal of its net.
-- A signal has the name of the number at which it is driven.
pub record IsMade (models : List BlifModel) (flat : Flat) (wired : WiredView) (order : List ℕ) (net : NetView) : Type 0 where
  pub inputs : net.inputs ≡ map (port_on flat wired order) (unclocked wired.clock flat.inputs)
  pub outputs : net.outputs ≡ map (port_on flat wired order) flat.outputs
  pub latches : net.latches ≡ joined (latch_on flat wired order) flat.statements
  pub gates : map (equation_of_gate net.covers) net.gates ≡ map (λ n. net_equation models flat wired order (driver_of flat wired n)) (gates_in flat wired order)
  pub size : length net.drivers ≡ length (made_by flat wired order)
  pub names : net.names ≡ map (name_at flat.names) (made_by flat wired order)
  pub clock : net.clock ≡ option_map (name_at flat.names) wired.clock
