-- What is true where a replay of two circuits in a mode ends as it does.
use Rattle.std.specs.Prelude.{◌≡◌, ℕ, Bool, List, length, Some, Result, Ok, Err}
use Rattle.circuit_theory.specs.declared.Mode.{Mode}
use Rattle.circuit_theory.specs.declared.Side.{Side}
use Rattle.circuit_theory.specs.declared.Side.TheVariants.{A, B}
use Rattle.circuit_theory.specs.Interface.{first_mismatch}
use Rattle.flat_net.specs.View.{NetView, ports_of}
use Rattle.signal_graph.specs.declared.inner_cone.latch_cone.kinds.LatchKind.{LatchKind}
use Rattle.signal_graph.specs.inner_cone.latch_cone.Cones.{MarksEnabled}
use Rattle.latch_kinds.specs.declared.kinds.KindsError.{KindsError}
use Rattle.latch_kinds.specs.declared.kinds.KindsError.TheVariants as kinds_error
use Rattle.latch_kinds.specs.Found.{FoundIn}
use Rattle.sec_setup.specs.Matching.{InterfacesMatch}
use Rattle.cycle_sim.specs.declared.pair_runs.differences.Replayed.{Replayed}
use Rattle.job_circuit.specs.declared.replay.replay_header.error.ReplayError.{ReplayError}
use Rattle.job_circuit.specs.declared.replay.replay_header.error.ReplayError.TheVariants as replay_error
use Rattle.job_circuit.specs.replay.replay_header.Header.{FitsBoth, FitsOr}
use Rattle.job_circuit.specs.replay.Replay.{IsReplay}
use Rattle.circuit_report.specs.graph_report.Jobs.{IsUnknown}
use Rattle.job_circuit.specs.declared.job_replay.fault.ReplayFault.{ReplayFault}
use Rattle.job_circuit.specs.declared.job_replay.fault.ReplayFault.TheVariants as fault

abbrev pub fault_of : ReplayError → ReplayFault
fault_of (replay_error.Unknown name) = fault.Unknown name
fault_of (replay_error.Missing name) = fault.Missing name
fault_of replay_error.NoMemory = fault.NoMemory

-- the interfaces match, or this is the first name that one circuit lacks; no other refusal comes of it
abbrev pub Matches : NetView → NetView → Result (Unit {0}) ReplayFault → Type 0
Matches a b (Ok done) = InterfacesMatch a b
Matches a b (Err (fault.Interface name)) = first_mismatch (ports_of a) (ports_of b) ≡ Some name
Matches a b (Err fault.NoMemory) = Unit {0}
Matches a b (Err other) = ⊥

-- it is known what each latch of the net is
pub record AreKnown (mode : Mode) (n : NetView) : Type 0 where
  pub kinds : List LatchKind
  pub found : FoundIn mode n 20000 (Ok kinds)

-- the bits of the latches that count as enabled
pub record HasBits (mode : Mode) (n : NetView) (bits : List Bool) : Type 0 where
  pub known : AreKnown mode n
  pub each : length bits ≡ length n.latches
  pub marks : MarksEnabled mode n bits

-- these bits, or why they aren't known
abbrev pub KnowsEnabled : Mode → Side → NetView → Result (List Bool) ReplayFault → Type 0
KnowsEnabled mode side n (Ok bits) = HasBits mode n bits
KnowsEnabled mode side n (Err (fault.TooLarge other)) = (other ≡ side) × IsUnknown mode n kinds_error.TooLarge
KnowsEnabled mode side n (Err (fault.Limit other name proof)) = (other ≡ side) × IsUnknown mode n (kinds_error.Limit name proof)
KnowsEnabled mode side n (Err fault.NoMemory) = Unit {0}
KnowsEnabled mode side n (Err other) = ⊥

-- what the latches of A and then of B are isn't known, for this reason, on this side
abbrev pub AreUnknown : Mode → NetView → NetView → Side → KindsError → Type 0
AreUnknown mode a b A error = IsUnknown mode a error
AreUnknown mode a b B error = AreKnown mode a × IsUnknown mode b error

-- it is known what each latch of both nets is
abbrev pub AreBothKnown : Mode → NetView → NetView → Type 0
AreBothKnown mode a b = AreKnown mode a × AreKnown mode b

-- it is known what the latches of both nets are, the header fits both, and this is what both show
pub record ShowsReplay (mode : Mode) (a b : NetView) (header : List (List ℕ)) (rows : List (List Bool)) (replayed : Replayed) : Type 0 where
  pub known : AreBothKnown mode a b
  pub fits : FitsBoth a b header
  pub are : IsReplay mode a b header rows replayed

-- what both nets show, or why that isn't known, where the interfaces match
abbrev pub ReplaysMatching : Mode → NetView → NetView → List (List ℕ) → List (List Bool) → Result Replayed ReplayFault → Type 0
ReplaysMatching mode a b header rows (Ok replayed) = ShowsReplay mode a b header rows replayed
ReplaysMatching mode a b header rows (Err (fault.Interface name)) = ⊥
ReplaysMatching mode a b header rows (Err (fault.TooLarge side)) = AreUnknown mode a b side kinds_error.TooLarge
ReplaysMatching mode a b header rows (Err (fault.Limit side name proof)) = AreUnknown mode a b side (kinds_error.Limit name proof)
ReplaysMatching mode a b header rows (Err (fault.Unknown name)) = AreBothKnown mode a b × FitsOr a b header (Err (replay_error.Unknown name))
ReplaysMatching mode a b header rows (Err (fault.Missing name)) = AreBothKnown mode a b × FitsOr a b header (Err (replay_error.Missing name))
ReplaysMatching mode a b header rows (Err fault.NoMemory) = Unit {0}

-- the same where the interfaces are matched before
abbrev pub ReplaysIn : Mode → NetView → NetView → List (List ℕ) → List (List Bool) → Result Replayed ReplayFault → Type 0
ReplaysIn mode a b header rows (Err (fault.Interface name)) = first_mismatch (ports_of a) (ports_of b) ≡ Some name
ReplaysIn mode a b header rows (Err fault.NoMemory) = Unit {0}
ReplaysIn mode a b header rows found = InterfacesMatch a b × ReplaysMatching mode a b header rows found
