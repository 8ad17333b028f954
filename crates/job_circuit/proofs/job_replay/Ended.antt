-- How the parts of a replay in a mode end.
use Rattle.std.proofs.Common.{ℕ, Bool, List, Err, sym, subst}
use Rattle.circuit_theory.specs.declared.Mode.{Mode}
use Rattle.circuit_theory.specs.declared.Side.TheVariants.{A, B}
use Rattle.flat_net.specs.View.{NetView}
use Rattle.latch_kinds.specs.declared.kinds.KindsError.TheVariants as kinds_error
use Rattle.job_circuit.specs.declared.job_replay.fault.ReplayFault.{ReplayFault}
use Rattle.job_circuit.specs.declared.job_replay.fault.ReplayFault.TheVariants as fault
use Rattle.job_circuit.specs.job_replay.Modes.{AreKnown, KnowsEnabled, AreUnknown, ReplaysMatching}

-- what A's latches are isn't known
pub left_unknown : (mode : Mode) (a b : NetView) (header : List (List ℕ)) (rows : List (List Bool)) (e : ReplayFault) → KnowsEnabled mode A a (Err e) → ReplaysMatching mode a b header rows (Err e)
left_unknown mode a b header rows (fault.Interface name) known = absurd known
left_unknown mode a b header rows (fault.TooLarge side) known = subst (λ s. AreUnknown mode a b s kinds_error.TooLarge) (sym known.0) known.1
left_unknown mode a b header rows (fault.Limit side name proof) known = subst (λ s. AreUnknown mode a b s (kinds_error.Limit name proof)) (sym known.0) known.1
left_unknown mode a b header rows (fault.Unknown name) known = absurd known
left_unknown mode a b header rows (fault.Missing name) known = absurd known
left_unknown mode a b header rows fault.NoMemory known = tt

-- A's latches are known, and what B's are isn't
pub right_unknown : (mode : Mode) (a b : NetView) (header : List (List ℕ)) (rows : List (List Bool)) (e : ReplayFault) → AreKnown mode a → KnowsEnabled mode B b (Err e) → ReplaysMatching mode a b header rows (Err e)
right_unknown mode a b header rows (fault.Interface name) left known = absurd known
right_unknown mode a b header rows (fault.TooLarge side) left known = subst (λ s. AreUnknown mode a b s kinds_error.TooLarge) (sym known.0) (left, known.1)
right_unknown mode a b header rows (fault.Limit side name proof) left known = subst (λ s. AreUnknown mode a b s (kinds_error.Limit name proof)) (sym known.0) (left, known.1)
right_unknown mode a b header rows (fault.Unknown name) left known = absurd known
right_unknown mode a b header rows (fault.Missing name) left known = absurd known
right_unknown mode a b header rows fault.NoMemory left known = tt
