use Rattle.std.proofs.Common.{◌≡◌, ℕ, Bool, List, Result, Ok, Err, sym, subst}
use Rattle.std.specs.Prelude.{IsErrAnd}
use Rattle.circuit_theory.specs.declared.Mode.{Mode}
use Rattle.flat_net.specs.View.{NetView}
use Rattle.cycle_sim.specs.declared.pair_runs.differences.Replayed.{Replayed}
use Rattle.job_circuit.specs.declared.replay.replay_header.error.ReplayError.{ReplayError}
use Rattle.job_circuit.specs.declared.replay.replay_header.error.ReplayError.TheVariants as refused
use Rattle.job_circuit.specs.replay.replay_header.Header.{FitsBoth}
use Rattle.job_circuit.specs.replay.Replay.{Replays, HasFitting}
use Rattle.job_circuit.proofs.replay.two_circuits.replay.Goals as goal

-- want of memory
memory_wanted : (mode : Mode) (a b : NetView) (names : List (List ℕ)) (rows : List (List Bool)) (r : Result Replayed ReplayError) → IsErrAnd r (λ e. e ≡ refused.NoMemory) → Replays mode a b names rows r
memory_wanted mode a b names rows (Ok replayed) h = absurd h
memory_wanted mode a b names rows (Err e) h = subst (λ (x : ReplayError). Replays mode a b names rows (Err x)) (sym h) tt

memory_fits : (a b : NetView) (names : List (List ℕ)) (r : Result Replayed ReplayError) → IsErrAnd r (λ e. e ≡ refused.NoMemory) → HasFitting a b names r
memory_fits a b names (Ok replayed) h = absurd h
memory_fits a b names (Err e) h = subst (λ (x : ReplayError). HasFitting a b names (Err x)) (sym h) tt

pub returns-in_err-replayed-clause-fits : goal.returns-in_err-replayed-clause-fits
returns-in_err-replayed-clause-fits c = memory_fits c.args.a.now c.args.b.now c.args.stimulus.now.names c.from_residual-in_err-replayed.result c.from_residual-in_err-replayed.ensures.1

pub returns-in_err-replayed-clause-replays : goal.returns-in_err-replayed-clause-replays
returns-in_err-replayed-clause-replays c mode marks_a marks_b =
    memory_wanted mode c.args.a.now c.args.b.now c.args.stimulus.now.names c.args.stimulus.now.rows c.from_residual-in_err-replayed.result c.from_residual-in_err-replayed.ensures.1

pub returns-clause-fits : goal.returns-clause-fits
returns-clause-fits c = subst (FitsBoth c.args.a.now c.args.b.now) c.in_ok-header.ensures c.in_ok-names.ensures.0

pub returns-clause-replays : goal.returns-clause-replays
returns-clause-replays c mode marks_a marks_b = (subst (FitsBoth c.args.a.now c.args.b.now) c.in_ok-header.ensures c.in_ok-names.ensures.0, c.in_ok-replayed.ensures mode marks_a marks_b)
