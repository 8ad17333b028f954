-- Initial values have no part in cycles of latches.
use Rattle.std.proofs.Common.{ℕ, Bool, List, [], subst, Option}
use Rattle.circuit_theory.specs.Circuit.{Circuit, Started, Reads, Reaches}
use Rattle.circuit_theory.specs.Depth.{LatchReads, LatchPath}
use Rattle.circuit_theory.specs.Run.{NoneEnabled}
use Rattle.circuit_laws.specs.start_laws.Known.{restarted}
use Rattle.flat_net.specs.View.{NetView, circuit_of}
use Rattle.sec_setup.specs.Cycles.{IsAcyclic}
use Rattle.restart.specs.Behind.{begun}
use Rattle.restart.proofs.Begun.{begun_starts, begun_circuit}

module _ (starts : List (Started ℕ)) (c : Circuit ℕ) where
  read : {p q : ℕ} → Reads (restarted starts c) p q → Reads c p q
  read (Reads.by_gate at among) = Reads.by_gate at among
  read (Reads.by_port at) = Reads.by_port at

  reached : {p u : ℕ} → Reaches (restarted starts c) p u → Reaches c p u
  reached Reaches.here = Reaches.here
  reached (Reaches.there first rest) = Reaches.there (read first) (reached rest)

  edge : {u v : ℕ} → LatchReads (restarted starts c) NoneEnabled [] u v → LatchReads c NoneEnabled [] u v
  edge e = record {
    name = e.name;
    next = e.next;
    latch = e.latch;
    kept = e.kept;
    other_name = e.other_name;
    other_next = e.other_next;
    other = e.other;
    other_kept = e.other_kept;
    cone = (e.cone.0, reached e.cone.1);
    no_self_edge = e.no_self_edge;
  }

  path : {u v : ℕ} → LatchPath (restarted starts c) NoneEnabled [] u v → LatchPath c NoneEnabled [] u v
  path (LatchPath.edge e) = LatchPath.edge (edge e)
  path (LatchPath.step e rest) = LatchPath.step (edge e) (path rest)

-- a net that begins has a cycle of latches only where the net has
pub acyclic_begun : (n : NetView) (known : List (Option Bool)) → IsAcyclic n → IsAcyclic (begun n known)
acyclic_begun n known free cycle =
    let there : LatchPath (restarted (begun_starts n known) (circuit_of n)) NoneEnabled [] cycle.0 cycle.0 =
    subst (λ (c : Circuit ℕ). LatchPath c NoneEnabled [] cycle.0 cycle.0) (begun_circuit n known) cycle.1 in
    free (cycle.0, path (begun_starts n known) (circuit_of n) there)
