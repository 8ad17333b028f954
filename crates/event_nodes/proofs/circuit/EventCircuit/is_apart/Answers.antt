-- A signal of a lower depth doesn't read the latch.
use Rattle.std.proofs.Common.{◌<◌, ◌≤◌, ℕ, List, subst, arith}
use Rattle.std.specs.Prelude.{slice_index_or}
use Rattle.std.proofs.lemmas.Bool.Decides.{nat_tests}
use Rattle.circuit_theory.specs.Circuit.{IsLatch, Reaches}
use Rattle.flat_net.specs.View.{circuit_of}
use Rattle.event_nodes.specs.View.{EventCircuitView}
use Rattle.event_nodes.proofs.Depths.{shallower_apart, deep_reads}
use Rattle.event_nodes.proofs.circuit.EventCircuit.is_apart.Goals as goal

pub returns-clause-apart : goal.returns-clause-apart
returns-clause-apart c = λ is.
    let less : slice_index_or c.as_slice-depths.result.now c.args.signal 0 < slice_index_or c.as_slice-depths.result.now c.args.latch 0 = grind (arith, nat_tests, c.depth_in.ensures, c.depth_in-2.ensures, is) in
    subst (λ (e : EventCircuitView). Reaches (circuit_of e.net) c.args.signal c.args.latch → ⊥) c.self.view_is
    (shallower_apart c.self.inside.net c.keeps.ensures.sound c.self.inside.depths c.self.invariant.1 c.args.signal c.args.latch
    (subst (λ (l : List ℕ). slice_index_or l c.args.signal 0 < slice_index_or l c.args.latch 0) c.as_slice-depths.ensures less))

pub returns-clause-reads : goal.returns-clause-reads
returns-clause-reads c = λ is.
    let more : slice_index_or c.as_slice-depths.result.now c.args.latch 0 ≤ slice_index_or c.as_slice-depths.result.now c.args.signal 0 = grind (arith, nat_tests, c.depth_in.ensures, c.depth_in-2.ensures, is) in
    subst (λ (e : EventCircuitView). (name : List ℕ) (next : ℕ) → IsLatch (circuit_of e.net) name c.args.latch next → Reaches (circuit_of e.net) next c.args.signal → Reaches (circuit_of e.net) c.args.signal c.args.latch) c.self.view_is
    (λ name next latch reach. deep_reads c.self.inside.net c.keeps.ensures.sound c.self.inside.depths c.self.invariant.1 c.args.signal c.args.latch name next
    (subst (λ (l : List ℕ). slice_index_or l c.args.latch 0 ≤ slice_index_or l c.args.signal 0) c.as_slice-depths.ensures more) latch reach)
