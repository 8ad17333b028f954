use Rattle.std.proofs.Common.{List, ℕ, subst}
use Rattle.flat_net.specs.Cut.{IsCutCircuit}
use Rattle.flat_net.specs.View.{circuit_of}
use Rattle.job_circuit.proofs.replay.cut_sides.Uncut.{left_in}
use Rattle.job_circuit.proofs.replay.cut_sides.sides.cut_side.Goals as goal

pub bits_left-requires-clause-left : goal.bits_left-requires-clause-left
bits_left-requires-clause-left c = left_in c.args.side.now.net.now c.in_ok-net.net c.in_ok-positions.positions c.in_ok-net.ensures.parts

pub returns : goal.returns
returns c = record {
  positions = c.in_ok-positions.positions;
  named = c.in_ok-positions.ensures;
  parts = c.in_ok-net.ensures.parts;
  circuit = subst (λ (ns : List (List ℕ)). IsCutCircuit ns (circuit_of c.args.side.now.net.now) (circuit_of c.in_ok-net.net)) c.in_ok-positions.ensures.named c.in_ok-net.ensures.circuit;
  bits_are = c.in_ok-enabled.ensures;
}
