-- The cut net keeps what each net keeps, and its circuit is the cut circuit.
use Rattle.std.proofs.Common.{◌∙◌, length, ap}
use Rattle.std.proofs.lemmas.List.{length-map}
use Rattle.flat_net.specs.Cut.{moved_to}
use Rattle.flat_net.proofs.Growth.{sound_along}
use Rattle.flat_net.proofs.CutCircuits.{cut_circuit}
use Rattle.flat_net.proofs.CutNets.{cut_view, cut_view-is, sound_cut}
use Rattle.flat_net.proofs.net.Net.cut_at.Goals as goal

pub invariant_of-result : goal.invariant_of-result
invariant_of-result c =
    let n = c.args.self.now in
    let exposed = c.args.exposed.now in
    let ports = c.in_ok-inputs.ensures in
    let left = c.in_ok-latches.ensures in
    let gates = c.in_ok-gates.ensures in
    let names = c.in_ok-names.ensures in
    sound_along (cut_view n exposed left.drivers.places) (sound_cut n c.keeps.ensures.sound exposed c.requires.within c.requires.distinct left.drivers.places left.drivers.right)
    (cut_view-is n exposed left.drivers.places _ _ _ _ _ _ _ _ ports.inputs ports.outputs gates.gates left.latches gates.covers left.drivers.moved names.names names.clock)

pub returns-clause-circuit : goal.returns-clause-circuit
returns-clause-circuit c =
    let n = c.args.self.now in
    let exposed = c.args.exposed.now in
    let ports = c.in_ok-inputs.ensures in
    let left = c.in_ok-latches.ensures in
    let gates = c.in_ok-gates.ensures in
    let names = c.in_ok-names.ensures in
    cut_circuit n c.keeps.ensures.sound exposed c.requires.within c.requires.distinct _ (record {
      inputs = ports.inputs;
      outputs = ports.outputs;
      latches = left.latches;
      gates = gates.gates;
      covers = gates.covers;
      names = names.names;
      clock = names.clock;
      size = ap length left.drivers.moved ∙ length-map n.drivers (moved_to left.drivers.places);
    })

pub returns-clause-parts : goal.returns-clause-parts
returns-clause-parts c =
    let n = c.args.self.now in
    let ports = c.in_ok-inputs.ensures in
    let left = c.in_ok-latches.ensures in
    let gates = c.in_ok-gates.ensures in
    let names = c.in_ok-names.ensures in
    record {
      inputs = ports.inputs;
      outputs = ports.outputs;
      latches = left.latches;
      gates = gates.gates;
      covers = gates.covers;
      names = names.names;
      clock = names.clock;
      size = ap length left.drivers.moved ∙ length-map n.drivers (moved_to left.drivers.places);
    }
