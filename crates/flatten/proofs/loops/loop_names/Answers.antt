use Rattle.std.proofs.Common.{length}
use Rattle.flatten.specs.Graph.{is_gate_out}
use Rattle.flatten.proofs.LoopLaws.{kept_within}
use Rattle.flatten.proofs.loops.loop_names.Goals as goal

pub named_turn-requires-2-clause-within : goal.named_turn-requires-2-clause-within
named_turn-requires-2-clause-within c =
    kept_within (is_gate_out c.args.flat.now.statements c.args.wired.now.sources) (length c.args.flat.now.names) c.args.round.now c.in_ok-gates.gates.items c.deref.result.now
    c.requires.numbers c.in_ok-gates.ensures c.deref.ensures.value
