-- The bits mark exactly the enabled latches.
use Rattle.event_nodes.proofs.Bits.{bit_off, bit_on}
use Rattle.event_nodes.proofs.circuit.EventCircuit.is_enabled.Goals as goal

pub returns-clause-no : goal.returns-clause-no
returns-clause-no c = λ l at off on. bit_off c.args.self.now _ c.self.view_is c.self.invariant.0 c.as_slice.result.now c.as_slice.ensures c.args.j l at off on

pub returns-clause-yes : goal.returns-clause-yes
returns-clause-yes c = λ l at on. bit_on c.args.self.now _ c.self.view_is c.self.invariant.0 c.as_slice.result.now c.as_slice.ensures c.args.j l at on
