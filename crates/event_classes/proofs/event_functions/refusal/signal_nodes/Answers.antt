-- The nodes that were made tell which number is passed.
use Rattle.std.proofs.Common.{◌∙◌, sym, arith}
use Rattle.event_nodes.proofs.Growing.{grows_refl}
use Rattle.event_classes.proofs.event_functions.event_reach.Making.{no_nodes}
use Rattle.event_classes.specs.event_functions.Functions.{signal_start}
use Rattle.event_classes.proofs.event_functions.Refusing.{from_ok, many_or_large}
use Rattle.event_classes.proofs.event_functions.refusal.signal_nodes.Goals as goal

pub returns-clause-many : goal.returns-clause-many
returns-clause-many c = λ is. (let k = c.refusal.ensures.many is in omega (arith, k, c.nodes-2.ensures))

pub returns-clause-large : goal.returns-clause-large
returns-clause-large c = λ is.
    let k = c.refusal.ensures.large is in
    record { few = omega (arith, k.0, c.nodes-2.ensures); all = from_ok c.reached_latches.result (sym c.is_ok-told.ensures.value ∙ k.1) c.reached_latches.ensures.nodes }

pub returns-then-nodes-ge-MAX_EVENT_NODES-clause-made : goal.returns-then-nodes-ge-MAX_EVENT_NODES-clause-made
returns-then-nodes-ge-MAX_EVENT_NODES-clause-made c = no_nodes c.args.circuit.now c.args.events.now.children (signal_start c.args.s.0)

pub returns-then-nodes-ge-MAX_EVENT_NODES-clause-grows : goal.returns-then-nodes-ge-MAX_EVENT_NODES-clause-grows
returns-then-nodes-ge-MAX_EVENT_NODES-clause-grows c = grows_refl c.args.events.now

pub returns-then-nodes-ge-MAX_EVENT_NODES-clause-large : goal.returns-then-nodes-ge-MAX_EVENT_NODES-clause-large
returns-then-nodes-ge-MAX_EVENT_NODES-clause-large c = λ is. many_or_large is
