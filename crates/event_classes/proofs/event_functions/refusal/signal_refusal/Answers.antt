-- What the walk said, or how many event nodes there are.
use Rattle.event_nodes.proofs.Growing.{grows_refl}
use Rattle.event_classes.proofs.event_functions.event_reach.Making.{no_nodes}
use Rattle.event_classes.specs.event_functions.Functions.{signal_start}
use Rattle.event_classes.proofs.event_functions.Refusing.{memory_or_many, memory_or_large, many_or_large}
use Rattle.event_classes.proofs.event_functions.refusal.signal_refusal.Goals as goal

pub returns-in-TooLarge-clause-large : goal.returns-in-TooLarge-clause-large
returns-in-TooLarge-clause-large c = λ is. (record { distinct = c.keeps.ensures; weight = c.requires.large c.in-TooLarge.is }, c.signal_nodes.ensures.large is)

pub returns-in-TooManyEvents-clause-many : goal.returns-in-TooManyEvents-clause-many
returns-in-TooManyEvents-clause-many c = λ is. c.requires.many c.in-TooManyEvents.is

pub returns-in-TooManyEvents-clause-made : goal.returns-in-TooManyEvents-clause-made
returns-in-TooManyEvents-clause-made c = no_nodes c.args.circuit.now c.args.events.now.children (signal_start c.args.s.0)

pub returns-in-TooManyEvents-clause-grows : goal.returns-in-TooManyEvents-clause-grows
returns-in-TooManyEvents-clause-grows c = grows_refl c.args.events.now

pub returns-in-NoMemory-clause-made : goal.returns-in-NoMemory-clause-made
returns-in-NoMemory-clause-made c = no_nodes c.args.circuit.now c.args.events.now.children (signal_start c.args.s.0)

pub returns-in-NoMemory-clause-grows : goal.returns-in-NoMemory-clause-grows
returns-in-NoMemory-clause-grows c = grows_refl c.args.events.now

pub returns-in-NoMemory-clause-many : goal.returns-in-NoMemory-clause-many
returns-in-NoMemory-clause-many c = λ is. memory_or_many is

pub returns-in-NoMemory-clause-large : goal.returns-in-NoMemory-clause-large
returns-in-NoMemory-clause-large c = λ is. memory_or_large is

pub returns-in-TooManyEvents-clause-large : goal.returns-in-TooManyEvents-clause-large
returns-in-TooManyEvents-clause-large c = λ is. many_or_large is
