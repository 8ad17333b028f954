use Rattle.std.proofs.Common.{take}
use Rattle.std.specs.List.{AllZip}
use Rattle.sec_base.specs.declared.basics.Tag.{Tag}
use Rattle.class_search.specs.declared.event_order.turns.Turn.{Turn}
use Rattle.class_search.specs.event_order.Turns.{IsTagAt}
use Rattle.class_search.proofs.event_order.tags.tags_of.Given as goal

abbrev pub invariant-loop-turn : goal.invariant-loop-turn
invariant-loop-turn l = AllZip (λ (turn : Turn) (tag : Tag). IsTagAt l.first turn.number tag) (take l.turn-index l.turns) l.tags.items
