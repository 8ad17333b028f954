use Rattle.std.proofs.Common.{take}
use Rattle.event_form.specs.Asked.{AreAsked, IsLater}
use Rattle.event_form.specs.Counted.{CountsOn}
use Rattle.event_form.proofs.questions.ask_pairs.Given as goal
use Rattle.event_nodes.specs.Nodes.{IsEventGraph}
use Rattle.event_form.specs.event_agreement.pair_events.View.{IsWithinLimits, side_of_both}

abbrev pub invariant-loop-i : goal.invariant-loop-i
invariant-loop-i l = record {
  asked : AreAsked (side_of_both l.events) l.events.events l.cut (take l.i l.pairs) l.asked.items;
  within : IsWithinLimits l.events;
  later : IsLater l.initial.events l.events;
  counted : CountsOn (take l.i l.pairs) l.initial.events l.events;
  graph : IsEventGraph l.events.events;
}
