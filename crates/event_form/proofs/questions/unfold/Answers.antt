-- What was made, as it is told.
use Rattle.event_nodes.specs.Nodes.{GrowsEvents}
use Rattle.event_form.specs.event_agreement.event_pairs.Functions.{IsEventFunction}
use Rattle.event_form.proofs.event_agreement.pair_events.Unfolding.{on_ok}
use Rattle.event_form.specs.event_agreement.pair_events.Counted.{GoOnCounting}
use Rattle.event_form.specs.event_agreement.pair_events.View.{IsWithinLimits, side_of_both, signal_at}
use Rattle.event_form.specs.Asked.{IsLater}
use Rattle.event_form.proofs.Asking.{later_by}
use Rattle.event_form.proofs.Refusing.{told_if, told_on, told_many, told_large, signal_refused}
use Rattle.event_form.proofs.Stopping.{signal_stopped}
use Rattle.event_form.proofs.questions.unfold.Goals as goal

pub returns-clause-function : goal.returns-clause-function
returns-clause-function c = told_if c.args.side c.unfold-made.result c.told.result (IsEventFunction (side_of_both c.unfold-made.new.self) c.unfold-made.new.self.events (signal_at c.args.side c.args.s.0)) c.told.ensures c.unfold-made.ensures.function

pub returns-clause-within : goal.returns-clause-within
returns-clause-within c = told_on c.args.side c.unfold-made.result c.told.result (IsWithinLimits c.unfold-made.new.self) c.told.ensures c.unfold-made.ensures.within

pub returns-clause-later : goal.returns-clause-later
returns-clause-later c =
    told_on c.args.side c.unfold-made.result c.told.result (IsLater c.args.events.now c.unfold-made.new.self) c.told.ensures
    (on_ok c.unfold-made.result (GrowsEvents c.args.events.now.events c.unfold-made.new.self.events) (IsLater c.args.events.now c.unfold-made.new.self) (λ grows. later_by c.args.events.now c.unfold-made.new.self c.unfold-made.ensures.same grows) c.unfold-made.ensures.grows)

pub returns-clause-counted : goal.returns-clause-counted
returns-clause-counted c = told_on c.args.side c.unfold-made.result c.told.result (GoOnCounting c.args.side c.args.s.0 c.args.events.now c.unfold-made.new.self) c.told.ensures c.unfold-made.ensures.counted

pub returns-clause-refused : goal.returns-clause-refused
returns-clause-refused c =
    signal_refused c.args.side c.args.s.0 c.args.events.now c.unfold-made.result c.told.result (told_many c.args.side c.unfold-made.result c.told.result c.told.ensures) (told_large c.args.side c.unfold-made.result c.told.result c.told.ensures) c.unfold-made.ensures.refused

pub returns-clause-stopped : goal.returns-clause-stopped
returns-clause-stopped c = signal_stopped c.args.side c.args.s.0 c.args.events.now c.unfold-made.result c.told.result c.told.ensures c.unfold-made.ensures.refused
