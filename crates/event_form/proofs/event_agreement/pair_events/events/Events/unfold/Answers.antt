-- The signal is of the side.
use Rattle.std.proofs.Common.{sym, subst}
use Rattle.std.specs.Prelude.{IfOk, OnOk}
use Rattle.circuit_theory.specs.declared.Side.{Side}
use Rattle.event_form.specs.event_agreement.event_pairs.Functions.{IsEventFunction}
use Rattle.event_form.specs.event_agreement.pair_events.Counted.{GoOnCounting}
use Rattle.event_form.specs.event_agreement.pair_events.View.{side_of_both, signal_at}
use Rattle.event_form.proofs.event_agreement.pair_events.events.Events.unfold.Goals as goal

pub returns-in-A-clause-function : goal.returns-in-A-clause-function
returns-in-A-clause-function c = subst (λ (s : Side). IfOk c.unfold_left.result (IsEventFunction (side_of_both c.unfold_left.new.self) c.unfold_left.new.self.events (signal_at s c.args.s.0))) (sym c.in-A.is) c.unfold_left.ensures.function

pub returns-in-A-clause-counted : goal.returns-in-A-clause-counted
returns-in-A-clause-counted c = subst (λ (s : Side). OnOk c.unfold_left.result (GoOnCounting s c.args.s.0 c.args.self.now c.unfold_left.new.self)) (sym c.in-A.is) c.unfold_left.ensures.counted

pub returns-in-B-clause-function : goal.returns-in-B-clause-function
returns-in-B-clause-function c = subst (λ (s : Side). IfOk c.unfold_right.result (IsEventFunction (side_of_both c.unfold_right.new.self) c.unfold_right.new.self.events (signal_at s c.args.s.0))) (sym c.in-B.is) c.unfold_right.ensures.function

pub returns-in-B-clause-counted : goal.returns-in-B-clause-counted
returns-in-B-clause-counted c = subst (λ (s : Side). OnOk c.unfold_right.result (GoOnCounting s c.args.s.0 c.args.self.now c.unfold_right.new.self)) (sym c.in-B.is) c.unfold_right.ensures.counted
