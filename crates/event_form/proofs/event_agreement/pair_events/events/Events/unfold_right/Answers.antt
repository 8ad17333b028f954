-- What the unfolding of the circuit gives for both.
use Rattle.std.proofs.Common.{sym, subst}
use Rattle.std.specs.Prelude.{OnOk}
use Rattle.circuit_theory.specs.declared.Side.TheVariants.{B}
use Rattle.edbf_unfold.specs.class_queries.Laws.{AreKept}
use Rattle.event_form.specs.event_agreement.pair_events.Counted.{GoOnCounting, IsRefusedBy}
use Rattle.event_form.specs.event_agreement.pair_events.View.{EventsView, IsWithinLimits}
use Rattle.event_form.proofs.event_agreement.pair_events.Unfolding.{right_is_function, right_is_counted, right_is_within, right_is_refused}
use Rattle.event_form.proofs.event_agreement.pair_events.events.Events.unfold_right.Goals as goal

pub returns-clause-function : goal.returns-clause-function
returns-clause-function c = right_is_function (record { left = c.self.inside.left; right = c.self.inside.right; events = c.self.inside.graph; left_count = c.self.inside.left_count; right_count = c.self.inside.right_count; count = c.self.inside.classes }) c.unfold_signal-made.new.events c.unfold_signal-made.new.total c.args.s.0 c.unfold_signal-made.result c.self.invariant (subst (λ (x : EventsView). AreKept x.left x.right x.events) (sym c.self.view_is) c.keeps.ensures.kept) c.keeps-2.ensures.kept.events c.unfold_signal-made.ensures.function c.unfold_signal-made.ensures.counted c.unfold_signal-made.ensures.counting c.unfold_signal-made.ensures.refused

pub returns-clause-within : goal.returns-clause-within
returns-clause-within c = right_is_within (record { left = c.self.inside.left; right = c.self.inside.right; events = c.self.inside.graph; left_count = c.self.inside.left_count; right_count = c.self.inside.right_count; count = c.self.inside.classes }) c.unfold_signal-made.new.events c.unfold_signal-made.new.total c.args.s.0 c.unfold_signal-made.result c.self.invariant (subst (λ (x : EventsView). AreKept x.left x.right x.events) (sym c.self.view_is) c.keeps.ensures.kept) c.keeps-2.ensures.kept.events c.unfold_signal-made.ensures.function c.unfold_signal-made.ensures.counted c.unfold_signal-made.ensures.counting c.unfold_signal-made.ensures.refused (subst IsWithinLimits (sym c.self.view_is) c.requires.within)

pub returns-clause-counted : goal.returns-clause-counted
returns-clause-counted c =
    let e : EventsView = record { left = c.self.inside.left; right = c.self.inside.right; events = c.self.inside.graph; left_count = c.self.inside.left_count; right_count = c.self.inside.right_count; count = c.self.inside.classes } in
    subst (λ (x : EventsView). OnOk c.unfold_signal-made.result (GoOnCounting B c.args.s.0 x (record e { events = c.unfold_signal-made.new.events; right_count = c.unfold_signal-made.new.total }))) c.self.view_is (right_is_counted e c.unfold_signal-made.new.events c.unfold_signal-made.new.total c.args.s.0 c.unfold_signal-made.result c.self.invariant (subst (λ (x : EventsView). AreKept x.left x.right x.events) (sym c.self.view_is) c.keeps.ensures.kept) c.keeps-2.ensures.kept.events c.unfold_signal-made.ensures.function c.unfold_signal-made.ensures.counted c.unfold_signal-made.ensures.counting c.unfold_signal-made.ensures.refused)

pub returns-clause-refused : goal.returns-clause-refused
returns-clause-refused c = subst (λ (x : EventsView). IsRefusedBy B c.args.s.0 x c.unfold_signal-made.result) c.self.view_is (right_is_refused (record { left = c.self.inside.left; right = c.self.inside.right; events = c.self.inside.graph; left_count = c.self.inside.left_count; right_count = c.self.inside.right_count; count = c.self.inside.classes }) c.unfold_signal-made.new.events c.unfold_signal-made.new.total c.args.s.0 c.unfold_signal-made.result c.self.invariant (subst (λ (x : EventsView). AreKept x.left x.right x.events) (sym c.self.view_is) c.keeps.ensures.kept) c.keeps-2.ensures.kept.events c.unfold_signal-made.ensures.function c.unfold_signal-made.ensures.counted c.unfold_signal-made.ensures.counting c.unfold_signal-made.ensures.refused)
