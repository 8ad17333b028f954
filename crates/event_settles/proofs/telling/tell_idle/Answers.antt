-- The latch stands with each pair without care, and nothing where there is none.
use Rattle.std.proofs.Common.{subst}
use Rattle.std.specs.Prelude.{All}
use Rattle.event_form.specs.event_agreement.pair_events.View.{side_of_both}
use Rattle.event_settles.specs.Idle.{IsNotNever}
use Rattle.event_settles.proofs.Caring.{all_none, all_with, if_ok}
use Rattle.event_settles.proofs.telling.tell_idle.Goals as goal

pub returns-then-has_never : goal.returns-then-has_never
returns-then-has_never c =
    if_ok c.told_with.result (λ told h. all_with (side_of_both c.args.events.now) c.args.conflicts c.in_ok-idle.idle c.in_ok-idle.ensures c.args.cares told h) c.told_with.ensures

pub returns : goal.returns
returns c = all_none (side_of_both c.args.events.now) c.args.conflicts c.args.cares (subst (All IsNotNever) c.as_slice.ensures (c.has_never.ensures c.if-has_never.false))
