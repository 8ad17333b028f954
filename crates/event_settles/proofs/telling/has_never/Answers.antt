-- The pairs so far aren't without care.
use Rattle.std.proofs.Common.{subst}
use Rattle.std.specs.Prelude.{All}
use Rattle.std.proofs.lemmas.List.{take_all}
use Rattle.std.proofs.lemmas.List.Elements.{All-more}
use Rattle.event_settles.specs.Idle.{IsNotNever}
use Rattle.event_settles.proofs.Caring.{not_never}
use Rattle.event_settles.proofs.telling.has_never.Goals as goal

pub loop-care-preserved : goal.loop-care-preserved
loop-care-preserved c =
    All-more IsNotNever c.args.cares.now c.loop-care.care-index c.care-item.result c.loop-care-test.true c.loop-care.invariant
    (subst IsNotNever c.care-item.is (not_never c.care-item.result (λ idle e. c.in_default.not-Never idle e)))

pub returns : goal.returns
returns c e = subst (All IsNotNever) (take_all c.loop-care.care-index c.args.cares.now c.loop-care-test.false) c.loop-care.invariant
