-- One more is told.
use Rattle.std.proofs.Common.{[], ◌∷◌, ◌++◌, sym, subst}
use Rattle.std.specs.List.{AllZip}
use Rattle.circuit_theory.proofs.Lists.{zip_push}
use Rattle.event_settles.specs.Idle.{ToldWith}
use Rattle.event_settles.proofs.telling.told_with.Goals as goal

pub loop-care-preserved : goal.loop-care-preserved
loop-care-preserved c =
    subst (AllZip (ToldWith c.args.idle.now) (c.loop-care.yielded ++ c.in-Some.care ∷ [])) (sym c.in_ok-push.ensures.ok)
    (zip_push (ToldWith c.args.idle.now) c.loop-care.yielded c.loop-care.told c.in-Some.care c.in_ok-one.one c.loop-care.invariant c.in_ok-one.ensures)
