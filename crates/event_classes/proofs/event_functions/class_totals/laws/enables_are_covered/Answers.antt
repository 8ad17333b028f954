use Rattle.std.proofs.Common.{refl}
use Rattle.edbf_unfold.specs.event_literals.event_walk.Walk.{enable_start}
use Rattle.event_classes.proofs.event_functions.Covering.{two_roots, care_supports}
use Rattle.event_classes.proofs.event_functions.class_totals.EnableCovering.{own_enable_supports}
use Rattle.event_classes.proofs.event_functions.class_totals.laws.enables_are_covered.Goals as goal

pub returns : goal.returns
returns c = λ e w l r sound circuit is k.
    two_roots w is r.vars r.value.0 r.care.0 (own_enable_supports e w (enable_start l) r.vars sound circuit is k.vars l r.value.0 refl k.value) (care_supports e w (enable_start l) r.vars sound circuit is k.vars r.care.0 k.care)
