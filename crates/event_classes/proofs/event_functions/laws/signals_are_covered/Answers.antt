use Rattle.std.proofs.Common.{None, refl}
use Rattle.event_classes.specs.event_functions.Functions.{signal_start}
use Rattle.event_classes.proofs.event_functions.Covering.{two_roots, own_supports, care_supports}
use Rattle.event_classes.proofs.event_functions.laws.signals_are_covered.Goals as goal

pub returns : goal.returns
returns c = λ e w p r sound circuit is k.
    two_roots w is r.vars r.value.0 r.care.0 (own_supports e w (signal_start p) r.vars sound circuit is k.vars None r.value.0 refl k.value) (care_supports e w (signal_start p) r.vars sound circuit is k.vars r.care.0 k.care)
