-- What drives the signal says what it counts.
use Rattle.std.proofs.Common.{◌∙◌, ap, Some}
use Rattle.std.proofs.lemmas.Option.{slice_get_within}
use Rattle.flat_net.proofs.Drivers.{driven_gate}
use Rattle.flat_net.proofs.weight.weigh.Goals as goal

pub gate_weight-requires : goal.gate_weight-requires
gate_weight-requires c =
    let drives = c.driver.ensures ∙ ap Some c.in-Gate.is in
    let g = driven_gate _ c.keeps.ensures.sound _ _ drives in
    slice_get_within _ _ g.0 g.1
