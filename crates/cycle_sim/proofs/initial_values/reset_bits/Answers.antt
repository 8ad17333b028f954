-- One latch more has its bit.
use Rattle.std.proofs.Common.{◌∙◌, ◌∷◌, [], ◌++◌, List, Bool, false, get_or, ap, arith, refl}
use Rattle.std.proofs.lemmas.Option.{slice_get-get_or}
use Rattle.cycle_sim.specs.Runs.{initial_or}
use Rattle.cycle_sim.proofs.Lists.{item_at}
use Rattle.cycle_sim.proofs.Starts.{reset_push}
use Rattle.cycle_sim.proofs.initial_values.reset_bits.Goals as goal

pub loop-j-preserved : goal.loop-j-preserved
loop-j-preserved c =
    let latches = c.args.latches.now in
    let free = c.args.free.now in
    let at = item_at latches latches c.loop-j.j c.index-latches-j.result refl c.loop-j-test.true c.index-latches-j.is in
    let bit = slice_get-get_or free c.loop-j.j false (omega (arith, c.loop-j-test.true, c.requires)) in
    c.in_ok-push.ensures.items
    ∙ (ap (λ (b : Bool). c.loop-j.bits.items ++ b ∷ []) c.initial_or.ensures
    ∙ (ap (λ (bs : List Bool). bs ++ initial_or c.index-latches-j.result.init (get_or free c.loop-j.j false) ∷ []) c.loop-j.invariant
    ∙ reset_push latches free c.loop-j.j c.index-latches-j.result (get_or free c.loop-j.j false) at bit))
