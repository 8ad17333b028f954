use Rattle.std.proofs.Common.{◌≡◌, ◌∙◌, ◌∷◌, ◌++◌, [], List, Some, slice_get, length, take, refl, ap}
use Rattle.std.proofs.lemmas.List.{take_all}
use Rattle.std.proofs.lemmas.Option.{slice_get_read}
use Rattle.signal_graph.specs.inner_cone.flat_net.LatchAt.{LatchAt}
use Rattle.signal_graph.proofs.inner_cone.flat_net.TableLemmas.{take-push}
use Rattle.signal_graph.proofs.nodes.copy_latches.Goals as goal

pub loop-latch-preserved : goal.loop-latch-preserved
loop-latch-preserved c =
    let latches = c.args.latches.now in
    let i = c.loop-latch.latch-index in
    let latch : LatchAt = c.latch-item.result in
    let at : slice_get latches i ≡ Some latch = slice_get_read latches (length latches) i latch refl c.loop-latch-test.true c.latch-item.is in
    c.in_ok-push.ensures.items
    ∙ (ap (λ (made : List LatchAt). made ++ c.in_ok-duplicate.field-0 ∷ []) c.loop-latch.invariant
    ∙ (ap (λ (l : LatchAt). take i latches ++ l ∷ []) c.in_ok-duplicate.ensures ∙ take-push latches i latch at))

pub returns : goal.returns
returns c = c.loop-latch.invariant ∙ take_all c.loop-latch.latch-index c.args.latches.now c.loop-latch-test.false
