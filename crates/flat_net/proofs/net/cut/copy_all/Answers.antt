-- One copy more.
use Rattle.std.proofs.Common.{◌≡◌, ◌∙◌, ◌++◌, ◌∷◌, [], length, slice_get, Some, refl, ap}
use Rattle.std.proofs.lemmas.List.{take_all}
use Rattle.std.proofs.lemmas.Option.{slice_get_read}
use Rattle.base_tables.proofs.TableLemmas.{take-push}
use Rattle.flat_net.proofs.net.cut.copy_all.Goals as goal

pub loop-item-preserved : goal.loop-item-preserved
loop-item-preserved g c =
    let i = c.loop-item.item-index in
    let here : slice_get c.args.items.now i ≡ Some c.item-item.result = slice_get_read c.args.items.now (length c.args.items.now) i c.item-item.result refl c.loop-item-test.true c.item-item.is in
    c.in_ok-push.ensures.items ∙ (ap (λ y. c.loop-item.copies.items ++ y ∷ []) c.in_ok-duplicate.ensures ∙ (ap (λ l. l ++ c.item-item.result ∷ []) c.loop-item.invariant ∙ take-push c.args.items.now i c.item-item.result here))

pub returns : goal.returns
returns g c = c.loop-item.invariant ∙ take_all c.loop-item.item-index c.args.items.now c.loop-item-test.false
