-- One item more.
use Rattle.std.proofs.Common.{List, [], ◌∷◌, ◌++◌, take, sym, ap, ◌∙◌}
use Rattle.std.proofs.lemmas.List.{take_more, take_all}
use Rattle.base_lists.proofs.list.Seq.copy.Goals as goal

pub loop-item-preserved : goal.loop-item-preserved
loop-item-preserved g c =
    c.in_ok-push.ensures.ok ∙ ap (λ (made : List g.row.T.Denot). made ++ c.in_ok-duplicate.field-0 ∷ []) c.loop-item.invariant
    ∙ ap (λ (item : g.row.T.Denot). take c.loop-item.item-index c.deref-item-items.result.now ++ item ∷ []) (c.in_ok-duplicate.ensures ∙ c.item-item.is)
    ∙ sym (take_more c.deref-item-items.result.now c.loop-item.item-index c.item-item.result c.loop-item-test.true)

pub returns : goal.returns
returns g c = c.loop-item.invariant ∙ take_all c.loop-item.item-index c.deref-item-items.result.now c.loop-item-test.false ∙ c.deref-item-items.ensures.value ∙ c.self.view_is
