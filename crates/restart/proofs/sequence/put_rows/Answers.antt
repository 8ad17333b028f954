-- One row more.
use Rattle.std.proofs.Common.{Bool, List, [], ◌∷◌, ◌++◌, take, sym, ap, ◌∙◌}
use Rattle.std.proofs.lemmas.List.{append-nil, append_assoc, take_more, take_all}
use Rattle.restart.proofs.sequence.put_rows.Goals as goal

pub loop-row-init : goal.loop-row-init
loop-row-init c = sym (append-nil c.args.made.now)

pub loop-row-preserved : goal.loop-row-preserved
loop-row-preserved c =
    c.in_ok-push.ensures.ok
    ∙ (ap (λ (made : List (List Bool)). made ++ c.in_ok-copy.field-0 ∷ []) c.loop-row.invariant
    ∙ (append_assoc c.args.made.now (take c.loop-row.row-index c.args.rows.now) (c.in_ok-copy.field-0 ∷ [])
    ∙ ap (λ (rows : List (List Bool)). c.args.made.now ++ rows)
    (ap (λ (row : List Bool). take c.loop-row.row-index c.args.rows.now ++ row ∷ []) (c.in_ok-copy.ensures ∙ c.row-item.is) ∙ sym (take_more c.args.rows.now c.loop-row.row-index c.row-item.result c.loop-row-test.true))))

pub returns : goal.returns
returns c = c.loop-row.invariant ∙ ap (λ (rows : List (List Bool)). c.args.made.now ++ rows) (take_all c.loop-row.row-index c.args.rows.now c.loop-row-test.false)
