-- Each exposed name is new among the columns.
use Rattle.std.proofs.Common.{◌∙◌, List, [], ◌∷◌, ◌++◌, ℕ, cond, ap}
use Rattle.base_tables.specs.Table.{is_among}
use Rattle.sec_setup.proofs.ports.Columns.{column_more}
use Rattle.sec_setup.proofs.ports.Paired.{item_at}
use Rattle.sec_setup.proofs.setup.columns_of.Goals as goal

pub loop-name-preserved : goal.loop-name-preserved
loop-name-preserved c =
    let at = item_at c.args.exposed.now c.as_slice-name-items.result.now c.loop-name.name-index c.name-item.result c.as_slice-name-items.ensures c.loop-name-test.true c.name-item.is in
    let made = c.in_ok-add.ensures.ok ∙ ap (λ (name : List ℕ). cond (is_among c.loop-name.columns name) c.loop-name.columns (c.loop-name.columns ++ name ∷ [])) c.as_slice.ensures in
    column_more c.args.shared.now c.args.exposed.now c.loop-name.name-index c.name-item.result c.loop-name.columns c.add.new.self c.requires at c.loop-name.invariant made
