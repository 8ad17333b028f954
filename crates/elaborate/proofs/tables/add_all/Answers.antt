use Rattle.std.proofs.Common.{◌≡◌, List, ℕ, get_or, sym, subst}
use Rattle.base_tables.specs.Table.{is_among}
use Rattle.elaborate.proofs.Tabled.{among_more}
use Rattle.elaborate.proofs.tables.add_all.Goals as goal

pub loop-name-preserved : goal.loop-name-preserved
loop-name-preserved c = λ name.
    let at : c.as_slice.result.now ≡ get_or c.args.names.now c.loop-name.name-index c.as_slice.result.now = subst (λ (w : List ℕ). w ≡ get_or c.args.names.now c.loop-name.name-index w) (sym c.as_slice.ensures) c.name-item.is in
    among_more c.args.names.now c.loop-name.name-index c.as_slice.result.now name c.loop-name.table c.add.new.self (is_among c.args.table.now name) c.loop-name-test.true at c.in_ok-add.ensures.ok (c.loop-name.invariant name)
