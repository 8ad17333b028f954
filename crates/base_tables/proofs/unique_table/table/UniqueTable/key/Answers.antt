-- The key at the number.
use Rattle.std.proofs.Common.{◌<◌, ◌≡◌, ◌∙◌, List, Some, length, slice_get, sym, ap, arith}
use Rattle.std.proofs.lemmas.Option.{slice_get-get_or}
use Rattle.base_tables.proofs.unique_table.table.UniqueTable.key.Goals as goal

pub returns : goal.returns
returns g c =
    let same : length c.self.inside.keys.items ≡ length c.args.self.now = ap length c.self.view_is in
    let within : c.args.number < length c.self.inside.keys.items = omega (arith, c.requires, same) in
    ap (λ (ks : List g.row.K.Denot). slice_get ks c.args.number) (sym c.self.view_is) ∙ slice_get-get_or c.self.inside.keys.items c.args.number c.index.result.now within ∙ ap Some (sym c.index.ensures)
