use Rattle.std.proofs.Common.{map, refl}
use Rattle.blif_read.proofs.Taken.{begun}
use Rattle.blif_read.proofs.open_model.OpenModel.begin_rows.Goals as goal

pub returns : goal.returns
returns c = λ before block word means.
    (refl, begun c.args.self.now c.in_ok-new.field-0 block c.args.number word (map (λ a. a.now) c.args.args.now) c.in_ok-new.ensures means)
