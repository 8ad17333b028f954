use Rattle.std.proofs.Common.{map}
use Rattle.blif_read.proofs.Rowed.{row_in}
use Rattle.blif_read.proofs.open_model.OpenModel.add_row.Goals as goal

pub returns-in-Some : goal.returns-in-Some
returns-in-Some c = λ block number word means.
    row_in c.args.self.now c.in-Some.block c.add_row.new.self block number word (map (λ t. t.now) c.args.tokens.now) c.add_row.result c.in-Some.is c.add_row.ensures means
