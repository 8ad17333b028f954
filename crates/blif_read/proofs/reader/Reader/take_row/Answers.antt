use Rattle.std.proofs.Common.{map}
use Rattle.blif_read.proofs.Goes.{row_taken}
use Rattle.blif_read.proofs.reader.Reader.take_row.Goals as goal

pub returns-in-Some : goal.returns-in-Some
returns-in-Some c = λ before number word means.
    row_taken c.args.self.now c.in-Some.current c.add_row.new.self before number word (map (λ t. t.now) c.args.tokens.now) c.add_row.result c.in-Some.is c.add_row.ensures means
