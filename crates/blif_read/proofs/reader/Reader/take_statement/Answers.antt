use Rattle.std.proofs.Common.{map}
use Rattle.blif_read.proofs.Goes.{statement_taken}
use Rattle.blif_read.proofs.reader.Reader.take_statement.Goals as goal

pub returns-in-Some : goal.returns-in-Some
returns-in-Some c =
    statement_taken c.args.self.now c.in-Some.current c.take_in.new.self c.args.number c.args.head (map (λ a. a.now) c.args.args.now) c.take_in.result c.in-Some.is c.requires.within c.take_in.ensures
