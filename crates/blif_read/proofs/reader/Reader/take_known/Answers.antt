use Rattle.std.proofs.Common.{[]}
use Rattle.blif_read.proofs.Steps.{known_model, known_end}
use Rattle.blif_read.proofs.reader.Reader.take_known.Goals as goal

pub returns-in-Model : goal.returns-in-Model
returns-in-Model c =
    known_model c.args.head c.args.number c.args.args.now (record { ref_ptr = (0, 0); now = [] }) c.args.self.now c.begin.new.self c.begin.result c.in-Model.is c.requires.fit (c.begin.ensures c.args.number)

pub returns-in-End : goal.returns-in-End
returns-in-End c = known_end c.args.head c.args.number c.args.args.now c.args.self.now c.end.new.self c.end.result c.in-End.is c.requires.fit (c.end.ensures c.args.number)
