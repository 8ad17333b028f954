use Rattle.lrat_core.proofs.dimacs_text.dimacs_writer.Spelled.{written_is_spelled}
use Rattle.lrat_core.proofs.dimacs_text.dimacs_writer.laws.written_is_spelled.Goals as goal

pub returns : goal.returns
returns c = written_is_spelled
