use Rattle.job_gen.proofs.pair_gen.Rows.{rows_spell}
use Rattle.job_gen.proofs.pair_gen.kinds.rows_spell_functions.Goals as goal

pub returns : goal.returns
returns c = rows_spell
