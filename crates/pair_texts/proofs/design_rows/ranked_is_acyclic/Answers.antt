use Rattle.pair_texts.proofs.design_rows.Ranking.{ranked_is_acyclic}
use Rattle.pair_texts.proofs.design_rows.ranked_is_acyclic.Goals as goal

pub returns : goal.returns
returns c = ranked_is_acyclic
