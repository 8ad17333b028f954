use Rattle.job_cert.proofs.pair_clauses.OneText.{have_one_text_encoding}
use Rattle.job_cert.proofs.pair_clauses.laws.one_text_encoding.Goals as goal

pub returns : goal.returns
returns c = have_one_text_encoding
