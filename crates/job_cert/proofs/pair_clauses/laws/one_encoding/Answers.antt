use Rattle.job_cert.proofs.pair_clauses.OneEncoding.{have_one_encoding}
use Rattle.job_cert.proofs.pair_clauses.laws.one_encoding.Goals as goal

pub returns : goal.returns
returns c = have_one_encoding
