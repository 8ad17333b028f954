-- A cycle of latches.
use Rattle.plain_check.specs.under_base.compare_base.Compared.{refusal_of}
use Rattle.plain_check.proofs.under_base.compare_base.Refusals.{unchosen}
use Rattle.job_cert.specs.pair_clauses.Clauses.{PairGives, plainly}
use Rattle.job_cert.specs.declared.pair_clauses.error.CertError.TheVariants.{Compare}
use Rattle.job_cert.proofs.pair_clauses.Refused.{refused_by}
use Rattle.job_cert.proofs.pair_clauses.clauses.clauses_of_matching.Goals as goal

pub returns-in_err-exposure : goal.returns-in_err-exposure
returns-in_err-exposure c =
    let n = c.args.nets.now in
    refused_by (PairGives n.left.now n.right.now c.args.pair.now) c.from_residual.result (Compare (refusal_of c.in_err-exposure.field-0.0)) c.from_residual.ensures.1
    (unchosen n.left.now n.right.now plainly c.in_err-exposure.field-0.0 c.requires.matches c.in_err-exposure.ensures)
