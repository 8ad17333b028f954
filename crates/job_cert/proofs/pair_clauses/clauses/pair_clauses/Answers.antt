-- Interfaces that don't match.
use Rattle.plain_check.specs.under_base.compare_base.Compared.{refusal_of}
use Rattle.plain_check.proofs.under_base.compare_base.Refusals.{unmatched}
use Rattle.job_cert.specs.pair_clauses.Clauses.{PairGives, plainly}
use Rattle.job_cert.specs.declared.pair_clauses.error.CertError.TheVariants.{Compare}
use Rattle.job_cert.proofs.pair_clauses.Refused.{refused_by}
use Rattle.job_cert.proofs.pair_clauses.clauses.pair_clauses.Goals as goal

pub returns-in_err-orders : goal.returns-in_err-orders
returns-in_err-orders c =
    refused_by (PairGives c.args.a.now c.args.b.now c.args.pair.now) c.from_residual.result (Compare (refusal_of c.in_err-orders.field-0.0)) c.from_residual.ensures.1
    (unmatched c.args.a.now c.args.b.now plainly c.in_err-orders.field-0.0 c.in_err-orders.ensures.err)
