use Rattle.std.specs.Prelude.{IsErrOf}
use Rattle.std.proofs.Common.{sym, subst, inl, inr, Result}
use Rattle.job_base.specs.declared.finding.Finding.{Finding}
use Rattle.job_base.specs.declared.finding.Stop.{Stop}
use Rattle.job_base.specs.declared.finding.Stop.TheVariants as stop
use Rattle.job_cert.proofs.Finds.{no_fault_made}
use Rattle.job_cert.proofs.certificate.certify_with.Goals as goal

pub returns-in-Ok-clause-found : goal.returns-in-Ok-clause-found
returns-in-Ok-clause-found g c = inr (c.in-Ok.b, c.make-made.result, c.in-Ok.ensures.ok, c.make-made.ensures, c.cert_end.ensures)

pub returns-in-Ok-clause-served : goal.returns-in-Ok-clause-served
returns-in-Ok-clause-served g c right = subst (λ (r : Result Finding Stop). IsErrOf r stop.ReadFault → ⊥) (sym c.cert_end.ensures) (no_fault_made c.make-made.result)

pub returns-in-Err-clause-found : goal.returns-in-Err-clause-found
returns-in-Err-clause-found g c = inl (c.in-Err.error, c.in-Err.ensures.err, c.load_end.ensures)
