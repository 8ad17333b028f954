use Rattle.std.specs.Prelude.{IsErrOf}
use Rattle.std.proofs.Common.{sym, subst, inl, inr, Result}
use Rattle.job_base.specs.declared.finding.Finding.{Finding}
use Rattle.job_base.specs.declared.finding.Stop.{Stop}
use Rattle.job_base.specs.declared.finding.Stop.TheVariants as stop
use Rattle.job_signals.proofs.Finds.{no_fault_judged}
use Rattle.job_signals.proofs.comparison.compare_with.Goals as goal

pub returns-in-Ok-clause-found : goal.returns-in-Ok-clause-found
returns-in-Ok-clause-found g c = inr (c.in-Ok.b, c.judge_nets-judged.result, c.in-Ok.ensures.ok, c.judge_nets-judged.ensures, c.judged_end.ensures)

pub returns-in-Ok-clause-served : goal.returns-in-Ok-clause-served
returns-in-Ok-clause-served g c right = subst (λ (r : Result Finding Stop). IsErrOf r stop.ReadFault → ⊥) (sym c.judged_end.ensures) (no_fault_judged c.judge_nets-judged.result)

pub returns-in-Err-clause-found : goal.returns-in-Err-clause-found
returns-in-Err-clause-found g c = inl (c.in-Err.error, c.in-Err.ensures.err, c.load_end.ensures)
