-- The refusal is that of the setup.
use Rattle.std.specs.Prelude.{IfErr}
use Rattle.plain_check.specs.under_base.compare_base.Compared.{InterfaceFails, refusal_of}
use Rattle.plain_check.proofs.under_base.compare_base.Refusals.{interface_fails, refused_by}
use Rattle.job_check.proofs.sec_check.interfaces.interface.Goals as goal

pub returns-in_err-orders-clause-err : goal.returns-in_err-orders-clause-err
returns-in_err-orders-clause-err c =
    refused_by (λ r. IfErr r (InterfaceFails c.args.a.now c.args.b.now)) c.from_residual.result (refusal_of c.in_err-orders.field-0.0) c.from_residual.ensures.1
    (interface_fails c.args.a.now c.args.b.now c.in_err-orders.field-0.0 c.in_err-orders.ensures.err)
