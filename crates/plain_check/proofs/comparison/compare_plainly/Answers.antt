-- Interfaces that don't match.
use Rattle.plain_check.specs.under_base.compare_base.Compared.{Compared, refusal_of}
use Rattle.plain_check.proofs.under_base.compare_base.Refusals.{refused_by, unmatched}
use Rattle.plain_check.proofs.comparison.compare_plainly.Goals as goal

pub returns-in_err-shared : goal.returns-in_err-shared
returns-in_err-shared c =
    refused_by (Compared c.args.a.now c.args.b.now c.args.settings.now) c.from_residual.result (refusal_of c.in_err-shared.field-0.0) c.from_residual.ensures.1
    (unmatched c.args.a.now c.args.b.now c.args.settings.now c.in_err-shared.field-0.0 c.in_err-shared.ensures.err)
