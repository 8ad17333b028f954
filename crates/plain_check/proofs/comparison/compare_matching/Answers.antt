-- A cycle, or no latch that is cut open: the nets are those of the circuits.
use Rattle.std.proofs.Common.{◌∙◌, sym}
use Rattle.sec_setup.proofs.Uncut.{uncut, no_names}
use Rattle.plain_check.specs.under_base.compare_base.Compared.{Compared, refusal_of}
use Rattle.plain_check.proofs.under_base.compare_base.Refusals.{refused_by, unchosen}
use Rattle.plain_check.proofs.comparison.compare_matching.Goals as goal

pub returns-in_err-exposure : goal.returns-in_err-exposure
returns-in_err-exposure c =
    let n = c.args.nets.now in
    refused_by (Compared n.left.now n.right.now c.args.settings.now) c.from_residual.result (refusal_of c.in_err-exposure.field-0.0) c.from_residual.ensures.1
    (unchosen n.left.now n.right.now c.args.settings.now c.in_err-exposure.field-0.0 c.requires.matches c.in_err-exposure.ensures)

pub compare_nets-requires-clause-cut : goal.compare_nets-requires-clause-cut
compare_nets-requires-clause-cut c =
    let n = c.args.nets.now in
    uncut n.left.now n.right.now c.in_ok-exposure.exposure c.in_ok-exposure.ensures.cut_open (no_names c.in_ok-exposure.exposure.names (sym c.len.ensures ∙ c.if-len-eq0.true))
