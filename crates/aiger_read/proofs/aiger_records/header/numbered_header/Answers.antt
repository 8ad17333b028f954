use Rattle.std.proofs.Common.{sym, ◌∙◌}
use Rattle.aiger_read.proofs.aiger_records.Words.{header_is}
use Rattle.aiger_read.proofs.aiger_records.header.numbered_header.Goals as goal

pub returns-else-not-counts_fit-clause-header : goal.returns-else-not-counts_fit-clause-header
returns-else-not-counts_fit-clause-header c =
    header_is c.args.form c.args.numbers.now c.are_zeros.result c.in-len5-up.len_at_least c.if-further-gt4.false (sym c.counts_fit.ensures.fits ∙ c.if-not-counts_fit.false) c.are_zeros.ensures

pub returns-else-not-counts_fit-clause-within : goal.returns-else-not-counts_fit-clause-within
returns-else-not-counts_fit-clause-within c = c.counts_fit.ensures.within c.if-not-counts_fit.false
