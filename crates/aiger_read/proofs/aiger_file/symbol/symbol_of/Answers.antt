use Rattle.std.proofs.Common.{Some, None}
use Rattle.aiger_read.proofs.aiger_file.SymbolLines.{symbol_is}
use Rattle.aiger_read.proofs.aiger_file.symbol.symbol_of.Goals as goal

pub returns : goal.returns
returns c =
    symbol_is c.args.line.now c.in_ok-key.field-0.before.now c.in_ok-key.field-0.after.now (Some c.in_ok-section.section) (Some c.in_ok-number.number) c.in_ok-key.ensures.cut c.in-len1-up.len_at_least c.in_ok-section.ensures c.in_ok-number.ensures

pub returns-in_err-number : goal.returns-in_err-number
returns-in_err-number c =
    rw c.from_residual-in_err-number.ensures
    (symbol_is c.args.line.now c.in_ok-key.field-0.before.now c.in_ok-key.field-0.after.now (Some c.in_ok-section.section) None c.in_ok-key.ensures.cut c.in-len1-up.len_at_least c.in_ok-section.ensures c.in_err-number.ensures)
