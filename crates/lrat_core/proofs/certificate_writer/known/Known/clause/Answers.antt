use Rattle.std.proofs.Common.{◌∙◌, List, get_or, ap, arith}
use Rattle.proof_check.specs.Literals.{Literal}
use Rattle.lrat_core.proofs.certificate_writer.Numbers.{first_known}
use Rattle.lrat_core.proofs.certificate_writer.known.Known.clause.Goals as goal

pub returns-then-number-len : goal.returns-then-number-len
returns-then-number-len c =
    let item = c.index-as_slice-number.result in
    first_known c.args.self.now.given.now c.args.self.now.derived.now c.args.number item c.as_slice-then-number-len.result.now (omega (arith, c.if-number-len.true, c.len.ensures))
    (c.index-as_slice-number.is ∙ ap (λ (xs : List (List Literal)). get_or xs c.args.number item) c.as_slice.ensures) c.as_slice-then-number-len.ensures.value
