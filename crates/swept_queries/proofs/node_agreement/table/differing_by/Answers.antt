use Rattle.std.proofs.Common.{◌≡◌, ◌∙◌, length, sym, ap, subst}
use Rattle.circuit_theory.specs.Query.{bits_of}
use Rattle.aig.proofs.lane_eval.Numbered.{bits_of-length}
use Rattle.swept_queries.specs.node_agreement.Answers.{DifferAt}
use Rattle.swept_queries.proofs.node_agreement.table.differing_by.Goals as goal

pub returns : goal.returns
returns c = λ g x y care are found.
    let same : c.in_ok-bits.bits ≡ bits_of c.args.number (length c.args.vars) = c.in_ok-bits.ensures ∙ ap (bits_of c.args.number) c.len.ensures in
    (are, ap length same ∙ bits_of-length c.args.number (length c.args.vars), subst (DifferAt g x y c.args.vars) (sym same) found)
