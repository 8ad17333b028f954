-- The literal 0 has the value 0, and its complement 1.
use Rattle.std.proofs.Common.{◌∙◌, length, sym, ap, arith}
use Rattle.std.specs.Prelude.{not}
use Rattle.std.proofs.lemmas.Option.{slice_get_within}
use Rattle.aig.specs.declared.node.Node.TheVariants.{Constant}
use Rattle.aig.proofs.CoverMeaning.{value-zero}
use Rattle.sweep_candidates.proofs.case_split.lits.constant.Goals as goal

pub returns-then-bit-clause-within : goal.returns-then-bit-clause-within
returns-then-bit-clause-within c =
    c.not.ensures.within (length c.args.graph.now) (omega (arith, slice_get_within c.args.graph.now 0 Constant c.keeps.ensures.graph.constant))

pub returns-then-bit-clause-value : goal.returns-then-bit-clause-value
returns-then-bit-clause-value c = λ a. c.not.ensures.value c.args.graph.now a ∙ ap not (value-zero c.args.graph.now c.keeps.ensures.graph a) ∙ sym c.if-bit.true

pub returns-else-bit-clause-value : goal.returns-else-bit-clause-value
returns-else-bit-clause-value c = λ a. value-zero c.args.graph.now c.keeps.ensures.graph a ∙ sym c.if-bit.false
