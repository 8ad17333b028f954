use Rattle.std.proofs.Common.{◌∙◌, sym}
use Rattle.aig.proofs.CoverMeaning.{value-zero, value-one}
use Rattle.signal_refine.proofs.anchors.constant.Goals as goal

pub returns-then-bit-clause-value : goal.returns-then-bit-clause-value
returns-then-bit-clause-value c = λ g a graph. value-one g graph a ∙ sym c.if-bit.true

pub returns-else-bit-clause-value : goal.returns-else-bit-clause-value
returns-else-bit-clause-value c = λ g a graph. value-zero g graph a ∙ sym c.if-bit.false
