-- The complement of the node's bit.
use Rattle.std.proofs.Common.{◌∙◌, sym, ap, true≢false}
use Rattle.std.specs.Prelude.{not}
use Rattle.word_sums.proofs.RowLemmas.{value-odd, value-plain}
use Rattle.word_sums.proofs.cuts.signed.Goals as goal

pub returns-then-is_complement : goal.returns-then-is_complement
returns-then-is_complement c = λ g a e. value-odd g a c.args.l.0 (c.is_complement.ensures.0 c.if-is_complement.true) ∙ ap not e

pub returns-else-is_complement : goal.returns-else-is_complement
returns-else-is_complement c = λ g a e. value-plain g a c.args.l.0 (λ odd. true≢false (sym (c.is_complement.ensures.1 odd) ∙ c.if-is_complement.false)) ∙ e
