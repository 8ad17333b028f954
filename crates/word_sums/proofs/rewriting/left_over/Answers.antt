-- No literal has a coefficient yet.
use Rattle.std.proofs.Common.{◌*◌, ◌∙◌, ap}
use Rattle.word_sums.specs.Sums.{sum_number}
use Rattle.word_sums.proofs.SumLemmas.{sum-zeros}
use Rattle.word_sums.proofs.rewriting.left_over.Goals as goal

pub cancel_out-same-requires-clause-none : goal.cancel_out-same-requires-clause-none
cancel_out-same-requires-clause-none c = λ f. ap (sum_number f 0) (c.as_mut_slice.ensures.value ∙ c.in_ok-coefficients.ensures.items_if_clones_equal (λ y e. e)) ∙ sum-zeros f (2 * c.size.result)
