-- Nothing is left of the difference.
use Rattle.std.proofs.Common.{◌*◌}
use Rattle.aig.specs.Values.{value}
use Rattle.word_sums.specs.Sums.{sum_number, word_number, word_bits}
use Rattle.word_sums.proofs.Congruent.{cong-refl, cong-trans, cong-add}
use Rattle.word_sums.proofs.SumLemmas.{words-same}
use Rattle.word_sums.proofs.rewriting.cancel_out.Goals as goal

pub returns-clause-same : goal.returns-clause-same
returns-clause-same c = λ yes a.
    let f = value c.args.graph.now a in
    let other = c.scale_of-times.result * word_number (word_bits f c.args.zeros.now) in
    let put = cong-trans (c.put_words-2.ensures.sum f) (cong-trans (cong-add (c.rewrite.ensures.sum a) (cong-refl other)) (c.put_words.ensures.sum f)) in
    words-same f c.args.left.now c.args.right.now c.scale_of-times.result (sum_number f 0 c.args.coefficients.now) (sum_number f 0 c.put_words-2.new.coefficients) (sum_number f 0 c.clear_complements.new.coefficients)
    c.requires.lengths c.scale_of-times.ensures.whole c.scale_of-times.ensures.some (c.requires.none f) (c.is_empty.ensures yes f) put (cong-trans (c.clear_complements.ensures.sum a) (c.rewrite-2.ensures.sum a))
