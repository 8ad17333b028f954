use Rattle.std.proofs.Common.{List, ℕ, sym, ap, ◌∙◌}
use Rattle.aiger_read.specs.aiger_records.Numbers.{numbers, numbers_behind, words_left}
use Rattle.aiger_read.proofs.aiger_records.Words.{numbers_more}
use Rattle.aiger_read.proofs.aiger_records.decimals.numbers_behind.Goals as goal

pub loop-left-preserved : goal.loop-left-preserved
loop-left-preserved c =
    let before = c.loop-left.numbers.items in
    let first = c.first_word.result in
    c.loop-left.invariant
    ∙ (ap (λ o. numbers_behind before (numbers (words_left o))) c.in-Some.is
    ∙ (ap (λ ws. numbers_behind before (numbers ws)) c.first_word.ensures
    ∙ (numbers_more before first.word.now (words_left first.after) c.in-Some-number_of.number (sym c.number_of.ensures ∙ c.in-Some-number_of.is)
    ∙ ap (λ (ns : List ℕ). numbers_behind ns (numbers (words_left first.after))) (sym c.in_ok-push.ensures.items))))
