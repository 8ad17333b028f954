use Rattle.std.proofs.Common.{◌+◌, ◌-◌, ◌∙◌, ℕ, List, ◌++◌, sym, ap, arith}
use Rattle.rand_core.specs.Steps.{first_words}
use Rattle.rand_xoshiro.specs.Xoshiro256.{plus_plus}
use Rattle.job_gen.specs.pair_gen.Words.{words_of}
use Rattle.job_gen.proofs.pair_gen.Draws.{word_drawn, all_drawn}
use Rattle.job_gen.proofs.pair_gen.words.words_of.Goals as goal

pub loop-n-preserved : goal.loop-n-preserved
loop-n-preserved c =
    let below = c.loop-n-test.true in
    ap (λ (ws : List ℕ). ws ++ first_words plus_plus (5040 - (c.loop-n._n + 1)) c.next_word.new.self) c.in_ok-push.ensures.items
    ∙ word_drawn c.loop-n.words.items c.loop-n.generator (5040 - (c.loop-n._n + 1)) (5040 - c.loop-n._n) c.next_word.result c.next_word.new.self c.next_word.ensures (omega arith)
    ∙ c.loop-n.invariant

pub returns : goal.returns
unfolding words_of
returns c =
    let over = c.loop-n-test.false in
    sym (all_drawn c.loop-n.words.items c.loop-n.generator (5040 - c.loop-n._n) (omega arith)) ∙ c.loop-n.invariant
    ∙ ap (first_words plus_plus 5040) c.seed_from_u64-generator.ensures
