-- One word more is drawn, up to the last.
use Rattle.std.proofs.Common.{◌+◌, ◌-◌, ◌*◌, ◌∙◌, ℕ, List, ◌++◌, length, sym, ap, arith}
use Rattle.rand_core.specs.Steps.{first_words}
use Rattle.rand_xoshiro.specs.SplitMix64.{splitmix_seed}
use Rattle.rand_xoshiro.specs.Xoshiro256.{of_seed, plus_plus}
use Rattle.swept_queries.specs.Words.{words_for}
use Rattle.swept_queries.proofs.Draws.{length-first_words, word_drawn, all_drawn}
use Rattle.swept_queries.proofs.words.seeded_words.Goals as goal

pub loop-n-preserved : goal.loop-n-preserved
loop-n-preserved c =
    let all = 8 * c.args.variables in
    let below = c.loop-n-test.true in
    ap (λ (ws : List ℕ). ws ++ first_words plus_plus (all - (c.loop-n._n + 1)) c.next_word.new.self) c.in_ok-push.ensures.items
    ∙ word_drawn c.loop-n.words.items c.loop-n.generator (all - (c.loop-n._n + 1)) (all - c.loop-n._n) c.next_word.result c.next_word.new.self c.next_word.ensures (omega arith)
    ∙ c.loop-n.invariant

pub returns-clause-words : goal.returns-clause-words
unfolding words_for
returns-clause-words c =
    let all = 8 * c.args.variables in
    let over = c.loop-n-test.false in
    sym (all_drawn c.loop-n.words.items c.loop-n.generator (all - c.loop-n._n) (omega arith)) ∙ c.loop-n.invariant ∙ ap (first_words plus_plus all) c.seed_from_u64-generator.ensures

pub returns-clause-each : goal.returns-clause-each
unfolding words_for
returns-clause-each c = ap length (returns-clause-words c) ∙ length-first_words (8 * c.args.variables) (of_seed (splitmix_seed 32 1))
