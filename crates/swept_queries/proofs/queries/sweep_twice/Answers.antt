-- What is moved twice is moved.
use Rattle.std.proofs.Common.{◌*◌, ◌∙◌, sym, ap}
use Rattle.swept_queries.proofs.sweep.pair_decide.Read.{IfOk-then}
use Rattle.swept_queries.proofs.Stand.{moved_within, moved_twice}
use Rattle.swept_queries.proofs.queries.sweep_twice.Goals as goal

pub sweep_again-requires-clause-within : goal.sweep_again-requires-clause-within
sweep_again-requires-clause-within c = moved_within c.args.aig.now c.args.known.now c.in_ok-first.first c.in_ok-first.ensures

pub sweep_again-requires-clause-words : goal.sweep_again-requires-clause-words
sweep_again-requires-clause-words c = c.requires.words ∙ ap (λ n. 8 * n) (sym c.in_ok-first.ensures.vars)

pub returns : goal.returns
returns c = IfOk-then c.sweep_again.result _ _ (λ n two. moved_twice c.args.aig.now c.args.known.now c.in_ok-first.first n c.in_ok-first.ensures two) c.sweep_again.ensures
