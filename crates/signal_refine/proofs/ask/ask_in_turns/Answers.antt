-- What is one over the grown graph was so before.
use Rattle.std.proofs.Common.{◌≡◌, ◌*◌, ◌<◌, ℕ, Bool, length}
use Rattle.aig.specs.Values.{value}
use Rattle.signal_refine.proofs.Caring.{one_where_before}
use Rattle.signal_refine.proofs.ask.ask_in_turns.Goals as goal

pub returns-in-Same-clause-same : goal.returns-in-Same-clause-same
returns-in-Same-clause-same c = λ yes.
    one_where_before c.args.asked.now.care c.args.asked.now.before.now c.args.facts.now.aig c.loop-turn.facts.aig c.loop-turn.invariant.grows c.requires.held c.args.l c.args.r c.requires.left c.requires.right
    (c.in_ok-told.ensures.same c.in-Same.is)
