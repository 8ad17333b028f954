-- All places are visited, as none has been met.
use Rattle.std.proofs.Common.{◌<◌, length, sym, subst, arith}
use Rattle.flat_net.specs.View.{NetView}
use Rattle.reset_form.proofs.reset_unfold.Finish.{reach_alone, over_walk}
use Rattle.reset_form.proofs.reset_unfold.unfolder.ResetUnfolder.visited.Goals as goal

pub reach-requires-clause-signal : goal.reach-requires-clause-signal
reach-requires-clause-signal c = subst (λ (n : NetView). c.args.start.1 < length n.drivers) (sym c.net-net.ensures) c.requires.signal

pub reach-requires-clause-small : goal.reach-requires-clause-small
reach-requires-clause-small c = omega (arith, c.cap.ensures, c.keeps-2.ensures.unfolder.cap)

pub returns-clause-reach : goal.returns-clause-reach
returns-clause-reach c = reach_alone (λ r. r.items) c.args.self.now c.net-net.result.now c.new-none.result c.args.start c.cap.result c.reach.result c.net-net.ensures c.new-none.ensures c.reach.ensures.reach

pub returns-clause-over : goal.returns-clause-over
returns-clause-over c = λ e. over_walk c.args.self.now c.net-net.result.now c.args.start c.cap.result c.keeps.ensures.sound c.net-net.ensures c.cap.ensures (c.reach.ensures.over e)
