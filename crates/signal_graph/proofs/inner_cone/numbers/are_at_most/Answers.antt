-- One signal more.
use Rattle.std.proofs.Common.{◌≤◌, List, get_or, subst, arith}
use Rattle.std.specs.List.{All}
use Rattle.std.proofs.lemmas.List.{take_all}
use Rattle.std.proofs.lemmas.List.Elements.{All-more}
use Rattle.signal_graph.specs.inner_cone.latch_cone.flat_net.Signal.{Signal}
use Rattle.signal_graph.proofs.inner_cone.numbers.are_at_most.Goals as goal

pub loop-read-preserved : goal.loop-read-preserved
loop-read-preserved c =
    All-more (λ (r : Signal). get_or c.args.numbers.now r.0 0 ≤ c.args.most) c.args.reads.now c.loop-read.read-index (record { 0 = 0 }) c.loop-read-test.true c.loop-read.invariant (omega (arith, c.number_at.ensures, c.if-number_at-most.false))

pub returns : goal.returns
returns c = λ e. subst (λ (l : List Signal). All (λ (r : Signal). get_or c.args.numbers.now r.0 0 ≤ c.args.most) l) (take_all c.loop-read.read-index c.args.reads.now c.loop-read-test.false) c.loop-read.invariant
