use Rattle.std.specs.List.{Contains}
use Rattle.std.proofs.lemmas.List.Elements.{All-get_or}
use Rattle.flat_net.specs.declared.signals.Signal.{Signal}
use Rattle.aig.specs.declared.node.Lit.{Lit}
use Rattle.tree_graph.specs.Walking.{IsMet}
use Rattle.tree_graph.proofs.Lists.{zip_more, zip_done}
use Rattle.tree_graph.proofs.walk.literals.Goals as goal

pub met-requires : goal.met-requires
met-requires c = All-get_or (λ (f : Signal). IsMet c.args.memo.now (c.args.shift, f.0)) c.args.signals.now c.loop-signal.signal-index _ c.loop-signal-test.true c.requires

pub loop-signal-preserved : goal.loop-signal-preserved
loop-signal-preserved c =
    zip_more (λ (f : Signal) (y : Lit). Contains c.args.memo.now ((c.args.shift, f.0), y)) c.args.signals.now c.loop-signal.lits.items _ c.loop-signal.signal-index _ c.met.result c.loop-signal-test.true c.in_ok-push.ensures.items c.met.ensures c.loop-signal.invariant

pub returns : goal.returns
returns c = zip_done (λ (f : Signal) (y : Lit). Contains c.args.memo.now ((c.args.shift, f.0), y)) c.args.signals.now c.loop-signal.lits.items c.loop-signal.signal-index c.loop-signal-test.false c.loop-signal.invariant
