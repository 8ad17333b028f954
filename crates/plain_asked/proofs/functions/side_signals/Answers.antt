-- One signal more.
use Rattle.std.proofs.Common.{◌∙◌, ◌++◌, ◌∷◌, [], ap, map}
use Rattle.std.proofs.lemmas.List.{take_all}
use Rattle.flat_net.specs.declared.signals.Signal.{Signal}
use Rattle.sec_setup.specs.declared.ports.pairs.SignalPair.{SignalPair}
use Rattle.plain_asked.specs.Pairs.{signal_of}
use Rattle.plain_asked.proofs.Growing.{map_next}
use Rattle.plain_asked.proofs.functions.side_signals.Goals as goal

pub loop-pair-preserved : goal.loop-pair-preserved
loop-pair-preserved c =
    map_next (λ (p : SignalPair). signal_of c.args.side p) c.args.pairs.now c.loop-pair.signals.items c.push.new.self.items c.loop-pair.pair-index c.pair-item.result c.loop-pair-test.true c.pair-item.is c.loop-pair.invariant
    (c.in_ok-push.ensures.items ∙ ap (λ (s : Signal). c.loop-pair.signals.items ++ s ∷ []) c.signal_of.ensures)

pub returns : goal.returns
returns c = c.loop-pair.invariant ∙ ap (map (λ (p : SignalPair). signal_of c.args.side p)) (take_all c.loop-pair.pair-index c.args.pairs.now c.loop-pair-test.false)
