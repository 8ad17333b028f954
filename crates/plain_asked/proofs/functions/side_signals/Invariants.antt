use Rattle.std.proofs.Common.{◌≡◌, map, take}
use Rattle.sec_setup.specs.declared.ports.pairs.SignalPair.{SignalPair}
use Rattle.plain_asked.specs.Pairs.{signal_of}
use Rattle.plain_asked.proofs.functions.side_signals.Given as goal

abbrev pub invariant-loop-pair : goal.invariant-loop-pair
invariant-loop-pair l = l.signals.items ≡ map (λ (p : SignalPair). signal_of l.side p) (take l.pair-index l.pairs)
