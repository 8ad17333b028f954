use Rattle.aig.specs.Graph.{Grows}
use Rattle.signal_refine.specs.Asking.{AreKnown}
use Rattle.signal_refine.proofs.ask.ask_in_turns.Given as goal

abbrev pub invariant-loop-turn : goal.invariant-loop-turn
invariant-loop-turn l = record { grows : Grows l.initial.facts.aig l.facts.aig; known : AreKnown l.facts }
