-- What is counted of the pairs that are compared.
use Rattle.std.specs.Prelude.{List}
use Rattle.sec_setup.specs.declared.ports.pairs.SignalPair.{SignalPair}
use Rattle.event_form.specs.event_agreement.pair_events.View.{EventsView, IsWithinLimits}
use Rattle.event_form.specs.Asked.{IsLater}
use Rattle.event_form.specs.Counted.{CountsOn}

-- The circuits and classes are the same. What the pairs visit and reach is counted with what was counted before, and all is within the limits.
pub record ArePairsCounted (pairs : List SignalPair) (old new : EventsView) : Type 0 where
  pub later : IsLater old new
  pub within : IsWithinLimits new
  pub counts : CountsOn pairs old new
