-- Pairs of two circuits with their class map, as they are asked about.
use Rattle.std.specs.Prelude.{◌≡◌, All}
use Rattle.sec_setup.specs.ports.Pairs.{ArePairsOf}
use Rattle.sec_setup.specs.Setup.{AreColumns}
use Rattle.event_form.specs.event_agreement.pair_events.View.{EventsView}
use Rattle.event_comparison.specs.Compared.{AreCompared}
use Rattle.event_comparison.specs.EventPairs.{EventPairs}
use Rattle.event_setup.specs.event_meaning.event_names.Asked.{IsPairOf}
use Rattle.event_setup.specs.event_meaning.event_names.event_fits.Named.{latch_names}
use Rattle.event_setup.specs.declared.event_meaning.event_names.names.Names.{Names}
use Rattle.event_check.specs.declared.event_answers.reaching.Asked.{Asked}

-- the pairs, by the names of the inputs
abbrev pub IsAskedBy : Names → Asked → EventPairs → Type 0
IsAskedBy n x c = (c.pairs.now ≡ x.pairs) × (c.depths.now ≡ x.depths) × (c.names.now ≡ n.columns) × (c.cut ≡ x.cut)

-- The pairs can be asked about: they are of the outputs of both circuits, all that is read has a number and a name, and the latches have their names.
pub record AreAskable (e : EventsView) (n : Names) (x : Asked) : Type 0 where
  pub within : All (IsPairOf e) x.pairs
  pub shown : ArePairsOf e.left.net e.right.net x.pairs
  pub compared : (c : EventPairs) → IsAskedBy n x c → AreCompared e.left e.right c
  pub left_columns : AreColumns e.left.net n.columns e.left.order e.right.order
  pub right_columns : AreColumns e.right.net n.columns e.right.order e.left.order
  pub left_latches : n.left ≡ latch_names e.left.net
  pub right_latches : n.right ≡ latch_names e.right.net
