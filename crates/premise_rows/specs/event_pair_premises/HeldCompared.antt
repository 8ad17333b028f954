-- The two circuits with enabled latches, as the pair of their outputs is compared once the latches have their class.
use Rattle.std.specs.Prelude.{ℕ, true, false, [], ◌∷◌, None, codes}
use Rattle.circuit_theory.specs.declared.Side.TheVariants.{A}
use Rattle.event_nodes.specs.Nodes.{GrowsEvents}
use Rattle.event_form.specs.declared.event_findings.pairs.EventPairs.{EventPairs}
use Rattle.event_form.specs.declared.event_findings.verdict.EventVerdict.TheVariants as verdict
use Rattle.event_form.specs.event_agreement.pair_events.View.{EventsView}
use Rattle.event_form.specs.event_findings.Findings.{FindingsFit}
use Rattle.event_form.specs.event_findings.unshown_pairs.class_events.Separated.{AreSeparated}
use Rattle.premise_rows.specs.event_pair_premises.Comparable.{CanBeCompared}
use Rattle.premise_rows.specs.event_pair_premises.Differing.{at_root}
use Rattle.premise_rows.specs.event_pair_premises.Held.{loads_a, loads_not_a, at_load, held_pair, held_result}

-- e and a at the root are variables, by which the enables were told from `always`; what the enables visit isn't counted
abbrev pub with_classes : EventsView
with_classes = record { left = loads_a; right = loads_not_a; events = at_root; left_count = record { places = []; weight = 0 }; right_count = record { places = []; weight = 0 }; count = 1 }

-- the one pair, of depth 1
abbrev pub held_compared : EventPairs
held_compared = record {
  pairs = record { ref_ptr = (0, 0); now = held_pair ∷ [] };
  depths = record { ref_ptr = (0, 0); now = 1 ∷ [] };
  names = record { ref_ptr = (0, 0); now = codes "e" ∷ codes "a" ∷ [] };
  cut = false;
}

-- A's latch founds class 1: its enable is 0 where e and a are
abbrev pub IsToldApart : EventsView → Type 0
IsToldApart view = AreSeparated view (record { low = None; high = record { side = A; latch = 0 }; left = true; right = false; vars = 0 ∷ 1 ∷ []; bits = false ∷ false ∷ [] } ∷ [])

-- The pair can be compared. What tells class 1 from class 0 does so in the later graph, too. That the pair is equal fits the circuits.
pub record HeldPairCanBeCompared : Type 0 where
  pub first : CanBeCompared with_classes held_compared
  pub separated : IsToldApart with_classes
  pub grows : GrowsEvents with_classes.events at_load
  pub separated_later : IsToldApart (record with_classes { events = at_load })
  pub found : (conflicts : ℕ) → FindingsFit loads_a loads_not_a held_compared conflicts (record { pairs = held_result ∷ []; verdict = verdict.Equal })
