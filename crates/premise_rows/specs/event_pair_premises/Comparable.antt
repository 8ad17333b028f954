-- Two circuits that show different inputs, as the pair of their outputs is compared: what comparing asks for, and what is found.
use Rattle.std.specs.Prelude.{◌≡◌, ℕ, true, false, [], ◌∷◌, All, codes}
use Rattle.circuit_theory.specs.Fits.{MakesDiffer}
use Rattle.flat_net.specs.View.{circuit_of}
use Rattle.sec_base.specs.declared.basics.PairAnswer.TheVariants as answer
use Rattle.witness_report.specs.declared.witness.PairName.TheVariants as pair
use Rattle.witness_report.specs.declared.witness.Witness.{Witness}
use Rattle.event_nodes.specs.aig.Node.TheVariants.{Constant}
use Rattle.event_nodes.specs.Nodes.{GrowsEvents}
use Rattle.obligations.specs.declared.obligation.Difference.{Difference}
use Rattle.obligations.specs.Decided.{IsFirstOf}
use Rattle.edbf_unfold.specs.class_queries.Laws.{AreKept}
use Rattle.event_form.specs.Asked.{IsPairOf}
use Rattle.event_form.specs.declared.event_findings.pairs.EventPairs.{EventPairs}
use Rattle.event_form.specs.declared.event_findings.verdict.EventVerdict.TheVariants as verdict
use Rattle.event_form.specs.event_agreement.pair_events.Counted.{HaveCounted}
use Rattle.event_form.specs.event_agreement.pair_events.View.{EventsView, IsEvents, IsWithinLimits}
use Rattle.event_form.specs.event_findings.Compared.{AreCompared}
use Rattle.event_form.specs.event_findings.Findings.{FindingsFit}
use Rattle.event_form.specs.event_findings.event_witness.Shown.{IsShowable}
use Rattle.event_form.specs.event_findings.unshown_pairs.class_events.Separated.{AreSeparated}
use Rattle.premise_rows.specs.event_outcome_samples.Different.{shows_a, shows_b, a_events, b_events, y_pair, y_result}
use Rattle.premise_rows.specs.event_pair_premises.Differing.{two_inputs, at_root, with_and, a_alone, y_asked, y_not_shown}

-- what comparing pairs asks for, but for what tells classes apart, and what both circuits and the event graph keep
pub record CanBeCompared (e : EventsView) (c : EventPairs) : Type 0 where
  pub kept : AreKept e.left e.right e.events
  pub events : IsEvents e
  pub pairs : All (IsPairOf e) c.pairs.now
  pub compared : AreCompared e.left e.right c
  pub within : IsWithinLimits e

-- nothing was unfolded or counted, and there is no class but `always`
abbrev pub at_first : EventsView
at_first = record {
  left = a_events;
  right = b_events;
  events = record { graph = Constant ∷ []; children = []; places = [] };
  left_count = record { places = []; weight = 0 };
  right_count = record { places = []; weight = 0 };
  count = 0;
}

-- the one pair, of depth 0
abbrev pub y_compared : EventPairs
y_compared = record {
  pairs = record { ref_ptr = (0, 0); now = y_pair ∷ [] };
  depths = record { ref_ptr = (0, 0); now = 0 ∷ [] };
  names = record { ref_ptr = (0, 0); now = codes "a" ∷ codes "b" ∷ [] };
  cut = false;
}

-- the same as where latches are cut open
abbrev pub y_cut : EventPairs
y_cut = record y_compared { cut = true }

abbrev pub y_difference : Difference
y_difference = record { pair = 0; query = 0; bits = a_alone }

-- in the one cycle a alone is set, under which y is 1 in A and 0 in B
pub record HasAAlone (w : Witness) : Type 0 where
  pub pair_is : w.pair ≡ pair.Output (codes "y")
  pub cycle_is : w.cycle ≡ 0
  pub left_is : w.left ≡ true
  pub right_is : w.right ≡ false
  pub names_are : w.stimulus.names ≡ codes "a" ∷ codes "b" ∷ []
  pub rows_are : w.stimulus.rows ≡ (true ∷ false ∷ []) ∷ []

-- The pair can be compared. What was counted is what no start visits, and what tells classes apart, which is nothing, does so in a later graph.
-- The pair is the first that is different; so it can be shown, is so in a later graph, and the sequence makes it differ in all runs. With such a
-- sequence what is found fits the circuits: the pair is different or, as where latches are cut open, isn't shown.
pub record PairCanBeCompared : Type 0 where
  pub first : CanBeCompared at_first y_compared
  pub separated : AreSeparated at_first []
  pub counted : HaveCounted at_first [] []
  pub grows : GrowsEvents at_first.events at_root
  pub separated_later : AreSeparated (record at_first { events = at_root }) []
  pub differs : IsFirstOf two_inputs (y_asked true ∷ []) answer.Different (y_result ∷ []) y_difference
  pub showable : IsShowable at_root (y_asked true ∷ []) y_difference
  pub differs_later : IsFirstOf with_and.graph (y_asked true ∷ []) answer.Different (y_result ∷ []) y_difference
  pub makes_differ : MakesDiffer (circuit_of shows_a) (circuit_of shows_b) a_events.order b_events.order 0 1 ((true ∷ false ∷ []) ∷ []) 0 true false
  pub found : (w : Witness) × HasAAlone w × ((conflicts : ℕ) → FindingsFit a_events b_events y_compared conflicts (record { pairs = y_result ∷ []; verdict = verdict.Different w }))
  pub first_cut : CanBeCompared at_first y_cut
  pub found_cut : (w : Witness) × HasAAlone w × ((conflicts : ℕ) → FindingsFit a_events b_events y_cut conflicts (record { pairs = y_not_shown ∷ []; verdict = verdict.Cut w }))
