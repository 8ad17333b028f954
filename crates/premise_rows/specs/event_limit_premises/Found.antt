-- That pair as it is compared with no conflict allowed.
use Rattle.std.specs.Prelude.{[], ◌∷◌, map, false, codes}
use Rattle.witness_report.specs.declared.witness.PairName.TheVariants as pair
use Rattle.event_nodes.specs.aig.Node.TheVariants.{Constant}
use Rattle.event_form.specs.declared.event_findings.pairs.EventPairs.{EventPairs}
use Rattle.event_form.specs.declared.event_findings.verdict.EventVerdict.TheVariants as verdict
use Rattle.event_form.specs.event_agreement.pair_events.View.{EventsView}
use Rattle.event_form.specs.event_findings.Findings.{FindingsFit, IsFirstLimit}
use Rattle.event_form.specs.event_findings.unshown_pairs.class_events.Separated.{AreSeparated}
use Rattle.premise_rows.specs.event_limit_premises.AtLimit.{chosen_pair, chosen_result}
use Rattle.premise_rows.specs.event_limit_premises.Chosen.{chooses, letter, seventeen, shows}
use Rattle.premise_rows.specs.event_pair_premises.Comparable.{CanBeCompared}

-- nothing was unfolded or counted, and there is no class but `always`
abbrev pub before_choice : EventsView
before_choice = record {
  left = chooses;
  right = shows;
  events = record { graph = Constant ∷ []; children = []; places = [] };
  left_count = record { places = []; weight = 0 };
  right_count = record { places = []; weight = 0 };
  count = 0;
}

-- the one pair, of depth 0
abbrev pub chosen_compared : EventPairs
chosen_compared = record {
  pairs = record { ref_ptr = (0, 0); now = chosen_pair ∷ [] };
  depths = record { ref_ptr = (0, 0); now = 0 ∷ [] };
  names = record { ref_ptr = (0, 0); now = map letter seventeen };
  cut = false;
}

-- The pair can be compared, and that it met the limit fits the circuits: it is the first pair that did.
pub record PairAtLimitCanBeCompared : Type 0 where
  pub first : CanBeCompared before_choice chosen_compared
  pub separated : AreSeparated before_choice []
  pub first_limit : IsFirstLimit (chosen_pair ∷ []) (chosen_result ∷ []) (pair.Output (codes "y"))
  pub found : FindingsFit chooses shows chosen_compared 0 (record { pairs = chosen_result ∷ []; verdict = verdict.Limit (pair.Output (codes "y")) })
