-- From what is found of both circuits under an assumption to the answer of their comparison.
use Rattle.std.proofs.Common.{◌≡◌, ◌∙◌, ◌+◌, ℕ, Bool, true, List, [], length, map, Some, refl, sym, ap, subst, arith, inl, inr, length-append}
use Rattle.std.specs.Prelude.{◌⊎◌}
use Rattle.std.specs.List.{Contains}
use Rattle.circuit_theory.specs.Agree.{cut as agree_cut}
use Rattle.circuit_theory.specs.Circuit.{Circuit, Named}
use Rattle.circuit_theory.specs.Tree.{StandsBeside}
use Rattle.flat_net.specs.Comparable.{IsComparable}
use Rattle.flat_net.specs.Sound.{IsSound}
use Rattle.flat_net.specs.View.{NetView, circuit_of}
use Rattle.sec_setup.specs.declared.ports.pairs.SignalPair.{SignalPair}
use Rattle.sec_setup.specs.ports.Pairs.{places_of}
use Rattle.pair_decide.specs.declared.query.Proof.{Proof}
use Rattle.sec_base.specs.declared.settings.Settings.{Settings}
use Rattle.base_tables.specs.Table.{AreDistinct}
use Rattle.obligations.specs.declared.outcome.verdict.LimitAt.{LimitAt}
use Rattle.obligations.specs.declared.outcome.verdict.LimitAt.TheVariants as limit_at
use Rattle.obligations.specs.declared.outcome.verdict.Outcome.{Outcome}
use Rattle.sec_setup.specs.Matching.{InterfacesMatch}
use Rattle.edbf_unfold.specs.class_queries.Enables.{both_of}
use Rattle.event_check.specs.event_answers.EventPairs.{EventPairs}
use Rattle.event_nodes.specs.View.{EventCircuitView}
use Rattle.assume_laws.specs.Assume.{Assumption, ReadsInputs}
use Rattle.assume_queries.specs.assume_sequences.Assumed.{CanBeAssumed, IsAssumedBy}
use Rattle.assume_queries.specs.declared.assume_sequences.premise.Premise.{Premise}
use Rattle.assume_queries.specs.assume_sequences.Filled.{bit_of}
use Rattle.assume_queries.specs.assume_sequences.assume_taken.Premises.{IsPremiseOf}
use Rattle.event_setup.specs.event_meaning.event_meaning_under.Taken.{assumed_by, IsUndecidedBy}
use Rattle.assume_queries.proofs.assume_sequences.assume_taken.Premises.{is_assumed, can_be_assumed}
use Rattle.event_under.specs.Places.{IsLightAtNodes}
use Rattle.event_setup.specs.event_meaning.event_meaning_under.Met.{shared_by, IsMet, IsAssumptionLimit}
use Rattle.plain_check.proofs.under_base.Reading.{reads_cut}
use Rattle.event_check.specs.event_answers.Askable.{IsAskedBy}
use Rattle.event_setup.specs.event_meaning.event_names.event_fits.Circuits.{AreNets}
use Rattle.event_setup.specs.event_meaning.event_names.event_fits.Fitting.{IsUnclassed, IsUnrecovered}
use Rattle.event_check.specs.event_answers.Reached.{AreClassed, StopsAtLimit}
use Rattle.event_setup.specs.event_meaning.event_names.event_fits.Totals.{IsWithinWith}
use Rattle.event_check.specs.declared.event_answers.outcomes.Found.{Found}
use Rattle.event_check.specs.declared.event_answers.reaching.Classed.{Classed}
use Rattle.event_check.proofs.event_answers.Told.{limit_at as found_limit, known_pairs, named, outcome_by, unknown_pairs}
use Rattle.event_setup.specs.event_meaning.event_meaning_under.Answered.{IsComparedInEventsUnder}
use Rattle.event_setup.specs.event_meaning.event_meaning_under.Fitted.{EventOutcomeFitsUnder, HasCountsUnder, IsComparedByPairsUnder}
use Rattle.event_setup.proofs.event_meaning.event_meaning_under.Saying.{cut_outcomes, different_outcomes, equal_outcomes}
use Rattle.event_setup.proofs.event_meaning.event_meaning_under.Framing.{unshown_outcomes}
use Rattle.event_check.specs.event_check_under.event_answers_under.Pairs.{ArePairsFoundUnder}
use Rattle.event_check.specs.event_check_under.Settles.{CaresFitUnder}

-- an assumption reads inputs of each circuit that has these inputs
reads_same : {P : Type 0} (c : Assumption) (a d : Circuit P) (order : List ℕ) → d.inputs ≡ a.inputs → ReadsInputs c a order → ReadsInputs c d order
reads_same {P} c a d order same r = record {
  each = r.each;
  found = λ p i number. (
      let x = r.found p i number in (x.0, x.1, x.2, subst (λ (ins : List (Named P)). Contains ins (record { name = x.0; place = x.1 })) (sym same) x.3, subst (λ (ins : List (Named P)). StandsBeside ins order x.1 i) (sym same) x.4)
      );
  numbered = λ name p i q own there number.
      subst (λ (ins : List (Named P)). StandsBeside ins order q i) (sym same) (r.numbered name p i q own (subst (λ (ins : List (Named P)). Contains ins (record { name = name; place = q })) same there) number);
}

module _ (a b c : NetView) (settings : Settings) (sa : IsSound a) (sb : IsSound b) (ca : IsComparable a) (cb : IsComparable b) (matches : InterfacesMatch a b) where
  nets : AreNets a b
  nets = record { left = sa; right = sb; left_distinct = ca.distinct; right_distinct = cb.distinct }

  -- where it wasn't decided whether some row meets the assumption, that is the outcome
  pub assumption_limit : (proof : Proof) (limit : IsUndecidedBy (shared_by a b) c settings.conflicts proof) → IsAssumptionLimit a b c settings.conflicts (outcome_by a b (Some limit.assumed.shape.output.name) [] (found_limit (limit_at.Assume proof)))
  assumption_limit proof limit = record {
    left_sound = sa;
    right_sound = sb;
    matches = matches;
    proof = proof;
    undecided = limit;
    inputs = refl;
    left_latches = refl;
    right_latches = refl;
    assumed = refl;
    exposed = refl;
    classes = refl;
    pairs = refl;
    through = refl;
    verdict_is = refl;
  }

  module _ (count : ℕ) (p : Premise) (premise : IsPremiseOf (shared_by a b) c count p) where
    -- the premise says that the assumption is met
    abbrev pub met : IsMet a b c
    met = record { matches = matches; assumed = premise.assumed; row = bit_of p.meeting; kept = premise.kept }

    abbrev ac : Assumption
    ac = assumed_by premise.assumed

    abbrev pub outcome_under : List (List ℕ) → Found → Outcome
    outcome_under exposed f = outcome_by a b (Some premise.assumed.shape.output.name) exposed f

    counts : (exposed : List (List ℕ)) (f : Found) → HasCountsUnder a b (outcome_under exposed f)
    counts exposed f = record { inputs = refl; left_latches = refl; right_latches = refl; through = refl }

    -- an outcome that fits says what it says
    fits_is_compared : (exposed : List (List ℕ)) (f : Found) → EventOutcomeFitsUnder ac premise.assumed.weight (bit_of p.meeting) a b settings.expose settings.conflicts (outcome_under exposed f) → IsComparedInEventsUnder a b c settings (outcome_under exposed f)
    fits_is_compared exposed f fits = record {
      left_sound = sa;
      right_sound = sb;
      met = met;
      assumed = refl;
      fits = fits;
      equal = λ e. equal_outcomes ac premise.assumed.weight (bit_of p.meeting) a b settings.expose settings.conflicts (outcome_under exposed f) nets fits e;
      different = λ w e. different_outcomes ac premise.assumed.weight (bit_of p.meeting) a b settings.expose settings.conflicts (outcome_under exposed f) nets fits w e;
      not_shown = λ w e. cut_outcomes ac premise.assumed.weight (bit_of p.meeting) a b settings.expose settings.conflicts (outcome_under exposed f) nets fits w e;
      unshown = λ u e. unshown_outcomes ac premise.assumed.weight (bit_of p.meeting) a b settings.expose settings.conflicts (outcome_under exposed f) fits u e;
    }

    -- the limit of an enable or of a class
    rest : (o : Outcome) → IsUnrecovered a b settings.conflicts o ⊎ IsUnclassed a b settings.expose settings.conflicts o →
        IsUnrecovered a b settings.conflicts o ⊎ (IsUnclassed a b settings.expose settings.conflicts o ⊎ IsComparedByPairsUnder ac premise.assumed.weight (bit_of p.meeting) a b settings.expose settings.conflicts o)
    rest o (inl k) = inl k
    rest o (inr k) = inr (inl k)

    pub limit_compared : (exposed : List (List ℕ)) (at : LimitAt) → StopsAtLimit a b settings exposed at → IsComparedInEventsUnder a b c settings (outcome_under exposed (found_limit at))
    limit_compared exposed at stops =
        fits_is_compared exposed (found_limit at)
        (record { counts = counts exposed (found_limit at); rest = rest (outcome_under exposed (found_limit at)) (stops (outcome_under exposed (found_limit at)) refl refl refl refl) })

    -- where no pair is asked about there are no cares
    pub no_cares : (exposed : List (List ℕ)) (at : LimitAt) → StopsAtLimit a b settings exposed at → CaresFitUnder a b c settings (outcome_under exposed (found_limit at)) []
    no_cares exposed at stops = inl (unknown_pairs a b settings (outcome_under exposed (found_limit at)) (stops (outcome_under exposed (found_limit at)) refl refl refl refl), refl)

    -- what is found of the pairs, where the premise goes over the exposed latches, too
    module _ (x : Classed) (is : AreClassed a b settings x) (over : count ≡ length (shared_by a b) + length x.exposed) where
      abbrev left : EventCircuitView
      left = x.separated.events.left

      abbrev right : EventCircuitView
      right = x.separated.events.right

      all_columns : length x.names.columns ≡ count
      all_columns = ap length is.columns ∙ (length-append (shared_by a b) x.exposed ∙ sym over)

      pub can_be_premise : CanBeAssumed p (length x.names.columns)
      can_be_premise = subst (CanBeAssumed p) (sym all_columns) (can_be_assumed (shared_by a b) c count p premise (omega (arith, over)))

      module _ (compared : EventPairs) (asked : IsAskedBy x.names x.asked compared) where
        premised : IsAssumedBy p (length compared.names.now) c premise.assumed.order premise.assumed.shape.output.signal.0 (length c.drivers)
        premised = subst (λ m. IsAssumedBy p m c premise.assumed.order premise.assumed.shape.output.signal.0 (length c.drivers)) (sym (ap length asked.2 ∙ all_columns)) (is_assumed (shared_by a b) c count p premise (omega (arith, over)))

        reads : ReadsInputs ac (circuit_of left.net) left.order
        reads =
            let cut = is.reached.circuits.are_cut in
            let distinct = subst AreDistinct (asked.2 ∙ is.columns) (is.askable.compared compared asked).distinct in
            reads_same ac (agree_cut x.exposed (circuit_of a)) (circuit_of left.net) left.order cut.left_circuit.inputs
            (reads_cut a b c premise.assumed left.net x.exposed cut.left cut.left_cut cut.left_names cut.left_circuit left.order right.order distinct is.reached.circuits.left_columns.numbers)

      pub pairs_compared : (settles : Bool) (f : Found) → ArePairsFoundUnder left right x.names x.asked p settings.conflicts settles f → IsComparedInEventsUnder a b c settings (outcome_under x.exposed f)
      pairs_compared settles f k = fits_is_compared x.exposed f (record {
        counts = counts x.exposed f;
        rest = inr (inr (record {
          left = left;
          right = right;
          reached = is.reached;
          reads = reads k.compared k.asked;
          made = k.unfolded.made;
          classes = k.unfolded.classes_are;
          compared = k.compared;
          listed = ap (map places_of) k.asked.0 ∙ is.listed;
          names = k.asked.2 ∙ is.columns;
          cut = k.asked.3 ∙ is.cut;
          within = subst (λ (ps : List SignalPair). IsWithinWith left right k.unfolded.made ps ps) (sym k.asked.0) k.unfolded.within;
          light = subst (λ (w : ℕ). IsLightAtNodes w (both_of left right) k.compared.pairs.now) premise.weight_is (subst (IsLightAtNodes p.weight (both_of left right)) (sym k.asked.0) k.light);
          found = k.found;
          fits = k.fits c premise.assumed.order premise.assumed.shape.output.signal.0 (length c.drivers) (premised k.compared k.asked);
          pairs = k.pairs;
          verdict_is = named a b settings x is k.found f.verdict k.verdict_is;
        }));
      })

      -- and what is found of their cares is that of the outcome
      pub cares_found : (settles : Bool) (f : Found) → ArePairsFoundUnder left right x.names x.asked p settings.conflicts settles f → settles ≡ true → CaresFitUnder a b c settings (outcome_under x.exposed f) f.cares
      cares_found settles f k asks = inr (record {
        known = known_pairs x.names.left x.names.right x.names.columns k.found.verdict f.verdict k.verdict_is;
        met = met;
        left = left;
        right = right;
        reached = is.reached;
        reads = reads k.compared k.asked;
        classes = is.counted.classes;
        pairs = x.asked.pairs;
        listed = is.listed;
        each = k.cares asks c premise.assumed.order premise.assumed.shape.output.signal.0 (length c.drivers) (premised k.compared k.asked);
      })
