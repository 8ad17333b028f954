-- From what is found of the cut nets under an assumption to the answer of a comparison.
use Rattle.std.proofs.Common.{false, ◌≡◌, ℕ, ◌+◌, List, [], ◌∷◌, length, refl, sym, ◌∙◌, ap, subst, arith, inr, Some, Err, length-append}
use Rattle.circuit_theory.specs.declared.Side.{Side}
use Rattle.circuit_theory.specs.declared.Side.TheVariants.{A, B}
use Rattle.circuit_theory.specs.Interface.{AreNumbersOf}
use Rattle.base_tables.specs.Table.{AreDistinct}
use Rattle.flat_net.specs.declared.parts.Port.{Port}
use Rattle.flat_net.specs.Comparable.{IsComparable}
use Rattle.flat_net.specs.Sound.{IsSound}
use Rattle.flat_net.specs.View.{NetView, circuit_of, ports_of}
use Rattle.sec_setup.specs.declared.cut_points.exposed.Exposure.{Exposure}
use Rattle.sec_base.specs.declared.settings.Settings.{Settings}
use Rattle.obligations.specs.declared.outcome.verdict.LimitAt.TheVariants as limit_at
use Rattle.obligations.specs.declared.outcome.verdict.Outcome.{Outcome}
use Rattle.obligations.specs.declared.outcome.verdict.Verdict.TheVariants as verdict
use Rattle.pair_decide.specs.declared.query.Proof.{Proof}
use Rattle.sec_setup.specs.declared.setup.Setup.{Setup}
use Rattle.sec_setup.specs.Choosing.{IsChosen}
use Rattle.sec_setup.specs.Cuts.{columns_of, is_cut}
use Rattle.sec_setup.specs.Matching.{InterfacesMatch}
use Rattle.sec_setup.specs.ports.Pairs.{NamedPair, named_pairs}
use Rattle.sec_setup.specs.Setup.{IsSetupOf}
use Rattle.sec_setup.proofs.CutNets.{cut_numbers}
use Rattle.outcome_fits.proofs.plain_meaning.CutSizes.{cut_light}
use Rattle.plain_asked.specs.declared.findings.Findings.{Findings}
use Rattle.assume_laws.specs.declared.assume_shape.shape.ShapeFault.TheVariants as fault
use Rattle.assume_queries.specs.assume_sequences.Filled.{bit_of}
use Rattle.assume_queries.specs.declared.assume_sequences.premise.Premise.{Premise}
use Rattle.assume_queries.specs.assume_sequences.Assumed.{IsAssumedBy, CanBeAssumed}
use Rattle.assume_queries.specs.assume_sequences.assume_taken.Premises.{IsPremiseOf}
use Rattle.plain_check.specs.under_base.Taken.{assumed_by, IsUndecidedBy}
use Rattle.assume_queries.proofs.assume_sequences.assume_taken.Premises.{is_assumed, can_be_assumed}
use Rattle.plain_check.specs.declared.asked_under.error.CompareUnderError.{CompareUnderError}
use Rattle.plain_check.specs.declared.asked_under.error.CompareUnderError.TheVariants as found_error
use Rattle.plain_check.specs.asked_under.plain_asked_under.Formed.{AreFoundUnder, FormedUnder}
use Rattle.plain_check.specs.under_base.under_fits.Places.{IsOverAtPairs, IsLightAtPairs}
use Rattle.plain_check.specs.asked_under.plain_asked_under.Verdict.{FindingsFitUnder}
use Rattle.plain_check.specs.under_base.under_fits.Outcome.{OutcomeFitsUnder}
use Rattle.plain_check.specs.asked_under.plain_asked_under.under_meaning.Laws.{AreNets}
use Rattle.plain_check.proofs.asked_under.plain_asked_under.under_meaning.Meaning.{equal_says_under, different_shows_under, not_shown_under}
use Rattle.plain_check.specs.declared.under_base.compare_base.error.CompareError.TheVariants as refused
use Rattle.plain_check.proofs.under_base.compare_base.CutSetups.{choice, in_order, left_too_large, right_too_large}
use Rattle.plain_check.proofs.under_base.compare_base.Forms.{in_always}
use Rattle.plain_check.specs.under_base.Compared.{IsComparedUnder, ComparedUnder}
use Rattle.plain_check.specs.under_base.Met.{shared_by, IsMet, IsAssumptionLimit}
use Rattle.job_check.specs.declared.compare_under.circuits.Circuits.{Circuits}
use Rattle.job_check.specs.compare_under.Circuits.{AreMatched}
use Rattle.job_check.specs.compare_under.Refusals.{refusal_under}
use Rattle.plain_check.proofs.under_base.Places.{light_there, over_there}
use Rattle.plain_check.proofs.under_base.Reading.{reads_cut}

-- the premise says that the assumption is met
abbrev pub is_met : (a b c : NetView) (count : ℕ) (p : Premise) → InterfacesMatch a b → IsPremiseOf (shared_by a b) c count p → IsMet a b c
is_met a b c count p matches is = record { matches = matches; assumed = is.assumed; row = bit_of p.meeting; kept = is.kept }

-- where it wasn't decided whether some row meets the assumption, that is the outcome
pub limit_of : (a b c : NetView) (conflicts : ℕ) (names : List (List ℕ)) (proof : Proof) → InterfacesMatch a b → names ≡ shared_by a b → (limit : IsUndecidedBy names c conflicts proof) → IsSound a → IsSound b → (o : Outcome) →
    ((p : Port) → c.outputs ≡ p ∷ [] → o ≡ record { inputs = length names; left_latches = length a.latches; right_latches = length b.latches; assumed = Some p.name; exposed = []; classes = 0; pairs = []; through = 0; verdict = verdict.Limit (limit_at.Assume proof) }) →
    IsAssumptionLimit a b c conflicts o
limit_of a b c conflicts names proof matches same limit sa sb o is =
    let here : IsUndecidedBy (shared_by a b) c conflicts proof = subst (λ (ns : List (List ℕ)). IsUndecidedBy ns c conflicts proof) same limit in
    let e = is here.assumed.shape.output here.assumed.shape.outputs in
    subst (IsAssumptionLimit a b c conflicts) (sym e) (record {
      left_sound = sa;
      right_sound = sb;
      matches = matches;
      proof = proof;
      undecided = here;
      inputs = ap length same;
      left_latches = refl;
      right_latches = refl;
      assumed = refl;
      exposed = refl;
      classes = refl;
      pairs = refl;
      through = refl;
      verdict_is = refl;
    })

-- a premise over the names that are shared is one over those of both circuits
pub over_shared : (x : Circuits) → AreMatched x → (more : ℕ) (p : Premise) → IsPremiseOf x.shared.now x.assumed.now (length x.shared.now + more) p →
    IsPremiseOf (shared_by x.nets.left.now x.nets.right.now) x.assumed.now (length (shared_by x.nets.left.now x.nets.right.now) + more) p
over_shared x matched more p is = subst (λ (names : List (List ℕ)). IsPremiseOf names x.assumed.now (length names + more) p) matched.shared is

module _ (a b c : NetView) (settings : Settings) (e : Exposure) (s : Setup) (p : Premise) (matches : InterfacesMatch a b) (chosen : IsChosen a b settings.expose e) (is : IsSetupOf a b s) (same : s.exposed ≡ e.names)
    (premise : IsPremiseOf (shared_by a b) c (length (shared_by a b) + length e.names) p) where
  abbrev met : IsMet a b c
  met = is_met a b c (length (shared_by a b) + length e.names) p matches premise

  count : length s.columns ≡ length (shared_by a b) + length e.names
  count = ap length is.columns ∙ (length-append (shared_by a b) s.exposed ∙ ap (λ (names : List (List ℕ)). length (shared_by a b) + length names) same)

  -- so it is one over the columns of the setup
  pub can_be_premise : CanBeAssumed p (length s.columns)
  can_be_premise = subst (CanBeAssumed p) (sym count) (can_be_assumed (shared_by a b) c (length (shared_by a b) + length e.names) p premise (omega arith))

  pub premised : IsAssumedBy p (length s.columns) c premise.assumed.order premise.assumed.shape.output.signal.0 (length c.drivers)
  premised = subst (λ n. IsAssumedBy p n c premise.assumed.order premise.assumed.shape.output.signal.0 (length c.drivers)) (sym count) (is_assumed (shared_by a b) c (length (shared_by a b) + length e.names) p premise (omega arith))

  left_columns : AreNumbersOf (ports_of s.left.now).inputs (columns_of a b s.exposed) s.orders.left s.orders.right
  left_columns = subst (λ (cs : List (List ℕ)). AreNumbersOf (ports_of s.left.now).inputs cs s.orders.left s.orders.right) is.columns is.is.left_columns.numbers

  right_columns : AreNumbersOf (ports_of s.right.now).inputs (columns_of a b s.exposed) s.orders.right s.orders.left
  right_columns = subst (λ (cs : List (List ℕ)). AreNumbersOf (ports_of s.right.now).inputs cs s.orders.right s.orders.left) is.columns is.is.right_columns.numbers

  -- a circuit that is too large is refused
  circuit_too_large : settings.reset ≡ false → (side : Side) → FormedUnder s p settings.conflicts (Err (found_error.TooLarge side)) → ComparedUnder a b c settings (Err (refused.TooLarge side))
  circuit_too_large always A large = (met, left_too_large a b settings e s matches chosen is same always large)
  circuit_too_large always B large = (met, right_too_large a b settings e s matches chosen is same always large.0 large.1)

  -- and so is the assumption
  assumption_too_large : settings.reset ≡ false → FormedUnder s p settings.conflicts (Err found_error.AssumptionTooLarge) → ComparedUnder a b c settings (Err (refused.Assume fault.TooLarge))
  assumption_too_large always (left, right, over) = (
    matches,
    inr (
      met,
      chosen.broken,
      in_always _ settings.reset always (record {
        names = s.exposed;
        choice = choice a b settings e s matches chosen is same;
        in_order = in_order a b settings e s matches chosen is same;
        left_light = cut_light s.exposed (circuit_of a) s.left.now is.are_cut.left_circuit left;
        right_light = cut_light s.exposed (circuit_of b) s.right.now is.are_cut.right_circuit right;
        left = s.orders.left;
        right = s.orders.right;
        left_numbers = cut_numbers s.exposed (columns_of a b s.exposed) s.orders.left s.orders.right a s.left.now is.are_cut.left_circuit left_columns;
        right_numbers = cut_numbers s.exposed (columns_of a b s.exposed) s.orders.right s.orders.left b s.right.now is.are_cut.right_circuit right_columns;
        over = over_there s.exposed (circuit_of a) (circuit_of b) (circuit_of s.left.now) (circuit_of s.right.now) is.are_cut.left_circuit is.are_cut.right_circuit s.orders.left s.orders.right premise.assumed.weight
            (named_pairs s.exposed (circuit_of a) (circuit_of b))
            (subst (λ (w : ℕ). IsOverAtPairs w (circuit_of s.left.now) (circuit_of s.right.now) s.orders.left s.orders.right (named_pairs s.exposed (circuit_of a) (circuit_of b))) premise.weight_is
            (subst (λ (ps : List (NamedPair ℕ ℕ)). IsOverAtPairs p.weight (circuit_of s.left.now) (circuit_of s.right.now) s.orders.left s.orders.right ps) is.pairs over));
      }),
    ),
  )

  -- so each refusal is one of the circuits
  pub is_refused : settings.reset ≡ false → (error : CompareUnderError) → FormedUnder s p settings.conflicts (Err error) → ComparedUnder a b c settings (Err (refusal_under error))
  is_refused always (found_error.TooLarge side) large = circuit_too_large always side large
  is_refused always found_error.AssumptionTooLarge large = assumption_too_large always large
  is_refused always found_error.NoMemory large = tt

  -- what is found of the cut nets is the outcome of the comparison
  module _ (sa : IsSound a) (sb : IsSound b) (ca : IsComparable a) (cb : IsComparable b) (name : List ℕ) (named : name ≡ premise.assumed.shape.output.name) (f : Findings) (found : AreFoundUnder s p settings.conflicts f) where
    fit : FindingsFitUnder (assumed_by premise.assumed) (circuit_of s.left.now) (circuit_of s.right.now) s.orders.left s.orders.right (columns_of a b s.exposed) (bit_of p.meeting) (is_cut s.exposed) settings.conflicts
        (named_pairs s.exposed (circuit_of a) (circuit_of b)) f
    fit =
        subst (λ (cs : List (List ℕ)). FindingsFitUnder (assumed_by premise.assumed) (circuit_of s.left.now) (circuit_of s.right.now) s.orders.left s.orders.right cs (bit_of p.meeting) (is_cut s.exposed) settings.conflicts
        (named_pairs s.exposed (circuit_of a) (circuit_of b)) f) is.columns
        (subst (λ (ps : List (NamedPair ℕ ℕ)). FindingsFitUnder (assumed_by premise.assumed) (circuit_of s.left.now) (circuit_of s.right.now) s.orders.left s.orders.right s.columns (bit_of p.meeting) (is_cut s.exposed)
        settings.conflicts ps f) is.pairs
        (found.fits c premise.assumed.order premise.assumed.shape.output.signal.0 (length c.drivers) premised))

    abbrev pub outcome_under : Outcome
    outcome_under = record {
      inputs = s.inputs;
      left_latches = length a.latches;
      right_latches = length b.latches;
      assumed = Some name;
      exposed = s.exposed;
      classes = 0;
      pairs = f.pairs;
      through = f.through;
      verdict = f.verdict;
    }

    outcome_fits : OutcomeFitsUnder (assumed_by premise.assumed) (bit_of p.meeting) a b settings.expose settings.conflicts outcome_under
    outcome_fits = record {
      left_cut = s.left.now;
      right_cut = s.right.now;
      exposed = choice a b settings e s matches chosen is same;
      are_cut = is.are_cut;
      left = s.orders.left;
      right = s.orders.right;
      left_numbers = left_columns;
      right_numbers = right_columns;
      reads = reads_cut a b c premise.assumed s.left.now s.exposed is.are_cut.left is.are_cut.left_cut is.are_cut.left_names is.are_cut.left_circuit s.orders.left s.orders.right
          (subst (λ (cs : List (List ℕ)). AreDistinct cs) is.columns is.is.distinct) left_columns;
      inputs = is.inputs;
      left_latches = refl;
      right_latches = refl;
      classes = refl;
      pairs = fit.pairs_fit;
      through = fit.through;
      verdict_is = fit.verdict_is;
    }

    nets : AreNets a b
    nets = record { left = sa; right = sb; left_distinct = ca.distinct; right_distinct = cb.distinct }

    pub outcome_is_compared_under : IsComparedUnder a b c settings outcome_under
    unfolding outcome_fits
    outcome_is_compared_under = record {
      left_sound = sa;
      right_sound = sb;
      met = met;
      assumed = ap Some named;
      fits = outcome_fits;
      left_light = found.left_light;
      right_light = found.right_light;
      light = light_there s.exposed (circuit_of a) (circuit_of b) (circuit_of s.left.now) (circuit_of s.right.now) is.are_cut.left_circuit is.are_cut.right_circuit s.orders.left s.orders.right premise.assumed.weight
          (named_pairs s.exposed (circuit_of a) (circuit_of b))
          (subst (λ (w : ℕ). IsLightAtPairs w (circuit_of s.left.now) (circuit_of s.right.now) s.orders.left s.orders.right (named_pairs s.exposed (circuit_of a) (circuit_of b))) premise.weight_is
          (subst (λ (ps : List (NamedPair ℕ ℕ)). IsLightAtPairs p.weight (circuit_of s.left.now) (circuit_of s.right.now) s.orders.left s.orders.right ps) is.pairs found.light));
      equal = equal_says_under (assumed_by premise.assumed) (bit_of p.meeting) a b settings.expose settings.conflicts outcome_under outcome_fits nets;
      different = different_shows_under (assumed_by premise.assumed) (bit_of p.meeting) a b settings.expose settings.conflicts outcome_under outcome_fits nets;
      not_shown = not_shown_under (assumed_by premise.assumed) (bit_of p.meeting) a b settings.expose settings.conflicts outcome_under outcome_fits nets;
    }
