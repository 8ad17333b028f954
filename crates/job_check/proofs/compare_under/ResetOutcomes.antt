-- The same from the initial values. No latch is cut open.
use Rattle.std.proofs.Common.{Bool, true, false, ◌≡◌, ℕ, ◌+◌, List, [], length, refl, ap, subst, inr, Some, Err}
use Rattle.circuit_theory.specs.declared.Side.{Side}
use Rattle.circuit_theory.specs.declared.Side.TheVariants.{A, B}
use Rattle.flat_net.specs.Comparable.{IsComparable}
use Rattle.flat_net.specs.Sound.{IsSound}
use Rattle.flat_net.specs.View.{NetView, circuit_of}
use Rattle.sec_setup.specs.declared.cut_points.exposed.Exposure.{Exposure}
use Rattle.sec_base.specs.declared.settings.Settings.{Settings}
use Rattle.obligations.specs.declared.outcome.verdict.Outcome.{Outcome}
use Rattle.obligations.specs.declared.outcome.verdict.PairResult.{PairResult}
use Rattle.sec_setup.specs.declared.setup.Setup.{Setup}
use Rattle.sec_setup.specs.Choosing.{IsChosen}
use Rattle.sec_setup.specs.Cycles.{IsAcyclic}
use Rattle.sec_setup.specs.Matching.{InterfacesMatch}
use Rattle.sec_setup.specs.ports.Pairs.{NamedPair, named_pairs}
use Rattle.sec_setup.specs.Setup.{IsSetupOf}
use Rattle.outcome_fits.specs.ResetOutcome.{Numbered}
use Rattle.plain_check.specs.asked_under.reset_asked_under.ResetFindings.{ResetFindings}
use Rattle.plain_check.specs.asked_under.reset_asked_under.ResetVerdict.{ResetVerdict}
use Rattle.plain_check.specs.asked_under.reset_asked_under.ResetVerdict.TheVariants as found_verdict
use Rattle.assume_laws.specs.Assume.{Assumption}
use Rattle.assume_laws.specs.declared.assume_shape.shape.ShapeFault.TheVariants as fault
use Rattle.assume_queries.specs.assume_sequences.Filled.{bit_of}
use Rattle.assume_queries.specs.declared.assume_sequences.premise.Premise.{Premise}
use Rattle.assume_queries.specs.assume_sequences.assume_taken.Premises.{IsPremiseOf}
use Rattle.plain_check.specs.under_base.Taken.{assumed_by}
use Rattle.plain_check.specs.declared.asked_under.error.CompareUnderError.{CompareUnderError}
use Rattle.plain_check.specs.declared.asked_under.error.CompareUnderError.TheVariants as found_error
use Rattle.plain_check.specs.asked_under.reset_asked_under.Formed.{AreFoundUnder, FormedUnder}
use Rattle.plain_check.specs.under_base.under_fits.ResetPlaces.{IsOverInCycles, IsLightInCycles}
use Rattle.plain_check.specs.asked_under.reset_asked_under.Verdict.{FindingsFitUnder, VerdictFitsUnder}
use Rattle.plain_check.specs.under_base.under_fits.ResetOutcome.{numbers_of, ResetOutcomeFitsUnder, ResetVerdictFitsUnder}
use Rattle.plain_check.specs.asked_under.plain_asked_under.under_meaning.under_reset_meaning.Laws.{AreNets}
use Rattle.plain_check.proofs.asked_under.plain_asked_under.under_meaning.under_reset_meaning.Meaning.{equal_resets_say_under, different_resets_show_under}
use Rattle.plain_check.specs.declared.under_base.compare_base.error.CompareError.TheVariants as refused
use Rattle.plain_check.proofs.under_base.compare_base.Forms.{in_reset, unbroken}
use Rattle.plain_check.proofs.under_base.compare_base.UncutSetups.{left_light, right_light, left_too_large, right_too_large, of_circuits, based, left_numbers, right_numbers}
use Rattle.plain_check.specs.under_base.Compared.{IsComparedFromResetUnder, ComparedUnder}
use Rattle.plain_check.specs.under_base.Met.{shared_by, IsMet}
use Rattle.job_check.specs.compare_under.Verdicts.{verdict_of}
use Rattle.job_check.specs.compare_under.Refusals.{refusal_under}
use Rattle.job_check.proofs.compare_under.CutOutcomes.{is_met, premised}
use Rattle.plain_check.proofs.under_base.Reading.{reads_inputs}

-- the verdict of the form is that of the outcome
verdict_fits : (c : Assumption) (n : Numbered) (row : ℕ → Bool) (pairs : List (NamedPair ℕ ℕ)) (results : List PairResult) (v : ResetVerdict) → VerdictFitsUnder c n row pairs results v → ResetVerdictFitsUnder c n row pairs results (verdict_of v)
verdict_fits c n row pairs results found_verdict.Equal h = h
verdict_fits c n row pairs results (found_verdict.Different w) h = h
verdict_fits c n row pairs results (found_verdict.Limit name) h = h

module _ (a b c : NetView) (settings : Settings) (e : Exposure) (s : Setup) (p : Premise) (matches : InterfacesMatch a b) (chosen : IsChosen a b settings.expose e) (is : IsSetupOf a b s) (same : s.exposed ≡ e.names)
    (premise : IsPremiseOf (shared_by a b) c (length (shared_by a b) + length e.names) p) (none : s.exposed ≡ []) where
  abbrev met : IsMet a b c
  met = is_met a b c (length (shared_by a b) + length e.names) p matches premise

  abbrev listed : List (NamedPair ℕ ℕ)
  listed = named_pairs [] (circuit_of a) (circuit_of b)

  -- a circuit that is too large is refused
  circuit_too_large_from : settings.reset ≡ true → (side : Side) → FormedUnder s p settings.conflicts (Err (found_error.TooLarge side)) → ComparedUnder a b c settings (Err (refused.TooLarge side))
  circuit_too_large_from resets A large = (met, (matches, chosen.broken, in_reset _ settings.reset resets (left_too_large a b s is none large)))
  circuit_too_large_from resets B large = (met, (matches, chosen.broken, in_reset _ settings.reset resets (right_too_large a b s is none large.0 large.1)))

  -- and so is the assumption
  assumption_too_large_from : (sa : IsSound a) → settings.reset ≡ true → FormedUnder s p settings.conflicts (Err found_error.AssumptionTooLarge) → ComparedUnder a b c settings (Err (refused.Assume fault.TooLarge))
  assumption_too_large_from sa resets large = (
    matches,
    inr (
      met,
      chosen.broken,
      in_reset _ settings.reset resets (record {
        left_light = left_light a b s is none large.left_light;
        right_light = right_light a b s is none large.right_light;
        left = s.orders.left;
        right = s.orders.right;
        left_numbers = left_numbers a b s is none;
        right_numbers = right_numbers a b s is none;
        left_base = large.bases.left;
        right_base = large.bases.right;
        based = based a b s is none large.bases large.are_bases sa;
        over = subst (λ (w : ℕ). IsOverInCycles w (numbers_of a b s.orders.left s.orders.right large.bases.left large.bases.right) listed) premise.weight_is
            (of_circuits a b s is none large.bases.left large.bases.right (λ (n : Numbered) (pairs : List (NamedPair ℕ ℕ)). IsOverInCycles p.weight n pairs) large.over);
      }),
    ),
  )

  -- so each refusal is one of the circuits
  pub is_refused_from : (sa : IsSound a) → settings.reset ≡ true → (error : CompareUnderError) → FormedUnder s p settings.conflicts (Err error) → ComparedUnder a b c settings (Err (refusal_under error))
  is_refused_from sa resets (found_error.TooLarge side) large = circuit_too_large_from resets side large
  is_refused_from sa resets found_error.AssumptionTooLarge large = assumption_too_large_from sa resets large
  is_refused_from sa resets found_error.NoMemory large = tt

  -- what is found is the outcome of the comparison
  module _ (uncut : settings.expose ≡ false) (sa : IsSound a) (sb : IsSound b) (cb : IsComparable b) (name : List ℕ) (named : name ≡ premise.assumed.shape.output.name) (f : ResetFindings) (found : AreFoundUnder s p settings.conflicts f) where
    abbrev numbers : Numbered
    numbers = numbers_of a b s.orders.left s.orders.right found.bases.left found.bases.right

    fit : FindingsFitUnder (assumed_by premise.assumed) numbers (bit_of p.meeting) settings.conflicts listed f
    fit = of_circuits a b s is none found.bases.left found.bases.right (λ (n : Numbered) (pairs : List (NamedPair ℕ ℕ)). FindingsFitUnder (assumed_by premise.assumed) n (bit_of p.meeting) settings.conflicts pairs f)
        (found.fits c premise.assumed.order premise.assumed.shape.output.signal.0 (length c.drivers) (premised a b c settings e s p matches chosen is same premise))

    abbrev pub outcome_from : Outcome
    outcome_from = record {
      inputs = s.inputs;
      left_latches = length a.latches;
      right_latches = length b.latches;
      assumed = Some name;
      exposed = s.exposed;
      classes = 0;
      pairs = f.pairs;
      through = f.through;
      verdict = verdict_of f.verdict;
    }

    outcome_fits : ResetOutcomeFitsUnder (assumed_by premise.assumed) (bit_of p.meeting) a b settings.conflicts outcome_from
    outcome_fits = record {
      left = s.orders.left;
      right = s.orders.right;
      left_numbers = left_numbers a b s is none;
      right_numbers = right_numbers a b s is none;
      left_base = found.bases.left;
      right_base = found.bases.right;
      based = based a b s is none found.bases found.are_bases sa;
      reads = reads_inputs a b c premise.assumed s.orders.left s.orders.right (left_numbers a b s is none);
      inputs = is.inputs;
      left_latches = refl;
      right_latches = refl;
      exposed = none;
      classes = refl;
      pairs = fit.pairs_fit;
      through = fit.through;
      verdict_is = verdict_fits (assumed_by premise.assumed) numbers (bit_of p.meeting) listed f.pairs f.verdict fit.verdict_is;
    }

    nets : AreNets a b
    nets = record { left = sa; right = sb; right_distinct = cb.distinct }

    acyclic : IsAcyclic a × IsAcyclic b
    acyclic = unbroken a b settings.expose uncut chosen.broken

    pub outcome_is_compared_from_under : IsComparedFromResetUnder a b c settings outcome_from
    unfolding outcome_fits
    outcome_is_compared_from_under = record {
      left_sound = sa;
      right_sound = sb;
      met = met;
      assumed = ap Some named;
      left_acyclic = acyclic.0;
      right_acyclic = acyclic.1;
      fits = outcome_fits;
      left_light = left_light a b s is none found.left_light;
      right_light = right_light a b s is none found.right_light;
      light = subst (λ (w : ℕ). IsLightInCycles w numbers listed) premise.weight_is
          (of_circuits a b s is none found.bases.left found.bases.right (λ (n : Numbered) (pairs : List (NamedPair ℕ ℕ)). IsLightInCycles p.weight n pairs) found.light);
      equal = equal_resets_say_under (assumed_by premise.assumed) (bit_of p.meeting) a b settings.conflicts outcome_from outcome_fits nets;
      different = different_resets_show_under (assumed_by premise.assumed) (bit_of p.meeting) a b settings.conflicts outcome_from outcome_fits nets;
    }
