-- From what is found from the initial values to the answer of a comparison. No latch is cut open.
use Rattle.std.proofs.Common.{◌≡◌, ℕ, List, [], length, refl, Err, None}
use Rattle.circuit_theory.specs.declared.Side.{Side}
use Rattle.circuit_theory.specs.declared.Side.TheVariants.{A, B}
use Rattle.flat_net.specs.Comparable.{IsComparable}
use Rattle.flat_net.specs.Sound.{IsSound}
use Rattle.flat_net.specs.View.{NetView, circuit_of}
use Rattle.sec_base.specs.declared.settings.Settings.{Settings}
use Rattle.obligations.specs.declared.outcome.verdict.Outcome.{Outcome}
use Rattle.obligations.specs.declared.outcome.verdict.PairResult.{PairResult}
use Rattle.sec_setup.specs.declared.setup.Setup.{Setup}
use Rattle.sec_setup.specs.Cycles.{IsAcyclic}
use Rattle.sec_setup.specs.Matching.{InterfacesMatch}
use Rattle.sec_setup.specs.ports.Pairs.{NamedPair, named_pairs}
use Rattle.sec_setup.specs.Setup.{IsSetupOf}
use Rattle.reset_form.specs.declared.reset_asked.findings.ResetFindings.{ResetFindings}
use Rattle.plain_check.specs.under_base.compare_base.ResetError.TheVariants as reset_error
use Rattle.reset_form.specs.declared.reset_asked.findings.ResetVerdict.{ResetVerdict}
use Rattle.reset_form.specs.declared.reset_asked.findings.ResetVerdict.TheVariants as found_verdict
use Rattle.reset_form.specs.Formed.{AreFound, Formed}
use Rattle.reset_form.specs.outcome_fits.ResetOutcome.{Numbered}
use Rattle.reset_form.specs.Findings.{FindingsFit, VerdictFits}
use Rattle.plain_check.specs.under_base.compare_base.Compared.{IsComparedFromReset}
use Rattle.plain_check.specs.under_base.compare_base.FromReset.{AreTooLargeFromReset, numbered_by, ResetOutcomeFits, ResetVerdictFits}
use Rattle.plain_check.proofs.under_base.compare_base.UncutSetups.{left_light, right_light, left_too_large, right_too_large, of_circuits, based, left_numbers, right_numbers}
use Rattle.plain_check.specs.Verdicts.{verdict_of}
use Rattle.plain_check.proofs.ResetMeaning.{resets_agree, resets_differ}

-- the verdict of the form is that of the outcome
verdict_fits : (n : Numbered) (pairs : List (NamedPair ℕ ℕ)) (results : List PairResult) (v : ResetVerdict) → VerdictFits n pairs results v → ResetVerdictFits n pairs results (verdict_of v)
verdict_fits n pairs results found_verdict.Equal h = h
verdict_fits n pairs results (found_verdict.Different w) h = h
verdict_fits n pairs results (found_verdict.Limit name) h = h

module _ (a b : NetView) (s : Setup) (is : IsSetupOf a b s) (none : s.exposed ≡ []) where
  pub too_large_from : (conflicts : ℕ) (side : Side) → Formed s conflicts (Err (reset_error.TooLarge side)) → AreTooLargeFromReset a b side
  too_large_from conflicts A large = left_too_large a b s is none large
  too_large_from conflicts B large = right_too_large a b s is none large.0 large.1

  module _ (settings : Settings) (f : ResetFindings) (found : AreFound s settings.conflicts f) (sa : IsSound a) (sb : IsSound b) (cb : IsComparable b) (matches : InterfacesMatch a b)
      (acyclic : IsAcyclic a × IsAcyclic b) where
    abbrev numbers : Numbered
    numbers = numbered_by a b s.orders.left s.orders.right found.bases.left found.bases.right

    abbrev listed : List (NamedPair ℕ ℕ)
    listed = named_pairs [] (circuit_of a) (circuit_of b)

    fit : FindingsFit numbers settings.conflicts listed f
    fit = of_circuits a b s is none found.bases.left found.bases.right (λ (n : Numbered) (pairs : List (NamedPair ℕ ℕ)). FindingsFit n settings.conflicts pairs f) found.fits

    abbrev pub outcome : Outcome
    outcome = record {
      inputs = s.inputs;
      left_latches = length a.latches;
      right_latches = length b.latches;
      assumed = None;
      exposed = s.exposed;
      classes = 0;
      pairs = f.pairs;
      through = f.through;
      verdict = verdict_of f.verdict;
    }

    outcome_fits : ResetOutcomeFits a b settings.conflicts outcome
    outcome_fits = record {
      left = s.orders.left;
      right = s.orders.right;
      left_numbers = left_numbers a b s is none;
      right_numbers = right_numbers a b s is none;
      left_base = found.bases.left;
      right_base = found.bases.right;
      based = based a b s is none found.bases found.are_bases sa;
      inputs = is.inputs;
      left_latches = refl;
      right_latches = refl;
      assumed = refl;
      exposed = none;
      classes = refl;
      pairs = fit.pairs_fit;
      through = fit.through;
      verdict_is = verdict_fits numbers listed f.pairs f.verdict fit.verdict_is;
    }

    pub outcome_is_compared_from : IsComparedFromReset a b settings outcome
    unfolding outcome_fits
    outcome_is_compared_from = record {
      left_sound = sa;
      right_sound = sb;
      matches = matches;
      left_acyclic = acyclic.0;
      right_acyclic = acyclic.1;
      fits = outcome_fits;
      left_light = left_light a b s is none found.left_light;
      right_light = right_light a b s is none found.right_light;
      equal = resets_agree a b settings.conflicts outcome outcome_fits sa sb cb.distinct;
      different = resets_differ a b settings.conflicts outcome outcome_fits sa sb cb.distinct;
    }
