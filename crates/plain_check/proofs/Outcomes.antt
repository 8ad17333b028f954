-- From what is found of the cut nets to the answer of a comparison.
use Rattle.std.proofs.Common.{false, ◌≡◌, ℕ, List, length, refl, subst, Err, None}
use Rattle.circuit_theory.specs.declared.Side.{Side}
use Rattle.circuit_theory.specs.declared.Side.TheVariants.{A, B}
use Rattle.circuit_theory.specs.Interface.{AreNumbersOf}
use Rattle.flat_net.specs.Comparable.{IsComparable}
use Rattle.flat_net.specs.Sound.{IsSound}
use Rattle.flat_net.specs.View.{NetView, circuit_of, ports_of}
use Rattle.sec_setup.specs.declared.cut_points.exposed.Exposure.{Exposure}
use Rattle.sec_base.specs.declared.settings.Settings.{Settings}
use Rattle.obligations.specs.declared.outcome.verdict.Outcome.{Outcome}
use Rattle.sec_setup.specs.declared.setup.Setup.{Setup}
use Rattle.sec_setup.specs.Choosing.{IsChosen}
use Rattle.sec_setup.specs.Cuts.{columns_of, is_cut}
use Rattle.sec_setup.specs.Matching.{InterfacesMatch}
use Rattle.sec_setup.specs.ports.Pairs.{NamedPair, named_pairs}
use Rattle.sec_setup.specs.Setup.{IsSetupOf}
use Rattle.plain_asked.specs.declared.findings.Findings.{Findings}
use Rattle.plain_asked.specs.declared.error.PlainError.TheVariants as plain_error
use Rattle.plain_asked.specs.Formed.{AreFound, Formed}
use Rattle.plain_asked.specs.Findings.{FindingsFit}
use Rattle.plain_check.specs.declared.under_base.compare_base.error.CompareError.TheVariants as refused
use Rattle.plain_check.specs.under_base.compare_base.Compared.{IsCompared, Compared}
use Rattle.reset_form.specs.outcome_fits.Fitting.{OutcomeFits}
use Rattle.plain_check.proofs.under_base.compare_base.CutSetups.{choice, left_too_large, right_too_large}
use Rattle.plain_check.proofs.under_base.compare_base.Meaning.{they_are_equal, makes_differ, makes_cuts_differ}

-- a net that is too large is refused
pub too_large : (a b : NetView) (settings : Settings) (e : Exposure) (s : Setup) → InterfacesMatch a b → IsChosen a b settings.expose e → IsSetupOf a b s → s.exposed ≡ e.names → settings.reset ≡ false →
    (side : Side) → Formed s settings.conflicts (Err (plain_error.TooLarge side)) → Compared a b settings (Err (refused.TooLarge side))
too_large a b settings e s matches chosen is same always A large = left_too_large a b settings e s matches chosen is same always large
too_large a b settings e s matches chosen is same always B large = right_too_large a b settings e s matches chosen is same always large.0 large.1

-- what is found of the cut nets is the outcome of the comparison
module _ (a b : NetView) (settings : Settings) (e : Exposure) (s : Setup) (sa : IsSound a) (sb : IsSound b) (ca : IsComparable a) (cb : IsComparable b) (matches : InterfacesMatch a b) (chosen : IsChosen a b settings.expose e)
    (is : IsSetupOf a b s) (same : s.exposed ≡ e.names) (f : Findings) (found : AreFound s settings.conflicts f) where
  fit : FindingsFit (circuit_of s.left.now) (circuit_of s.right.now) s.orders.left s.orders.right (columns_of a b s.exposed) (is_cut s.exposed) settings.conflicts (named_pairs s.exposed (circuit_of a) (circuit_of b)) f
  fit =
      subst (λ (cs : List (List ℕ)). FindingsFit (circuit_of s.left.now) (circuit_of s.right.now) s.orders.left s.orders.right cs (is_cut s.exposed) settings.conflicts (named_pairs s.exposed (circuit_of a) (circuit_of b)) f) is.columns
      (subst (λ (ps : List (NamedPair ℕ ℕ)). FindingsFit (circuit_of s.left.now) (circuit_of s.right.now) s.orders.left s.orders.right s.columns (is_cut s.exposed) settings.conflicts ps f) is.pairs found.fits)

  abbrev outcome : Outcome
  outcome = record {
    inputs = s.inputs;
    left_latches = length a.latches;
    right_latches = length b.latches;
    assumed = None;
    exposed = s.exposed;
    classes = 0;
    pairs = f.pairs;
    through = f.through;
    verdict = f.verdict;
  }

  outcome_fits : OutcomeFits a b settings.expose settings.conflicts outcome
  outcome_fits = record {
    left_cut = s.left.now;
    right_cut = s.right.now;
    exposed = choice a b settings e s matches chosen is same;
    are_cut = is.are_cut;
    left = s.orders.left;
    right = s.orders.right;
    left_numbers = subst (λ (cs : List (List ℕ)). AreNumbersOf (ports_of s.left.now).inputs cs s.orders.left s.orders.right) is.columns is.is.left_columns.numbers;
    right_numbers = subst (λ (cs : List (List ℕ)). AreNumbersOf (ports_of s.right.now).inputs cs s.orders.right s.orders.left) is.columns is.is.right_columns.numbers;
    inputs = is.inputs;
    left_latches = refl;
    right_latches = refl;
    assumed = refl;
    classes = refl;
    pairs = fit.pairs_fit;
    through = fit.through;
    verdict_is = fit.verdict_is;
  }

  pub outcome_is_compared : IsCompared a b settings outcome
  unfolding outcome_fits
  outcome_is_compared = record {
    left_sound = sa;
    right_sound = sb;
    matches = matches;
    fits = outcome_fits;
    left_light = found.left_light;
    right_light = found.right_light;
    equal = they_are_equal a b settings.expose settings.conflicts outcome outcome_fits sa sb ca.distinct cb.distinct;
    different = makes_differ a b settings.expose settings.conflicts outcome outcome_fits sa sb ca.distinct cb.distinct;
    not_shown = makes_cuts_differ a b settings.expose settings.conflicts outcome outcome_fits sa sb ca.distinct cb.distinct;
  }
