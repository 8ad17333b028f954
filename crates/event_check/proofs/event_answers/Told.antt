-- The outcome by what is found, as it is told.
use Rattle.std.proofs.Common.{◌≡◌, ◌∙◌, ℕ, true, false, List, [], length, Option, ap, subst, inl, inr}
use Rattle.std.specs.Prelude.{◌⊎◌}
use Rattle.circuit_theory.specs.Interface.{shared_inputs}
use Rattle.flat_net.specs.View.{NetView, ports_of}
use Rattle.obligations.specs.declared.outcome.verdict.LimitAt.{LimitAt}
use Rattle.obligations.specs.declared.outcome.verdict.Outcome.{Outcome}
use Rattle.obligations.specs.declared.outcome.verdict.Verdict.{Verdict}
use Rattle.obligations.specs.declared.outcome.verdict.Verdict.TheVariants as verdict
use Rattle.sec_base.specs.declared.settings.Settings.{Settings}
use Rattle.sec_setup.specs.Cuts.{columns_of}
use Rattle.event_setup.specs.event_meaning.event_names.event_fits.Named.{latch_names, NamesVerdict}
use Rattle.obligations.specs.outcome.Report.{knows_pairs}
use Rattle.event_comparison.specs.EventFindings.{EventFindings}
use Rattle.event_setup.specs.event_meaning.event_names.event_fits.EventVerdict.{EventVerdict}
use Rattle.event_setup.specs.event_meaning.event_names.event_fits.EventVerdict.TheVariants as event_verdict
use Rattle.event_setup.specs.event_meaning.event_names.event_fits.Fitting.{IsUnclassed, IsUnrecovered}
use Rattle.event_check.specs.event_answers.Reached.{AreClassed}
use Rattle.event_check.specs.declared.event_answers.reaching.Classed.{Classed}
use Rattle.event_check.specs.declared.event_answers.outcomes.Found.{Found}
use Rattle.event_check.specs.declared.event_answers.outcomes.Settled.{Settled}

-- the outcome of these nets, with so many shared inputs, under the assumption of this name, and with these latches exposed
abbrev pub outcome_with : NetView → NetView → ℕ → Option (List ℕ) → List (List ℕ) → Found → Outcome
outcome_with a b inputs assumed exposed f = record {
  inputs = inputs;
  left_latches = length a.latches;
  right_latches = length b.latches;
  assumed = assumed;
  exposed = exposed;
  classes = f.classes;
  pairs = f.pairs;
  through = 0;
  verdict = f.verdict;
}

abbrev pub outcome_by : NetView → NetView → Option (List ℕ) → List (List ℕ) → Found → Outcome
outcome_by a b assumed exposed f = outcome_with a b (length (shared_inputs (ports_of a) (ports_of b))) assumed exposed f

-- no pair is asked about, since the limit was met there
abbrev pub limit_at : LimitAt → Found
limit_at at = record { classes = 0; pairs = []; verdict = verdict.Limit at; cares = [] }

-- with what is found of the cares
abbrev pub settled_by : NetView → NetView → Option (List ℕ) → List (List ℕ) → Found → Settled
settled_by a b assumed exposed f = record { outcome = outcome_by a b assumed exposed f; cares = f.cares }

pub told_settled : (a b : NetView) (inputs : ℕ) (assumed : Option (List ℕ)) (exposed : List (List ℕ)) (f g : Found) (s : Settled) → s ≡ record { outcome = outcome_with a b inputs assumed exposed f; cares = f.cares } →
    inputs ≡ length (shared_inputs (ports_of a) (ports_of b)) → f ≡ g → s ≡ settled_by a b assumed exposed g
told_settled a b inputs assumed exposed f g s is many same =
    is ∙ (ap (λ k. record { outcome = outcome_with a b k assumed exposed f; cares = f.cares }) many ∙ ap (settled_by a b assumed exposed) same)

-- the verdict of what is found, by the names that both circuits have
pub named : (a b : NetView) (settings : Settings) (x : Classed) → AreClassed a b settings x → (found : EventFindings) (told : Verdict) → NamesVerdict x.names.left x.names.right x.names.columns found.verdict told →
    NamesVerdict (latch_names x.separated.events.left.net) (latch_names x.separated.events.right.net) (columns_of a b x.exposed) found.verdict told
named a b settings x is found told h =
    subst (λ (cs : List (List ℕ)). NamesVerdict (latch_names x.separated.events.left.net) (latch_names x.separated.events.right.net) cs found.verdict told) is.columns
    (subst (λ (ls : List (List ℕ)). NamesVerdict ls (latch_names x.separated.events.right.net) x.names.columns found.verdict told) is.askable.left_latches
    (subst (λ (rs : List (List ℕ)). NamesVerdict x.names.left rs x.names.columns found.verdict told) is.askable.right_latches h))

-- where pairs are asked about, the verdict tells that they are
pub known_pairs : (left right columns : List (List ℕ)) (found : EventVerdict) (told : Verdict) → NamesVerdict left right columns found told → knows_pairs told ≡ true
known_pairs left right columns event_verdict.Equal told h = ap knows_pairs h
known_pairs left right columns (event_verdict.Different w) told h = ap knows_pairs h
known_pairs left right columns (event_verdict.Limit name) told h = ap knows_pairs h
known_pairs left right columns (event_verdict.Cut w) told h = ap knows_pairs h
known_pairs left right columns (event_verdict.Events x) told h = ap knows_pairs h.1

-- and at a limit before them that they aren't
pub unknown_pairs : (a b : NetView) (settings : Settings) (o : Outcome) → IsUnrecovered a b settings.conflicts o ⊎ IsUnclassed a b settings.expose settings.conflicts o → knows_pairs o.verdict ≡ false
unknown_pairs a b settings o (inl k) = ap knows_pairs k.verdict_is
unknown_pairs a b settings o (inr k) = ap knows_pairs k.verdict_is
