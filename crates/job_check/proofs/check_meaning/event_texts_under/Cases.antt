-- What an outcome that fits under an assumption is by its verdict.
use Rattle.std.proofs.Common.{◌≡◌, ◌∙◌, ℕ, Bool, false, slice_get, Some, sym, ap, inl, inr}
use Rattle.std.specs.Prelude.{◌⊎◌}
use Rattle.circuit_theory.proofs.Lists.{zip_right}
use Rattle.flat_net.specs.View.{NetView}
use Rattle.sec_base.specs.declared.basics.PairAnswer.TheVariants as answer
use Rattle.sec_setup.specs.declared.ports.pairs.SignalPair.{SignalPair}
use Rattle.sec_setup.specs.Cuts.{is_cut}
use Rattle.obligations.specs.declared.outcome.verdict.LimitAt.{LimitAt}
use Rattle.obligations.specs.declared.outcome.verdict.LimitAt.TheVariants as limit_at
use Rattle.obligations.specs.declared.outcome.verdict.Outcome.{Outcome}
use Rattle.obligations.specs.declared.outcome.verdict.PairResult.{PairResult}
use Rattle.obligations.specs.declared.outcome.verdict.Verdict.TheVariants as verdict
use Rattle.edbf_unfold.specs.class_queries.Enables.{both_of}
use Rattle.assume_laws.specs.Assume.{Assumption}
use Rattle.obligations.proofs.Fits.{different_fits}
use Rattle.event_under.specs.Answers.{PairFitsUnder}
use Rattle.event_setup.specs.event_meaning.Findings.{IsFirstWith}
use Rattle.event_setup.specs.event_meaning.event_names.event_fits.Fitting.{class_limit, IsUnrecovered, IsUnclassed}
use Rattle.event_setup.specs.event_meaning.event_names.event_fits.Named.{latch_names}
use Rattle.event_setup.specs.event_meaning.event_meaning_under.Fitted.{EventOutcomeFitsUnder, IsComparedByPairsUnder}

same_some : {X : Type 0} {x y : X} → Some x ≡ Some y → x ≡ y
same_some q = cc

module _ (c : Assumption) (weight : ℕ) (meeting : ℕ → Bool) (a b : NetView) (expose : Bool) (conflicts : ℕ) (o : Outcome) where
  abbrev Compared : Type 0
  Compared = IsComparedByPairsUnder c weight meeting a b expose conflicts o

  -- the pairs are compared where the verdict is no limit
  pub compared : EventOutcomeFitsUnder c weight meeting a b expose conflicts o → ((at : LimitAt) → o.verdict ≡ verdict.Limit at → ⊥) → Compared
  compared fits never = go fits.rest
    where
      go : IsUnrecovered a b conflicts o ⊎ (IsUnclassed a b expose conflicts o ⊎ Compared) → Compared
      go (inl k) = absurd (never (limit_at.Recover k.side k.name k.proof) k.verdict_is)
      go (inr (inl k)) = absurd (never (class_limit (latch_names k.left.net) (latch_names k.right.net) k.latch k.other k.proof) k.verdict_is)
      go (inr (inr k)) = k

  -- no latch is cut open where a pair is different
  module _ (is : Compared) (index : ℕ) (place : SignalPair) (first : IsFirstWith answer.Different is.compared.pairs.now is.found.pairs index place) where
    abbrev PairIs : SignalPair → PairResult → Type 0
    PairIs = PairFitsUnder c (both_of is.left is.right) is.compared.cut conflicts

    result : (r : PairResult) × (slice_get is.found.pairs index ≡ Some r) × PairIs place r
    result = zip_right PairIs is.compared.pairs.now is.found.pairs is.fits.pairs_fit index place first.pair_at

    pub uncut : is_cut o.exposed ≡ false
    uncut =
        sym is.cut
        ∙ (different_fits _ _ _ result.0.answer result.0.proof result.2.answer_is (ap (λ (x : PairResult). x.answer) (same_some (sym result.1 ∙ first.result_at)) ∙ first.answered)).0.0
