-- Where no latch may be cut open, a pair that differs is told to be different.
use Rattle.std.proofs.Common.{◌≡◌, ℕ, true, false, List, [], refl, sym, ◌∙◌, ap}
use Rattle.std.proofs.lemmas.Option.{same_Some}
use Rattle.circuit_theory.specs.Circuit.{Circuit}
use Rattle.circuit_theory.proofs.Lists.{zip_right}
use Rattle.flat_net.specs.View.{NetView, circuit_of}
use Rattle.sec_base.specs.declared.basics.PairAnswer.TheVariants as answer
use Rattle.sec_base.specs.declared.settings.Settings.{Settings}
use Rattle.obligations.specs.declared.outcome.verdict.Outcome.{Outcome}
use Rattle.obligations.specs.declared.outcome.verdict.PairResult.{PairResult}
use Rattle.obligations.specs.declared.outcome.verdict.Verdict.{Verdict}
use Rattle.obligations.specs.declared.outcome.verdict.Verdict.TheVariants as verdict
use Rattle.obligations.specs.declared.outcome.verdict.Why.TheVariants as why
use Rattle.witness_report.specs.declared.witness.Witness.{Witness}
use Rattle.outcome_fits.specs.Cuts.{columns_of, is_cut}
use Rattle.outcome_fits.specs.Pairs.{NamedPair, named_pairs}
use Rattle.assume_queries.specs.assume_sequences.assume_taken.Taken.{assumed_by}
use Rattle.obligations.proofs.Fits.{unshown_fits}
use Rattle.outcome_fits.proofs.plain_meaning.Fitted.{some_cut}
use Rattle.plain_check.specs.under_base.under_fits.Pairs.{PairFitsUnder}
use Rattle.plain_check.specs.under_base.under_fits.Verdict.{IsFirstOfAnswerUnder, VerdictFitsUnder}
use Rattle.plain_check.specs.under_base.Compared.{IsComparedUnder}
use Rattle.plain_check.specs.under_base.Laws.{SaysUncut, VerdictsUnder}

never_cut : (names : List (List ℕ)) → names ≡ [] → is_cut names ≡ true → ⊥
never_cut names none e = wrong (sym (ap is_cut none) ∙ e)
  where
    wrong : false ≡ true → ⊥
    wrong q = cc

module _ (a b c : NetView) (settings : Settings) (o : Outcome) (is : IsComparedUnder a b c settings o) (closed : settings.expose ≡ false) where
  abbrev left : Circuit ℕ
  left = circuit_of is.fits.left_cut

  abbrev right : Circuit ℕ
  right = circuit_of is.fits.right_cut

  abbrev listed : List (NamedPair ℕ ℕ)
  listed = named_pairs o.exposed (circuit_of a) (circuit_of b)

  abbrev Fits : NamedPair ℕ ℕ → PairResult → Type 0
  Fits = PairFitsUnder (assumed_by is.met.assumed) left right is.fits.left is.fits.right (is_cut o.exposed) settings.conflicts

  shown : (w : Witness) → IsFirstOfAnswerUnder (assumed_by is.met.assumed) left right is.fits.left is.fits.right (columns_of a b o.exposed) is.met.row answer.NotShown listed o.pairs w → ⊥
  shown w f =
      let r = zip_right Fits listed o.pairs is.fits.pairs f.index f.place f.place_is in
      let same : r.0 ≡ f.result = same_Some r.0 f.result (sym r.1 ∙ f.result_is) in
      never_cut o.exposed (is.fits.exposed.closed closed)
      (some_cut (is_cut o.exposed) (unshown_fits _ _ _ r.0.answer r.0.proof r.2.answer_is (ap (λ (x : PairResult). x.answer) same ∙ f.answered)).0)

  says : (v : Verdict) → o.verdict ≡ v → VerdictFitsUnder (assumed_by is.met.assumed) left right is.fits.left is.fits.right (columns_of a b o.exposed) is.met.row listed o.pairs v →
      SaysUncut (assumed_by is.met.assumed) (circuit_of a) (circuit_of b) v
  says verdict.Equal e h = (is.equal e).agree
  says (verdict.Different w) e h = is.different w e
  says (verdict.DifferentFrom w) e h = h
  says (verdict.NotShown (why.Cut w)) e h = shown w h.2
  says (verdict.NotShown (why.Events u)) e h = h
  says (verdict.Limit at) e h = tt

pub verdicts_under : VerdictsUnder
verdicts_under a b c settings o is closed = says a b c settings o is closed o.verdict refl is.fits.verdict_is
