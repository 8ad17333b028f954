-- What an outcome of the comparison of two nets says of the texts that load as them.
use Rattle.std.specs.List.{Contains}
use Rattle.std.proofs.Common.{◌≡◌, ℕ, List, sym, ◌∙◌, subst, ap, Option, Some, slice_get}
use Rattle.circuit_theory.proofs.Lists.{of_at}
use Rattle.base_shelves.specs.Outside.{Takes}
use Rattle.sec_base.specs.declared.settings.Settings.{Settings}
use Rattle.witness_report.specs.declared.witness.Witness.{Witness}
use Rattle.flat_net.specs.View.{NetView, circuit_of}
use Rattle.pair_decide.specs.declared.query.Proof.{Proof}
use Rattle.obligations.specs.declared.outcome.verdict.PairResult.{PairResult}
use Rattle.obligations.specs.declared.outcome.verdict.LimitAt.{LimitAt}
use Rattle.obligations.specs.declared.outcome.verdict.LimitAt.TheVariants as limit_at
use Rattle.obligations.specs.declared.outcome.verdict.Outcome.{Outcome}
use Rattle.obligations.specs.declared.outcome.verdict.ResetWitness.{ResetWitness}
use Rattle.obligations.specs.declared.outcome.verdict.Verdict.{Verdict}
use Rattle.obligations.specs.declared.outcome.verdict.Verdict.TheVariants as verdict
use Rattle.obligations.specs.declared.outcome.verdict.Why.{Why}
use Rattle.obligations.specs.declared.outcome.verdict.Why.TheVariants as why
use Rattle.obligations.specs.outcome.Report.{report_text}
use Rattle.job_base.specs.Written.{outcome_proofs}
use Rattle.job_base.proofs.Limits.{pair_proofs}
use Rattle.sec_setup.specs.ports.Pairs.{NamedPair, named_pairs}
use Rattle.sec_setup.specs.Cuts.{columns_of, is_cut}
use Rattle.plain_check.specs.under_base.compare_base.Outcome.{PairFits, VerdictFits, IsFirstLimit}
use Rattle.plain_check.specs.under_base.compare_base.Compared.{IsCompared}
use Rattle.job_base.specs.sec_files.Loading.{Loads, circuit_of_text}
use Rattle.job_base.proofs.sec_files.Texts.{spelled_circuit}
use Rattle.job_base.proofs.design_laws.text_circuits.Circuits.{texts_agree_by, texts_agree_from, texts_differ_by, texts_minimal, texts_onward, texts_cuts_differ}
use Rattle.pair_texts.specs.check_texts.Texts.{TextsAgree, TextsDiffer, TextsNotShown, TextsUndecided}
use Rattle.swept_queries.proofs.Listed.{zip_left}
use Rattle.obligations.proofs.Fits.{different_fits, unshown_fits, limit_fits}
use Rattle.plain_check.proofs.under_base.compare_base.Fitted.{some_cut, no_names, some_names, were_exposed, kept_proof, next_among}

module _ (before now : Option (List ℕ)) (settings : Settings) (o : Outcome) (taken : Takes before now (report_text settings o)) (x y : List ℕ) (a b : NetView) (left : Loads x a) (right : Loads y b)
    (compared : IsCompared a b settings o) where
  pub texts_agree : o.verdict ≡ verdict.Equal → TextsAgree x y settings before now
  texts_agree e =
      let equal = compared.equal e in
      record {
        left_clock = a.clock;
        right_clock = b.clock;
        left = circuit_of_text x a.clock;
        right = circuit_of_text y b.clock;
        left_spelled = spelled_circuit x a left;
        right_spelled = spelled_circuit y b right;
        left_net = a;
        right_net = b;
        left_loads = left;
        right_loads = right;
        outcome = o;
        is_verdict = e;
        printed = taken;
        minimal = texts_minimal x y a b left right o.exposed compared.fits.exposed.minimal;
        says = record {
          agree = texts_agree_by x y a b left right equal.agree;
          onward = texts_onward x y a b left right o.exposed equal.onward;
          from = texts_agree_from x y a b left right o.through o.exposed equal.from;
        };
        nets_say = equal;
      }

  abbrev pairs : List (NamedPair ℕ ℕ)
  pairs = named_pairs o.exposed (circuit_of a) (circuit_of b)

  abbrev Fits : NamedPair ℕ ℕ → PairResult → Type 0
  Fits = PairFits (circuit_of compared.fits.left_cut) (circuit_of compared.fits.right_cut) compared.fits.left compared.fits.right (is_cut o.exposed) settings.conflicts

  abbrev IsVerdict : Verdict → Type 0
  IsVerdict v = VerdictFits (circuit_of compared.fits.left_cut) (circuit_of compared.fits.right_cut) compared.fits.left compared.fits.right (columns_of a b o.exposed) pairs o.pairs v

  -- the pair of a result
  pair_of : (i : ℕ) (r : PairResult) → slice_get o.pairs i ≡ Some r → (n : NamedPair ℕ ℕ) × (slice_get pairs i ≡ Some n) × Fits n r
  pair_of i r at = zip_left Fits pairs o.pairs compared.fits.pairs i r at

  -- no difference is one from initial values
  pub texts_always : (w : ResetWitness) → o.verdict ≡ verdict.DifferentFrom w → ⊥
  texts_always w e = subst IsVerdict e compared.fits.verdict_is

  pub texts_differ : (w : Witness) → o.verdict ≡ verdict.Different w → TextsDiffer x y settings before now
  texts_differ w e =
      let first = subst IsVerdict e compared.fits.verdict_is in
      let n = pair_of first.index first.result first.result_is in
      record {
        left_clock = a.clock;
        right_clock = b.clock;
        left = circuit_of_text x a.clock;
        right = circuit_of_text y b.clock;
        left_spelled = spelled_circuit x a left;
        right_spelled = spelled_circuit y b right;
        left_net = a;
        right_net = b;
        left_loads = left;
        right_loads = right;
        outcome = o;
        witness = w;
        is_verdict = e;
        uncut = no_names o.exposed (different_fits _ _ _ first.result.answer first.result.proof n.2.answer_is first.answered).0;
        printed = taken;
        says = texts_differ_by x y a b left right w (compared.different w e);
      }

  texts_not_shown_by : (w : Witness) → o.verdict ≡ verdict.NotShown (why.Cut w) → TextsNotShown x y settings before now
  texts_not_shown_by w e =
      let verdict_fits = subst IsVerdict e compared.fits.verdict_is in
      let first = verdict_fits.2 in
      let n = pair_of first.index first.result first.result_is in
      let exposed = some_names o.exposed (some_cut (is_cut o.exposed) (unshown_fits _ _ _ first.result.answer first.result.proof n.2.answer_is first.answered).0) in
      record {
        left_clock = a.clock;
        right_clock = b.clock;
        left = circuit_of_text x a.clock;
        right = circuit_of_text y b.clock;
        left_spelled = spelled_circuit x a left;
        right_spelled = spelled_circuit y b right;
        left_net = a;
        right_net = b;
        left_loads = left;
        right_loads = right;
        outcome = o;
        witness = w;
        is_verdict = e;
        printed = taken;
        exposes = were_exposed settings.expose o.exposed compared.fits.exposed.closed exposed;
        exposed = exposed;
        minimal = texts_minimal x y a b left right o.exposed compared.fits.exposed.minimal;
        columns = first.shown.names_are;
        next_exposed = λ name is. next_among o.exposed (circuit_of a) (circuit_of b) first.place (of_at pairs first.index first.place first.place_is) name (sym first.shown.named ∙ is);
        says = texts_cuts_differ x y a b left right o.exposed w (compared.not_shown w e);
        nets_minimal = compared.fits.exposed.minimal;
        nets_say = compared.not_shown w e;
      }

  -- over all power-ups no event class is reached
  pub texts_not_shown : (reason : Why) → o.verdict ≡ verdict.NotShown reason → TextsNotShown x y settings before now
  texts_not_shown (why.Cut w) e = texts_not_shown_by w e
  texts_not_shown (why.Events u) e = absurd (subst IsVerdict e compared.fits.verdict_is)

  pub texts_undecided : (proofs : List Proof) (at : LimitAt) → o.verdict ≡ verdict.Limit at → proofs ≡ outcome_proofs o → TextsUndecided x y settings proofs before now
  texts_undecided proofs at e kept =
      let first : IsFirstLimit o.pairs at = subst IsVerdict e compared.fits.verdict_is in
      let n = pair_of first.index first.result first.result_is in
      let given = limit_fits _ _ _ first.result.answer first.result.proof n.2.answer_is first.limit in
      let own = kept ∙ pair_proofs o first.result.name (e ∙ ap verdict.Limit first.at_is) in
      record {
        left_net = a;
        right_net = b;
        left_loads = left;
        right_loads = right;
        outcome = o;
        exposed = compared.fits.exposed;
        left_cut = compared.fits.left_cut;
        right_cut = compared.fits.right_cut;
        are_cut = compared.fits.are_cut;
        left = compared.fits.left;
        right = compared.fits.right;
        left_numbers = compared.fits.left_numbers;
        right_numbers = compared.fits.right_numbers;
        named = n.0;
        is_pair = of_at pairs first.index n.0 n.1;
        proof = given.0;
        kept = subst (λ (ps : List Proof). Contains ps given.0) (sym own) (kept_proof o.pairs first.result given.0 (of_at o.pairs first.index first.result first.result_is) given.1);
        undecided = given.2;
        is_verdict = e ∙ ap verdict.Limit (first.at_is ∙ ap limit_at.Pair n.2.name_is);
        printed = taken;
      }
