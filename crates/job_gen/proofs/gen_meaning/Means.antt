-- What a written finding means for the pair of a number.
use Rattle.std.specs.List.{Contains}
use Rattle.std.proofs.Common.{◌≡◌, ℕ, true, false, List, [], refl, sym, ◌∙◌, subst, ap, Option, Some, Result, Ok, Err, slice_get}
use Rattle.circuit_theory.proofs.Lists.{of_at}
use Rattle.base_shelves.specs.Outside.{Takes}
use Rattle.witness_report.specs.declared.witness.Witness.{Witness}
use Rattle.flat_net.specs.View.{circuit_of}
use Rattle.pair_decide.specs.declared.query.Proof.{Proof}
use Rattle.obligations.specs.declared.outcome.verdict.PairResult.{PairResult}
use Rattle.obligations.specs.declared.outcome.verdict.LimitAt.{LimitAt}
use Rattle.obligations.specs.declared.outcome.verdict.LimitAt.TheVariants as limit_at
use Rattle.obligations.specs.declared.outcome.verdict.Outcome.{Outcome}
use Rattle.obligations.specs.declared.outcome.verdict.ResetWitness.{ResetWitness}
use Rattle.obligations.specs.declared.outcome.verdict.Verdict.{Verdict}
use Rattle.obligations.specs.declared.outcome.verdict.Verdict.TheVariants as verdict
use Rattle.obligations.specs.declared.outcome.verdict.Why.{Why}
use Rattle.obligations.specs.declared.outcome.verdict.Why.TheVariants as why
use Rattle.sec_setup.specs.ports.Pairs.{NamedPair, named_pairs}
use Rattle.sec_setup.specs.Cuts.{columns_of, is_cut}
use Rattle.outcome_fits.specs.Outcome.{PairFits, VerdictFits, IsFirstLimit}
use Rattle.job_base.specs.declared.finding.Finding.{Finding}
use Rattle.job_base.specs.Ends.{EndsBy}
use Rattle.job_base.specs.declared.finding.Finding.TheVariants as finding
use Rattle.job_base.specs.declared.finding.Stop.{Stop}
use Rattle.job_base.specs.declared.finding.Stop.TheVariants as stop
use Rattle.job_base.specs.declared.status.StatusName.{StatusName}
use Rattle.job_base.specs.declared.status.StatusName.TheVariants as status
use Rattle.job_base.specs.Written.{generated_status, outcome_proofs, status_of, IsWrittenAs}
use Rattle.job_base.proofs.Limits.{pair_proofs}
use Rattle.job_gen.specs.declared.gen_meaning.generation.Generation.{Generation}
use Rattle.job_gen.specs.gen_meaning.Found.{IsOutcomeOf, IsGenFound, GenFound}
use Rattle.job_gen.specs.gen_meaning.Answer.{TakesReport, TwinsAgree, TwinsDiffer, TwinsUndecided, GenMeans, IsGenAnswer}
use Rattle.job_gen.specs.gen_meaning.Report.{gen_text}
use Rattle.swept_queries.proofs.Listed.{zip_left}
use Rattle.obligations.proofs.Fits.{unshown_fits, limit_fits}
use Rattle.outcome_fits.proofs.plain_meaning.Fitted.{some_cut, kept_proof}

equal_verdict : (v : Verdict) → generated_status v ≡ status.Done → v ≡ verdict.Equal
equal_verdict verdict.Equal e = refl
equal_verdict (verdict.Different w) e = absurd (cc)
equal_verdict (verdict.DifferentFrom w) e = absurd (cc)
equal_verdict (verdict.NotShown reason) e = absurd (cc)
equal_verdict (verdict.Limit at) e = absurd (cc)

-- no comparison of a pair is made from initial values
different_verdict : (v : Verdict) → ((w : ResetWitness) → v ≡ verdict.DifferentFrom w → ⊥) → generated_status v ≡ status.Different → (w : Witness) × (v ≡ verdict.Different w)
different_verdict verdict.Equal always e = absurd (cc)
different_verdict (verdict.Different w) always e = (w, refl)
different_verdict (verdict.DifferentFrom w) always e = absurd (always w refl)
different_verdict (verdict.NotShown reason) always e = absurd (cc)
different_verdict (verdict.Limit at) always e = absurd (cc)

not_shown_verdict : (v : Verdict) → generated_status v ≡ status.NotShown → (reason : Why) × (v ≡ verdict.NotShown reason)
not_shown_verdict verdict.Equal e = absurd (cc)
not_shown_verdict (verdict.Different w) e = absurd (cc)
not_shown_verdict (verdict.DifferentFrom w) e = absurd (cc)
not_shown_verdict (verdict.NotShown reason) e = (reason, refl)
not_shown_verdict (verdict.Limit at) e = absurd (cc)

limit_verdict : (v : Verdict) → generated_status v ≡ status.Limit → (at : LimitAt) × (v ≡ verdict.Limit at)
limit_verdict verdict.Equal e = absurd (cc)
limit_verdict (verdict.Different w) e = absurd (cc)
limit_verdict (verdict.DifferentFrom w) e = absurd (cc)
limit_verdict (verdict.NotShown reason) e = absurd (cc)
limit_verdict (verdict.Limit at) e = (at, refl)

-- no other status is that of a verdict
no_equal : (v : Verdict) → generated_status v ≡ status.Equal → ⊥
no_equal verdict.Equal e = cc
no_equal (verdict.Different w) e = cc
no_equal (verdict.DifferentFrom w) e = cc
no_equal (verdict.NotShown reason) e = cc
no_equal (verdict.Limit at) e = cc

no_refused : (v : Verdict) → generated_status v ≡ status.Refused → ⊥
no_refused verdict.Equal e = cc
no_refused (verdict.Different w) e = cc
no_refused (verdict.DifferentFrom w) e = cc
no_refused (verdict.NotShown reason) e = cc
no_refused (verdict.Limit at) e = cc

no_words : (v : Verdict) → generated_status v ≡ status.Words → ⊥
no_words verdict.Equal e = cc
no_words (verdict.Different w) e = cc
no_words (verdict.DifferentFrom w) e = cc
no_words (verdict.NotShown reason) e = cc
no_words (verdict.Limit at) e = cc

no_cyclic : (v : Verdict) → generated_status v ≡ status.Cyclic → ⊥
no_cyclic verdict.Equal e = cc
no_cyclic (verdict.Different w) e = cc
no_cyclic (verdict.DifferentFrom w) e = cc
no_cyclic (verdict.NotShown reason) e = cc
no_cyclic (verdict.Limit at) e = cc

module _ (g : Generation) (o : Outcome) (report : List ℕ) (is : IsOutcomeOf g o report) where
  -- no latch is cut open
  uncut : o.exposed ≡ []
  uncut = is.compared.fits.exposed.closed refl

  abbrev pairs : List (NamedPair ℕ ℕ)
  pairs = named_pairs o.exposed (circuit_of is.left) (circuit_of is.right)

  abbrev Fits : NamedPair ℕ ℕ → PairResult → Type 0
  Fits = PairFits (circuit_of is.compared.fits.left_cut) (circuit_of is.compared.fits.right_cut) is.compared.fits.left is.compared.fits.right (is_cut o.exposed) g.conflicts

  abbrev IsVerdict : Verdict → Type 0
  IsVerdict v = VerdictFits (circuit_of is.compared.fits.left_cut) (circuit_of is.compared.fits.right_cut) is.compared.fits.left is.compared.fits.right (columns_of is.left is.right o.exposed) pairs o.pairs v

  pair_of : (i : ℕ) (r : PairResult) → slice_get o.pairs i ≡ Some r → (n : NamedPair ℕ ℕ) × (slice_get pairs i ≡ Some n) × Fits n r
  pair_of i r at = zip_left Fits pairs o.pairs is.compared.fits.pairs i r at

  takes : (before now : Option (List ℕ)) (v : Verdict) → Takes before now report → o.verdict ≡ v → TakesReport g before now v is.left is.right
  takes before now v taken e = record {
    twins = is.twins;
    left_sound = is.compared.left_sound;
    right_sound = is.compared.right_sound;
    printed = subst (Takes before now) (is.is_report ∙ ap (gen_text g is.left is.right) e) taken;
  }

  agree : (before now : Option (List ℕ)) → Takes before now report → o.verdict ≡ verdict.Equal → TwinsAgree g before now
  agree before now taken e = record {
    left = is.left;
    right = is.right;
    outcome = o;
    uncut = uncut;
    takes = takes before now verdict.Equal taken e;
    says = is.compared.equal e;
  }

  differ : (before now : Option (List ℕ)) → Takes before now report → (w : Witness) → o.verdict ≡ verdict.Different w → TwinsDiffer g before now
  differ before now taken w e = record {
    left = is.left;
    right = is.right;
    witness = w;
    takes = takes before now (verdict.Different w) taken e;
    says = is.compared.different w e;
  }

  undecided : (before now : Option (List ℕ)) → Takes before now report → (proofs : List Proof) → proofs ≡ outcome_proofs o → (at : LimitAt) → o.verdict ≡ verdict.Limit at →
      TwinsUndecided g proofs before now
  undecided before now taken proofs kept at e =
      let first : IsFirstLimit o.pairs at = subst IsVerdict e is.compared.fits.verdict_is in
      let n = pair_of first.index first.result first.result_is in
      let given = limit_fits _ _ _ first.result.answer first.result.proof n.2.answer_is first.limit in
      let own = kept ∙ pair_proofs o first.result.name (e ∙ ap verdict.Limit first.at_is) in
      record {
        left = is.left;
        right = is.right;
        outcome = o;
        uncut = uncut;
        left_cut = is.compared.fits.left_cut;
        right_cut = is.compared.fits.right_cut;
        are_cut = is.compared.fits.are_cut;
        left_order = is.compared.fits.left;
        right_order = is.compared.fits.right;
        left_numbers = is.compared.fits.left_numbers;
        right_numbers = is.compared.fits.right_numbers;
        named = n.0;
        is_pair = of_at pairs first.index n.0 n.1;
        proof = given.0;
        kept = subst (λ (ps : List Proof). Contains ps given.0) (sym own) (kept_proof o.pairs first.result given.0 (of_at o.pairs first.index first.result first.result_is) given.1);
        undecided = given.2;
        takes = takes before now (verdict.Limit (limit_at.Pair n.0.name)) taken (e ∙ ap verdict.Limit (first.at_is ∙ ap limit_at.Pair n.2.name_is));
      }

  -- no difference is one from initial values
  always : (w : ResetWitness) → o.verdict ≡ verdict.DifferentFrom w → ⊥
  always w e = subst IsVerdict e is.compared.fits.verdict_is

  -- a difference is always shown
  shown : (reason : Why) → o.verdict ≡ verdict.NotShown reason → ⊥
  shown (why.Events u) e = subst IsVerdict e is.compared.fits.verdict_is
  shown (why.Cut w) e =
      let verdict_fits = subst IsVerdict e is.compared.fits.verdict_is in
      let first = verdict_fits.2 in
      let n = pair_of first.index first.result first.result_is in
      let cut : is_cut o.exposed ≡ true = some_cut (is_cut o.exposed) (unshown_fits _ _ _ first.result.answer first.result.proof n.2.answer_is first.answered).0 in
      let closed : is_cut o.exposed ≡ false = ap is_cut uncut in
      cc

  means : (before now : Option (List ℕ)) (proofs : List Proof) (name : StatusName) → IsWrittenAs before now (finding.Generated o report) proofs name → GenMeans g before now proofs name
  means before now proofs status.Equal w = no_equal o.verdict w.1
  means before now proofs status.Different w = let v = different_verdict o.verdict always w.1 in differ before now w.2 v.0 v.1
  means before now proofs status.NotShown w = let v = not_shown_verdict o.verdict w.1 in shown v.0 v.1
  means before now proofs status.Limit w = let v = limit_verdict o.verdict w.1 in undecided before now w.2 proofs w.0 v.0 v.1
  means before now proofs status.Refused w = no_refused o.verdict w.1
  means before now proofs status.Words w = no_words o.verdict w.1
  means before now proofs status.ReadFault w = tt
  means before now proofs status.WriteFault w = tt
  means before now proofs status.NoMemory w = tt
  means before now proofs status.Cyclic w = no_cyclic o.verdict w.1
  means before now proofs status.Done w = agree before now w.2 (equal_verdict o.verdict w.1)

  answered : (v : Verdict) → o.verdict ≡ v → IsGenAnswer (generated_status v)
  answered verdict.Equal e = tt
  answered (verdict.Different w) e = tt
  answered (verdict.DifferentFrom w) e = tt
  answered (verdict.NotShown reason) e = shown reason e
  answered (verdict.Limit at) e = tt

-- what a written finding means
pub gen_means : (g : Generation) (before now : Option (List ℕ)) (f : Finding) (proofs : List Proof) (name : StatusName) → IsGenFound g f → IsWrittenAs before now f proofs name → GenMeans g before now proofs name
gen_means g before now finding.Words proofs name h w = absurd h
gen_means g before now (finding.Refused r) proofs name h w = absurd h
gen_means g before now (finding.Cyclic side names) proofs name h w = absurd h
gen_means g before now (finding.Unpaired side names) proofs name h w = absurd h
gen_means g before now (finding.Checked o s) proofs name h w = absurd h
gen_means g before now (finding.Done report) proofs name h w = absurd h
gen_means g before now (finding.Generated o report) proofs name h w = means g o report h before now proofs name w
gen_means g before now (finding.Replayed differences) proofs name h w = absurd h
gen_means g before now (finding.Unrefuted u) proofs name h w = absurd h
gen_means g before now (finding.Judged j kept text) proofs name h w = absurd h
gen_means g before now (finding.Undecided side name' proof) proofs name h w = absurd h

-- a pair is answered
pub gen_complete : (g : Generation) (f : Finding) → IsGenFound g f → IsGenAnswer (status_of f)
gen_complete g finding.Words h = absurd h
gen_complete g (finding.Refused r) h = absurd h
gen_complete g (finding.Cyclic side names) h = absurd h
gen_complete g (finding.Unpaired side names) h = absurd h
gen_complete g (finding.Checked o s) h = absurd h
gen_complete g (finding.Done report) h = absurd h
gen_complete g (finding.Generated o report) h = answered g o report h o.verdict refl
gen_complete g (finding.Replayed differences) h = absurd h
gen_complete g (finding.Unrefuted u) h = absurd h
gen_complete g (finding.Judged j kept text) h = absurd h
gen_complete g (finding.Undecided side name proof) h = absurd h

-- the work on a pair ends so whatever a read that failed would be
pub gen_ends : (g : Generation) (failed : Type 0) (r : Result Finding Stop) → GenFound g r → EndsBy (IsGenFound g) failed r
gen_ends g failed (Ok f) h = h
gen_ends g failed (Err stop.ReadFault) h = absurd h
gen_ends g failed (Err stop.NoMemory) h = tt
