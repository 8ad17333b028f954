-- What is judged of two nets by blocks of their latches.
use Rattle.std.specs.Prelude.{◌≡◌, ℕ, ◌≤◌, List, [], ◌∷◌, None, Option}
use Rattle.std.specs.List.{filter_map}
use Rattle.circuit_theory.specs.Interface.{first_mismatch}
use Rattle.circuit_laws.specs.reset_laws.Reset.{AgreeFromReset}
use Rattle.sec_base.specs.declared.limits.TheConstants.{MAX_WEIGHT}
use Rattle.flat_net.specs.Sound.{IsSound}
use Rattle.flat_net.specs.View.{NetView, circuit_of, ports_of}
use Rattle.pair_decide.specs.declared.query.Proof.{Proof}
use Rattle.block_refine.specs.latch_blocks.Signals.{net_weight}
use Rattle.job_base.specs.declared.finding.Judgement.{Judgement}
use Rattle.job_base.specs.declared.finding.Judgement.TheVariants as judgement
use Rattle.induct.specs.declared.induction.InductPair.{InductPair}
use Rattle.induct.specs.declared.induction.InductVerdict.{InductVerdict}
use Rattle.induct.specs.declared.induction.InductVerdict.TheVariants as verdict
use Rattle.induct.specs.declared.induction.Induction.{Induction}
use Rattle.induct.specs.Inductions.{IsInduction}
use Rattle.induct.specs.induct_report.Report.{induct_text}

abbrev pub judgement_of : InductVerdict → Judgement
judgement_of verdict.Equal = judgement.Equal
judgement_of (verdict.NotShown pair left right vars bits) = judgement.NotShown
judgement_of (verdict.Limit pair) = judgement.Limit
judgement_of (verdict.SplitLimit left right proof) = judgement.Limit

-- the proofs of the outputs whose queries met the limit, or that of the two latches
abbrev pub proofs_with : InductVerdict → List Proof → List Proof
proofs_with verdict.Equal proofs = proofs
proofs_with (verdict.NotShown pair left right vars bits) proofs = proofs
proofs_with (verdict.Limit pair) proofs = proofs
proofs_with (verdict.SplitLimit left right proof) proofs = proof ∷ []

abbrev pub proofs_of : Induction → List Proof
proofs_of made = proofs_with made.verdict (filter_map (λ (p : InductPair). p.proof) made.pairs)

-- both nets are small enough to be compared
abbrev pub AreLight : NetView → NetView → Type 0
AreLight a b = (net_weight a ≤ MAX_WEIGHT) × (net_weight b ≤ MAX_WEIGHT)

-- The interfaces match, both nets are light, and this is what is judged and written of their comparison. Both nets keep what each net
-- keeps.
pub record IsJudged (a b : NetView) (conflicts : ℕ) (j : Judgement) (proofs : List Proof) (text : List ℕ) : Type 0 where
  pub left_sound : IsSound a
  pub right_sound : IsSound b
  pub matches : first_mismatch (ports_of a) (ports_of b) ≡ None
  pub light : AreLight a b
  pub made : Induction
  pub is : IsInduction a b conflicts made
  pub agree : made.verdict ≡ verdict.Equal → AgreeFromReset (circuit_of a) (circuit_of b)
  pub judgement_is : j ≡ judgement_of made.verdict
  pub proofs_are : proofs ≡ proofs_of made
  pub text_is : text ≡ induct_text a b conflicts made
