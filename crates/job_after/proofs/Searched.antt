-- What is judged of two nets behind the rows of a stimulus, or why they aren't compared.
use Rattle.std.specs.Prelude.{IsErrAnd, IfSome}
use Rattle.std.proofs.Common.{◌≡◌, ℕ, Bool, List, length, map, sym, subst, Option, Some, Result, Ok, Err}
use Rattle.std.specs.List.{All}
use Rattle.circuit_theory.specs.declared.Side.{Side}
use Rattle.circuit_laws.specs.reset_laws.Reset.{AgreeFromReset}
use Rattle.circuit_laws.specs.cycle_laws.Bounded.{AgreeUpTo}
use Rattle.base_tables.specs.Table.{AreDistinct}
use Rattle.flat_net.specs.declared.parts.Port.{Port}
use Rattle.flat_net.specs.View.{NetView, circuit_of}
use Rattle.pair_decide.specs.declared.query.Proof.{Proof}
use Rattle.witness_report.specs.declared.witness.Witness.{Witness}
use Rattle.job_circuit.specs.declared.replay.replay_header.error.ReplayError.{ReplayError}
use Rattle.job_circuit.specs.declared.replay.replay_header.error.ReplayError.TheVariants as header
use Rattle.job_base.specs.declared.finding.Judgement.{Judgement}
use Rattle.cycle_search.specs.declared.found.SearchVerdict.TheVariants as verdict
use Rattle.cycle_search.specs.declared.found.SearchError.{SearchError}
use Rattle.cycle_search.specs.declared.found.SearchError.TheVariants as search
use Rattle.cycle_search.specs.Searches.{Searches}
use Rattle.sec_jobs.proofs.job_search.search_meaning.Meaning.{agree as search_agree, agree_up_to as search_agree_up_to, agree_before as search_agree_before}
use Rattle.restart.specs.Behind.{begun, IsBegun}
use Rattle.restart.specs.Agreement.{AgreeBehind, Each, UpTo, Before}
use Rattle.restart.specs.Sequence.{IsShownBehind}
use Rattle.restart.proofs.Begun.{behind_agree, behind_agree_up_to, behind_agree_before}
use Rattle.restart.proofs.Again.{shown_again}
use Rattle.job_base.proofs.sec_files.job_files.Reading.{if_told}
use Rattle.job_after.specs.declared.fault.AfterFault.{AfterFault}
use Rattle.job_after.specs.declared.judging.Judged.{Judged}
use Rattle.job_after.specs.Judged.{Behind, IsBehind, IsJudged, judgement_of, proofs_of}
use Rattle.job_after.specs.Report.{after_text}
use Rattle.job_after.specs.declared.fault.AfterFault.TheVariants as fault
use Rattle.job_after.specs.Last.{EndsIn}
use Rattle.job_after.specs.Ends.{FitsAfter, IsJudgedBy, search_fault, header_fault}

module _ (a b : NetView) (names : List (List ℕ)) (rows : List (List Bool)) (wanted : Option ℕ) (conflicts : ℕ) where
  -- what is true of an error is true of the result that it is
  pub refused_by : (r : Result Judged AfterFault) (e : AfterFault) → IsErrAnd r (λ x. x ≡ e) → IsJudgedBy a b names rows wanted conflicts (Err e) → IsJudgedBy a b names rows wanted conflicts r
  refused_by (Ok x) e h p = absurd h
  refused_by (Err x) e h p = subst (λ (y : AfterFault). IsJudgedBy a b names rows wanted conflicts (Err y)) (sym h) p

  -- the stimulus doesn't fit
  pub unfit : (e : ReplayError) → FitsAfter a b names (Err e) → IsJudgedBy a b names rows wanted conflicts (Err (header_fault e))
  unfit (header.Unknown name) h = h
  unfit (header.Missing name) h = h
  unfit header.NoMemory h = tt

  -- the nets that begin behind the rows aren't searched
  pub refused : (l r : NetView) (left_known right_known : List (Option Bool)) (cycles : ℕ) → IsBegun a names rows left_known l → IsBegun b names rows right_known r → (e : SearchError) → Searches l r cycles conflicts (Err e) →
      IsJudgedBy a b names rows wanted conflicts (Err (search_fault e))
  refused l r left_known right_known cycles lb rb (search.Interface name) h = record { left_known = left_known; right_known = right_known; left = l; right = r; left_begun = lb; right_begun = rb; said = h }
  refused l r left_known right_known cycles lb rb (search.TooLarge side) h = record { left_known = left_known; right_known = right_known; left = l; right = r; left_begun = lb; right_begun = rb; said = h }
  refused l r left_known right_known cycles lb rb search.NoMemory h = tt

  -- they have no last cycle
  pub endless : (l r : NetView) (left_known right_known : List (Option Bool)) → IsBegun a names rows left_known l → IsBegun b names rows right_known r → (e : AfterFault) → EndsIn l r wanted (Err e) →
      IsJudgedBy a b names rows wanted conflicts (Err e)
  endless l r left_known right_known lb rb (fault.Interface name) h = record { left_known = left_known; right_known = right_known; left = l; right = r; left_begun = lb; right_begun = rb; said = h }
  endless l r left_known right_known lb rb (fault.Cyclic side latches) h = (h.0, record { left_known = left_known; right_known = right_known; left = l; right = r; left_begun = lb; right_begun = rb; said = h.1 })
  endless l r left_known right_known lb rb fault.NoMemory h = tt
  endless l r left_known right_known lb rb (fault.Unknown name) h = absurd h
  endless l r left_known right_known lb rb (fault.Missing name) h = absurd h
  endless l r left_known right_known lb rb (fault.TooLarge side) h = absurd h

  module _ (wide : All (λ (row : List Bool). length row ≡ length names) rows) (h : Behind) (is : IsBehind a b names rows wanted conflicts h) (distinct : AreDistinct (map (λ (p : Port). p.name) b.outputs)) where
    right_distinct : AreDistinct (map (λ (p : Port). p.name) h.right.outputs)
    right_distinct = subst (λ (n : NetView). AreDistinct (map (λ (p : Port). p.name) n.outputs)) (sym is.right_begun.is) distinct

    of_begun : (R : NetView → NetView → Type 0) → R h.left h.right → R (begun a h.left_known) (begun b h.right_known)
    of_begun R r = subst (λ (n : NetView). R n (begun b h.right_known)) is.left_begun.is (subst (λ (n : NetView). R h.left n) is.right_begun.is r)

    agree : h.made.verdict ≡ verdict.Equal → AgreeBehind names rows Each (circuit_of a) (circuit_of b)
    agree e =
        behind_agree names rows wide a b h.left_known h.right_known is.left_begun.each is.right_begun.each is.left_begun.are_known is.right_begun.are_known
        (of_begun (λ l r. AgreeFromReset (circuit_of l) (circuit_of r)) (search_agree h.left h.right h.cycles conflicts h.made is.searched right_distinct e))

    agree_up_to : (stopped : Option Side) → h.made.verdict ≡ verdict.NoDifference stopped → AgreeBehind names rows (UpTo h.made.last) (circuit_of a) (circuit_of b)
    agree_up_to stopped e =
        behind_agree_up_to names rows wide a b h.left_known h.right_known is.left_begun.each is.right_begun.each is.left_begun.are_known is.right_begun.are_known h.made.last
        (of_begun (λ l r. AgreeUpTo h.made.last (circuit_of l) (circuit_of r)) (search_agree_up_to h.left h.right h.cycles conflicts h.made is.searched right_distinct stopped e))

    agree_before : AgreeBehind names rows (Before h.made.last) (circuit_of a) (circuit_of b)
    agree_before =
        behind_agree_before names rows wide a b h.left_known h.right_known is.left_begun.each is.right_begun.each is.left_begun.are_known is.right_begun.are_known h.made.last
        (λ k low. of_begun (λ l r. AgreeUpTo k (circuit_of l) (circuit_of r)) (search_agree_before h.left h.right h.cycles conflicts h.made is.searched right_distinct k low))

    -- what is shown of the nets that begin is shown of the nets
    shown_of : IfSome h.shown (λ w. IsShownBehind h.left h.right names rows w) → (w : Witness) → h.shown ≡ Some w → IsShownBehind a b names rows w
    shown_of told w e =
        shown_again a b h.left_known h.right_known names rows w
        (of_begun (λ l r. IsShownBehind l r names rows w) (if_told h.shown (λ v. IsShownBehind h.left h.right names rows v) w e told))

    -- both are judged
    pub judged_by : (j : Judgement) (proofs : List Proof) (text : List ℕ) → IfSome h.shown (λ w. IsShownBehind h.left h.right names rows w) → j ≡ judgement_of h.made.verdict h.shown → proofs ≡ proofs_of h.made.pairs →
        text ≡ after_text h.left h.right h.cycles conflicts (length rows) h.left_known h.right_known h.shown h.made → IsJudged a b names rows wanted conflicts j proofs text
    judged_by j proofs text told judgement kept written = record {
      of = h;
      is = is;
      agree = agree;
      agree_up_to = agree_up_to;
      agree_before = agree_before;
      differ = shown_of told;
      judgement_is = judgement;
      proofs_are = kept;
      text_is = written;
    }
