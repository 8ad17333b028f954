-- What is judged of two nets behind the rows of a stimulus under a third.
use Rattle.std.specs.Prelude.{IsErrAnd, IfSome}
use Rattle.std.specs.List.{All}
use Rattle.std.proofs.Common.{◌≡◌, ◌∙◌, ℕ, ◌≤◌, Bool, List, length, map, sym, subst, arith, Option, Some, Result, Ok, Err}
use Rattle.circuit_theory.specs.Circuit.{Circuit}
use Rattle.circuit_theory.specs.Interface.{shared_inputs}
use Rattle.circuit_theory.specs.declared.Side.{Side}
use Rattle.base_tables.specs.Table.{AreDistinct}
use Rattle.flat_net.specs.declared.parts.Port.{Port}
use Rattle.flat_net.specs.View.{NetView, circuit_of, ports_of}
use Rattle.witness_report.specs.declared.witness.Witness.{Witness}
use Rattle.job_base.proofs.sec_files.job_files.Reading.{if_told}
use Rattle.pair_texts.proofs.assume_texts.Sequences.{resets_where_met}
use Rattle.cycle_search.specs.declared.found.SearchVerdict.TheVariants as verdict
use Rattle.restart.specs.Agreement.{Each, UpTo, Before}
use Rattle.job_after.specs.Judged.{Behind, judgement_of}
use Rattle.job_after.specs.declared.judging.Judged.{Judged}
use Rattle.job_under.proofs.Says.{agree as under_agree, agree_up_to as under_agree_up_to, agree_before as under_agree_before}
use Rattle.job_under.proofs.Lifted.{up_to_where_met}
use Rattle.job_after_under.specs.declared.fault.Fault.{Fault}
use Rattle.job_after_under.specs.Runs.{AgreeBehindWhereMet}
use Rattle.job_after_under.specs.Judged.{IsShownUnder, IsBehindUnder, IsJudgedSearch}
use Rattle.job_after_under.specs.Report.{behind_text}
use Rattle.job_after_under.specs.Ends.{IsTold}
use Rattle.job_after_under.proofs.Behind.{AgreeWhere, behind}
use Rattle.job_after_under.proofs.Meeting.{shown_before}

-- what is true of an error is true of the result that it is
pub refused_by : (P : Result Judged Fault → Type 0) (r : Result Judged Fault) (e : Fault) → IsErrAnd r (λ x. x ≡ e) → P (Err e) → P r
refused_by P (Ok x) e h p = absurd h
refused_by P (Err x) e h p = subst (λ (y : Fault). P (Err y)) (sym h) p

module _ (a b c : NetView) (names : List (List ℕ)) (rows : List (List Bool)) (cycles conflicts : ℕ) where
  module _ (wide : All (λ (row : List Bool). length row ≡ length names) rows) (h : Behind) (is : IsBehindUnder a b c names rows cycles conflicts h) (distinct : AreDistinct (map (λ (p : Port). p.name) b.outputs)) where
    right_distinct : AreDistinct (map (λ (p : Port). p.name) h.right.outputs)
    right_distinct = subst (λ (n : NetView). AreDistinct (map (λ (p : Port). p.name) n.outputs)) (sym is.right_begun.is) distinct

    abbrev shared : List (List ℕ)
    shared = shared_inputs (ports_of h.left) (ports_of h.right)

    -- agreement of the nets that begin is agreement behind the rows
    of_begun : (Wanted : ℕ → Type 0) → AgreeWhere Wanted (circuit_of c) (circuit_of h.left) (circuit_of h.right) → AgreeBehindWhereMet names rows Wanted (circuit_of c) (circuit_of a) (circuit_of b)
    of_begun = behind names rows wide a b h.left_known h.right_known h.left h.right is.left_begun is.right_begun (circuit_of c)

    agree : h.made.verdict ≡ verdict.Equal → AgreeBehindWhereMet names rows Each (circuit_of c) (circuit_of a) (circuit_of b)
    agree e =
        of_begun Each
        (λ n x y alike meets t p q low wanted pair.
        resets_where_met shared c is.searched.assumed h.left h.right (under_agree h.left h.right c cycles conflicts h.made is.searched right_distinct e) n x y alike meets t p q low pair)

    agree_up_to : (stopped : Option Side) → h.made.verdict ≡ verdict.NoDifference stopped → AgreeBehindWhereMet names rows (UpTo h.made.last) (circuit_of c) (circuit_of a) (circuit_of b)
    agree_up_to stopped e =
        of_begun (UpTo h.made.last)
        (λ n x y alike meets t p q low wanted pair.
        up_to_where_met shared c is.searched.assumed h.left h.right h.made.last (under_agree_up_to h.left h.right c cycles conflicts h.made is.searched right_distinct stopped e) n x y alike meets t p q low wanted pair)

    agree_before : AgreeBehindWhereMet names rows (Before h.made.last) (circuit_of c) (circuit_of a) (circuit_of b)
    agree_before =
        of_begun (Before h.made.last)
        (λ n x y alike meets t p q low wanted pair.
        up_to_where_met shared c is.searched.assumed h.left h.right t (under_agree_before h.left h.right c cycles conflicts h.made is.searched right_distinct t wanted) n x y alike meets t p q low (let e : t ≤ t = omega arith in e) pair)

    -- what is shown of the nets that begin is shown of the nets
    shown_of : IfSome h.shown (IsShownUnder h.left h.right c names rows) → (w : Witness) → h.shown ≡ Some w → IsShownUnder a b c names rows w
    shown_of told w e =
        if_told h.shown (λ v. IsShownUnder a b c names rows v) w e (shown_before a b c h.left h.right h.left_known h.right_known names rows h.shown is.left_begun.is is.right_begun.is told)

    -- both are judged
    pub judged_by : (j : Judged) (name : List ℕ) → name ≡ is.searched.assumed.shape.output.name → (told : IsTold h.left h.right c names rows h.left_known h.right_known cycles conflicts name h.made j) → told.shown ≡ h.shown →
        IsJudgedSearch a b c names rows cycles conflicts j.judgement j.proofs j.text
    judged_by j name named told same = record {
      of = h;
      is = is;
      agree = agree;
      agree_up_to = agree_up_to;
      agree_before = agree_before;
      differ = shown_of (subst (λ (o : Option Witness). IfSome o (IsShownUnder h.left h.right c names rows)) same told.is_shown);
      judgement_is = subst (λ (o : Option Witness). j.judgement ≡ judgement_of h.made.verdict o) same told.judgement_is;
      proofs_are = told.proofs_are;
      text_is = subst (λ (o : Option Witness). j.text ≡ behind_text h.left h.right is.searched.assumed.shape.output.name cycles conflicts (length rows) h.left_known h.right_known o h.made) same
          (subst (λ (n : List ℕ). j.text ≡ behind_text h.left h.right n cycles conflicts (length rows) h.left_known h.right_known told.shown h.made) named told.text_is);
    }
