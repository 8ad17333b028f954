-- What is judged of two nets by ties of their signals behind the rows of a stimulus under a third.
use Rattle.std.proofs.Common.{◌≡◌, ◌∙◌, ℕ, Bool, List, ◌++◌, length, ap, subst, inl, inr, ◌⊎◌, Option, None}
use Rattle.std.specs.List.{All}
use Rattle.circuit_theory.specs.Interface.{shared_inputs}
use Rattle.circuit_theory.specs.Joined.{beside}
use Rattle.circuit_laws.specs.declared.signal_laws.anchor.Anchor.{Anchor}
use Rattle.circuit_laws.specs.signal_laws.Ties.{AreTied}
use Rattle.flat_net.specs.View.{NetView, circuit_of, ports_of}
use Rattle.pair_decide.specs.declared.query.Proof.{Proof}
use Rattle.job_base.specs.declared.finding.Judgement.{Judgement}
use Rattle.pair_texts.proofs.assume_texts.Sequences.{run_meets, resets_where_met}
use Rattle.job_under.specs.signal_induct.Tied.{first_apart}
use Rattle.restart.specs.Agreement.{Each}
use Rattle.job_after.specs.Report.{begun_text}
use Rattle.job_under.specs.job_begun.Judged.{Begun, AreBegun}
use Rattle.job_under.specs.ties.Judged as ties
use Rattle.job_after_under.specs.Runs.{AgreeBehindWhereMet, TiesHoldWhereMet}
use Rattle.job_after_under.specs.ties.Judged.{AreJudgedBehind, AreJudged}
use Rattle.job_after_under.proofs.Behind.{HoldWhere, behind, hold_behind}

module _ (a b c : NetView) (names : List (List ℕ)) (rows : List (List Bool)) (wide : All (λ (row : List Bool). length row ≡ length names) rows) (h : Begun) (is : AreBegun a b names rows h) (j : Judgement) (proofs : List Proof) (told : List ℕ) where
  -- by ties of the nets that begin
  module _ (judged : ties.AreJudgedTied h.left h.right c j proofs told) where
    abbrev shared : List (List ℕ)
    shared = shared_inputs (ports_of h.left) (ports_of h.right)

    abbrev anchors : List Anchor
    anchors = judged.made.ties.anchors.items

    same_size : length h.left.drivers ≡ length a.drivers
    same_size = ap (λ (n : NetView). length n.drivers) is.left_begun.is

    -- they hold of the nets that begin
    hold_there : HoldWhere (λ v w. AreTied (length a.drivers) anchors (beside v w)) Each (circuit_of c) (circuit_of h.left) (circuit_of h.right)
    hold_there n x y alike meets t low wanted =
        subst (λ (size : ℕ). AreTied size anchors (beside (x t) (y t))) same_size (judged.is.hold n x y alike (run_meets shared c judged.assumed (circuit_of h.left) n x meets) t low)

    hold : TiesHoldWhereMet names rows (circuit_of c) (circuit_of a) (circuit_of b) (length a.drivers) anchors
    hold n x y alike lb rb meets t le lt =
        hold_behind names rows wide a b h.left_known h.right_known h.left h.right is.left_begun is.right_begun (circuit_of c) (λ v w. AreTied (length a.drivers) anchors (beside v w)) Each hold_there n x y alike lb rb meets t le lt tt

    agree : first_apart judged.made.pairs ≡ None → AgreeBehindWhereMet names rows Each (circuit_of c) (circuit_of a) (circuit_of b)
    agree none =
        behind names rows wide a b h.left_known h.right_known h.left h.right is.left_begun is.right_begun (circuit_of c) Each
        (λ n x y alike meets t p q low wanted pair. resets_where_met shared c judged.assumed h.left h.right (judged.agree none) n x y alike meets t p q low pair)

  -- what is judged of the nets that begin is judged of the nets
  pub judged_by : (conflicts : ℕ) (text : List ℕ) → text ≡ begun_text h.left h.right (length rows) h.left_known h.right_known ++ told → ties.AreJudged conflicts h.left h.right c j proofs told → AreJudged conflicts a b c names rows j proofs text
  judged_by conflicts text written (inl k) = inl (record { of = h; is = is; told = told; judged = k; hold = hold k; agree = agree k; text_is = written })
  judged_by conflicts text written (inr k) = inr (record {
    left_known = h.left_known;
    right_known = h.right_known;
    left = h.left;
    right = h.right;
    left_begun = is.left_begun;
    right_begun = is.right_begun;
    matches = k.matches;
    proof = k.proof;
    is = k.is;
    judgement_is = k.judgement_is;
    proofs_are = k.proofs_are;
    text_is = written ∙ ap (λ (rest : List ℕ). begun_text h.left h.right (length rows) h.left_known h.right_known ++ rest) k.text_is;
  })
