-- What is said of flat nets under an assumption in the event mode is said of the circuits that they come from.
use Rattle.std.proofs.Common.{◌≡◌, ◌∙◌, ℕ, Bool, List, [], sym, subst, arith}
use Rattle.circuit_theory.specs.declared.Mode.TheVariants.{Event}
use Rattle.circuit_theory.specs.Agree.{cut, IsPair, IsSettled}
use Rattle.circuit_theory.specs.Circuit.{Circuit}
use Rattle.circuit_theory.specs.Run.{IsEnabled, Marked}
use Rattle.job_base.proofs.design_laws.CutFlats.{cut_design}
use Rattle.job_base.proofs.design_laws.FlatOnward.{nets_alike, nets_start, runs_up}
use Rattle.job_base.proofs.design_laws.FlatParts.{FlatDesign, along, latch_up, output_down, output_up}
use Rattle.job_base.proofs.design_laws.event_designs.FlatEventMarks.{mark_down}
use Rattle.pair_texts.proofs.assume_texts.Designs.{meets_down}
use Rattle.pair_texts.specs.assume_texts.Agreement.{AgreeWhereMet, AgreeOnwardWhereMet}
use Rattle.job_check.specs.check_meaning.event_texts_under.Texts.{AgreeInEvents}

module _ {P Q R : Type 0} {a : Circuit P} {b : Circuit Q} {c : Circuit R} {na nb nc : Circuit ℕ} {clocked_a : P → Type 0} {clocked_b : Q → Type 0} {clocked_c : R → Type 0} (f : FlatDesign a na clocked_a)
    (g : FlatDesign b nb clocked_b) (h : FlatDesign c nc clocked_c) where
  -- designs agree where their nets do
  agree_up : AgreeWhereMet Event nc na nb → AgreeWhereMet Event c a b
  agree_up agree n left right alike meets t p q low (IsPair.nexts known l r) sp sq = absurd (omega (arith, known.1))
  agree_up agree n left right alike meets t p q low (IsPair.outputs {name = name} l r) sp sq =
      along a (left t) (alike.left_run.meets t low) (f.circuit.shown name p l).follows
      ∙ agree n (λ t s. left t (f.origin s)) (λ t s. right t (g.origin s)) (nets_alike f g [] n left right alike 0) (meets_down f h n left meets) t (f.signal p) (g.signal q) low
      (IsPair.outputs {name = name} (output_down f name p l) (output_down g name q r)) (mark_down f left sp) (mark_down g right sq)
      ∙ sym (along b (right t) (alike.right_run.meets t low) (g.circuit.shown name q r).follows)

  module _ (names : List (List ℕ)) (left : ℕ → P → Bool) (right : ℕ → Q → Bool) (T : ℕ) where
    abbrev SettledAt : P → Q → Type 0
    SettledAt p q = IsSettled Event (cut names a) left T p × IsSettled Event (cut names b) right T q

    abbrev NetsSettledAt : ℕ → ℕ → Type 0
    NetsSettledAt i j = IsSettled Event (cut names na) (λ t k. left t (f.origin k)) T i × IsSettled Event (cut names nb) (λ t k. right t (g.origin k)) T j

    -- a settled pair of the designs is one of the nets
    both_down : (p : P) (q : Q) (i j : ℕ) → f.signal p ≡ i → g.signal q ≡ j → SettledAt p q → NetsSettledAt i j
    both_down p q i j p_is q_is both = (
      subst (λ (k : ℕ). Marked (cut names na) (IsEnabled (cut names na)) (λ t k. left t (f.origin k)) T k) p_is (mark_down (cut_design names f) left both.0),
      subst (λ (k : ℕ). Marked (cut names nb) (IsEnabled (cut names nb)) (λ t k. right t (g.origin k)) T k) q_is (mark_down (cut_design names g) right both.1),
    )

    nets_settled : ((p : P) (q : Q) → IsPair names a b p q → SettledAt p q) → (i j : ℕ) → IsPair names na nb i j → NetsSettledAt i j
    nets_settled settled i j (IsPair.outputs {name = name} l r) =
        let x = output_up f name i l in
        let y = output_up g name j r in
        both_down x.0 y.0 i j x.2 y.2 (settled x.0 y.0 (IsPair.outputs {name = name} x.1 y.1))
    nets_settled settled i j (IsPair.nexts {name = name} {u = u} {v = v} known l r) =
        let x = latch_up f name u i l in
        let y = latch_up g name v j r in
        both_down x.takes y.takes i j x.takes_is y.takes_is (settled x.takes y.takes (IsPair.nexts {name = name} known x.latch y.latch))

  onward_up : (names : List (List ℕ)) → AgreeOnwardWhereMet Event names nc na nb → AgreeOnwardWhereMet Event names c a b
  onward_up names agree n left right alike meets T below settled start =
      runs_up f g names n left right alike T
      (agree n (λ t s. left t (f.origin s)) (λ t s. right t (g.origin s)) (nets_alike f g names n left right alike T) (meets_down f h n left meets) T below (nets_settled names left right T settled)
      (nets_start f g names n left right alike T start))

  pub events_up : (names : List (List ℕ)) → AgreeInEvents nc na nb names → AgreeInEvents c a b names
  events_up names agree = (agree_up agree.0, onward_up names agree.1)
