-- What is said of two flat circuits is said of their designs: minimal cuts, and agreement onward.
use Rattle.std.proofs.Common.{◌≡◌, ◌∙◌, ℕ, ◌<◌, ◌≤◌, Bool, List, [], length, refl, sym, ap, subst, arith, inl, inr}
use Rattle.std.specs.Prelude.{◌⊎◌}
use Rattle.std.specs.List.{Contains}
use Rattle.circuit_theory.specs.declared.Mode.TheVariants.{Plain}
use Rattle.circuit_theory.specs.Agree.{cut, IsPair, IsSettled, AreAlike, LatchesEqual, AgreeOnward, IsMinimalCut}
use Rattle.circuit_theory.specs.Circuit.{Circuit, IsLatch}
use Rattle.circuit_theory.specs.Depth.{HasCycle, without}
use Rattle.circuit_theory.specs.Run.{Marked, NoneEnabled}
use Rattle.job_base.proofs.design_laws.FlatParts.{FlatDesign, along, latch_down, latch_up, input_up, output_down, output_up, run_down, latch_stays}
use Rattle.job_base.proofs.design_laws.FlatMarks.{mark_down}
use Rattle.job_base.proofs.design_laws.FlatCycles.{cycle_down, cycle_up}
use Rattle.job_base.proofs.design_laws.CutFlats.{cut_design}

module _ {P Q : Type 0} {a : Circuit P} {b : Circuit Q} {na nb : Circuit ℕ} {clocked_a : P → Type 0} {clocked_b : Q → Type 0} (f : FlatDesign a na clocked_a) (g : FlatDesign b nb clocked_b) (names : List (List ℕ)) where
  -- a minimal cut of the nets is one of the designs
  pub minimal_up : IsMinimalCut Plain na nb names → IsMinimalCut Plain a b names
  minimal_up m = record {
    common = λ name h. (let c = m.common name h in let x = latch_up f name c.0 c.1 c.4 in let y = latch_up g name c.2 c.3 c.5 in (f.origin c.0, x.takes, g.origin c.2, y.takes, x.latch, y.latch));
    left_free = λ h. m.left_free (cycle_down f names h);
    right_free = λ h. m.right_free (cycle_down g names h);
    needed = λ i h. by i (m.needed i h);
  }
    where
      by : (i : ℕ) → HasCycle na NoneEnabled (without names i) ⊎ HasCycle nb NoneEnabled (without names i) → HasCycle a NoneEnabled (without names i) ⊎ HasCycle b NoneEnabled (without names i)
      by i (inl h) = inl (cycle_up f (without names i) h)
      by i (inr h) = inr (cycle_up g (without names i) h)

  -- and one of the designs is one of the nets
  pub minimal_down : IsMinimalCut Plain a b names → IsMinimalCut Plain na nb names
  minimal_down m = record {
    common = λ name h. (let c = m.common name h in (f.signal c.0, f.signal c.1, g.signal c.2, g.signal c.3, latch_down f name c.0 c.1 c.4, latch_down g name c.2 c.3 c.5));
    left_free = λ h. m.left_free (cycle_up f names h);
    right_free = λ h. m.right_free (cycle_up g names h);
    needed = λ i h. by i (m.needed i h);
  }
    where
      by : (i : ℕ) → HasCycle a NoneEnabled (without names i) ⊎ HasCycle b NoneEnabled (without names i) → HasCycle na NoneEnabled (without names i) ⊎ HasCycle nb NoneEnabled (without names i)
      by i (inl h) = inl (cycle_down f (without names i) h)
      by i (inr h) = inr (cycle_down g (without names i) h)

  module _ (steps : ℕ) (left : ℕ → P → Bool) (right : ℕ → Q → Bool) (alike : AreAlike a b steps left right) (T : ℕ) where
    -- two runs of the designs with equal inputs are two of the nets
    pub nets_alike : AreAlike na nb steps (λ t i. left t (f.origin i)) (λ t i. right t (g.origin i))
    nets_alike = record {
      left_run = run_down f steps left alike.left_run;
      right_run = run_down g steps right alike.right_run;
      equal_inputs = λ name i j h k t le. alike.equal_inputs name (f.origin i) (g.origin j) (input_up f name i h) (input_up g name j k) t le;
    }

    -- where the pairs are settled in the designs, they are in the nets
    pub nets_settled : ((p : P) (q : Q) → IsPair names a b p q → IsSettled Plain (cut names a) left T p × IsSettled Plain (cut names b) right T q) →
        (i j : ℕ) → IsPair names na nb i j → IsSettled Plain (cut names na) (λ t k. left t (f.origin k)) T i × IsSettled Plain (cut names nb) (λ t k. right t (g.origin k)) T j
    nets_settled settled i j (IsPair.outputs {name = name} l r) =
        let x = output_up f name i l in
        let y = output_up g name j r in
        both x.0 y.0 x.2 y.2 (settled x.0 y.0 (IsPair.outputs {name = name} x.1 y.1))
      where
        both : (p : P) (q : Q) → f.signal p ≡ i → g.signal q ≡ j → IsSettled Plain (cut names a) left T p × IsSettled Plain (cut names b) right T q →
            IsSettled Plain (cut names na) (λ t k. left t (f.origin k)) T i × IsSettled Plain (cut names nb) (λ t k. right t (g.origin k)) T j
        both p q p_is q_is both_are = (
          subst (λ (k : ℕ). Marked (cut names na) NoneEnabled (λ t k. left t (f.origin k)) T k) p_is (mark_down (cut_design names f) left (λ t k. left t (f.origin k)) both_are.0),
          subst (λ (k : ℕ). Marked (cut names nb) NoneEnabled (λ t k. right t (g.origin k)) T k) q_is (mark_down (cut_design names g) right (λ t k. right t (g.origin k)) both_are.1),
        )
    nets_settled settled i j (IsPair.nexts {name = name} {u = u} {v = v} known l r) =
        let x = latch_up f name u i l in
        let y = latch_up g name v j r in
        both x.takes y.takes x.takes_is y.takes_is (settled x.takes y.takes (IsPair.nexts {name = name} known x.latch y.latch))
      where
        both : (p : P) (q : Q) → f.signal p ≡ i → g.signal q ≡ j → IsSettled Plain (cut names a) left T p × IsSettled Plain (cut names b) right T q →
            IsSettled Plain (cut names na) (λ t k. left t (f.origin k)) T i × IsSettled Plain (cut names nb) (λ t k. right t (g.origin k)) T j
        both p q p_is q_is both_are = (
          subst (λ (k : ℕ). Marked (cut names na) NoneEnabled (λ t k. left t (f.origin k)) T k) p_is (mark_down (cut_design names f) left (λ t k. left t (f.origin k)) both_are.0),
          subst (λ (k : ℕ). Marked (cut names nb) NoneEnabled (λ t k. right t (g.origin k)) T k) q_is (mark_down (cut_design names g) right (λ t k. right t (g.origin k)) both_are.1),
        )

    -- the exposed latches of the nets are equal up to the cycle
    pub nets_start : LatchesEqual names a b left right (λ t. t ≤ T) → LatchesEqual names na nb (λ t i. left t (f.origin i)) (λ t i. right t (g.origin i)) (λ t. t ≤ T)
    nets_start start name u p v q t known l r early =
        let x = latch_up f name u p l in
        let y = latch_up g name v q r in
        start name (f.origin u) x.takes (g.origin v) y.takes t known x.latch y.latch early

    -- what the runs of the nets are from the cycle on
    abbrev AreOnward : Type 0
    AreOnward =
        LatchesEqual names na nb (λ t i. left t (f.origin i)) (λ t i. right t (g.origin i)) (λ t. t < steps)
        × ((t i j : ℕ) → T ≤ t → t < steps → IsPair [] na nb i j → left t (f.origin i) ≡ right t (g.origin j))

    designs_latches : AreOnward → LatchesEqual names a b left right (λ t. t < steps)
    designs_latches nets_agree name u p v q t known l r early =
        ap (left t) (sym (latch_stays f name u p l))
        ∙ nets_agree.0 name (f.signal u) (f.signal p) (g.signal v) (g.signal q) t known (latch_down f name u p l) (latch_down g name v q r) early
        ∙ ap (right t) (latch_stays g name v q r)

    designs_outputs : AreOnward → (t : ℕ) (p : P) (q : Q) → T ≤ t → t < steps → IsPair [] a b p q → left t p ≡ right t q
    designs_outputs nets_agree t p q late in_run (IsPair.nexts h l r) = absurd (omega (arith, h.1))
    designs_outputs nets_agree t p q late in_run (IsPair.outputs {name = name} l r) =
        along a (left t) (alike.left_run.meets t in_run) (f.circuit.shown name p l).follows
        ∙ nets_agree.1 t (f.signal p) (g.signal q) late in_run (IsPair.outputs {name = name} (output_down f name p l) (output_down g name q r))
        ∙ sym (along b (right t) (alike.right_run.meets t in_run) (g.circuit.shown name q r).follows)

    -- so are those of the designs
    pub runs_up : AreOnward → LatchesEqual names a b left right (λ t. t < steps) × ((t : ℕ) (p : P) (q : Q) → T ≤ t → t < steps → IsPair [] a b p q → left t p ≡ right t q)
    runs_up nets_agree = (designs_latches nets_agree, designs_outputs nets_agree)

  -- designs agree onward where their nets do
  pub onward_up : AgreeOnward Plain names na nb → AgreeOnward Plain names a b
  onward_up agree steps left right alike T below settled start =
      runs_up steps left right alike T
      (agree steps (λ t i. left t (f.origin i)) (λ t i. right t (g.origin i)) (nets_alike steps left right alike T) T below (nets_settled steps left right alike T settled) (nets_start steps left right alike T start))
