-- What is said of two flat circuits in the event mode is said of their designs: minimal cuts, agreement, and agreement onward.
use Rattle.std.proofs.Common.{◌≡◌, ◌∙◌, ℕ, Bool, List, [], sym, subst, arith, inl, inr}
use Rattle.std.specs.Prelude.{◌⊎◌}
use Rattle.circuit_theory.specs.declared.Mode.TheVariants.{Event}
use Rattle.circuit_theory.specs.Agree.{cut, Agree, AgreeOnward, IsMinimalCut, IsPair, IsSettled}
use Rattle.circuit_theory.specs.Circuit.{Circuit}
use Rattle.circuit_theory.specs.Depth.{HasCycle, without}
use Rattle.circuit_theory.specs.Run.{IsEnabled, Marked}
use Rattle.job_base.proofs.design_laws.CutFlats.{cut_design}
use Rattle.job_base.proofs.design_laws.FlatOnward.{nets_alike, nets_start, runs_up}
use Rattle.job_base.proofs.design_laws.FlatParts.{FlatDesign, along, latch_down, latch_up, output_down, output_up}
use Rattle.job_base.proofs.design_laws.event_designs.FlatEventCycles.{cycle_down, cycle_up}
use Rattle.job_base.proofs.design_laws.event_designs.FlatEventMarks.{mark_down}

module _ {P Q : Type 0} {a : Circuit P} {b : Circuit Q} {na nb : Circuit ℕ} {clocked_a : P → Type 0} {clocked_b : Q → Type 0} (f : FlatDesign a na clocked_a) (g : FlatDesign b nb clocked_b) where
  -- designs agree where their nets do
  pub agree_up : Agree Event na nb → Agree Event a b
  agree_up agree n left right alike t p q low (IsPair.nexts h l r) sp sq = absurd (omega (arith, h.1))
  agree_up agree n left right alike t p q low (IsPair.outputs {name = name} l r) sp sq =
      along a (left t) (alike.left_run.meets t low) (f.circuit.shown name p l).follows
      ∙ agree n (λ t s. left t (f.origin s)) (λ t s. right t (g.origin s)) (nets_alike f g [] n left right alike 0) t (f.signal p) (g.signal q) low (IsPair.outputs {name = name} (output_down f name p l) (output_down g name q r))
      (mark_down f left sp) (mark_down g right sq)
      ∙ sym (along b (right t) (alike.right_run.meets t low) (g.circuit.shown name q r).follows)

  module _ (names : List (List ℕ)) where
    -- a minimal cut of the nets is one of the designs
    pub minimal_up : IsMinimalCut Event na nb names → IsMinimalCut Event a b names
    minimal_up m = record {
      common = λ name h. (let c = m.common name h in let x = latch_up f name c.0 c.1 c.4 in let y = latch_up g name c.2 c.3 c.5 in (f.origin c.0, x.takes, g.origin c.2, y.takes, x.latch, y.latch));
      left_free = λ h. m.left_free (cycle_down f names h);
      right_free = λ h. m.right_free (cycle_down g names h);
      needed = λ i h. by i (m.needed i h);
    }
      where
        by : (i : ℕ) → HasCycle na (IsEnabled na) (without names i) ⊎ HasCycle nb (IsEnabled nb) (without names i) → HasCycle a (IsEnabled a) (without names i) ⊎ HasCycle b (IsEnabled b) (without names i)
        by i (inl h) = inl (cycle_up f (without names i) h)
        by i (inr h) = inr (cycle_up g (without names i) h)

    -- and one of the designs is one of the nets
    pub minimal_down : IsMinimalCut Event a b names → IsMinimalCut Event na nb names
    minimal_down m = record {
      common = λ name h. (let c = m.common name h in (f.signal c.0, f.signal c.1, g.signal c.2, g.signal c.3, latch_down f name c.0 c.1 c.4, latch_down g name c.2 c.3 c.5));
      left_free = λ h. m.left_free (cycle_up f names h);
      right_free = λ h. m.right_free (cycle_up g names h);
      needed = λ i h. by i (m.needed i h);
    }
      where
        by : (i : ℕ) → HasCycle a (IsEnabled a) (without names i) ⊎ HasCycle b (IsEnabled b) (without names i) → HasCycle na (IsEnabled na) (without names i) ⊎ HasCycle nb (IsEnabled nb) (without names i)
        by i (inl h) = inl (cycle_down f (without names i) h)
        by i (inr h) = inr (cycle_down g (without names i) h)

    module _ (left : ℕ → P → Bool) (right : ℕ → Q → Bool) (T : ℕ) where
      abbrev SettledAt : P → Q → Type 0
      SettledAt p q = IsSettled Event (cut names a) left T p × IsSettled Event (cut names b) right T q

      abbrev NetsSettledAt : ℕ → ℕ → Type 0
      NetsSettledAt i j = IsSettled Event (cut names na) (λ t k. left t (f.origin k)) T i × IsSettled Event (cut names nb) (λ t k. right t (g.origin k)) T j

      -- a settled pair of the designs is one of the nets
      both_down : (p : P) (q : Q) (i j : ℕ) → f.signal p ≡ i → g.signal q ≡ j → SettledAt p q → NetsSettledAt i j
      both_down p q i j p_is q_is both = (
        subst (λ (k : ℕ). Marked (cut names na) (IsEnabled (cut names na)) (λ t k. left t (f.origin k)) T k) p_is (mark_down (cut_design names f) left both.0),
        subst (λ (k : ℕ). Marked (cut names nb) (IsEnabled (cut names nb)) (λ t k. right t (g.origin k)) T k) q_is (mark_down (cut_design names g) right both.1),
      )

      nets_settled : ((p : P) (q : Q) → IsPair names a b p q → SettledAt p q) → (i j : ℕ) → IsPair names na nb i j → NetsSettledAt i j
      nets_settled settled i j (IsPair.outputs {name = name} l r) =
          let x = output_up f name i l in
          let y = output_up g name j r in
          both_down x.0 y.0 i j x.2 y.2 (settled x.0 y.0 (IsPair.outputs {name = name} x.1 y.1))
      nets_settled settled i j (IsPair.nexts {name = name} {u = u} {v = v} known l r) =
          let x = latch_up f name u i l in
          let y = latch_up g name v j r in
          both_down x.takes y.takes i j x.takes_is y.takes_is (settled x.takes y.takes (IsPair.nexts {name = name} known x.latch y.latch))

    -- designs agree onward where their nets do
    pub onward_up : AgreeOnward Event names na nb → AgreeOnward Event names a b
    onward_up agree steps left right alike T below settled start =
        runs_up f g names steps left right alike T
        (agree steps (λ t i. left t (f.origin i)) (λ t i. right t (g.origin i)) (nets_alike f g names steps left right alike T) T below (nets_settled left right T settled) (nets_start f g names steps left right alike T start))
