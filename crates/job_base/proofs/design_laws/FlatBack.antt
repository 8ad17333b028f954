-- What is said of two designs is said of their flat circuits: agreement onward.
use Rattle.std.proofs.Common.{◌≡◌, ◌∙◌, ℕ, ◌<◌, ◌≤◌, Bool, List, [], refl, sym, ap, subst, arith}
use Rattle.std.specs.List.{Contains}
use Rattle.circuit_theory.specs.declared.Mode.TheVariants.{Plain}
use Rattle.circuit_theory.specs.Agree.{cut, IsPair, IsSettled, AreAlike, LatchesEqual, AgreeOnward}
use Rattle.circuit_theory.specs.Circuit.{Circuit, IsLatch}
use Rattle.circuit_theory.specs.Flattened.{Follows}
use Rattle.circuit_theory.specs.Run.{Marked, NoneEnabled}
use Rattle.job_base.proofs.design_laws.FlatParts.{FlatDesign, latch_down, latch_up, input_down, output_down, output_up, run_up}
use Rattle.job_base.proofs.design_laws.FlatMarks.{mark_up, mark_along}
use Rattle.job_base.proofs.design_laws.CutFlats.{cut_design, follows}

module _ {P Q : Type 0} {a : Circuit P} {b : Circuit Q} {na nb : Circuit ℕ} {clocked_a : P → Type 0} {clocked_b : Q → Type 0} (f : FlatDesign a na clocked_a) (g : FlatDesign b nb clocked_b) (names : List (List ℕ))
    (agree : AgreeOnward Plain names a b) (steps : ℕ) (left right : ℕ → ℕ → Bool) (alike : AreAlike na nb steps left right) (T : ℕ) (below : T < steps)
    (settled : (i j : ℕ) → IsPair names na nb i j → IsSettled Plain (cut names na) left T i × IsSettled Plain (cut names nb) right T j) (start : LatchesEqual names na nb left right (λ t. t ≤ T)) where
  -- two runs of the nets with equal inputs are two of the designs
  designs_alike : AreAlike a b steps (λ t p. left t (f.signal p)) (λ t q. right t (g.signal q))
  designs_alike = record {
    left_run = run_up f steps left alike.left_run;
    right_run = run_up g steps right alike.right_run;
    equal_inputs = λ name p q h k t le. alike.equal_inputs name (f.signal p) (g.signal q) (input_down f name p h) (input_down g name q k) t le;
  }

  -- a place with a signal that is settled is settled
  left_settled : (p : P) → Follows a p (f.origin (f.signal p)) → IsSettled Plain (cut names na) left T (f.signal p) → IsSettled Plain (cut names a) (λ t p. left t (f.signal p)) T p
  left_settled p ports m =
      mark_along (cut_design names f) (λ t p. left t (f.signal p)) left (follows names a na f.size clocked_a f.origin f.signal f.circuit ports) (mark_up (cut_design names f) (λ t p. left t (f.signal p)) left m)

  right_settled : (q : Q) → Follows b q (g.origin (g.signal q)) → IsSettled Plain (cut names nb) right T (g.signal q) → IsSettled Plain (cut names b) (λ t q. right t (g.signal q)) T q
  right_settled q ports m =
      mark_along (cut_design names g) (λ t q. right t (g.signal q)) right (follows names b nb g.size clocked_b g.origin g.signal g.circuit ports) (mark_up (cut_design names g) (λ t q. right t (g.signal q)) right m)

  designs_settled : (p : P) (q : Q) → IsPair names a b p q → IsSettled Plain (cut names a) (λ t p. left t (f.signal p)) T p × IsSettled Plain (cut names b) (λ t q. right t (g.signal q)) T q
  designs_settled p q (IsPair.outputs {name = name} l r) =
      let m = settled (f.signal p) (g.signal q) (IsPair.outputs {name = name} (output_down f name p l) (output_down g name q r)) in
      (left_settled p (f.circuit.shown name p l).follows m.0, right_settled q (g.circuit.shown name q r).follows m.1)
  designs_settled p q (IsPair.nexts {name = name} {u = u} {v = v} known l r) =
      let m = settled (f.signal p) (g.signal q) (IsPair.nexts {name = name} known (latch_down f name u p l) (latch_down g name v q r)) in
      (left_settled p (f.circuit.taken name u p l).1.follows m.0, right_settled q (g.circuit.taken name v q r).1.follows m.1)

  designs_start : LatchesEqual names a b (λ t p. left t (f.signal p)) (λ t q. right t (g.signal q)) (λ t. t ≤ T)
  designs_start name u p v q t known l r early = start name (f.signal u) (f.signal p) (g.signal v) (g.signal q) t known (latch_down f name u p l) (latch_down g name v q r) early

  designs_agree : LatchesEqual names a b (λ t p. left t (f.signal p)) (λ t q. right t (g.signal q)) (λ t. t < steps)
      × ((t : ℕ) (p : P) (q : Q) → T ≤ t → t < steps → IsPair [] a b p q → left t (f.signal p) ≡ right t (g.signal q))
  designs_agree = agree steps (λ t p. left t (f.signal p)) (λ t q. right t (g.signal q)) designs_alike T below designs_settled designs_start

  nets_latches : LatchesEqual names na nb left right (λ t. t < steps)
  nets_latches name u p v q t known l r early =
      let x = latch_up f name u p l in
      let y = latch_up g name v q r in
      ap (left t) (sym x.signal) ∙ designs_agree.0 name (f.origin u) x.takes (g.origin v) y.takes t known x.latch y.latch early ∙ ap (right t) y.signal

  nets_outputs : (t i j : ℕ) → T ≤ t → t < steps → IsPair [] na nb i j → left t i ≡ right t j
  nets_outputs t i j late in_run (IsPair.nexts h l r) = absurd (omega (arith, h.1))
  nets_outputs t i j late in_run (IsPair.outputs {name = name} l r) =
      let x = output_up f name i l in
      let y = output_up g name j r in
      ap (left t) (sym x.2) ∙ designs_agree.1 t x.0 y.0 late in_run (IsPair.outputs {name = name} x.1 y.1) ∙ ap (right t) y.2

-- nets agree onward where their designs do
pub onward_down : {P Q : Type 0} {a : Circuit P} {b : Circuit Q} {na nb : Circuit ℕ} {clocked_a : P → Type 0} {clocked_b : Q → Type 0} → FlatDesign a na clocked_a → FlatDesign b nb clocked_b → (names : List (List ℕ)) →
    AgreeOnward Plain names a b → AgreeOnward Plain names na nb
onward_down f g names agree steps left right alike T below settled start = (
  nets_latches f g names agree steps left right alike T below settled start,
  nets_outputs f g names agree steps left right alike T below settled start,
)
