-- Frames and assignments of the variables of an event graph.
use Rattle.std.proofs.Common.{◌≡◌, ◌∙◌, ℕ, zero, suc, Bool, true, false, cond, List, [], ◌∷◌, slice_get, Option, Some, None, refl, sym, ap, subst, arith}
use Rattle.std.specs.Prelude.{◌==◌, ◌&&◌}
use Rattle.circuit_theory.specs.Names.{same_name}
use Rattle.circuit_theory.proofs.Inputs.{test_same, test_refl, same_name-sound}
use Rattle.circuit_theory.proofs.Numbers.{same_name-refl}
use Rattle.edbf_unfold.specs.Nodes.{EventGraphView, IsEventGraph, named_places}
use Rattle.base_tables.specs.Table.{AreDistinct}
use Rattle.edbf_unfold.specs.Laws.{TakesFrame}
use Rattle.edbf_unfold.proofs.EventLiterals.{named_distinct}

bit_at : (ℕ → List ℕ → Bool) → Option (ℕ × List ℕ) → Bool
bit_at bits None = false
bit_at bits (Some p) = bits p.0 p.1

-- the assignment of a frame
pub assignment_of : EventGraphView → (ℕ → List ℕ → Bool) → ℕ → Bool
assignment_of w bits v = bit_at bits (slice_get (named_places w) v)

pub takes_frame : (w : EventGraphView) (bits : ℕ → List ℕ → Bool) → TakesFrame w bits (assignment_of w bits)
unfolding assignment_of bit_at
takes_frame w bits v p at = ap (bit_at bits) at

-- the bit of the variable that stands at the place, or 0 where none does
frame_from : List (ℕ × List ℕ) → (ℕ → Bool) → ℕ → List ℕ → Bool
frame_from [] a input at = false
frame_from (p ∷ ps) a input at = cond ((p.0 == input) && same_name p.1 at) (a 0) (frame_from ps (λ v. a (suc v)) input at)

found : (ps : List (ℕ × List ℕ)) (a : ℕ → Bool) → AreDistinct ps → (v : ℕ) (p : ℕ × List ℕ) → slice_get ps v ≡ Some p → a v ≡ frame_from ps a p.0 p.1
unfolding frame_from
found [] a once v p at = absurd (nothing v at)
  where
    nothing : (v : ℕ) → slice_get [] v ≡ Some p → ⊥
    nothing zero q = cc
    nothing (suc v) q = cc
found (q ∷ ps) a once zero p at =
    let same : q ≡ p = first at in
    let here : ((q.0 == p.0) && same_name q.1 p.1) ≡ true = subst (λ (r : ℕ × List ℕ). ((q.0 == r.0) && same_name q.1 r.1) ≡ true) same (λ i. test_refl q.0 i && same_name-refl q.1 i) in
    sym (ap (λ (b : Bool). cond b (a 0) (frame_from ps (λ v. a (suc v)) p.0 p.1)) here)
  where
    first : Some q ≡ Some p → q ≡ p
    first e = cc
found (q ∷ ps) a once (suc v) p at =
    go ((q.0 == p.0) && same_name q.1 p.1) refl (found ps (λ u. a (suc u)) (λ i j x f s. down (once (suc i) (suc j) x f s)) v p at)
  where
    down : {i j : ℕ} → suc i ≡ suc j → i ≡ j
    down e = omega (arith, e)

    both : (b c : Bool) → b && c ≡ true → (b ≡ true) × (c ≡ true)
    both true c h = (refl, h)
    both false c h = absurd (no h)
      where
        no : false ≡ true → ⊥
        no e = cc

    go : (b : Bool) → ((q.0 == p.0) && same_name q.1 p.1) ≡ b → a (suc v) ≡ frame_from ps (λ u. a (suc u)) p.0 p.1 → a (suc v) ≡ cond ((q.0 == p.0) && same_name q.1 p.1) (a 0) (frame_from ps (λ u. a (suc u)) p.0 p.1)
    go false e later = later ∙ sym (ap (λ (b : Bool). cond b (a 0) (frame_from ps (λ u. a (suc u)) p.0 p.1)) e)
    go true e later =
        let parts = both (q.0 == p.0) (same_name q.1 p.1) e in
        let input = test_same q.0 p.0 parts.0 in
        let path = same_name-sound q.1 p.1 parts.1 in
        let same : q ≡ p = λ i. (input i, path i) in
        let clash : zero ≡ suc v = once 0 (suc v) q refl (subst (λ (r : ℕ × List ℕ). slice_get (q ∷ ps) (suc v) ≡ Some r) (sym same) at) in
        absurd (omega (arith, clash))

-- the frame of an assignment
pub frame_by : EventGraphView → (ℕ → Bool) → ℕ → List ℕ → Bool
frame_by w a = frame_from (named_places w) a

pub frame_takes : (w : EventGraphView) → IsEventGraph w → (a : ℕ → Bool) → TakesFrame w (frame_by w a) a
unfolding frame_by
frame_takes w is a v p at = found (named_places w) a (named_distinct w is) v p at
