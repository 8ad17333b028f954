-- A latch on a cycle of the latch graph is never settled.
use Rattle.std.proofs.Common.{◌≡◌, ℕ, zero, suc, ◌<◌, Bool, List, refl, sym, subst, arith, inl, inr}
use Rattle.circuit_theory.specs.Circuit.{Circuit, Latch, IsSingleDriven}
use Rattle.circuit_theory.specs.Run.{Marked}
use Rattle.circuit_theory.specs.Depth.{LatchReads, LatchPath}
use Rattle.circuit_laws.proofs.Marks.{MarkSays, mark_says, marks_down}

module _ {P : Type 0} (c : Circuit P) (enabled : P → Type 0) (removed : List (List ℕ)) where
  pub path_append : {u v w : P} → LatchPath c enabled removed u v → LatchReads c enabled removed v w → LatchPath c enabled removed u w
  path_append (LatchPath.edge e) f = LatchPath.step e (LatchPath.edge f)
  path_append (LatchPath.step e rest) f = LatchPath.step e (path_append rest f)

  -- the first edge of a cycle, and the cycle from its end
  pub turned : {u v : P} → LatchPath c enabled removed u v → (w : P) × LatchReads c enabled removed u w × (v ≡ u → LatchPath c enabled removed w w)
  turned {u} {v} (LatchPath.edge e) = (v, e, λ q. LatchPath.edge (subst (λ z. LatchReads c enabled removed z v) (sym q) e))
  turned {u} (LatchPath.step {v = v} {w = w} e rest) =
      (v, e, λ q. path_append (subst (λ z. LatchPath c enabled removed v z) q rest) e)

  module _ (run : ℕ → P → Bool) (single : IsSingleDriven c) where
    pub cycle_never_settled : (bound t : ℕ) (u : P) → t < bound → LatchPath c enabled removed u u → Marked c enabled run t u → ⊥
    cycle_never_settled zero t u h path mark = omega arith
    cycle_never_settled (suc bound) t u h path mark =
        let first = turned path in
        go first.0 first.1 (first.2 refl) (λ s w k p m. cycle_never_settled bound s w k p m) (mark_says c enabled run single mark (Latch first.1.name u first.1.next) first.1.latch refl)
      where
        go : (v : P) (e : LatchReads c enabled removed u v) → LatchPath c enabled removed v v → ((s : ℕ) (w : P) → s < bound → LatchPath c enabled removed w w → Marked c enabled run s w → ⊥) →
            MarkSays c enabled run single t (Latch e.name u e.next) → ⊥
        go v e around ih (inl plain) = ih plain.1.0 v (omega (arith, plain.1.1)) around (marks_down c enabled run single e.cone.1 plain.1.0 plain.1.2)
        go v e around ih (inr held) = ih held.1.0 v (omega (arith, held.1.1)) around (held.1.3 v e.cone (λ q. e.no_self_edge held.0 (sym q)))
