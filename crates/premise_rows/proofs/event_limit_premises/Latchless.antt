-- Sides without a latch: the root is the one event node, and nothing has a depth or a class.
use Rattle.std.proofs.Common.{◌≡◌, ℕ, ◌≤◌, List, [], ◌∷◌, length, refl, subst, arith, inl, inr}
use Rattle.std.specs.Prelude.{◌⊎◌}
use Rattle.std.specs.List.{Contains}
use Rattle.circuit_theory.specs.Circuit.{Circuit, IsLatch}
use Rattle.circuit_theory.specs.Classes.{HasClasses}
use Rattle.circuit_theory.specs.Depth.{ChainFrom, IsDepth, LatchChain}
use Rattle.circuit_theory.specs.EventFits.{ReachesAlways}
use Rattle.circuit_theory.specs.EventFrames.{IsEventSize}
use Rattle.circuit_theory.specs.Frame.{EventSide, ConeLatches, IsNode, ReachedAt}
use Rattle.circuit_theory.specs.Run.{IsEnabled}
use Rattle.circuit_theory.proofs.Lists.{Contains-head, only}
use Rattle.premise_rows.proofs.event_outcome_samples.Nets.{nothing}
use Rattle.premise_rows.proofs.event_outcome_samples.Sides.{no_split}

module _ {P : Type 0} (c : Circuit P) (none : (name : List ℕ) (u next : P) → IsLatch c name u next → ⊥) where
  pub no_depth : (enabled : P → Type 0) (p : P) → IsDepth c enabled p 0
  no_depth enabled p = record { reached = inl refl; greatest = greatest }
    where
      chain : {u : P} {n : ℕ} → LatchChain c enabled u n → ⊥
      chain {u = u} (LatchChain.last {next = next} {name = name} latch) = none name u next latch
      chain {u = u} (LatchChain.more e rest) = none e.name u e.next e.latch

      greatest : (n : ℕ) → ChainFrom c enabled p n → n ≤ 0
      greatest n (inl e) = omega (arith, e)
      greatest n (inr x) = absurd (chain x.2)

module _ {P : Type 0} (s : EventSide P) (none : (name : List ℕ) (u next : P) → IsLatch s.circuit name u next → ⊥) where
  abbrev On : P → Type 0
  On = IsEnabled s.circuit

  no_cone : (p v : P) → ConeLatches s.circuit p v → ⊥
  no_cone p v h = none h.0 v h.1 h.2

  unreached : (start : P → Type 0) → ((v : P) → start v → ⊥) → (node : List ℕ) (v : P) → ReachedAt s On start node v → ⊥
  unreached start empty [] v h = empty v h
  unreached start empty (k ∷ node) v h = unreached start empty node h.0 h.1

  pub always : (p : P) → ReachesAlways s p
  always p node u h = absurd (unreached (ConeLatches s.circuit p) (no_cone p) node u h)

  pub size : (p q : P) → IsEventSize s p q 1
  size p q = record { nodes = [] ∷ []; distinct = λ i j d l h. absurd (omega (arith, l, h)); exactly = λ node. ((λ h. subst (IsNode s On Begun) (only [] node h) tt), root node); number = refl }
    where
      Begun : P → Type 0
      Begun v = ConeLatches s.circuit p v ⊎ ConeLatches s.circuit q v

      empty : (v : P) → Begun v → ⊥
      empty v (inl h) = no_cone p v h
      empty v (inr h) = no_cone q v h

      root : (node : List ℕ) → IsNode s On Begun node → Contains ([] ∷ []) node
      root [] h = Contains-head [] []
      root (k ∷ node) h = absurd (unreached Begun empty node h.0 h.1)

  abbrev pub no_classes : length s.order ≡ length s.circuit.inputs → HasClasses s
  no_classes numbered = record {
    numbered = numbered;
    order = [];
    is_order = record { all = λ u on. absurd (none on.name u on.next on.latch); enabled = λ u h. absurd (nothing u h); in_order = λ i j d l h. absurd (omega (arith, h)) };
    is_map = record { plain = λ name u next latch off. absurd (none name u next latch); each = λ before after v e. absurd (no_split before after v e) };
  }
