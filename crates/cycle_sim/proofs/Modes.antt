-- The marks of a mode.
use Rattle.std.proofs.Common.{◌≡◌, ◌↔◌, ℕ, Bool, List, sym, ap, subst, inl, inr, ◌⊎◌}
use Rattle.circuit_theory.specs.Circuit.{Latch as latch_equation, IsLatch, out_of}
use Rattle.circuit_theory.specs.Run.{Marked}
use Rattle.circuit_theory.specs.Agree.{EnabledIn}
use Rattle.circuit_theory.specs.declared.Mode.{Mode}
use Rattle.flat_net.specs.View.{NetView, circuit_of}
use Rattle.flat_net.proofs.Nets.{OfGate, OfLatch, equation_from}
use Rattle.signal_graph.specs.inner_cone.latch_cone.Cones.{IsMarkedBy, MarksEnabled}
use Rattle.cycle_sim.proofs.Turned.{marked_same}

-- the bits mark a latch exactly where it counts as enabled
marked_enabled : (n : NetView) (mode : Mode) (enabled : List Bool) → MarksEnabled mode n enabled → (name : List ℕ) (u next : ℕ) → IsLatch (circuit_of n) name u next → IsMarkedBy n.latches enabled u ↔ EnabledIn mode (circuit_of n) u
marked_enabled n mode enabled marks name u next latch = (
  λ m. subst (EnabledIn mode (circuit_of n)) m.out ((marks m.position m.latch m.here).0 m.bit),
  λ e. back e (equation_from n (latch_equation name u next) latch),
)
  where
    back : EnabledIn mode (circuit_of n) u → OfGate n (latch_equation name u next) ⊎ OfLatch n (latch_equation name u next) → IsMarkedBy n.latches enabled u
    back e (inl g) = absurd (let q = g.is in cc)
    back e (inr l) =
        let out : l.latch.out.0 ≡ u = ap out_of l.is in
        record { position = l.j; latch = l.latch; here = l.at; bit = (marks l.j l.latch l.at).1 (subst (EnabledIn mode (circuit_of n)) (sym out) e); out = out }

-- where the bits mark the enabled latches of a mode, the marks are those of the mode
pub marks_in_mode : (n : NetView) (mode : Mode) (enabled : List Bool) → MarksEnabled mode n enabled → (run : ℕ → ℕ → Bool) (t p : ℕ) →
    Marked (circuit_of n) (IsMarkedBy n.latches enabled) run t p ↔ Marked (circuit_of n) (EnabledIn mode (circuit_of n)) run t p
marks_in_mode n mode enabled marks run t p = (
  λ m. marked_same (circuit_of n) (IsMarkedBy n.latches enabled) (EnabledIn mode (circuit_of n)) (marked_enabled n mode enabled marks) run m,
  λ m. marked_same (circuit_of n) (EnabledIn mode (circuit_of n)) (IsMarkedBy n.latches enabled) (λ name u next latch. let x = marked_enabled n mode enabled marks name u next latch in (x.1, x.0)) run m,
)
