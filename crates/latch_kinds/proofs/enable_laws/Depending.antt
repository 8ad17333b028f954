-- Two ways of saying which latches are enabled, that say the same.
use Rattle.std.proofs.Common.{◌≡◌, ℕ, Bool, List, sym, subst, inl, inr}
use Rattle.std.specs.Prelude.{◌⊎◌, ◌↔◌}
use Rattle.circuit_theory.specs.Agree.{EnabledIn}
use Rattle.circuit_theory.specs.Circuit.{Circuit, Latch as latch_equation}
use Rattle.circuit_theory.specs.Depth.{HasCycle, IsCycle, IsDepth, HasNoDepth}
use Rattle.circuit_theory.specs.Run.{Marked}
use Rattle.flat_net.specs.View.{circuit_of}
use Rattle.flat_net.proofs.Nets.{OfGate, OfLatch, equation_from}
use Rattle.signal_graph.specs.inner_cone.latch_cone.Cones.{IsMarkedBy}
use Rattle.latch_graph.proofs.Skipping.{IsLessLeftOut, has_cycle_less, cycle_less, no_depth_less, same_depth, mode_as_skips, skips_as_mode}
use Rattle.latch_kinds.specs.enable_laws.Enabled.{Enabling, Counts, CountTheSame}
use Rattle.latch_kinds.specs.enable_laws.Laws.{DepthsDependOnEnabled, CyclesDependOnEnabled, MarksDependOnEnabled, GraphsCountTheirLatches, BitsCountTheirLatches}
use Rattle.latch_kinds.proofs.enable_laws.Marking.{mark}

module _ (c : Circuit ℕ) (one other : Enabling) (same : CountTheSame c one other) where
  forth : IsLessLeftOut c (Counts one c) (Counts other c)
  forth = record { latches = λ name u next h. (same name u next h).1 }

  back : IsLessLeftOut c (Counts other c) (Counts one c)
  back = record { latches = λ name u next h. (same name u next h).0 }

  pub depths : (p : ℕ) → ((d : ℕ) → IsDepth c (Counts one c) p d ↔ IsDepth c (Counts other c) p d) × (HasNoDepth c (Counts one c) p ↔ HasNoDepth c (Counts other c) p)
  depths p = (
    λ d. (same_depth c (Counts one c) (Counts other c) forth back p d, same_depth c (Counts other c) (Counts one c) back forth p d),
    (no_depth_less c (Counts one c) (Counts other c) forth p, no_depth_less c (Counts other c) (Counts one c) back p),
  )

  pub cycles : (removed : List (List ℕ)) → (HasCycle c (Counts one c) removed ↔ HasCycle c (Counts other c) removed) × ((latches : List ℕ) → IsCycle c (Counts one c) removed latches ↔ IsCycle c (Counts other c) removed latches)
  cycles removed = (
    (has_cycle_less c (Counts one c) (Counts other c) forth removed, has_cycle_less c (Counts other c) (Counts one c) back removed),
    λ latches. (cycle_less c (Counts one c) (Counts other c) forth removed latches, cycle_less c (Counts other c) (Counts one c) back removed latches),
  )

  pub marks : (run : ℕ → ℕ → Bool) (t p : ℕ) → Marked c (Counts one c) run t p ↔ Marked c (Counts other c) run t p
  marks run t p = (
    mark c (Counts one c) (Counts other c) same run,
    mark c (Counts other c) (Counts one c) (λ name u next h. ((same name u next h).1, (same name u next h).0)) run,
  )

pub depths_depend : DepthsDependOnEnabled
depths_depend c one other same p = depths c one other same p

pub cycles_depend : CyclesDependOnEnabled
cycles_depend c one other same removed = cycles c one other same removed

pub marks_depend : MarksDependOnEnabled
marks_depend c one other same run t p = marks c one other same run t p

pub graphs_count : GraphsCountTheirLatches
graphs_count mode n g is = λ name u next h. ((skips_as_mode mode n g is).latches name u next h, (mode_as_skips mode n g is).latches name u next h)

pub bits_count : BitsCountTheirLatches
bits_count mode n bits marks = λ name u next h. (there name u next (equation_from n (latch_equation name u next) h), λ m. subst (λ z. EnabledIn mode (circuit_of n) z) m.out ((marks m.position m.latch m.here).0 m.bit))
  where
    there : (name : List ℕ) (u next : ℕ) → OfGate n (latch_equation name u next) ⊎ OfLatch n (latch_equation name u next) → EnabledIn mode (circuit_of n) u → IsMarkedBy n.latches bits u
    there name u next (inl x) e = absurd (let is = x.is in cc)
    there name u next (inr x) e =
        let out : x.latch.out.0 ≡ u = let is = x.is in cc in
        record { position = x.j; latch = x.latch; here = x.at; bit = (marks x.j x.latch x.at).1 (subst (λ z. EnabledIn mode (circuit_of n) z) (sym out) e); out = out }
