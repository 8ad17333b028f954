-- The cycle that is told, by the names of its latches.
use Rattle.std.proofs.Common.{◌≡◌, ℕ, zero, suc, ◌+◌, ◌-◌, ◌<◌, Bool, true, false, List, [], ◌∷◌, length, refl, sym, ◌∙◌, ap, subst, arith, add-one, Some, slice_get}
use Rattle.std.specs.List.{All, AllZip}
use Rattle.std.proofs.lemmas.List.Elements.{All-head, All-tail}
use Rattle.std.proofs.lemmas.Bool.Decides.{nat_tests}
use Rattle.std.proofs.lemmas.Option.{slice_get-get_or, slice_get_within}
use Rattle.circuit_theory.specs.declared.Mode.{Mode}
use Rattle.circuit_theory.specs.Agree.{EnabledIn}
use Rattle.circuit_theory.specs.Circuit.{Circuit, IsLatch}
use Rattle.circuit_theory.specs.Depth.{LatchReads, LatchPath, IsCycle, BeginsWithLeast, HasCycle, after_in_round}
use Rattle.sec_setup.specs.ports.flat_net.LatchAt.{LatchAt}
use Rattle.sec_setup.specs.ports.flat_net.View.{NetView, circuit_of}
use Rattle.sec_setup.specs.ports.flat_net.Cut.{no_latch, latch_at, exposed_names}
use Rattle.sec_setup.proofs.ports.flat_net.Nets.{latch_stands, some_at}
use Rattle.latch_graph.specs.Graph.{GraphView, IsGraphIn, SkippedBy, marked_names, signals_at}
use Rattle.latch_graph.proofs.Skipping.{mode_cycle, cycle_in_graph}
use Rattle.sec_setup.specs.Cycles.{IsAcyclicIn}
use Rattle.sec_setup.specs.cut_points.Exposed.{IsToldCycle}
use Rattle.sec_setup.proofs.ports.Shared.{some_is}

no_true : true ≡ false → ⊥
no_true e = cc

-- no name is marked where no bit is set
pub marked_names-none : (latches : List LatchAt) (bits : List Bool) → All (λ bit. bit ≡ false) bits → marked_names latches bits ≡ []
marked_names-none [] bits none = refl
marked_names-none (l ∷ ls) [] none = refl
marked_names-none (l ∷ ls) (true ∷ bits) none = absurd (no_true (All-head (λ bit. bit ≡ false) true bits none))
marked_names-none (l ∷ ls) (false ∷ bits) none = marked_names-none ls bits (All-tail (λ bit. bit ≡ false) false bits none)

-- the names of latches beside their signals
names_beside : (n : NetView) (positions : List ℕ) → All (λ j. j < length n.latches) positions →
    AllZip (λ name u. (next : ℕ) × IsLatch (circuit_of n) name u next) (exposed_names n positions) (signals_at n.latches positions)
names_beside n [] within = tt
names_beside n (j ∷ js) within = (
  ((latch_at n j).next.0, latch_stands n j (latch_at n j) (slice_get-get_or n.latches j no_latch (All-head (λ i. i < length n.latches) j js within))),
  names_beside n js (All-tail (λ i. i < length n.latches) j js within),
)

-- no cycle is left where none is left without any latch
pub acyclic_graph : (mode : Mode) (n : NetView) (g : GraphView) (bits : List Bool) → IsGraphIn mode n g → All (λ bit. bit ≡ false) bits → (HasCycle (circuit_of n) (SkippedBy g) (marked_names g.latches bits) → ⊥) → IsAcyclicIn mode n
acyclic_graph mode n g bits is none free cycle = free (subst (HasCycle (circuit_of n) (SkippedBy g)) (sym (marked_names-none g.latches bits none)) (cycle_in_graph mode n g is [] cycle))

-- the cycle that is told
pub told_cycle : (mode : Mode) (n : NetView) (g : GraphView) (bits : List Bool) (positions : List ℕ) → IsGraphIn mode n g → All (λ bit. bit ≡ false) bits → All (λ j. j < length g.latches) positions →
    IsCycle (circuit_of n) (SkippedBy g) (marked_names g.latches bits) (signals_at g.latches positions) → BeginsWithLeast (circuit_of n) (signals_at g.latches positions) →
    IsToldCycle mode n [] (exposed_names n positions)
told_cycle mode n g bits positions is none within cycle least = record {
  latches = signals_at n.latches positions;
  cycle = subst (λ (ls : List LatchAt). IsCycle (circuit_of n) (EnabledIn mode (circuit_of n)) [] (signals_at ls positions)) is.graph.latches
      (subst (λ (names : List (List ℕ)). IsCycle (circuit_of n) (EnabledIn mode (circuit_of n)) names (signals_at g.latches positions)) (marked_names-none g.latches bits none)
      (mode_cycle mode n g is (marked_names g.latches bits) (signals_at g.latches positions) cycle));
  least = subst (λ (ls : List LatchAt). BeginsWithLeast (circuit_of n) (signals_at ls positions)) is.graph.latches least;
  named = names_beside n positions (subst (λ (ls : List LatchAt). All (λ j. j < length ls) positions) is.graph.latches within);
}

-- a cycle as a list is a way from a latch back to itself
module _ {P : Type 0} (c : Circuit P) (enabled : P → Type 0) (removed : List (List ℕ)) (latches : List P) (cycle : IsCycle c enabled removed latches) (first : P) (here : slice_get latches 0 ≡ Some first) where
  next_place : (n i : ℕ) → i + 1 < n → after_in_round n i ≡ i + 1
  next_place n i h = grind (arith, nat_tests)

  last_place : (n i : ℕ) → i + 1 ≡ n → after_in_round n i ≡ 0
  last_place n i h = grind (arith, nat_tests)

  -- from a later latch back to the first
  back : (i : ℕ) (u : P) → slice_get latches (suc i) ≡ Some u → LatchPath c enabled removed u first
  back i u at = go i (slice_get_within latches (suc i) u at) u at
    where
      reads : (i : ℕ) (u v : P) → i + 1 < length latches → slice_get latches i ≡ Some u → slice_get latches (suc i) ≡ Some v → LatchReads c enabled removed v u
      reads i u v within hu hv =
          cycle.edges i u v hu (ap (slice_get latches) (next_place (length latches) i within ∙ add-one i) ∙ hv)

      go : (i : ℕ) → suc i < length latches → (u : P) → slice_get latches (suc i) ≡ Some u → LatchPath c enabled removed u first
      go zero within u at = LatchPath.edge (reads 0 first u (omega arith) here at)
      go (suc i) within u at =
          let before = some_at latches (suc i) (omega arith) in
          LatchPath.step (reads (suc i) before.0 u (omega arith) before.1 at) (go i (omega arith) before.0 before.1)

  round : HasCycle c enabled removed
  round =
      let last = some_at latches (length latches - 1) (omega (arith, cycle.some)) in
      let closes : LatchReads c enabled removed first last.0 =
      cycle.edges (length latches - 1) last.0 first last.1 (ap (slice_get latches) (last_place (length latches) (length latches - 1) (omega (arith, cycle.some))) ∙ here) in
      (first, go (length latches - 1) refl last.0 last.1 closes)
    where
      go : (i : ℕ) → length latches - 1 ≡ i → (last : P) → slice_get latches (length latches - 1) ≡ Some last → LatchReads c enabled removed first last → LatchPath c enabled removed first first
      go zero e last at closes = LatchPath.edge (subst (λ (u : P). LatchReads c enabled removed first u) (one last (ap (slice_get latches) (sym e) ∙ at)) closes)
        where
          one : (last : P) → slice_get latches 0 ≡ Some last → last ≡ first
          one last at = some_is (sym at ∙ here)
      go (suc i) e last at closes = LatchPath.step closes (back i last (ap (slice_get latches) (sym e) ∙ at))
