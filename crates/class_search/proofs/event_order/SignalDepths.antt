-- Where each latch has a depth, so has each signal.
use Rattle.std.proofs.Common.{◌≡◌, ℕ, zero, suc, ◌+◌, ◌<◌, ◌≤◌, List, [], ◌∷◌, ◌++◌, length, get_or, sym, subst, arith, inl, inr}
use Rattle.std.specs.Prelude.{◌⊎◌, slice_index_or}
use Rattle.std.proofs.lemmas.Bool.{cases_lt}
use Rattle.std.proofs.lemmas.Option.{get_or_from_slice_get, slice_get-get_or}
use Rattle.circuit_theory.specs.declared.Mode.TheVariants.{Event}
use Rattle.circuit_theory.specs.Circuit.{Circuit, IsLatch, Reaches}
use Rattle.circuit_theory.specs.Depth.{LatchPath, LatchChain, IsDepth, HasCycle, HasNoDepth, LatchesHaveDepths}
use Rattle.circuit_theory.specs.Run.{IsEnabled}
use Rattle.flat_net.specs.View.{NetView, circuit_of}
use Rattle.flat_net.proofs.Growth.{length-push, slice_get-append, slice_get-push}
use Rattle.flat_net.proofs.Nets.{sound_is_net}
use Rattle.latch_graph.specs.signal_graph.Graph.{GraphView, IsGraphIn, IsGraphOf, SkippedBy}
use Rattle.latch_graph.proofs.NoDepth.{no_depth_cycle}
use Rattle.latch_graph.proofs.Skipping.{mode_no_depth}
use Rattle.event_nodes.specs.Depths.{AreDepths}

module _ {P : Type 0} (c : Circuit P) (on : P → Type 0) where
  -- a way to a latch makes its chains longer
  longer : {u v : P} → LatchPath c on [] u v → (k : ℕ) → LatchChain c on v k → (m : ℕ) × (suc k ≤ m) × LatchChain c on u m
  longer (LatchPath.edge read) k chain = (suc k, omega arith, LatchChain.more read chain)
  longer (LatchPath.step read rest) k chain = let z = longer rest k chain in (suc z.0, omega (arith, z.1), LatchChain.more read z.2)

  begins : {u v : P} → LatchPath c on [] u v → (name : List ℕ) × (next : P) × IsLatch c name u next
  begins (LatchPath.edge read) = (read.name, read.next, read.latch)
  begins (LatchPath.step read rest) = (read.name, read.next, read.latch)

  rounds : (u : P) → LatchPath c on [] u u → (n : ℕ) → (m : ℕ) × (n ≤ m) × LatchChain c on u m
  rounds u path zero = (1, omega arith, LatchChain.last (begins path).2)
  rounds u path (suc n) = let k = rounds u path n in let z = longer path k.0 k.2 in (z.0, omega (arith, k.1, z.1), z.2)

  no_cycle : LatchesHaveDepths c on → HasCycle c on [] → ⊥
  no_cycle depths (u, path) =
      let is = begins path in
      let d = depths is.0 u is.1 is.2 in
      let k = rounds u path (suc d.0) in
      let most = d.1.greatest k.0 (inr (u, (inr is, Reaches.here), k.2)) in
      omega (arith, most, k.1)

pub has_depth : (n : NetView) (g : GraphView) → IsGraphIn Event n g → LatchesHaveDepths (circuit_of n) (IsEnabled (circuit_of n)) → (s : ℕ) → ((m : NetView) → IsGraphOf m g → HasNoDepth (circuit_of m) (SkippedBy g) s) → ⊥
has_depth n g is depths s endless =
    no_cycle (circuit_of n) (IsEnabled (circuit_of n)) depths
    (no_depth_cycle (circuit_of n) (IsEnabled (circuit_of n)) (length n.drivers) (sound_is_net n is.graph.sound) s (mode_no_depth Event n g is s (endless n is.graph)))

-- the first signals have these depths
pub record AreDepthsTo (n : NetView) (count : ℕ) (depths : List ℕ) : Type 0 where
  pub each : length depths ≡ count
  pub are : (s : ℕ) → s < count → IsDepth (circuit_of n) (IsEnabled (circuit_of n)) s (slice_index_or depths s 0)

pub one_depth_more : (n : NetView) (count d : ℕ) (depths new : List ℕ) → AreDepthsTo n count depths → IsDepth (circuit_of n) (IsEnabled (circuit_of n)) count d → new ≡ depths ++ d ∷ [] → AreDepthsTo n (count + 1) new
one_depth_more n count d depths new so is pushed = subst (AreDepthsTo n (count + 1)) (sym pushed) (record { each = omega (arith, length-push depths d, so.each); are = λ s below. go s below (cases_lt s count) })
  where
    go : (s : ℕ) → s < count + 1 → (s < count) ⊎ (count ≤ s) → IsDepth (circuit_of n) (IsEnabled (circuit_of n)) s (slice_index_or (depths ++ d ∷ []) s 0)
    go s below (inl early) =
        let inside : s < length depths = omega (arith, early, so.each) in
        subst (IsDepth (circuit_of n) (IsEnabled (circuit_of n)) s) (sym (get_or_from_slice_get (depths ++ d ∷ []) s (get_or depths s 0) 0 (slice_get-append depths (d ∷ []) s (get_or depths s 0) (slice_get-get_or depths s 0 inside)))) (so.are s early)
    go s below (inr late) =
        let last : s ≡ length depths = omega (arith, below, late, so.each) in
        let same : count ≡ s = omega (arith, below, late) in
        subst (IsDepth (circuit_of n) (IsEnabled (circuit_of n)) s) (sym (get_or_from_slice_get (depths ++ d ∷ []) s d 0 (slice_get-push depths d s last))) (subst (λ (k : ℕ). IsDepth (circuit_of n) (IsEnabled (circuit_of n)) k d) same is)

pub depths_to_all : (n : NetView) (count : ℕ) (depths : List ℕ) → length n.drivers ≤ count → AreDepthsTo n count depths → AreDepths n depths
depths_to_all n count depths whole so s inside = so.are s (omega (arith, inside, whole))
