-- Cycles and depths depend on nothing but which latches' self-edges are left out.
use Rattle.std.proofs.Common.{◌≡◌, ℕ, Bool, true, false, List, refl, sym, subst, arith, inl, inr}
use Rattle.std.specs.Prelude.{◌⊎◌, slice_get, Some}
use Rattle.signal_graph.specs.flat_net.LatchAt.{LatchAt}
use Rattle.signal_graph.specs.flat_net.View.{NetView, circuit_of}
use Rattle.circuit_theory.specs.Circuit.{Circuit, Latch as latch_equation, IsLatch}
use Rattle.circuit_theory.specs.declared.Mode.{Mode}
use Rattle.circuit_theory.specs.declared.Mode.TheVariants.{Plain}
use Rattle.circuit_theory.specs.Agree.{EnabledIn}
use Rattle.std.proofs.lemmas.Option.{slice_get_within}
use Rattle.signal_graph.proofs.flat_net.Nets.{OfGate, OfLatch, equation_from, some_at}
use Rattle.circuit_theory.specs.Depth.{LatchReads, LatchPath, LatchChain, ChainFrom, HasCycle, IsCycle, IsDepth, HasNoDepth}
use Rattle.signal_graph.specs.Graph.{GraphView, IsGraphOf, IsGraphIn, IsPlainGraphOf, SkippedBy}
use Rattle.signal_graph.specs.inner_cone.latch_cone.Cones.{MarksEnabled}

-- what is left out by the second is left out by the first, where it is a latch
pub record IsLessLeftOut {P : Type 0} (c : Circuit P) (more less : P → Type 0) : Type 0 where
  pub latches : (name : List ℕ) (u next : P) → IsLatch c name u next → less u → more u

module _ {P : Type 0} (c : Circuit P) (more less : P → Type 0) (is : IsLessLeftOut c more less) where
  pub reads_less : {removed : List (List ℕ)} {u v : P} → LatchReads c more removed u v → LatchReads c less removed u v
  reads_less {removed} {u} {v} e = record {
    name = e.name;
    next = e.next;
    latch = e.latch;
    kept = e.kept;
    other_name = e.other_name;
    other_next = e.other_next;
    other = e.other;
    other_kept = e.other_kept;
    cone = e.cone;
    no_self_edge = λ l. e.no_self_edge (is.latches e.name u e.next e.latch l);
  }

  pub path_less : {removed : List (List ℕ)} {u v : P} → LatchPath c more removed u v → LatchPath c less removed u v
  path_less (LatchPath.edge e) = LatchPath.edge (reads_less e)
  path_less (LatchPath.step e rest) = LatchPath.step (reads_less e) (path_less rest)

  pub has_cycle_less : (removed : List (List ℕ)) → HasCycle c more removed → HasCycle c less removed
  has_cycle_less removed cycle = (cycle.0, path_less cycle.1)

  pub cycle_less : (removed : List (List ℕ)) (latches : List P) → IsCycle c more removed latches → IsCycle c less removed latches
  cycle_less removed latches cycle = record { some = cycle.some; distinct = cycle.distinct; edges = λ i u v h k. reads_less (cycle.edges i u v h k) }

  pub chain_less : {u : P} {m : ℕ} → LatchChain c more u m → LatchChain c less u m
  chain_less (LatchChain.last latch) = LatchChain.last latch
  chain_less (LatchChain.more e rest) = LatchChain.more (reads_less e) (chain_less rest)

  pub chain_from_less : {p : P} {m : ℕ} → ChainFrom c more p m → ChainFrom c less p m
  chain_from_less (inl e) = inl e
  chain_from_less (inr x) = inr (x.0, x.1, chain_less x.2)

  pub no_depth_less : (p : P) → HasNoDepth c more p → HasNoDepth c less p
  no_depth_less p endless = λ m. chain_from_less (endless m)

-- where the same latches are left out, the depths are the same
pub same_depth : {P : Type 0} (c : Circuit P) (a b : P → Type 0) → IsLessLeftOut c a b → IsLessLeftOut c b a → (p : P) (d : ℕ) → IsDepth c a p d → IsDepth c b p d
same_depth c a b less more p d depth = record { reached = chain_from_less c a b less depth.reached; greatest = λ m chain. depth.greatest m (chain_from_less c b a more chain) }

-- in a mode the graph leaves out the self-edges of the latches that count as enabled, and no others
pub mode_as_skips : (mode : Mode) (n : NetView) (g : GraphView) → IsGraphIn mode n g → IsLessLeftOut (circuit_of n) (EnabledIn mode (circuit_of n)) (SkippedBy g)
mode_as_skips mode n g is = record { latches = λ name u next latch m. subst (λ z. EnabledIn mode (circuit_of n) z) m.out ((is.skips m.position m.latch (subst (λ (z : List LatchAt). slice_get z m.position ≡ Some m.latch) is.graph.latches m.here)).0 m.bit) }

pub skips_as_mode : (mode : Mode) (n : NetView) (g : GraphView) → IsGraphIn mode n g → IsLessLeftOut (circuit_of n) (SkippedBy g) (EnabledIn mode (circuit_of n))
skips_as_mode mode n g is = record { latches = λ name u next latch m. at name u next m (equation_from n (latch_equation name u next) latch) }
  where
    at : (name : List ℕ) (u next : ℕ) → EnabledIn mode (circuit_of n) u → OfGate n (latch_equation name u next) ⊎ OfLatch n (latch_equation name u next) → SkippedBy g u
    at name u next m (inl x) = absurd (let e = x.is in cc)
    at name u next m (inr x) =
        let out : x.latch.out.0 ≡ u = let e = x.is in cc in
        record {
          position = x.j;
          latch = x.latch;
          here = subst (λ (z : List LatchAt). slice_get z x.j ≡ Some x.latch) (sym is.graph.latches) x.at;
          bit = (is.skips x.j x.latch x.at).1 (subst (λ z. EnabledIn mode (circuit_of n) z) (sym out) m);
          out = out;
        }

-- what the graph says is so in the mode
pub mode_depth : (mode : Mode) (n : NetView) (g : GraphView) → IsGraphIn mode n g → (s d : ℕ) → IsDepth (circuit_of n) (SkippedBy g) s d → IsDepth (circuit_of n) (EnabledIn mode (circuit_of n)) s d
mode_depth mode n g is s d depth = same_depth (circuit_of n) (SkippedBy g) (EnabledIn mode (circuit_of n)) (skips_as_mode mode n g is) (mode_as_skips mode n g is) s d depth

pub mode_no_depth : (mode : Mode) (n : NetView) (g : GraphView) → IsGraphIn mode n g → (s : ℕ) → HasNoDepth (circuit_of n) (SkippedBy g) s → HasNoDepth (circuit_of n) (EnabledIn mode (circuit_of n)) s
mode_no_depth mode n g is s endless = no_depth_less (circuit_of n) (SkippedBy g) (EnabledIn mode (circuit_of n)) (skips_as_mode mode n g is) s endless

pub mode_cycle : (mode : Mode) (n : NetView) (g : GraphView) → IsGraphIn mode n g → (removed : List (List ℕ)) (latches : List ℕ) → IsCycle (circuit_of n) (SkippedBy g) removed latches → IsCycle (circuit_of n) (EnabledIn mode (circuit_of n)) removed latches
mode_cycle mode n g is removed latches cycle = cycle_less (circuit_of n) (SkippedBy g) (EnabledIn mode (circuit_of n)) (skips_as_mode mode n g is) removed latches cycle

pub cycle_in_graph : (mode : Mode) (n : NetView) (g : GraphView) → IsGraphIn mode n g → (removed : List (List ℕ)) → HasCycle (circuit_of n) (EnabledIn mode (circuit_of n)) removed → HasCycle (circuit_of n) (SkippedBy g) removed
cycle_in_graph mode n g is removed cycle = has_cycle_less (circuit_of n) (EnabledIn mode (circuit_of n)) (SkippedBy g) (mode_as_skips mode n g is) removed cycle

-- in plain mode no bit is set
pub plain_graph : (n : NetView) (g : GraphView) → IsGraphIn Plain n g → IsPlainGraphOf n g
plain_graph n g is = record { graph = is.graph; plain = λ j bit h. by j bit h }
  where
    by : (j : ℕ) (bit : Bool) → slice_get g.skipped j ≡ Some bit → bit ≡ false
    by j false h = refl
    by j true h =
        let l = some_at n.latches j (let w = slice_get_within g.skipped j true h in omega (arith, w, is.graph.bits)) in
        absurd ((is.skips j l.0 l.1).0 h)
