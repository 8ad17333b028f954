-- Nets with latches cut out: what their circuits say of the cut circuits, from which they differ in initial values alone.
use Rattle.std.proofs.Common.{◌≡◌, ℕ, Bool, true, false, not, List, [], map, sym, ◌∙◌, ap, subst, inr}
use Rattle.std.specs.List.{Contains}
use Rattle.circuit_theory.specs.declared.Mode.TheVariants.{Plain}
use Rattle.circuit_theory.specs.Circuit.{Circuit, Latch, Named, IsLatch, Reads, Reaches}
use Rattle.circuit_theory.specs.Depth.{LatchReads, LatchPath, HasCycle, IsDepth}
use Rattle.circuit_theory.specs.Run.{NoneEnabled}
use Rattle.circuit_theory.specs.Asked.{HaveEqualFunctions}
use Rattle.circuit_theory.specs.Tree.{AreNumbered}
use Rattle.circuit_theory.specs.Agree.{cut, IsMinimalCut}
use Rattle.circuit_theory.specs.Fits.{IsWitness}
use Rattle.circuit_theory.specs.Interface.{AreNumbersOf}
use Rattle.circuit_theory.proofs.Lists.{map-map}
use Rattle.circuit_theory.proofs.Numbers.{is_among-complete}
use Rattle.sec_setup.proofs.ports.circuit_laws.Parted.{kept_equation}
use Rattle.sec_setup.proofs.ports.circuit_laws.CutLaws.{kept_test}
use Rattle.sec_setup.proofs.ports.circuit_laws.LawProofs.{numbers_are_shared}
use Rattle.sec_setup.specs.ports.flat_net.View.{NetView, named, circuit_of, ports_of}
use Rattle.sec_setup.specs.ports.flat_net.Cut.{IsCutCircuit}
use Rattle.sec_setup.specs.Cycles.{IsAcyclic}
use Rattle.sec_setup.specs.Cuts.{AreCutAt}
use Rattle.sec_setup.proofs.SameEquations.{AreSame, same_tree, same_cycle, same_depth}

module _ {P : Type 0} (names : List (List ℕ)) (c : Circuit P) where
  -- what the cut circuit reads the circuit reads
  reading_of_cut : {p q : P} → Reads (cut names c) p q → Reads c p q
  reading_of_cut (Reads.by_gate eq h) = Reads.by_gate (kept_equation names c _ eq) h
  reading_of_cut (Reads.by_port eq) = Reads.by_port (kept_equation names c _ eq)

  reach_of_cut : {p u : P} → Reaches (cut names c) p u → Reaches c p u
  reach_of_cut Reaches.here = Reaches.here
  reach_of_cut (Reaches.there reads rest) = Reaches.there (reading_of_cut reads) (reach_of_cut rest)

  -- a latch of the cut circuit has none of the names that are cut out
  name_is_kept : (name : List ℕ) (u next : P) → IsLatch (cut names c) name u next → Contains names name → ⊥
  name_is_kept name u next h k = wrong (ap not (is_among-complete names name k)) (kept_test names c (Latch name u next) h)
    where
      wrong : {b : Bool} → b ≡ false → b ≡ true → ⊥
      wrong p q = cc

  -- a reading of the cut circuit is one of the circuit without these latches
  edge_of_cut : {u v : P} → LatchReads (cut names c) NoneEnabled [] u v → LatchReads c NoneEnabled names u v
  edge_of_cut {u} {v} e = record {
    name = e.name;
    next = e.next;
    latch = kept_equation names c _ e.latch;
    kept = name_is_kept e.name u e.next e.latch;
    other_name = e.other_name;
    other_next = e.other_next;
    other = kept_equation names c _ e.other;
    other_kept = name_is_kept e.other_name v e.other_next e.other;
    cone = (inr (e.other_name, e.other_next, kept_equation names c _ e.other), reach_of_cut e.cone.1);
    no_self_edge = e.no_self_edge;
  }

  path_of_cut : {u v : P} → LatchPath (cut names c) NoneEnabled [] u v → LatchPath c NoneEnabled names u v
  path_of_cut (LatchPath.edge e) = LatchPath.edge (edge_of_cut e)
  path_of_cut (LatchPath.step e rest) = LatchPath.step (edge_of_cut e) (path_of_cut rest)

  -- a cycle of the cut circuit is one of the circuit without these latches
  pub cycle_of_cut : HasCycle (cut names c) NoneEnabled [] → HasCycle c NoneEnabled names
  cycle_of_cut cycle = (cycle.0, path_of_cut cycle.1)

-- the circuit of a cut net has the inputs and equations of the cut circuit
pub same_as_cut : (names : List (List ℕ)) (c d : Circuit ℕ) → IsCutCircuit names c d → AreSame d (cut names c)
same_as_cut names c d is = record { inputs = is.inputs; equations = is.equations }

-- without a minimal cut of latches no cycle is left
pub cut_acyclic : (a b m k : NetView) (names : List (List ℕ)) → IsMinimalCut Plain (circuit_of a) (circuit_of b) names → AreCutAt a b names m k → IsAcyclic m × IsAcyclic k
cut_acyclic a b m k names minimal cuts = (
  λ cycle. minimal.left_free (left_cycle cycle),
  λ cycle. minimal.right_free (right_cycle cycle),
)
  where
    left_cycle : HasCycle (circuit_of m) NoneEnabled [] → HasCycle (circuit_of a) NoneEnabled names
    left_cycle cycle = cycle_of_cut names (circuit_of a) (same_cycle (circuit_of m) (cut names (circuit_of a)) (same_as_cut names (circuit_of a) (circuit_of m) cuts.left_circuit) [] cycle)

    right_cycle : HasCycle (circuit_of k) NoneEnabled [] → HasCycle (circuit_of b) NoneEnabled names
    right_cycle cycle = cycle_of_cut names (circuit_of b) (same_cycle (circuit_of k) (cut names (circuit_of b)) (same_as_cut names (circuit_of b) (circuit_of k) cuts.right_circuit) [] cycle)

module _ (names : List (List ℕ)) (a b c d : Circuit ℕ) (left_is : IsCutCircuit names a c) (right_is : IsCutCircuit names b d) (left right : List ℕ) where
  -- equal functions over the circuits of cut nets are equal functions over the cut circuits
  pub cut_functions : (p q : ℕ) → HaveEqualFunctions c d left right p q → HaveEqualFunctions (cut names a) (cut names b) left right p q
  cut_functions p q e = record {
    left_tree = e.left_tree;
    right_tree = e.right_tree;
    left_unfolds = (e.left_unfolds.0, same_tree c (cut names a) (same_as_cut names a c left_is) e.left_unfolds.1);
    right_unfolds = (e.right_unfolds.0, same_tree d (cut names b) (same_as_cut names b d right_is) e.right_unfolds.1);
    same = e.same;
  }

  -- and so is what stands behind a sequence
  pub cut_witness : (p q count : ℕ) (rows : List (List Bool)) (last : ℕ) (l r : Bool) → IsWitness c d left right p q count rows last l r → IsWitness (cut names a) (cut names b) left right p q count rows last l r
  cut_witness p q count rows last l r w = record {
    left_depth = w.left_depth;
    right_depth = w.right_depth;
    left_tree = w.left_tree;
    right_tree = w.right_tree;
    left_unfolds = same_tree c (cut names a) (same_as_cut names a c left_is) w.left_unfolds;
    right_unfolds = same_tree d (cut names b) (same_as_cut names b d right_is) w.right_unfolds;
    last_is = w.last_is;
    variables = w.variables;
    are_variables = w.are_variables;
    inputs = w.inputs;
    bits = w.bits;
    each = w.each;
    distinguishes = w.distinguishes;
    least = w.least;
    rows_are = w.rows_are;
    left_value = w.left_value;
    right_value = w.right_value;
  }

-- the depth of a place in the circuit of a cut net is its depth in the cut circuit
pub cut_depth : (names : List (List ℕ)) (c d : Circuit ℕ) → IsCutCircuit names c d → (p depth : ℕ) → IsDepth d NoneEnabled p depth → IsDepth (cut names c) NoneEnabled p depth
cut_depth names c d is p depth h = same_depth d (cut names c) (same_as_cut names c d is) p depth h

-- the numbers of a cut net's inputs are those of the cut circuit's
pub cut_numbers : (names columns : List (List ℕ)) (own others : List ℕ) (n m : NetView) → IsCutCircuit names (circuit_of n) (circuit_of m) → AreNumbersOf (ports_of m).inputs columns own others →
    AreNumbersOf (map (λ (i : Named ℕ). i.name) (cut names (circuit_of n)).inputs) columns own others
cut_numbers names columns own others n m is numbers =
    subst (λ (words : List (List ℕ)). AreNumbersOf words columns own others)
    (sym (map-map (λ (i : Named ℕ). i.name) named m.inputs) ∙ ap (map (λ (i : Named ℕ). i.name)) is.inputs) numbers

-- so a number that both cut circuits have is that of one name
pub cut_numbered : (names columns : List (List ℕ)) (left right : List ℕ) (a b m k : NetView) → IsCutCircuit names (circuit_of a) (circuit_of m) → IsCutCircuit names (circuit_of b) (circuit_of k) →
    AreNumbersOf (ports_of m).inputs columns left right → AreNumbersOf (ports_of k).inputs columns right left → AreNumbered (cut names (circuit_of a)) (cut names (circuit_of b)) left right
cut_numbered names columns left right a b m k left_is right_is left_numbers right_numbers =
    numbers_are_shared (cut names (circuit_of a)) (cut names (circuit_of b)) columns left right
    (cut_numbers names columns left right a m left_is left_numbers)
    (cut_numbers names columns right left b k right_is right_numbers)
