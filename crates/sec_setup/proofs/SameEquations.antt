-- Circuits with the same inputs and equations have the same trees, runs, marks, depths and cycles, whatever their initial values
-- and outputs.
use Rattle.std.proofs.Common.{◌≡◌, ℕ, ◌+◌, Bool, List, sym, subst, inl, inr}
use Rattle.std.specs.List.{All, Contains}
use Rattle.circuit_theory.specs.Circuit.{Circuit, Equation, Named, IsSource, Reads, Reaches, Holds, Carries}
use Rattle.circuit_theory.specs.Depth.{LatchReads, LatchPath, HasCycle, LatchChain, ChainFrom, IsDepth}
use Rattle.circuit_theory.specs.Run.{IsRun, Marked, NoneEnabled}
use Rattle.circuit_theory.specs.Tree.{Tree, Trees, StandsBeside, IsInputNumber, Unfolds, UnfoldsAll}

-- the inputs and the equations are the same
pub record AreSame {P : Type 0} (c d : Circuit P) : Type 0 where
  pub inputs : c.inputs ≡ d.inputs
  pub equations : c.equations ≡ d.equations

-- and the other way round
pub turned : {P : Type 0} (c d : Circuit P) → AreSame c d → AreSame d c
turned c d same = record { inputs = sym same.inputs; equations = sym same.equations }

module _ {P : Type 0} (c d : Circuit P) (same : AreSame c d) where
  -- an equation of the one is the other's
  pub same_equation : (e : Equation P) → Contains c.equations e → Contains d.equations e
  same_equation e h = subst (λ (es : List (Equation P)). Contains es e) same.equations h

  -- an input of the one is the other's
  pub same_input : (i : Named P) → Contains c.inputs i → Contains d.inputs i
  same_input i h = subst (λ (is : List (Named P)). Contains is i) same.inputs h

  -- an input has its number in both
  pub same_number : (order : List ℕ) (p : P) (i : ℕ) → IsInputNumber c order p i → IsInputNumber d order p i
  same_number order p i h = subst (λ (is : List (Named P)). StandsBeside is order p i) same.inputs h

  mutual
    -- a place has its tree in both
    pub same_tree : {order : List ℕ} {p : P} {k depth : ℕ} {tree : Tree ℕ} → Unfolds c order p k depth tree → Unfolds d order p k depth tree
    same_tree {order} {p} (Unfolds.input {i = i} h) = Unfolds.input (same_number order p i h)
    same_tree (Unfolds.gate eq each) = Unfolds.gate (same_equation _ eq) (same_trees each)
    same_tree (Unfolds.port eq rest) = Unfolds.port (same_equation _ eq) (same_tree rest)
    same_tree (Unfolds.latch eq rest) = Unfolds.latch (same_equation _ eq) (same_tree rest)

    -- the same of each fan-in
    pub same_trees : {order : List ℕ} {ps : List P} {k depth : ℕ} {trees : Trees ℕ} → UnfoldsAll c order ps k depth trees → UnfoldsAll d order ps k depth trees
    same_trees UnfoldsAll.none = UnfoldsAll.none
    same_trees (UnfoldsAll.more one rest) = UnfoldsAll.more (same_tree one) (same_trees rest)

  -- a run of the one is a run of the other
  pub same_run : (n : ℕ) (run : ℕ → P → Bool) → IsRun c n run → IsRun d n run
  same_run n run is_run = record {
    meets = λ t h. subst (λ (es : List (Equation P)). All (Holds (run t)) es) same.equations (is_run.meets t h);
    carries = λ t h. subst (λ (es : List (Equation P)). All (Carries (run t) (run (t + 1))) es) same.equations (is_run.carries t h);
  }

  -- what is reached in the one is reached in the other
  pub same_reading : {p q : P} → Reads c p q → Reads d p q
  same_reading (Reads.by_gate eq h) = Reads.by_gate (same_equation _ eq) h
  same_reading (Reads.by_port eq) = Reads.by_port (same_equation _ eq)

  pub same_reach : {p u : P} → Reaches c p u → Reaches d p u
  same_reach Reaches.here = Reaches.here
  same_reach (Reaches.there reads rest) = Reaches.there (same_reading reads) (same_reach rest)

  pub same_source : (p : P) → IsSource c p → IsSource d p
  same_source p (inl i) = inl (i.0, same_input _ i.1)
  same_source p (inr l) = inr (l.0, l.1, same_equation _ l.2)

  -- a latch that reads another does so in both
  pub same_edge : {removed : List (List ℕ)} {u v : P} → LatchReads c NoneEnabled removed u v → LatchReads d NoneEnabled removed u v
  same_edge {removed} {u} {v} e = record {
    name = e.name;
    next = e.next;
    latch = same_equation _ e.latch;
    kept = e.kept;
    other_name = e.other_name;
    other_next = e.other_next;
    other = same_equation _ e.other;
    other_kept = e.other_kept;
    cone = (same_source v e.cone.0, same_reach e.cone.1);
    no_self_edge = e.no_self_edge;
  }

  pub same_path : {removed : List (List ℕ)} {u v : P} → LatchPath c NoneEnabled removed u v → LatchPath d NoneEnabled removed u v
  same_path (LatchPath.edge e) = LatchPath.edge (same_edge e)
  same_path (LatchPath.step e rest) = LatchPath.step (same_edge e) (same_path rest)

  -- a cycle of the one is a cycle of the other
  pub same_cycle : (removed : List (List ℕ)) → HasCycle c NoneEnabled removed → HasCycle d NoneEnabled removed
  same_cycle removed cycle = (cycle.0, same_path cycle.1)

  pub same_chain : {u : P} {n : ℕ} → LatchChain c NoneEnabled u n → LatchChain d NoneEnabled u n
  same_chain (LatchChain.last eq) = LatchChain.last (same_equation _ eq)
  same_chain (LatchChain.more e rest) = LatchChain.more (same_edge e) (same_chain rest)

  pub same_chain_from : (p : P) (n : ℕ) → ChainFrom c NoneEnabled p n → ChainFrom d NoneEnabled p n
  same_chain_from p n (inl e) = inl e
  same_chain_from p n (inr x) = inr (x.0, (same_source x.0 x.1.0, same_reach x.1.1), same_chain x.2)

-- a place has one depth in both
pub same_depth : {P : Type 0} (c d : Circuit P) → AreSame c d → (p : P) (depth : ℕ) → IsDepth c NoneEnabled p depth → IsDepth d NoneEnabled p depth
same_depth c d same p depth is = record {
  reached = same_chain_from c d same p depth is.reached;
  greatest = λ n chain. is.greatest n (same_chain_from d c (turned c d same) p n chain);
}
