-- Circuits with the same inputs and equations have the same enabled latches, and the same cycles where self-edges of these don't count.
use Rattle.std.proofs.Common.{Bool, true, false, List, [], sym, subst}
use Rattle.std.specs.List.{All}
use Rattle.circuit_theory.specs.Circuit.{Circuit, Equation, Holds}
use Rattle.circuit_theory.specs.Depth.{LatchReads, LatchPath, HasCycle}
use Rattle.circuit_theory.specs.Run.{ExtendsWith, IsEnabled}
use Rattle.sec_setup.proofs.SameEquations.{AreSame, turned, same_equation, same_source, same_reach}

module _ {P : Type 0} (c d : Circuit P) (same : AreSame c d) where
  extends_back : (u : P) (bit : Bool) (x v : P → Bool) → ExtendsWith d u bit x v → ExtendsWith c u bit x v
  extends_back u bit x v ex = record {
    meets = subst (λ (es : List (Equation P)). All (Holds v) es) (sym same.equations) ex.meets;
    sources = λ p s apart. ex.sources p (same_source c d same p s) apart;
    put = ex.put;
  }

  -- an enabled latch of the one is enabled in the other
  pub same_enabled : (u : P) → IsEnabled c u → IsEnabled d u
  same_enabled u en = record {
    name = en.name;
    next = en.next;
    latch = same_equation c d same _ en.latch;
    self_edge = (same_source c d same u en.self_edge.0, same_reach c d same en.self_edge.1);
    rises = λ x low high l h e. en.rises x low high (extends_back u false x low l) (extends_back u true x high h) e;
  }

module _ {P : Type 0} (c d : Circuit P) (same : AreSame c d) where
  same_reads : {u v : P} → LatchReads c (IsEnabled c) [] u v → LatchReads d (IsEnabled d) [] u v
  same_reads {u} {v} e = record {
    name = e.name;
    next = e.next;
    latch = same_equation c d same _ e.latch;
    kept = e.kept;
    other_name = e.other_name;
    other_next = e.other_next;
    other = same_equation c d same _ e.other;
    other_kept = e.other_kept;
    cone = (same_source c d same v e.cone.0, same_reach c d same e.cone.1);
    no_self_edge = λ en. e.no_self_edge (same_enabled d c (turned c d same) u en);
  }

  same_path : {u v : P} → LatchPath c (IsEnabled c) [] u v → LatchPath d (IsEnabled d) [] u v
  same_path (LatchPath.edge e) = LatchPath.edge (same_reads e)
  same_path (LatchPath.step e rest) = LatchPath.step (same_reads e) (same_path rest)

  -- a cycle of the one is a cycle of the other
  pub same_cycle : HasCycle c (IsEnabled c) [] → HasCycle d (IsEnabled d) []
  same_cycle cycle = (cycle.0, same_path cycle.1)
