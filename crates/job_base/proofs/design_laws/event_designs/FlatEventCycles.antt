-- The latch graph of a flat circuit in the event mode is its design's.
use Rattle.std.proofs.Common.{◌∙◌, ℕ, List, sym, ap, subst, inr}
use Rattle.circuit_theory.specs.Circuit.{Circuit}
use Rattle.circuit_theory.specs.Depth.{LatchReads, LatchPath, HasCycle}
use Rattle.circuit_theory.specs.Run.{IsEnabled}
use Rattle.job_base.proofs.design_laws.FlatCycles.{reaches_along, reaches_down, reaches_up, source_down}
use Rattle.job_base.proofs.design_laws.FlatParts.{FlatDesign, latch_down, latch_stays, latch_up}
use Rattle.job_base.proofs.design_laws.event_designs.FlatEnabled.{enabled_at, enabled_down}

module _ {P : Type 0} {d : Circuit P} {net : Circuit ℕ} {clocked : P → Type 0} (f : FlatDesign d net clocked) (removed : List (List ℕ)) where
  edge_down : {u v : P} → LatchReads d (IsEnabled d) removed u v → LatchReads net (IsEnabled net) removed (f.signal u) (f.signal v)
  edge_down {u} {v} r = record {
    name = r.name;
    next = f.signal r.next;
    latch = latch_down f r.name u r.next r.latch;
    kept = r.kept;
    other_name = r.other_name;
    other_next = f.signal r.other_next;
    other = latch_down f r.other_name v r.other_next r.other;
    other_kept = r.other_kept;
    cone = (source_down f v r.cone.0, reaches_down f r.cone.1);
    no_self_edge = λ on same. r.no_self_edge (enabled_at f r.name u r.next r.latch on) (sym (latch_stays f r.name u r.next r.latch) ∙ ap f.origin same ∙ latch_stays f r.other_name v r.other_next r.other);
  }

  path_down : {u v : P} → LatchPath d (IsEnabled d) removed u v → LatchPath net (IsEnabled net) removed (f.signal u) (f.signal v)
  path_down (LatchPath.edge r) = LatchPath.edge (edge_down r)
  path_down (LatchPath.step r rest) = LatchPath.step (edge_down r) (path_down rest)

  pub cycle_down : HasCycle d (IsEnabled d) removed → HasCycle net (IsEnabled net) removed
  cycle_down h = (f.signal h.0, path_down h.1)

  edge_up : {u v : ℕ} → LatchReads net (IsEnabled net) removed u v → LatchReads d (IsEnabled d) removed (f.origin u) (f.origin v)
  edge_up {u} {v} r =
      let x = latch_up f r.name u r.next r.latch in
      let y = latch_up f r.other_name v r.other_next r.other in
      record {
        name = r.name;
        next = x.takes;
        latch = x.latch;
        kept = r.kept;
        other_name = r.other_name;
        other_next = y.takes;
        other = y.latch;
        other_kept = r.other_kept;
        cone = (inr (r.other_name, y.takes, y.latch), reaches_along f x.follows (reaches_up f r.cone.1));
        no_self_edge = λ on same. r.no_self_edge (subst (IsEnabled net) x.signal (enabled_down f (f.origin u) on)) (sym x.signal ∙ ap f.signal same ∙ y.signal);
      }

  path_up : {u v : ℕ} → LatchPath net (IsEnabled net) removed u v → LatchPath d (IsEnabled d) removed (f.origin u) (f.origin v)
  path_up (LatchPath.edge r) = LatchPath.edge (edge_up r)
  path_up (LatchPath.step r rest) = LatchPath.step (edge_up r) (path_up rest)

  pub cycle_up : HasCycle net (IsEnabled net) removed → HasCycle d (IsEnabled d) removed
  cycle_up h = (f.origin h.0, path_up h.1)
