-- A walk begins at the root.
use Rattle.std.proofs.Common.{◌≡◌, ◌∙◌, ℕ, List, [], ◌∷◌, slice_get, Option, Some, refl, sym, ap, subst, arith, inl}
use Rattle.circuit_theory.proofs.Lists.{Contains-head}
use Rattle.circuit_theory.specs.EventSizes.{Start, EventVisits}
use Rattle.event_nodes.specs.Nodes.{path_of}
use Rattle.event_nodes.specs.View.{EventCircuitView, side_of, Enabled}
use Rattle.event_nodes.proofs.Paths.{path_grows}
use Rattle.edbf_unfold.specs.declared.event_literals.event_walk.frames.Frame.{Frame}
use Rattle.edbf_unfold.specs.declared.event_literals.event_walk.frames.Put.{Put}
use Rattle.edbf_unfold.specs.declared.event_literals.event_walk.frames.Put.TheVariants.{Free, Low, High}
use Rattle.edbf_unfold.specs.event_literals.event_walk.Ready.{put_beside, frame_beside}
use Rattle.edbf_unfold.specs.event_literals.event_walk.Walk.{IsVisitedPlace, AreVisitedPlaces, IsRootOf, out_of}

pub root_path : (children : List (ℕ × ℕ)) → path_of children 0 ≡ []
root_path children = path_grows [] children 0 (omega arith)

-- the root is visited from its start
pub root_visited : (e : EventCircuitView) (frames : List Frame) (children : List (ℕ × ℕ)) (frame : Frame) (id s : ℕ) → slice_get frames id ≡ Some frame → frame.node ≡ 0 → (x : Start ℕ) → IsRootOf frame s x → IsVisitedPlace e frames children x (id, s)
root_visited e frames children frame id s at root x begins = record {
  frame = frame;
  at = at;
  node = omega (arith, root);
  out = out_of frame.put;
  fits = inl refl;
  visit = subst (λ (n : List ℕ). EventVisits (side_of e) (Enabled e) (x ∷ []) (out_of frame.put) s n) (sym (ap (path_of children) root ∙ root_path children))
      (subst (λ (o : Option ℕ). EventVisits (side_of e) (Enabled e) (x ∷ []) o s []) begins.1 (subst (λ (p : ℕ). EventVisits (side_of e) (Enabled e) (x ∷ []) x.left_out p []) begins.0 (EventVisits.start {s = x} (Contains-head x []))));
}

-- the latch is the same in the frame beside
out_beside : (put : Put) → out_of (put_beside put) ≡ out_of put
out_beside Free = refl
out_beside (Low u) = refl
out_beside (High u) = refl

-- the root in the frame and in the one beside it are visited from its start
pub roots_visited : (e : EventCircuitView) (frames : List Frame) (children : List (ℕ × ℕ)) (frame : Frame) (id high s : ℕ) → (slice_get frames id ≡ Some frame) × (slice_get frames high ≡ Some (frame_beside frame)) → frame.node ≡ 0 → (x : Start ℕ) → IsRootOf frame s x →
    AreVisitedPlaces e frames children x (id, s) (high, s)
roots_visited e frames children frame id high s at root x begins = (
  root_visited e frames children frame id s at.0 root x begins,
  root_visited e frames children (frame_beside frame) high s at.1 root x (begins.0, begins.1 ∙ sym (out_beside frame.put)),
)
