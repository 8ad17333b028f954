-- What an unfolding and its care give together.
use Rattle.std.proofs.lemmas.Option.{slice_get_within}
use Rattle.std.proofs.Common.{◌≡◌, ◌+◌, ◌<◌, ◌≤◌, ℕ, Bool, true, false, List, [], length, slice_get, Some, None, refl, sym, subst, arith}
use Rattle.circuit_theory.specs.EventSizes.{Start}
use Rattle.circuit_theory.specs.Frame.{NotPut}
use Rattle.edbf_unfold.specs.event_literals.Sound.{IsSound}
use Rattle.edbf_unfold.proofs.event_literals.Nets.{some_at}
use Rattle.edbf_unfold.proofs.event_literals.Places.{one_at}
use Rattle.event_nodes.specs.Lit.{Lit}
use Rattle.event_nodes.specs.Nodes.{EventGraphView, IsEventGraph, GrowsEvents}
use Rattle.event_nodes.specs.View.{EventCircuitView, IsEventCircuit, side_of}
use Rattle.event_nodes.specs.Visited.{CounterView, HoldsVisits, HoldsNodes}
use Rattle.event_nodes.proofs.Growing.{grows_trans}
use Rattle.event_nodes.proofs.Lists.{adds_none}
use Rattle.edbf_unfold.specs.declared.event_literals.event_walk.frames.Frame.{Frame}
use Rattle.edbf_unfold.specs.declared.event_literals.event_walk.frames.Put.TheVariants.{Free}
use Rattle.edbf_unfold.specs.declared.event_literals.event_walk.frames.Ways.{Ways}
use Rattle.edbf_unfold.specs.Care.{IsCareOf, IsCareLit}
use Rattle.edbf_unfold.specs.event_literals.Known.{EventUnfolderView, IsKnownAt, IsKnownIn, HasUnfolded, HasGrown}
use Rattle.edbf_unfold.specs.event_literals.event_walk.Ready.{put_of}
use Rattle.edbf_unfold.specs.Reached.{IsOpenPlace, IsOnwardAt, AreNodesOf, IsReachOf}
use Rattle.edbf_unfold.specs.event_literals.event_walk.Walk.{IsRootOf, IsCounting, IsCountedOn, HasCountedStart}
use Rattle.edbf_unfold.specs.event_literals.Built.{IsWalked}
use Rattle.edbf_unfold.proofs.Covering.{care_lit, holds_visits, holds_nodes, reach_of}
use Rattle.edbf_unfold.proofs.event_literals.Known.{known_at_later}
use Rattle.edbf_unfold.proofs.event_literals.event_walk.Rooting.{root_path}
use Rattle.edbf_unfold.proofs.event_literals.Rooted.{walked_later}

-- the literal at the root, while the graph grows
pub root_later : (e : EventCircuitView) (w v : EventGraphView) → IsEventGraph w → GrowsEvents w v → (s x : ℕ) → IsKnownIn e w (record { node = 0; put = Free }) s x → IsKnownAt e v None s [] x
root_later e w v is grows s x k = known_at_later e w v is grows None s [] x (subst (λ (n : List ℕ). IsKnownAt e w None s n x) (root_path w.children) k)

-- more graph behind an unfolding
pub unfolded_more : (u v : EventUnfolderView) (w x y : EventGraphView) (room more all : ℕ) → HasUnfolded u v w x room → HasGrown x y more → room + more ≤ all → HasUnfolded u v w y all
unfolded_more u v w x y room more all a b few = record {
  circuit = a.circuit;
  grows = grows_trans w x y a.grows b.grows;
  frames = a.frames;
  few_frames = omega (arith, a.few_frames, few);
  memo = a.memo;
  nodes = omega (arith, a.nodes, b.nodes, few);
  places = omega (arith, a.places, b.places, few);
}

pub counting_same : (e : EventCircuitView) (x : Start ℕ) (old children new : List (ℕ × ℕ)) (c d : CounterView) → new ≡ children → IsCounting e x old children c d → IsCounting e x old new c d
counting_same e x old children new c d same k = subst (λ (cs : List (ℕ × ℕ)). IsCounting e x old cs c d) (sym same) k

module _ (t : EventUnfolderView) (y z : EventGraphView) (sound : IsSound t.circuit.net) (circuit : IsEventCircuit t.circuit) (is : IsEventGraph z) (grows : GrowsEvents y z) (frame : Frame) (root : frame.node ≡ 0) (s : ℕ) (counted : List (ℕ × ℕ)) (cap : ℕ) (table : List (ℕ × ℕ))
    (ways : List Ways) (walked : IsWalked t y frame s counted cap table ways) (x : Start ℕ) (begins : IsRootOf frame s x) where
  now : IsWalked t z frame s counted cap table ways
  now = walked_later t t y z frame s counted counted cap table ways refl grows (adds_none (λ (f : Frame). Unit {0}) t.frames t.frames refl) (adds_none (λ (e : (ℕ × ℕ) × Lit). Unit {0}) t.memo t.memo refl) (adds_none (λ (q : ℕ × ℕ). Unit {0}) counted counted refl) walked

  pub finished_care : (lit : ℕ) → IsCareOf t.circuit z t.frames table lit → IsCareLit t.circuit z x lit
  finished_care lit care = care_lit t z sound circuit is.is_tree frame root s counted cap table ways now x begins lit care

  pub finished_count : (old : EventCircuitView) → t.circuit ≡ old → (c d : CounterView) → counted ≡ d.places → y.children ≡ z.children → IsCountedOn old.net y.children c d → HasCountedStart old x z.children c d
  finished_count old same c d places children on = record {
    on = subst (λ (cs : List (ℕ × ℕ)). IsCountedOn old.net cs c d) children on;
    holds = subst (λ (e : EventCircuitView). HoldsVisits e z.children x d.places) same (subst (HoldsVisits t.circuit z.children x) places (holds_visits t z sound circuit is.is_tree frame root s counted cap table ways now x begins));
    nodes = subst (λ (e : EventCircuitView). HoldsNodes e z.children x) same (holds_nodes t z sound circuit is.is_tree frame root s counted cap table ways now x begins);
  }

  pub finished_reach : (nodes : List ℕ) (only : Bool) → AreNodesOf t.circuit t.frames table ways nodes → (only ≡ true → (i : ℕ) (p : ℕ × ℕ) → slice_get table i ≡ Some p → IsOpenPlace t.circuit t.frames p → (side_of t.circuit).class p.1 ≡ 0) →
      (only ≡ false → (i : ℕ) × (p : ℕ × ℕ) × (slice_get table i ≡ Some p) × IsOpenPlace t.circuit t.frames p × ((side_of t.circuit).class p.1 ≡ 0 → ⊥)) → IsReachOf t.circuit z.children x nodes only
  finished_reach nodes only are all_yes some_no = reach_of t z sound circuit is.is_tree frame root s counted cap table ways now x begins is.once nodes only are all_yes some_no

-- each place has a frame and a signal, and goes on in a frame if a latch is open there
pub onward_at : (t : EventUnfolderView) (y : EventGraphView) (frame : Frame) (s : ℕ) (counted : List (ℕ × ℕ)) (cap : ℕ) (table : List (ℕ × ℕ)) (ways : List Ways) → IsWalked t y frame s counted cap table ways → (i : ℕ) (p : ℕ × ℕ) (g : Ways) → slice_get table i ≡ Some p → slice_get ways i ≡ Some g → IsOnwardAt t.circuit t.frames p g
onward_at t y frame s counted cap table ways walked i p g at over =
    let k = walked.expanded i p g at over in
    record {
      framed = (k.frame, k.at);
      signal = k.within;
      onward = λ o. let z = k.onward o.latch.0 o.latch.1 o.latch.2 (subst (λ (f : Frame). NotPut (put_of f.put) p.1) (sym (one_at t.frames p.0 k.frame o.frame k.at o.at)) o.free) in (z.0, z.1);
    }

pub framed_at : (t : EventUnfolderView) (y : EventGraphView) (frame : Frame) (s : ℕ) (counted : List (ℕ × ℕ)) (cap : ℕ) (table : List (ℕ × ℕ)) (ways : List Ways) → IsWalked t y frame s counted cap table ways → (i : ℕ) (p : ℕ × ℕ) → slice_get table i ≡ Some p → ((f : Frame) × (slice_get t.frames p.0 ≡ Some f)) × (p.1 < length t.circuit.net.drivers)
framed_at t y frame s counted cap table ways walked i p at =
    let inside = slice_get_within table i p at in
    let g = some_at ways i (omega (arith, inside, walked.each)) in
    let k = walked.expanded i p g.0 at g.1 in ((k.frame, k.at), k.within)
