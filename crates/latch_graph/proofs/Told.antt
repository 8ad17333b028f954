-- What a settled table tells of a signal: its depth, or that it has none.
use Rattle.std.proofs.Common.{◌≡◌, ℕ, ◌≤◌, true, List, [], ◌∷◌, Option, Some, None, refl, ◌∙◌, ap, arith, inl, inr}
use Rattle.std.specs.Prelude.{slice_get, IfSome, IfNone}
use Rattle.std.specs.List.{Contains}
use Rattle.std.proofs.lemmas.Option.{slice_get_within}
use Rattle.signal_graph.specs.flat_net.LatchAt.{LatchAt}
use Rattle.signal_graph.specs.flat_net.View.{NetView, circuit_of}
use Rattle.circuit_theory.specs.Depth.{LatchReads, LatchChain, ChainFrom, IsDepth, HasNoDepth}
use Rattle.latch_graph.specs.declared.states.State.{State}
use Rattle.latch_graph.specs.declared.states.State.TheVariants.{New, Open, Known, Endless, Removed}
use Rattle.signal_graph.specs.Graph.{GraphView, IsGraphOf, SkippedBy, marked_names}
use Rattle.latch_graph.specs.Settling.{HasDepth, IsSettled}
use Rattle.latch_graph.proofs.Depths.{endless, known_chain}
use Rattle.latch_graph.proofs.Turns.{IsWithout, reach_lower, edge_lower, latch_deep}

none_marked : (latches : List LatchAt) (name : List ℕ) → Contains (marked_names latches []) name → ⊥
none_marked [] name h = omega (arith, h.1)
none_marked (l ∷ ls) name h = omega (arith, h.1)

module _ (n : NetView) (g : GraphView) (of : IsGraphOf n g) (states : List State) (settled : IsSettled g.nodes states) (whole : (s : ℕ) → slice_get states s ≡ Some Removed → ⊥) where
  without : IsWithout g.latches [] states
  without = record { were = λ s h. absurd (whole s h); marked = λ j l h b. absurd (let m = slice_get_within [] j true b in omega (arith, m)) }

  whole_edge : {u v : ℕ} → LatchReads (circuit_of n) (SkippedBy g) [] u v → LatchReads (circuit_of n) (SkippedBy g) (marked_names g.latches []) u v
  whole_edge e = record {
    name = e.name;
    next = e.next;
    latch = e.latch;
    kept = λ h. none_marked g.latches e.name h;
    other_name = e.other_name;
    other_next = e.other_next;
    other = e.other;
    other_kept = λ h. none_marked g.latches e.other_name h;
    cone = e.cone;
    no_self_edge = e.no_self_edge;
  }

  -- no chain from a latch is longer than its depth
  chain_low : {u m : ℕ} → LatchChain (circuit_of n) (SkippedBy g) u m → (d : ℕ) → HasDepth states u d → m ≤ d
  chain_low (LatchChain.last {name = name} latch) d h = latch_deep n g.nodes g.latches g.skipped of [] states without settled latch (none_marked g.latches name) d h
  chain_low (LatchChain.more e rest) d h =
      let x = edge_lower n g.nodes g.latches g.skipped of [] states without settled (whole_edge e) d h in
      let l = chain_low rest x.0 x.1 in
      omega (arith, l, x.2)

  pub known : (s d : ℕ) → slice_get states s ≡ Some (Known d) → IsDepth (circuit_of n) (SkippedBy g) s d
  known s d h = record { reached = known_chain n g of states settled.table whole s d h; greatest = λ m chain. greatest m chain }
    where
      greatest : (m : ℕ) → ChainFrom (circuit_of n) (SkippedBy g) s m → m ≤ d
      greatest m (inl e) = omega (arith, e)
      greatest m (inr x) =
          let y = reach_lower n g.nodes g.latches g.skipped of [] states without settled x.1.1 d (Known d, h, refl) in
          let l = chain_low x.2 y.0 y.1 in
          omega (arith, l, y.2)

-- what a settled table tells of a signal
pub tells_depth : (g : GraphView) (states : List State) → IsSettled g.nodes states → ((s : ℕ) → slice_get states s ≡ Some Removed → ⊥) → (s : ℕ) (st : State) → slice_get states s ≡ Some st →
    (r : Option ℕ) → IfSome r (λ d. st ≡ Known d) → IfSome r (λ d. (n : NetView) → IsGraphOf n g → IsDepth (circuit_of n) (SkippedBy g) s d)
tells_depth g states settled whole s st at None h = tt
tells_depth g states settled whole s st at (Some d) h = λ n of. known n g of states settled whole s d (at ∙ ap Some h)

pub tells_endless : (g : GraphView) (states : List State) → IsSettled g.nodes states → ((s : ℕ) → slice_get states s ≡ Some Removed → ⊥) → (s : ℕ) (st : State) → slice_get states s ≡ Some st →
    (r : Option ℕ) → IfNone r ((d : ℕ) → st ≡ Known d → ⊥) → IfNone r ((n : NetView) → IsGraphOf n g → HasNoDepth (circuit_of n) (SkippedBy g) s)
tells_endless g states settled whole s st at (Some d) h = tt
tells_endless g states settled whole s st at None h = λ n of. by st at h n of
  where
    by : (st : State) → slice_get states s ≡ Some st → ((d : ℕ) → st ≡ Known d → ⊥) → (n : NetView) → IsGraphOf n g → HasNoDepth (circuit_of n) (SkippedBy g) s
    by New at h n of = absurd (settled.final s New at)
    by Open at h n of = absurd (settled.final s Open at)
    by (Known d) at h n of = absurd (h d refl)
    by Endless at h n of = λ m. endless n g of states settled.table m s at
    by Removed at h n of = absurd (whole s at)
