-- One place more is expanded.
use Rattle.std.proofs.Common.{◌≡◌, ◌∙◌, ◌≤◌, ℕ, List, [], ◌∷◌, length, slice_get, Option, Some, refl, sym, ap, subst, inl, inr}
use Rattle.std.specs.Prelude.{◌⊎◌}
use Rattle.std.specs.List.{Contains}
use Rattle.std.proofs.lemmas.List.Elements.{All-contains}
use Rattle.circuit_theory.specs.Circuit.{IsLatch, Reads}
use Rattle.circuit_theory.specs.Frame.{NotPut, IsNode}
use Rattle.circuit_theory.specs.EventSizes.{Start, IsOther, EventVisits}
use Rattle.circuit_theory.specs.EventTotals.{StartLatches}
use Rattle.event_nodes.specs.flat_net.Signal.{Signal}
use Rattle.event_nodes.specs.flat_net.Gate.{Gate}
use Rattle.event_nodes.specs.flat_net.LatchAt.{LatchAt}
use Rattle.event_nodes.specs.flat_net.Driver.TheVariants as driver
use Rattle.event_nodes.specs.flat_net.Sound.{IsSound}
use Rattle.event_nodes.specs.flat_net.View.{circuit_of}
use Rattle.event_nodes.proofs.flat_net.Places.{one_at}
use Rattle.event_nodes.specs.Lit.{Lit}
use Rattle.edbf_unfold.specs.declared.event_literals.event_walk.frames.Frame.{Frame}
use Rattle.edbf_unfold.specs.declared.event_literals.event_walk.frames.Put.{Put}
use Rattle.edbf_unfold.specs.declared.event_literals.event_walk.frames.Put.TheVariants.{Free, Low, High}
use Rattle.edbf_unfold.specs.declared.event_literals.event_walk.frames.Ways.{Ways}
use Rattle.event_nodes.specs.Adds.{Adds}
use Rattle.event_nodes.specs.Nodes.{IsChild, path_of}
use Rattle.event_nodes.specs.View.{EventCircuitView, side_of, Enabled}
use Rattle.edbf_unfold.specs.event_literals.event_walk.Ready.{put_of, IsOwnPut, IsFreeOf, IsBoundTo, IsMetIn}
use Rattle.edbf_unfold.specs.event_literals.event_walk.Walk.{IsSeen, IsExpanded, IsVisitedPlace, IsHeldPut, IsEntry, AreWays, IsFitting, AreReadIn, IsReadPlace, out_of}
use Rattle.event_nodes.proofs.flat_net.Drivers.{input_reads, input_latch, gate_reads_from, gate_latch, latch_reads, latch_next, latch_out, latch_equation_stands}
use Rattle.event_nodes.proofs.Lists.{adds_at}
use Rattle.event_nodes.proofs.Visits.{visited_reached}
use Rattle.edbf_unfold.proofs.event_literals.event_walk.Fitting.{fits_reads, fits_free, fits_other}

module _ (e : EventCircuitView) (sound : IsSound e.net) (frames : List Frame) (children table : List (ℕ × ℕ)) (p : ℕ × ℕ) (seen : IsSeen e frames children p) where
  -- an input reads nothing
  pub input_expanded : (i : ℕ) (ways : Ways) → slice_get e.net.drivers p.1 ≡ Some (driver.Input i) → IsExpanded e frames children table p ways
  input_expanded i ways drives = record {
    frame = seen.0;
    at = seen.1;
    node = seen.2;
    within = seen.3;
    reads = λ q h. absurd (input_reads e.net sound p.1 i q drives h);
    onward = λ name next latch free. absurd (input_latch e.net sound p.1 i next name drives latch);
    high = λ name next latch free on. absurd (input_latch e.net sound p.1 i next name drives latch);
  }

  -- a gate reads its fan-ins in their frames
  pub gate_expanded : (j : ℕ) (ways : Ways) (g : Gate) (fanins : List Signal) → slice_get e.net.drivers p.1 ≡ Some (driver.Gate j) → slice_get e.net.gates j ≡ Some g → fanins ≡ g.fanins → AreReadIn e.net frames seen.0 p.0 ways.onward table fanins →
      IsExpanded e frames children table p ways
  gate_expanded j ways g fanins drives at are all = record {
    frame = seen.0;
    at = seen.1;
    node = seen.2;
    within = seen.3;
    reads = λ q h.
        let f = gate_reads_from e.net sound p.1 j drives g at q h in
        subst (λ (k : ℕ). IsMetIn e.net frames (Contains table) seen.0 p.0 ways.onward k) f.2
        (All-contains (λ (k : Signal). IsMetIn e.net frames (Contains table) seen.0 p.0 ways.onward k.0) fanins f.0 all (subst (λ (l : List Signal). Contains l f.0) (sym are) f.1));
    onward = λ name next latch free. absurd (gate_latch e.net sound p.1 j drives g at name next latch);
    high = λ name next latch free on. absurd (gate_latch e.net sound p.1 j drives g at name next latch);
  }

  module _ (j : ℕ) (l : LatchAt) (drives : slice_get e.net.drivers p.1 ≡ Some (driver.Latch j)) (on : slice_get e.net.latches j ≡ Some l) where
    -- a latch that is put takes over nothing
    pub put_expanded : (ways : Ways) (x : Lit) (f : Frame) → slice_get frames p.0 ≡ Some f → ((f.put ≡ Low p.1) × (x.0 ≡ 0)) ⊎ ((f.put ≡ High p.1) × (x.0 ≡ 1)) → IsExpanded e frames children table p ways
    put_expanded ways x f at which = record {
      frame = f;
      at = at;
      node = there.0;
      within = seen.3;
      reads = λ q h. absurd (latch_reads e.net sound p.1 j drives l on q h);
      onward = λ name next latch free. absurd (not_free which free);
      high = λ name next latch free on. absurd (not_free which free);
    }
      where
        there : (f.node ≤ length children) × Unit {0}
        there = (subst (λ (g : Frame). g.node ≤ length children) (one_at frames p.0 seen.0 f seen.1 at) seen.2, tt)

        not_free : ((f.put ≡ Low p.1) × (x.0 ≡ 0)) ⊎ ((f.put ≡ High p.1) × (x.0 ≡ 1)) → NotPut (put_of f.put) p.1 → ⊥
        not_free (inl h) free = subst (λ (o : Put). NotPut (put_of o) p.1) h.0 free refl
        not_free (inr h) free = subst (λ (o : Put). NotPut (put_of o) p.1) h.0 free refl

    -- another latch takes over its data in the frames in which it goes on
    pub latch_expanded : (child : ℕ) (ways : Ways) (f : Frame) → slice_get frames p.0 ≡ Some f → IsChild children f.node ((side_of e).class l.out.0) child → AreWays e frames table child l ways → IsExpanded e frames children table p ways
    latch_expanded child ways f at is_child are = record {
      frame = f;
      at = at;
      node = subst (λ (k : Frame). k.node ≤ length children) (one_at frames p.0 seen.0 f seen.1 at) seen.2;
      within = seen.3;
      reads = λ q h. absurd (latch_reads e.net sound p.1 j drives l on q h);
      onward = λ name next latch free. (
        are.onward,
        are.onward_at,
        record {
          child = subst (λ (m : ℕ). IsChild children f.node ((side_of e).class p.1) m) (sym are.onward_node) own_child;
          own = subst (λ (s : ℕ). IsOwnPut e s are.onward.put) out are.own;
        },
        subst (λ (k : ℕ). Contains table (ways.onward, k)) (latch_next e.net sound p.1 j drives l on name next latch) are.met,
      );
      high = λ name next latch free enabled.
          let h = are.high (subst (Enabled e) (sym out) enabled) in (
            h.0,
            h.1,
            (subst (λ (m : ℕ). IsChild children f.node ((side_of e).class p.1) m) (sym h.2) own_child, h.3 ∙ ap High out),
            subst (λ (k : ℕ). Contains table (ways.high, k)) (latch_next e.net sound p.1 j drives l on name next latch) h.4,
          );
    }
      where
        out : l.out.0 ≡ p.1
        out = latch_out e.net sound p.1 j drives l on

        own_child : IsChild children f.node ((side_of e).class p.1) child
        own_child = subst (λ (s : ℕ). IsChild children f.node ((side_of e).class s) child) out is_child

    -- what goes on is visited, and the child is reached
    module _ (s : Start ℕ) (visited : IsVisitedPlace e frames children s p) (f : Frame) (at : slice_get frames p.0 ≡ Some f) (free : NotPut (put_of f.put) p.1) where
      frame_is : visited.frame ≡ f
      frame_is = one_at frames p.0 visited.frame f visited.at at

      visit : EventVisits (side_of e) (Enabled e) (s ∷ []) visited.out p.1 (path_of children f.node)
      visit = subst (λ (g : Frame). EventVisits (side_of e) (Enabled e) (s ∷ []) visited.out p.1 (path_of children g.node)) frame_is visited.visit

      other : IsOther visited.out p.1
      other = fits_other e.net f.put visited.out p.1 (subst (λ (g : Frame). IsFitting e.net g.put visited.out p.1) frame_is visited.fits) free

      latch : IsLatch (circuit_of e.net) l.name p.1 l.next.0
      latch = latch_equation_stands e.net sound p.1 j drives l on

      out : l.out.0 ≡ p.1
      out = latch_out e.net sound p.1 j drives l on

      pub latch_node : IsNode (side_of e) (Enabled e) (StartLatches (side_of e) (s ∷ [])) ((side_of e).class p.1 ∷ path_of children f.node)
      latch_node = (p.1, visited_reached (side_of e) (Enabled e) (s ∷ []) visit latch other, refl)

      -- in the event graph with a child more
      module _ (more : List Frame) (new : List (ℕ × ℕ)) (child : ℕ) (path : path_of new child ≡ (side_of e).class p.1 ∷ path_of children f.node) (made : child ≤ length new) where
        pub entry_visited : (q : ℕ × ℕ) → IsEntry e more child l q → IsVisitedPlace e more new s q
        entry_visited q h = record {
          frame = h.0;
          at = h.1;
          node = subst (λ (m : ℕ). m ≤ length new) (sym h.2) made;
          out = out_of h.0.put;
          fits = inl refl;
          visit = subst (λ (k : ℕ). EventVisits (side_of e) (Enabled e) (s ∷ []) (out_of h.0.put) k (path_of new h.0.node)) (sym h.4)
              (subst (λ (m : ℕ). EventVisits (side_of e) (Enabled e) (s ∷ []) (out_of h.0.put) l.next.0 (path_of new m)) (sym h.2)
              (subst (λ (n : List ℕ). EventVisits (side_of e) (Enabled e) (s ∷ []) (out_of h.0.put) l.next.0 n) (sym path) (go h.3)));
        }
          where
            held : Enabled e l.out.0 → EventVisits (side_of e) (Enabled e) (s ∷ []) (Some p.1) l.next.0 ((side_of e).class p.1 ∷ path_of children f.node)
            held enabled = EventVisits.held visit other latch (subst (Enabled e) out enabled)

            go : IsHeldPut e l.out.0 h.0.put → EventVisits (side_of e) (Enabled e) (s ∷ []) (out_of h.0.put) l.next.0 ((side_of e).class p.1 ∷ path_of children f.node)
            go (inl k) = subst (λ (o : Option ℕ). EventVisits (side_of e) (Enabled e) (s ∷ []) o l.next.0 ((side_of e).class p.1 ∷ path_of children f.node)) (sym (as_held k.1)) (held k.0)
              where
                as_held : (h.0.put ≡ Low l.out.0) ⊎ (h.0.put ≡ High l.out.0) → out_of h.0.put ≡ Some p.1
                as_held (inl e) = ap out_of e ∙ ap Some out
                as_held (inr e) = ap out_of e ∙ ap Some out
            go (inr k) = subst (λ (o : Put). EventVisits (side_of e) (Enabled e) (s ∷ []) (out_of o) l.next.0 ((side_of e).class p.1 ∷ path_of children f.node)) (sym k.1)
                (EventVisits.plain visit other latch (λ enabled. k.0 (subst (Enabled e) (sym out) enabled)))

-- what a gate reads is visited, in its frame
pub reads_visited : (e : EventCircuitView) (frames more : List Frame) (children : List (ℕ × ℕ)) (s : Start ℕ) (p : ℕ × ℕ) → IsVisitedPlace e frames children s p → Adds (λ g. Unit {0}) frames more → (f : Frame) → slice_get frames p.0 ≡ Some f → (fanins : List Signal) →
    ((g : Signal) → Contains fanins g → Reads (circuit_of e.net) p.1 g.0) → (q : ℕ × ℕ) → IsReadPlace e.net more f p.0 fanins q → IsVisitedPlace e more children s q
reads_visited e frames more children s p visited adds f at fanins read q h = subst (λ (k : ℕ). IsVisitedPlace e more children s (q.0, k)) (sym h.signal) (go h.frame)
  where
    frame_is : visited.frame ≡ f
    frame_is = one_at frames p.0 visited.frame f visited.at at

    fits : IsFitting e.net f.put visited.out p.1
    fits = subst (λ (g : Frame). IsFitting e.net g.put visited.out p.1) frame_is visited.fits

    node : f.node ≤ length children
    node = subst (λ (g : Frame). g.node ≤ length children) frame_is visited.node

    visit : EventVisits (side_of e) (Enabled e) (s ∷ []) visited.out h.fanin.0 (path_of children f.node)
    visit = EventVisits.reads (subst (λ (g : Frame). EventVisits (side_of e) (Enabled e) (s ∷ []) visited.out p.1 (path_of children g.node)) frame_is visited.visit) (read h.fanin h.reads)

    go : ((q.0 ≡ p.0) × IsBoundTo e.net f.put h.fanin.0) ⊎ ((slice_get more q.0 ≡ Some (record { node = f.node; put = Free })) × IsFreeOf e.net f.put h.fanin.0) → IsVisitedPlace e more children s (q.0, h.fanin.0)
    go (inl own) = record {
      frame = f;
      at = adds_at (λ (g : Frame). Unit {0}) frames more q.0 f adds (subst (λ (k : ℕ). slice_get frames k ≡ Some f) (sym own.0) at);
      node = node;
      out = visited.out;
      fits = fits_reads e.net f.put visited.out p.1 h.fanin.0 fits (read h.fanin h.reads);
      visit = visit;
    }
    go (inr free) = record {
      frame = record { node = f.node; put = Free };
      at = free.0;
      node = node;
      out = visited.out;
      fits = fits_free e.net f.put visited.out p.1 h.fanin.0 fits (read h.fanin h.reads) free.1;
      visit = visit;
    }
