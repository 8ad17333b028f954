-- What a settled table says of the net: depths, and that there is none.
use Rattle.std.proofs.Common.{◌≡◌, ◌≢◌, ℕ, zero, suc, ◌+◌, ◌<◌, Bool, List, [], Option, Some, None, refl, sym, ap, subst, arith, inl, inr}
use Rattle.std.specs.Prelude.{◌⊎◌, slice_get}
use Rattle.signal_graph.specs.flat_net.Signal.{Signal}
use Rattle.signal_graph.specs.flat_net.LatchAt.{LatchAt}
use Rattle.signal_graph.specs.flat_net.View.{NetView, circuit_of}
use Rattle.signal_graph.proofs.flat_net.Nets.{some_at, latch_stands}
use Rattle.circuit_theory.specs.Circuit.{IsLatch, Reads, Reaches}
use Rattle.circuit_theory.specs.Depth.{LatchChain, ChainFrom}
use Rattle.circuit_theory.proofs.Lists.{Contains-map, of_at}
use Rattle.signal_graph.specs.declared.nodes.Node.{Node}
use Rattle.latch_graph.specs.declared.states.State.{State}
use Rattle.latch_graph.specs.declared.states.State.TheVariants.{New, Open, Known, Endless, Removed}
use Rattle.std.proofs.lemmas.Option.{slice_get_within}
use Rattle.signal_graph.proofs.Driving.{Driven, driven, read_taken, nothing_at}
use Rattle.signal_graph.specs.Graph.{GraphView, IsGraphOf, AreTaken, SkippedBy, step_of}
use Rattle.latch_graph.specs.Settling.{HasDepth, IsDepthOf, ReadsEndless, IsTable, depth_of}

module _ (n : NetView) (g : GraphView) (of : IsGraphOf n g) where
  -- a chain goes on from what is read
  pub chain_up : {p q m : ℕ} → Reads (circuit_of n) p q → ChainFrom (circuit_of n) (SkippedBy g) q m → ChainFrom (circuit_of n) (SkippedBy g) p m
  chain_up reads (inl e) = inl e
  chain_up reads (inr x) = inr (x.0, (x.1.0, Reaches.there reads x.1.1), x.2)

  chain_latch : {u m : ℕ} → LatchChain (circuit_of n) (SkippedBy g) u m → (name : List ℕ) × (next : ℕ) × IsLatch (circuit_of n) name u next
  chain_latch (LatchChain.last {next = next} {name = name} is) = (name, next, is)
  chain_latch (LatchChain.more edge rest) = (edge.name, edge.next, edge.latch)

  -- a latch is one more on a chain from what its node reads
  pub chain_latched : (s j : ℕ) (l : LatchAt) (bit : Bool) (reads : List Signal) → slice_get n.latches j ≡ Some l → l.out.0 ≡ s → slice_get g.skipped j ≡ Some bit → AreTaken n l bit reads → (k : ℕ) (r : Signal) → slice_get reads k ≡ Some r →
      (m : ℕ) → ChainFrom (circuit_of n) (SkippedBy g) r.0 m → ChainFrom (circuit_of n) (SkippedBy g) s (suc m)
  chain_latched s j l bit reads here out b taken k r at m chain = by chain
    where
      stands : IsLatch (circuit_of n) l.name s l.next.0
      stands = subst (λ z. IsLatch (circuit_of n) l.name z l.next.0) out (latch_stands n j l here)

      by : ChainFrom (circuit_of n) (SkippedBy g) r.0 m → ChainFrom (circuit_of n) (SkippedBy g) s (suc m)
      by (inl e) = inr (s, (inr (l.name, l.next.0, stands), Reaches.here), subst (λ z. LatchChain (circuit_of n) (SkippedBy g) s (suc z)) (sym e) (LatchChain.last stands))
      by (inr x) =
          let other = chain_latch x.2 in
          let t = read_taken n g of j l bit reads here b taken k r at x.0 x.1.0 x.1.1 in
          inr (
            s,
            (inr (l.name, l.next.0, stands), Reaches.here),
            LatchChain.more (record {
              name = l.name;
              next = l.next.0;
              latch = stands;
              kept = λ h. omega (arith, h.1);
              other_name = other.0;
              other_next = other.1;
              other = other.2;
              other_kept = λ h. omega (arith, h.1);
              cone = (x.1.0, t.0);
              no_self_edge = subst (λ z. SkippedBy g z → z ≢ x.0) out t.1;
            }) x.2,
          )

  module _ (states : List State) (table : IsTable g.nodes states) where
    node_at : (s : ℕ) (st : State) → slice_get states s ≡ Some st → (node : Node) × (slice_get g.nodes s ≡ Some node)
    node_at s st h = some_at g.nodes s (let l = slice_get_within states s st h in omega (arith, l, table.size))

    -- a signal without depth has chains of each length
    module _ where
      further : (m : ℕ) → ((s : ℕ) → slice_get states s ≡ Some Endless → ChainFrom (circuit_of n) (SkippedBy g) s m) → (bound s : ℕ) → s < bound → slice_get states s ≡ Some Endless → ChainFrom (circuit_of n) (SkippedBy g) s (suc m)
      further m shorter zero s l h = absurd (omega (arith, l))
      further m shorter (suc bound) s l h = by (driven n g of s node.0 node.1) (table.right s node.0 Endless node.1 h) (λ r lt e. further m shorter bound r (omega (arith, l, lt)) e)
        where
          node : (node : Node) × (slice_get g.nodes s ≡ Some node)
          node = node_at s Endless h

          by : Driven n g.skipped s node.0 → ReadsEndless states node.0 → ((r : ℕ) → r < s → slice_get states r ≡ Some Endless → ChainFrom (circuit_of n) (SkippedBy g) r (suc m)) → ChainFrom (circuit_of n) (SkippedBy g) s (suc m)
          by (Driven.input is reads lone) x lower = absurd (nothing_at node.0.reads x.0 x.1 reads x.2)
          by (Driven.gate gt stands reads lone below) x lower =
              let at : slice_get gt.fanins x.0 ≡ Some x.1 = subst (λ (z : List Signal). slice_get z x.0 ≡ Some x.1) reads x.2 in
              chain_up (Reads.by_gate stands (Contains-map (λ (f : Signal). f.0) gt.fanins x.1 (of_at gt.fanins x.0 x.1 at))) (lower x.1.0 (below x.0 x.1 at) x.3)
          by (Driven.latch j lt at out is bit bit_is taken lone within) x lower = chain_latched s j lt bit node.0.reads at out bit_is taken x.0 x.1 x.2 m (shorter x.1.0 x.3)

    pub endless : (m s : ℕ) → slice_get states s ≡ Some Endless → ChainFrom (circuit_of n) (SkippedBy g) s m
    endless zero s h = inl refl
    endless (suc m) s h = further m (λ r e. endless m r e) (suc s) s (omega arith) h

    -- a signal with a depth has a chain of this length
    module _ (whole : (s : ℕ) → slice_get states s ≡ Some Removed → ⊥) where
      abbrev IsKnown : ℕ → ℕ → Type 0
      IsKnown s d = slice_get states s ≡ Some (Known d)

      known_of : (s d : ℕ) → HasDepth states s d → IsKnown s d
      known_of s d x = go x.0 x.1 x.2
        where
          go : (st : State) → slice_get states s ≡ Some st → depth_of st ≡ Some d → IsKnown s d
          go New h e = absurd (cc)
          go Open h e = absurd (cc)
          go (Known f) h e = let q : f ≡ d = cc in subst (λ z. IsKnown s z) q h
          go Endless h e = absurd (cc)
          go Removed h e = absurd (whole s h)

      plain : (place : Option ℕ) (f e : ℕ) → place ≡ None → e ≡ f + step_of place → f ≡ e
      plain place f e q x = let z : step_of place ≡ 0 = ap step_of q in omega (arith, x, z)

      within : (d : ℕ) → ((r e : ℕ) → e < d → IsKnown r e → ChainFrom (circuit_of n) (SkippedBy g) r e) → (bound s : ℕ) → s < bound → IsKnown s d → ChainFrom (circuit_of n) (SkippedBy g) s d
      within d lower zero s l h = absurd (omega (arith, l))
      within d lower (suc bound) s l h = by (driven n g of s node.0 node.1) (table.right s node.0 (Known d) node.1 h) (λ r lt k. within d lower bound r (omega (arith, l, lt)) k)
        where
          node : (node : Node) × (slice_get g.nodes s ≡ Some node)
          node = node_at s (Known d) h

          by : Driven n g.skipped s node.0 → IsDepthOf states node.0 d → ((r : ℕ) → r < s → IsKnown r d → ChainFrom (circuit_of n) (SkippedBy g) r d) → ChainFrom (circuit_of n) (SkippedBy g) s d
          by (Driven.input is reads lone) x down = inl (none x.1.reached)
            where
              none : (x.0 ≡ 0) ⊎ ((k : ℕ) × (r : Signal) × (slice_get node.0.reads k ≡ Some r) × HasDepth states r.0 x.0) → d ≡ 0
              none (inl z) = omega (arith, z, plain node.0.latch x.0 d lone x.2)
              none (inr y) = absurd (nothing_at node.0.reads y.0 y.1 reads y.2)
          by (Driven.gate gt stands reads lone below) x down = deepest x.1.reached
            where
              same : x.0 ≡ d
              same = plain node.0.latch x.0 d lone x.2

              deepest : (x.0 ≡ 0) ⊎ ((k : ℕ) × (r : Signal) × (slice_get node.0.reads k ≡ Some r) × HasDepth states r.0 x.0) → ChainFrom (circuit_of n) (SkippedBy g) s d
              deepest (inl z) = inl (omega (arith, z, same))
              deepest (inr y) =
                  let at : slice_get gt.fanins y.0 ≡ Some y.1 = subst (λ (z : List Signal). slice_get z y.0 ≡ Some y.1) reads y.2 in
                  chain_up (Reads.by_gate stands (Contains-map (λ (f : Signal). f.0) gt.fanins y.1 (of_at gt.fanins y.0 y.1 at))) (down y.1.0 (below y.0 y.1 at) (known_of y.1.0 d (subst (λ z. HasDepth states y.1.0 z) same y.3)))
          by (Driven.latch j lt at out is bit bit_is taken lone inner) x down = deepest x.1.reached
            where
              above : suc x.0 ≡ d
              above = let one : step_of node.0.latch ≡ 1 = ap step_of lone in omega (arith, one, x.2)

              deepest : (x.0 ≡ 0) ⊎ ((k : ℕ) × (r : Signal) × (slice_get node.0.reads k ≡ Some r) × HasDepth states r.0 x.0) → ChainFrom (circuit_of n) (SkippedBy g) s d
              deepest (inl z) = inr (s, (inr (lt.name, lt.next.0, is), Reaches.here), subst (λ z. LatchChain (circuit_of n) (SkippedBy g) s z) (let q : 1 ≡ d = omega (arith, z, above) in q) (LatchChain.last is))
              deepest (inr y) =
                  subst (λ z. ChainFrom (circuit_of n) (SkippedBy g) s z) above
                  (chain_latched s j lt bit node.0.reads at out bit_is taken y.0 y.1 y.2 x.0 (lower y.1.0 x.0 (omega (arith, above)) (known_of y.1.0 x.0 y.3)))

      chains : (bound d s : ℕ) → d < bound → IsKnown s d → ChainFrom (circuit_of n) (SkippedBy g) s d
      chains zero d s l h = absurd (omega (arith, l))
      chains (suc bound) d s l h = within d (λ r e lt k. chains bound e r (omega (arith, l, lt)) k) (suc s) s (omega arith) h

      pub known_chain : (s d : ℕ) → slice_get states s ≡ Some (Known d) → ChainFrom (circuit_of n) (SkippedBy g) s d
      known_chain s d h = chains (suc d) d s (omega arith) h
