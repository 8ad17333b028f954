-- Ways back through the nodes of a graph are ways of its net's circuit, and the other way round.
use Rattle.std.proofs.Common.{◌≡◌, ◌≢◌, ℕ, ◌<◌, List, [], length, Option, Some, None, refl, sym, ◌∙◌, ap, subst, arith, inl, inr}
use Rattle.std.specs.Prelude.{◌⊎◌, slice_get}
use Rattle.std.specs.List.{Contains}
use Rattle.std.proofs.lemmas.Option.{slice_get_within, get_or_from_slice_get}
use Rattle.std.proofs.lemmas.List.Elements.{All-contains}
use Rattle.circuit_theory.specs.Circuit.{Equation, Gate as gate_equation, Latch as latch_equation, Port as port_equation, IsSource, IsLatch, Reads, Reaches}
use Rattle.circuit_theory.specs.Depth.{LatchReads, LatchPath, HasCycle}
use Rattle.circuit_theory.specs.Net.{IsNet, IsWithin}
use Rattle.latch_graph.specs.minimal_cut.graph_components.flat_net.LatchAt.{LatchAt}
use Rattle.latch_graph.specs.minimal_cut.graph_components.flat_net.Cut.{no_latch}
use Rattle.latch_graph.specs.minimal_cut.graph_components.flat_net.View.{NetView, circuit_of}
use Rattle.latch_graph.proofs.minimal_cut.graph_components.flat_net.Places.{one_at}
use Rattle.latch_graph.proofs.minimal_cut.graph_components.flat_net.Nets.{some_at, latch_stands, sound_is_net}
use Rattle.latch_graph.specs.minimal_cut.graph_components.Node.{Node}
use Rattle.latch_graph.specs.minimal_cut.graph_components.Graph.{GraphView, IsGraphOf, SkippedBy, AreNodes}
use Rattle.latch_graph.proofs.minimal_cut.graph_components.Driving.{kept_nodes, read_taken, taken_read, none_some}
use Rattle.latch_graph.proofs.minimal_cut.graph_components.Reading.{reads_node, latch_node, node_reads}
use Rattle.latch_graph.specs.minimal_cut.Readers.{NodeReads, WayBack}
use Rattle.latch_graph.specs.minimal_cut.Marks.{signal_of}
use Rattle.latch_graph.proofs.minimal_cut.WayLemmas.{way_then}

-- the name of a latch's equation
abbrev latch_name : Equation ℕ → List ℕ
latch_name (gate_equation out fanins cover) = []
latch_name (latch_equation name out next) = name
latch_name (port_equation out from) = []

-- a cycle that the circuit has without some names, as a way without blocked signals
pub record IsRing (g : GraphView) (blocked : ℕ → Type 0) : Type 0 where
  pub latch : ℕ
  pub within : latch < length g.latches
  pub free : blocked (signal_of g.latches latch) → ⊥
  pub way : WayBack g.nodes blocked (signal_of g.latches latch) (signal_of g.latches latch)

module _ (n : NetView) (g : GraphView) (of : IsGraphOf n g) (blocked : ℕ → Type 0) (names : List (List ℕ)) where
  net : IsNet (circuit_of n) (length n.drivers)
  net = sound_is_net n of.sound

  kept : AreNodes g.nodes g.latches
  kept = kept_nodes n g of

  latch_here : (j : ℕ) (l : LatchAt) → slice_get g.latches j ≡ Some l → slice_get n.latches j ≡ Some l
  latch_here j l h = subst (λ (z : List LatchAt). slice_get z j ≡ Some l) of.latches h

  stands : (j : ℕ) (l : LatchAt) → slice_get g.latches j ≡ Some l → IsLatch (circuit_of n) l.name l.out.0 l.next.0
  stands j l h = latch_stands n j l (latch_here j l h)

  -- what is read is a signal
  node_of : {s r : ℕ} → NodeReads g.nodes s r → (node : Node) × (slice_get g.nodes r ≡ Some node)
  node_of {s} {r} e = some_at g.nodes r (subst (λ z. z < length g.nodes) e.is (kept.within s e.place e.node e.signal e.here e.read))

  latch_node_of : {name : List ℕ} {u next : ℕ} → IsLatch (circuit_of n) name u next → (node : Node) × (slice_get g.nodes u ≡ Some node)
  latch_node_of {name} {u} {next} h =
      let l = (All-contains (IsWithin (length n.drivers)) (circuit_of n).equations (latch_equation name u next) net.within h).0 in
      some_at g.nodes u (omega (arith, l, of.size))

  -- what is reached from what a latch's signal reads is in the latch's cone, and not the latch itself where its self-edge is left out
  read_next : (j : ℕ) (l : LatchAt) → slice_get g.latches j ≡ Some l → (r : ℕ) → NodeReads g.nodes l.out.0 r → (v : ℕ) → IsSource (circuit_of n) v → Reaches (circuit_of n) r v → Reaches (circuit_of n) l.next.0 v × (SkippedBy g l.out.0 → l.out.0 ≢ v)
  read_next j l h r e v source reach =
      let x = latch_node n g of (stands j l h) e.node e.here in
      let t = read_taken n g of x.position x.latch x.bit e.node.reads x.here x.bit_is x.taken e.place e.signal e.read v source (subst (λ z. Reaches (circuit_of n) z v) (sym e.is) reach) in
      (subst (λ z. Reaches (circuit_of n) z v) x.next_is t.0, subst (λ z. SkippedBy g z → z ≢ v) x.out_is t.1)

  -- from the circuit to the nodes, where each blocked signal is a latch of one of the names
  module _ (stand : (s : ℕ) → blocked s → (j : ℕ) × (l : LatchAt) × (slice_get g.latches j ≡ Some l) × (l.out.0 ≡ s) × Contains names l.name) where
    gate_free : (q : ℕ) (node : Node) → slice_get g.nodes q ≡ Some node → node.latch ≡ None → blocked q → ⊥
    gate_free q node at plain b =
        let m = stand q b in
        let out = kept.out m.0 m.1 m.2 in
        let same : out.0 ≡ node = one_at g.nodes q out.0 node (subst (λ z. slice_get g.nodes z ≡ Some out.0) m.3 out.1) at in
        none_some m.0 (sym plain ∙ ap (λ (z : Node). z.latch) (sym same) ∙ out.2)

    kept_free : (name : List ℕ) (u next : ℕ) → IsLatch (circuit_of n) name u next → (Contains names name → ⊥) → blocked u → ⊥
    kept_free name u next latch out b =
        let m = stand u b in
        let same : m.1.name ≡ name = ap latch_name (net.single.one (latch_equation m.1.name m.1.out.0 m.1.next.0) (latch_equation name u next) (stands m.0 m.1 m.2) latch m.3) in
        out (subst (λ z. Contains names z) same m.4)

    reaches_way : {p v : ℕ} → Reaches (circuit_of n) p v → (s : ℕ) → NodeReads g.nodes s p → WayBack g.nodes blocked s v
    reaches_way Reaches.here s e = WayBack.last e
    reaches_way {p} (Reaches.there {q = q} reads rest) s e =
        let node = node_of e in
        let x = reads_node n g of reads node.0 node.1 in
        WayBack.more e (gate_free p node.0 node.1 x.0) (reaches_way rest p (record { node = node.0; place = x.1; signal = x.2; here = node.1; read = x.3; is = x.4 }))

    edge_way : {u v : ℕ} → LatchReads (circuit_of n) (SkippedBy g) names u v → WayBack g.nodes blocked u v
    edge_way {u} {v} e =
        let node = latch_node_of e.latch in
        let x = latch_node n g of e.latch node.0 node.1 in
        let read = taken_read n g of x.position x.latch x.bit node.0.reads x.here x.bit_is x.taken e.other (subst (λ z. Reaches (circuit_of n) z v) (sym x.next_is) e.cone.1) (subst (λ z. SkippedBy g z → z ≢ v) (sym x.out_is) e.no_self_edge) in
        reaches_way read.3 u (record { node = node.0; place = read.0; signal = read.1; here = node.1; read = read.2; is = refl })

    path_way : {u v : ℕ} → LatchPath (circuit_of n) (SkippedBy g) names u v → WayBack g.nodes blocked u v
    path_way (LatchPath.edge e) = edge_way e
    path_way (LatchPath.step {v = v} e rest) = way_then g.nodes blocked (edge_way e) (kept_free e.other_name v e.other_next e.other e.other_kept) (path_way rest)

    start_of : {u v : ℕ} → LatchPath (circuit_of n) (SkippedBy g) names u v → (name : List ℕ) × (next : ℕ) × IsLatch (circuit_of n) name u next × (Contains names name → ⊥)
    start_of (LatchPath.edge e) = (e.name, e.next, e.latch, e.kept)
    start_of (LatchPath.step e rest) = (e.name, e.next, e.latch, e.kept)

    pub cycle_ring : HasCycle (circuit_of n) (SkippedBy g) names → IsRing g blocked
    cycle_ring cycle =
        let first = start_of cycle.1 in
        let node = latch_node_of first.2 in
        let x = latch_node n g of first.2 node.0 node.1 in
        let here : slice_get g.latches x.position ≡ Some x.latch = subst (λ (z : List LatchAt). slice_get z x.position ≡ Some x.latch) (sym of.latches) x.here in
        let same : signal_of g.latches x.position ≡ cycle.0 = ap (λ (z : LatchAt). z.out.0) (get_or_from_slice_get g.latches x.position x.latch no_latch here) ∙ x.out_is in
        record {
          latch = x.position;
          within = slice_get_within g.latches x.position x.latch here;
          free = subst (λ z. blocked z → ⊥) (sym same) (kept_free first.0 cycle.0 first.1 first.2 first.3);
          way = subst (λ z. WayBack g.nodes blocked z z) (sym same) (path_way cycle.1);
        }

  -- from the nodes to the circuit, where each latch of one of the names is blocked
  module _ (own : (j : ℕ) (l : LatchAt) → slice_get g.latches j ≡ Some l → Contains names l.name → blocked l.out.0) where
    record IsKeptLatch (v : ℕ) : Type 0 where
      name : List ℕ
      next : ℕ
      latch : IsLatch (circuit_of n) name v next
      kept_name : Contains names name → ⊥

    kept_latch : (j : ℕ) (l : LatchAt) → slice_get g.latches j ≡ Some l → (blocked l.out.0 → ⊥) → IsKeptLatch l.out.0
    kept_latch j l h free = record { name = l.name; next = l.next.0; latch = stands j l h; kept_name = λ k. free (own j l h k) }

    -- the first kept latch behind a signal, on the way to w
    record IsAhead (w r : ℕ) : Type 0 where
      v : ℕ
      latch : IsKeptLatch v
      reached : Reaches (circuit_of n) r v
      rest : (v ≡ w) ⊎ LatchPath (circuit_of n) (SkippedBy g) names v w

    -- the way on from a kept latch
    path_from : (w j : ℕ) (l : LatchAt) → slice_get g.latches j ≡ Some l → IsKeptLatch l.out.0 → (r : ℕ) → NodeReads g.nodes l.out.0 r → IsAhead w r → LatchPath (circuit_of n) (SkippedBy g) names l.out.0 w
    path_from w j l h k r e a = go a.rest
      where
        source : IsSource (circuit_of n) a.v
        source = inr (a.latch.name, a.latch.next, a.latch.latch)

        next : Reaches (circuit_of n) l.next.0 a.v × (SkippedBy g l.out.0 → l.out.0 ≢ a.v)
        next = read_next j l h r e a.v source a.reached

        own_latch : IsKeptLatch l.out.0 → (Contains names l.name → ⊥)
        own_latch x =
            let same : x.name ≡ l.name = ap latch_name (net.single.one (latch_equation x.name l.out.0 x.next) (latch_equation l.name l.out.0 l.next.0) x.latch (stands j l h) refl) in
            subst (λ z. Contains names z → ⊥) same x.kept_name

        edge : LatchReads (circuit_of n) (SkippedBy g) names l.out.0 a.v
        edge = record {
          name = l.name;
          next = l.next.0;
          latch = stands j l h;
          kept = own_latch k;
          other_name = a.latch.name;
          other_next = a.latch.next;
          other = a.latch.latch;
          other_kept = a.latch.kept_name;
          cone = (source, next.0);
          no_self_edge = next.1;
        }

        go : (a.v ≡ w) ⊎ LatchPath (circuit_of n) (SkippedBy g) names a.v w → LatchPath (circuit_of n) (SkippedBy g) names l.out.0 w
        go (inl same) = subst (λ z. LatchPath (circuit_of n) (SkippedBy g) names l.out.0 z) same (LatchPath.edge edge)
        go (inr rest) = LatchPath.step edge rest

    record IsOnWay (w s : ℕ) : Type 0 where
      r : ℕ
      reads : NodeReads g.nodes s r
      ahead : IsAhead w r

    ahead_of : (w : ℕ) → IsKeptLatch w → {s : ℕ} → WayBack g.nodes blocked s w → IsOnWay w s
    ahead_of w k {s} (WayBack.last e) = record { r = w; reads = e; ahead = record { v = w; latch = k; reached = Reaches.here; rest = inl refl } }
    ahead_of w k {s} (WayBack.more {q = q} e free rest) = record { r = q; reads = e; ahead = by (node_of e) (ahead_of w k rest) }
      where
        by : (node : Node) × (slice_get g.nodes q ≡ Some node) → IsOnWay w q → IsAhead w q
        by node x = go node.0.latch refl
          where
            go : (o : Option ℕ) → node.0.latch ≡ o → IsAhead w q
            go None plain =
                let same : x.reads.node ≡ node.0 = one_at g.nodes q x.reads.node node.0 x.reads.here node.1 in
                let reads = node_reads n g of q node.0 node.1 plain x.reads.place x.reads.signal (subst (λ (z : Node). slice_get z.reads x.reads.place ≡ Some x.reads.signal) same x.reads.read) in
                record { v = x.ahead.v; latch = x.ahead.latch; reached = Reaches.there (subst (λ z. Reads (circuit_of n) q z) x.reads.is reads) x.ahead.reached; rest = x.ahead.rest }
            go (Some j) named =
                let m = kept.latch q j node.0 node.1 named in
                let own_latch = kept_latch j m.0 m.1 (subst (λ z. blocked z → ⊥) (sym m.2) free) in
                let path = path_from w j m.0 m.1 own_latch x.r (subst (λ z. NodeReads g.nodes z x.r) (sym m.2) x.reads) x.ahead in
                record { v = q; latch = subst (λ z. IsKeptLatch z) m.2 own_latch; reached = Reaches.here; rest = inr (subst (λ z. LatchPath (circuit_of n) (SkippedBy g) names z w) m.2 path) }

    pub ring_cycle : (j : ℕ) (l : LatchAt) → slice_get g.latches j ≡ Some l → (blocked l.out.0 → ⊥) → WayBack g.nodes blocked l.out.0 l.out.0 → HasCycle (circuit_of n) (SkippedBy g) names
    ring_cycle j l h free way =
        let k = kept_latch j l h free in
        let x = ahead_of l.out.0 k way in
        (l.out.0, path_from l.out.0 j l h k x.r x.reads x.ahead)
