-- What the circuit's readings and latches say of the nodes.
use Rattle.std.proofs.Common.{◌≡◌, ℕ, Bool, List, [], length, map, Some, None, refl, sym, ◌∙◌, ap, subst}
use Rattle.std.specs.Prelude.{slice_get}
use Rattle.std.specs.List.{Contains}
use Rattle.std.proofs.lemmas.List.Elements.{All-contains}
use Rattle.signal_graph.specs.inner_cone.flat_net.Signal.{Signal}
use Rattle.signal_graph.specs.inner_cone.flat_net.LatchAt.{LatchAt}
use Rattle.signal_graph.specs.inner_cone.flat_net.View.{NetView, circuit_of, cover_of}
use Rattle.signal_graph.proofs.inner_cone.flat_net.Nets.{sound_is_net}
use Rattle.signal_graph.specs.inner_cone.circuit_theory.Circuit.{Equation, Gate as gate_equation, Latch as latch_equation, Port as port_equation, IsLatch, Reads}
use Rattle.signal_graph.specs.inner_cone.circuit_theory.Net.{IsNet, IsAbove}
use Rattle.signal_graph.proofs.inner_cone.circuit_theory.Lists.{Contains-map, Contains-map_from, at_of, of_at}
use Rattle.signal_graph.specs.declared.nodes.Node.{Node}
use Rattle.signal_graph.specs.Graph.{GraphView, IsGraphOf, AreTaken}
use Rattle.signal_graph.proofs.Driving.{Driven, driven, nothing_at, none_some}

abbrev fanins_of : Equation ℕ → List ℕ
fanins_of (gate_equation out fanins cover) = fanins
fanins_of (latch_equation name out next) = []
fanins_of (port_equation out from) = []

-- a latch of the circuit, as the net and the graph have it
pub record LatchNode (n : NetView) (bits : List Bool) (node : Node) (name : List ℕ) (q next : ℕ) : Type 0 where
  pub position : ℕ
  pub latch : LatchAt
  pub named : node.latch ≡ Some position
  pub here : slice_get n.latches position ≡ Some latch
  pub name_is : latch.name ≡ name
  pub out_is : latch.out.0 ≡ q
  pub next_is : latch.next.0 ≡ next
  pub bit : Bool
  pub bit_is : slice_get bits position ≡ Some bit
  pub taken : AreTaken n latch bit node.reads

module _ (n : NetView) (g : GraphView) (of : IsGraphOf n g) where
  net : IsNet (circuit_of n) (length n.drivers)
  net = sound_is_net n of.sound

  abbrev IsRead : Node → ℕ → Type 0
  IsRead node r = (node.latch ≡ None) × (k : ℕ) × (f : Signal) × (slice_get node.reads k ≡ Some f) × (f.0 ≡ r)

  pub reads_node : {q r : ℕ} → Reads (circuit_of n) q r → (node : Node) → slice_get g.nodes q ≡ Some node → IsRead node r
  reads_node {q} {r} (Reads.by_port {from = from} e) node at = absurd (All-contains IsAbove (circuit_of n).equations (port_equation q r) net.above e)
  reads_node {q} {r} (Reads.by_gate {fanins = fanins} {cover = cover} e h) node at = go (driven n g of q node at)
    where
      go : Driven n g.skipped q node → IsRead node r
      go (Driven.input is reads lone) = absurd (net.single.no_input (gate_equation q fanins cover) e is)
      go (Driven.latch j l place out is bit bit_is taken lone inner) =
          absurd (gate_latch (net.single.one (gate_equation q fanins cover) (latch_equation l.name q l.next.0) e is refl))
        where
          gate_latch : gate_equation q fanins cover ≡ latch_equation l.name q l.next.0 → ⊥
          gate_latch x = cc
      go (Driven.gate gt stands reads lone below) =
          let same : fanins ≡ map (λ f. f.0) gt.fanins = ap fanins_of (net.single.one (gate_equation q fanins cover) (gate_equation q (map (λ f. f.0) gt.fanins) (cover_of n.covers gt)) e stands refl) in
          let found = Contains-map_from (λ (f : Signal). f.0) gt.fanins r (subst (λ z. Contains z r) same h) in
          let place = at_of gt.fanins found.0 found.1 in
          (lone, place.0, found.0, subst (λ (z : List Signal). slice_get z place.0 ≡ Some found.0) (sym reads) place.1, found.2)

  pub latch_node : {name : List ℕ} {q next : ℕ} → IsLatch (circuit_of n) name q next → (node : Node) → slice_get g.nodes q ≡ Some node → LatchNode n g.skipped node name q next
  latch_node {name} {q} {next} e node at = go (driven n g of q node at)
    where
      go : Driven n g.skipped q node → LatchNode n g.skipped node name q next
      go (Driven.input is reads lone) = absurd (net.single.no_input (latch_equation name q next) e is)
      go (Driven.gate gt stands reads lone below) =
          absurd (gate_latch (net.single.one (gate_equation q (map (λ f. f.0) gt.fanins) (cover_of n.covers gt)) (latch_equation name q next) stands e refl))
        where
          gate_latch : gate_equation q (map (λ f. f.0) gt.fanins) (cover_of n.covers gt) ≡ latch_equation name q next → ⊥
          gate_latch x = cc
      go (Driven.latch j l place out is bit bit_is taken lone inner) =
          let same : latch_equation l.name q l.next.0 ≡ latch_equation name q next = net.single.one (latch_equation l.name q l.next.0) (latch_equation name q next) is e refl in
          record { position = j; latch = l; named = lone; here = place; name_is = cc; out_is = out; next_is = cc; bit = bit; bit_is = bit_is; taken = taken }

  -- what a node that isn't a latch's reads, its signal reads
  pub node_reads : (s : ℕ) (node : Node) → slice_get g.nodes s ≡ Some node → node.latch ≡ None → (k : ℕ) (r : Signal) → slice_get node.reads k ≡ Some r → Reads (circuit_of n) s r.0
  node_reads s node at plain k r h = go (driven n g of s node at)
    where
      go : Driven n g.skipped s node → Reads (circuit_of n) s r.0
      go (Driven.input is reads lone) = absurd (nothing_at node.reads k r reads h)
      go (Driven.gate gt stands reads lone below) = Reads.by_gate stands (Contains-map (λ (f : Signal). f.0) gt.fanins r (of_at gt.fanins k r (subst (λ (z : List Signal). slice_get z k ≡ Some r) reads h)))
      go (Driven.latch j l place out is bit bit_is taken lone inner) = absurd (none_some j (sym plain ∙ lone))
