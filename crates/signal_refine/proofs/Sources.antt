-- What inputs, latches and gates have, by their literals.
use Rattle.std.proofs.Common.{◌≡◌, ◌∙◌, ◌+◌, ◌*◌, ◌-◌, ◌<◌, ◌≤◌, ℕ, Bool, List, length, map, drop, slice_get, Some, sym, ap, subst, arith, length-drop}
use Rattle.std.specs.List.{All, Contains}
use Rattle.std.proofs.lemmas.List.Elements.{All-contains}
use Rattle.std.proofs.lemmas.Option.{slice_get-get_or}
use Rattle.circuit_theory.specs.Cover.{cover_value}
use Rattle.circuit_theory.specs.Circuit.{Gate as gate_equation, Latch as latch_equation, Meets, Holds, Carries}
use Rattle.circuit_theory.specs.Joined.{Either}
use Rattle.circuit_theory.proofs.Lists.{map-map, map_same}
use Rattle.circuit_laws.proofs.reset_laws.reset_nets.Starts.{nets_have_starts}
use Rattle.flat_net.specs.declared.signals.Signal.{Signal}
use Rattle.flat_net.specs.declared.parts.LatchAt.{LatchAt}
use Rattle.flat_net.specs.declared.parts.Driver.TheVariants as driver
use Rattle.flat_net.specs.View.{NetView, circuit_of, cover_of, start_of}
use Rattle.flat_net.proofs.Drivers.{gate_equation_stands, gate_out, latch_out, latch_equation_stands}
use Rattle.aig.specs.declared.node.Lit.{Lit}
use Rattle.aig.specs.declared.node.Node.{Node}
use Rattle.aig.specs.Values.{value}
use Rattle.block_refine.specs.latch_blocks.Signals.{lit_at, IsGateLit}
use Rattle.block_refine.proofs.block_graph.Numbered.{at_drop}
use Rattle.circuit_laws.specs.signal_laws.Ties.{side_at}
use Rattle.signal_refine.specs.declared.nets.Spot.{Spot}
use Rattle.signal_refine.specs.declared.leaves.Cycle.{Cycle}
use Rattle.signal_refine.specs.Places.{size_of, places_of, whole, order_of}
use Rattle.signal_refine.specs.Frames.{HaveValues, IsReadBy}
use Rattle.signal_refine.proofs.Parts.{IsAt}

module _ (w : Cycle) (p : ℕ) (s : Spot) (at : IsAt w p s) where
  -- the place's signal is the net's
  pub here : (v : Either ℕ ℕ → Bool) → v (side_at (size_of w.nets) p) ≡ v (at.emb s.signal.0)
  here v = ap (λ q. v (side_at (size_of w.nets) q)) (sym at.place) ∙ ap v (at.part.side s.signal.0 at.inside)

  pub input_value : (i k : ℕ) → slice_get s.net.now.drivers s.signal.0 ≡ Some (driver.Input i) → slice_get s.numbers.now i ≡ Some k →
      (g : List Node) (a : ℕ → Bool) (v : Either ℕ ℕ → Bool) → IsReadBy w g a v → a (w.inputs + k) ≡ v (side_at (size_of w.nets) p)
  input_value i k drives number g a v reading = reading.inputs (at.emb s.signal.0) k (at.part.number s.signal.0 i k drives number) ∙ sym (here v)

  module _ (j : ℕ) (drives : slice_get s.net.now.drivers s.signal.0 ≡ Some (driver.Latch j)) (l : LatchAt) (latch : slice_get s.net.now.latches j ≡ Some l) where
    pub next_within : l.next.0 < length s.net.now.drivers
    next_within = (at.part.sound.latches j l latch).within

    pub next_among : s.offset + l.next.0 < places_of w.nets
    next_among = let among = at.part.among in let within = next_within in omega (arith, among, within)

    pub start_value : (bit : Bool) → start_of l.out.0 l.init ≡ Some (record { place = l.out.0; bit = bit }) → (v : Either ℕ ℕ → Bool) →
        ((x : Either ℕ ℕ) (b : Bool) → Contains (whole w.nets).starts (record { place = x; bit = b }) → v x ≡ b) → v (side_at (size_of w.nets) p) ≡ bit
    start_value bit start v starts =
        let own = (nets_have_starts s.net.now at.part.sound).4 j l (record { place = l.out.0; bit = bit }) latch start in
        let out = latch_out s.net.now at.part.sound s.signal.0 j drives l latch in
        here v ∙ starts (at.emb s.signal.0) bit (at.part.start s.signal.0 bit (subst (λ o. Contains (circuit_of s.net.now).starts (record { place = o; bit = bit })) out own))

    pub carried_value : (u v : Either ℕ ℕ → Bool) → All (Carries u v) (whole w.nets).equations → v (side_at (size_of w.nets) p) ≡ u (side_at (size_of w.nets) (s.offset + l.next.0))
    carried_value u v carries =
        let equation = at.part.equation (latch_equation l.name s.signal.0 l.next.0) (latch_equation_stands s.net.now at.part.sound s.signal.0 j drives l latch) in
        here v ∙ (All-contains (Carries u v) (whole w.nets).equations _ carries equation ∙ sym (ap u (at.part.side l.next.0 next_within)))

  module _ (j : ℕ) (drives : slice_get s.net.now.drivers s.signal.0 ≡ Some (driver.Gate j)) (read : List Lit) (each : length read ≡ s.offset + s.signal.0) (g h : List Node) (x : Lit) (lit : IsGateLit s.net.now j (drop s.offset read) g h x)
      (a : ℕ → Bool) (v : Either ℕ ℕ → Bool) (meets : Meets (whole w.nets) v) (values : HaveValues (size_of w.nets) g a v read) where
    below : (f : Signal) → Contains lit.gate.fanins f → f.0 < s.signal.0
    below f h =
        let above = All-contains (λ (k : Signal). k.0 < lit.gate.out.0) lit.gate.fanins f (at.part.sound.gates j lit.gate lit.at).above h in
        omega (arith, above, gate_out s.net.now at.part.sound s.signal.0 j drives lit.gate lit.at)

    fanin_value : (f : Signal) → Contains lit.gate.fanins f → v (at.emb f.0) ≡ value g a (lit_at (drop s.offset read) f.0).0
    fanin_value f h =
        let less = below f h in
        let inside : f.0 < length (drop s.offset read) = let long = length-drop s.offset read in omega (arith, less, long, each) in
        let there = at_drop s.offset read f.0 (lit_at (drop s.offset read) f.0) (slice_get-get_or (drop s.offset read) f.0 (record { 0 = 0 }) inside) in
        sym (ap v (at.part.side f.0 (omega (arith, less, at.inside)))) ∙ sym (values (s.offset + f.0) (lit_at (drop s.offset read) f.0) there)

    pub gate_value : value h a x.0 ≡ v (side_at (size_of w.nets) p)
    gate_value =
        let stands = at.part.equation (gate_equation s.signal.0 (map (λ (f : Signal). f.0) lit.gate.fanins) (cover_of s.net.now.covers lit.gate)) (gate_equation_stands s.net.now at.part.sound s.signal.0 j drives lit.gate lit.at) in
        let holds = All-contains (Holds v) (whole w.nets).equations _ meets stands in
        let fanins : map v (map at.emb (map (λ (f : Signal). f.0) lit.gate.fanins)) ≡ map (λ (f : Signal). value g a (lit_at (drop s.offset read) f.0).0) lit.gate.fanins =
        ap (map v) (map-map at.emb (λ (f : Signal). f.0) lit.gate.fanins)
        ∙ (map-map v (λ (f : Signal). at.emb f.0) lit.gate.fanins ∙ map_same (λ (f : Signal). v (at.emb f.0)) (λ (f : Signal). value g a (lit_at (drop s.offset read) f.0).0) lit.gate.fanins fanin_value) in
        lit.value a ∙ (ap (cover_value (cover_of s.net.now.covers lit.gate)) (sym fanins) ∙ (sym holds ∙ sym (here v)))
