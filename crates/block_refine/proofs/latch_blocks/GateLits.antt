-- The literals of inputs, latches and gates.
use Rattle.std.proofs.Common.{◌≡◌, ◌∙◌, ◌+◌, ◌*◌, ◌/◌, ◌<◌, ◌≤◌, max, ℕ, Bool, List, length, map, slice_get, Some, sym, ap, subst, arith}
use Rattle.std.specs.List.{All, Contains}
use Rattle.std.proofs.Math.Nat.{mul-le-mul_right}
use Rattle.std.proofs.lemmas.Option.{slice_get-get_or}
use Rattle.std.proofs.lemmas.List.Elements.{All-contains, All-get_or}
use Rattle.circuit_theory.specs.Cover.{Cover, cover_value}
use Rattle.circuit_theory.specs.Circuit.{Gate as gate_equation, Holds, Reads, Reaches}
use Rattle.circuit_theory.proofs.Lists.{map-map, map_same, Contains-map, Contains-map_from, All-from_each}
use Rattle.flat_net.specs.declared.signals.Signal.{Signal}
use Rattle.flat_net.specs.declared.parts.Gate.{Gate}
use Rattle.flat_net.specs.declared.parts.Driver.TheVariants as driver
use Rattle.flat_net.specs.View.{NetView, circuit_of, cover_of}
use Rattle.flat_net.specs.Sound.{IsSound}
use Rattle.aig.specs.declared.node.Lit.{Lit}
use Rattle.aig.specs.declared.node.Node.{Node}
use Rattle.aig.specs.declared.node.Node.TheVariants.{Input}
use Rattle.aig.specs.Graph.{IsGraph, Grows, IsLitOf}
use Rattle.aig.specs.Values.{value}
use Rattle.aig.specs.Rules.{IsCoverOf, cover_room}
use Rattle.aig.specs.Builds.{HasTreeLit}
use Rattle.flat_net.specs.Weights.{gate_weight}
use Rattle.flat_net.proofs.Drivers.{gate_equation_stands, gate_out}
use Rattle.block_refine.specs.declared.latch_blocks.variables.Variables.{Variables}
use Rattle.block_refine.specs.latch_blocks.Signals.{variable_at, IsLeaf, IsVariableLit, IsSignalLit, AreSignalLits, lit_at, IsGateLit}
use Rattle.aig.proofs.Supports.{From, from_one, to_from, AllSupport, supports_input, supports_cover}
use Rattle.block_refine.proofs.latch_blocks.Growing.{lits_grow}

-- the literal of a variable
pub variable_lit : (n : NetView) (w : Variables) (g : List Node) → IsGraph g → (s k : ℕ) (x : Lit) → variable_at n w s ≡ Some k → IsLitOf g (Input k) x.0 → x.0 < 2 * length g → ((a : ℕ → Bool) → value g a x.0 ≡ a k) → IsSignalLit n w g s x
variable_lit n w g graph s k x has lit within is = record {
  within = within;
  tree = HasTreeLit.at_leaf s x.0 (k, has, lit);
  values = λ a v reading. reading.variables s k has ∙ sym (is a);
  reads = λ m j reach at. supports_input g graph (IsLeaf n w s) k x.0 lit (s, Reaches.here, has) m j (from_one g x.0 reach) at;
}

-- a gate's room is within what it counts
pub cover_within_weight : (covers : List Cover) (g : Gate) (cover : Cover) → cover_of covers g ≡ cover → cover.width ≡ length g.fanins → cover_room cover + 1 ≤ gate_weight covers (Some g)
cover_within_weight covers g cover is width =
    let weight : gate_weight covers (Some g) ≡ 1 + max 1 (length cover.rows) * (length g.fanins + 1) = ap (λ (k : Cover). 1 + max 1 (length k.rows) * (length g.fanins + 1)) is in
    let room : cover_room cover ≡ length cover.rows * (length g.fanins + 1) = ap (λ w. length cover.rows * (w + 1)) width in
    let less : length cover.rows * (length g.fanins + 1) ≤ max 1 (length cover.rows) * (length g.fanins + 1) = mul-le-mul_right (length g.fanins + 1) (let k : length cover.rows ≤ max 1 (length cover.rows) = omega arith in k) in
    omega (arith, weight, room, less)

-- the literals of the fan-ins are of the graph
pub fanins_within : (lits : List Lit) (fanins : List Signal) (size : ℕ) → All (λ f. f.0 < length lits) fanins → All (λ x. x.0 < size) lits → All (λ x. x.0 < size) (map (λ f. lit_at lits f.0) fanins)
fanins_within lits fanins size inside small =
    All-from_each (λ (x : Lit). x.0 < size) (map (λ (f : Signal). lit_at lits f.0) fanins)
    (λ x h. let f = Contains-map_from (λ (f : Signal). lit_at lits f.0) fanins x h in
    subst (λ (y : Lit). y.0 < size) f.2 (All-get_or (λ (y : Lit). y.0 < size) lits f.0.0 (record { 0 = 0 }) (All-contains (λ (k : Signal). k.0 < length lits) fanins f.0 inside f.1) small))

-- what the calls gave, as the gate's literal
pub gate_lit_from : (n : NetView) (j : ℕ) (lits : List Lit) (g h : List Node) (gate : Gate) (x : Lit) → slice_get n.gates j ≡ Some gate → (cover : Cover) → cover_of n.covers gate ≡ cover → (read : List Lit) → read ≡ map (λ f. lit_at lits f.0) gate.fanins →
    IsCoverOf h cover (map (λ y. y.0) read) x.0 → ((a : ℕ → Bool) → value h a x.0 ≡ cover_value cover (map (λ y. value g a y.0) read)) → x.0 < 2 * length h → IsGateLit n j lits g h x
gate_lit_from n j lits g h gate x at cover is read same here holds within = record {
  gate = gate;
  at = at;
  is =
      let fans : map (λ (y : Lit). y.0) read ≡ map (λ (f : Signal). (lit_at lits f.0).0) gate.fanins = ap (map (λ (y : Lit). y.0)) same ∙ map-map (λ (y : Lit). y.0) (λ (f : Signal). lit_at lits f.0) gate.fanins in
      subst (λ (k : Cover). IsCoverOf h k (map (λ (f : Signal). (lit_at lits f.0).0) gate.fanins) x.0) (sym is) (subst (λ (l : List ℕ). IsCoverOf h cover l x.0) fans here);
  value = λ a.
      let bits : map (λ (y : Lit). value g a y.0) read ≡ map (λ (f : Signal). value g a (lit_at lits f.0).0) gate.fanins = ap (map (λ (y : Lit). value g a y.0)) same ∙ map-map (λ (y : Lit). value g a y.0) (λ (f : Signal). lit_at lits f.0) gate.fanins in
      holds a ∙ ap (cover_value cover) bits ∙ ap (λ (k : Cover). cover_value k (map (λ (f : Signal). value g a (lit_at lits f.0).0) gate.fanins)) (sym is);
  within = within;
}

-- the literal of a gate whose fan-ins have theirs
module _ (n : NetView) (sound : IsSound n) (w : Variables) (g h : List Node) (old : IsGraph g) (graph : IsGraph h) (grows : Grows g h) (lits : List Lit) (s j : ℕ) (each : length lits ≡ s) (drives : slice_get n.drivers s ≡ Some (driver.Gate j))
    (are : AreSignalLits n w g lits) (x : Lit) (lit : IsGateLit n j lits g h x) where
  stands : Contains (circuit_of n).equations (gate_equation s (map (λ (f : Signal). f.0) lit.gate.fanins) (cover_of n.covers lit.gate))
  stands = gate_equation_stands n sound s j drives lit.gate lit.at

  below : (f : Signal) → Contains lit.gate.fanins f → f.0 < length lits
  below f h =
      let above = All-contains (λ (k : Signal). k.0 < lit.gate.out.0) lit.gate.fanins f (sound.gates j lit.gate lit.at).above h in
      omega (arith, above, gate_out n sound s j drives lit.gate lit.at, each)

  fanin_at : (f : Signal) → Contains lit.gate.fanins f → slice_get lits f.0 ≡ Some (lit_at lits f.0)
  fanin_at f h = slice_get-get_or lits f.0 (record { 0 = 0 }) (below f h)

  fanin_support : AllSupport h graph (IsLeaf n w s) (map (λ (f : Signal). (lit_at lits f.0).0) lit.gate.fanins)
  fanin_support y member k v from at =
      let f = Contains-map_from (λ (f : Signal). (lit_at lits f.0).0) lit.gate.fanins y member in
      let known = lits_grow n w g h old grows lits are f.0.0 (lit_at lits f.0.0) (fanin_at f.0 f.1) in
      let leaf = known.reads k v (to_from h (lit_at lits f.0.0).0 k (subst (λ z. From h (z / 2) k) (sym f.2) from)) at in
      (leaf.0, Reaches.there (Reads.by_gate stands (Contains-map (λ (q : Signal). q.0) lit.gate.fanins f.0 f.1)) leaf.1, leaf.2)

  fanin_tree : (f : ℕ) → Contains (map (λ (k : Signal). k.0) lit.gate.fanins) f → HasTreeLit (circuit_of n) h (IsVariableLit n w h) f (lit_at lits f).0
  fanin_tree f member =
      let k = Contains-map_from (λ (k : Signal). k.0) lit.gate.fanins f member in
      subst (λ p. HasTreeLit (circuit_of n) h (IsVariableLit n w h) p (lit_at lits p).0) k.2 (lits_grow n w g h old grows lits are k.0.0 (lit_at lits k.0.0) (fanin_at k.0 k.1)).tree

  pub gate_lit : IsSignalLit n w h s x
  gate_lit = record {
    within = lit.within;
    tree =
        HasTreeLit.at_gate s x.0 (map (λ (f : Signal). f.0) lit.gate.fanins) (cover_of n.covers lit.gate) (λ f. (lit_at lits f).0) stands fanin_tree
        (subst (λ (xs : List ℕ). IsCoverOf h (cover_of n.covers lit.gate) xs x.0) (sym (map-map (λ f. (lit_at lits f).0) (λ (f : Signal). f.0) lit.gate.fanins)) lit.is);
    values = λ a v reading.
        let holds : v s ≡ cover_value (cover_of n.covers lit.gate) (map v (map (λ (f : Signal). f.0) lit.gate.fanins)) =
        All-contains (Holds v) (circuit_of n).equations (gate_equation s (map (λ f. f.0) lit.gate.fanins) (cover_of n.covers lit.gate)) reading.meets stands in
        let fanins : map v (map (λ (f : Signal). f.0) lit.gate.fanins) ≡ map (λ (f : Signal). value g a (lit_at lits f.0).0) lit.gate.fanins =
        map-map v (λ (f : Signal). f.0) lit.gate.fanins ∙ map_same (λ (f : Signal). v f.0) (λ (f : Signal). value g a (lit_at lits f.0).0) lit.gate.fanins (λ f member. (are f.0 (lit_at lits f.0) (fanin_at f member)).values a v reading) in
        holds ∙ ap (cover_value (cover_of n.covers lit.gate)) fanins ∙ sym (lit.value a);
    reads = λ m k reach at. supports_cover h graph (IsLeaf n w s) (cover_of n.covers lit.gate) (map (λ (f : Signal). (lit_at lits f.0).0) lit.gate.fanins) x.0 lit.is fanin_support m k (from_one h x.0 reach) at;
  }
