-- What all latches take over, by the literals of their signals.
use Rattle.std.proofs.Common.{◌≡◌, ◌∙◌, ◌<◌, ◌*◌, ℕ, Bool, List, [], ◌++◌, length, map, slice_get, Some, refl, sym, ap, subst, arith}
use Rattle.std.specs.List.{All}
use Rattle.std.proofs.lemmas.Option.{slice_get-get_or}
use Rattle.std.proofs.lemmas.List.{map-append}
use Rattle.circuit_theory.specs.Joined.{Either, Left, Right}
use Rattle.circuit_theory.proofs.Lists.{All-from_each, at_of, map_same, map-map}
use Rattle.flat_net.specs.declared.parts.LatchAt.{LatchAt}
use Rattle.flat_net.specs.View.{NetView}
use Rattle.flat_net.specs.Sound.{IsSound}
use Rattle.aig.specs.declared.node.Lit.{Lit}
use Rattle.aig.specs.declared.node.Node.{Node}
use Rattle.aig.specs.Values.{lit_bit, node_bits, value}
use Rattle.block_refine.specs.latch_blocks.Partitions.{nexts_of}
use Rattle.block_refine.specs.latch_blocks.Signals.{lit_at}
use Rattle.block_refine.specs.declared.block_graph.nets.BlockNets.{BlockNets}
use Rattle.block_refine.specs.declared.block_graph.graph.BlockGraph.{BlockGraph}
use Rattle.aig.proofs.Meaning.{length-node_bits}
use Rattle.block_refine.proofs.latch_blocks.Growing.{lits_within}
use Rattle.block_refine.specs.declared.block_graph.graph.NetLits.{NetLits}
use Rattle.block_refine.specs.block_graph.Graph.{AreOn, IsBlockGraph}
use Rattle.block_refine.proofs.block_graph.Pushed.{both_sides}
use Rattle.block_refine.specs.block_graph.Comparing.{AreReadBy}

-- a literal's value by the nodes' bits
value_is : (g : List Node) (v : ℕ → Bool) (x : ℕ) → value g v x ≡ lit_bit (node_bits g v) x
unfolding value
value_is g v x = refl

-- what the latch takes over, by the literals of all signals and the nodes' bits
abbrev pub taken : List Bool → List Lit → LatchAt → Bool
taken values lits l = lit_bit values (lit_at lits l.next.0).0

-- each latch takes over a signal of the net
pub nexts_within : (m : NetView) → IsSound m → All (λ l. l.next.0 < length m.drivers) m.latches
nexts_within m sound = All-from_each (λ (l : LatchAt). l.next.0 < length m.drivers) m.latches (λ l h. let at = at_of m.latches l h in (sound.latches at.0 l at.1).within)

side_nexts : (m : NetView) → IsSound m → (lits : List Lit) → length lits ≡ length m.drivers → (side : ℕ → Either ℕ ℕ) (x : Either ℕ ℕ → Bool) (values : List Bool) →
    ((s : ℕ) (l : Lit) → slice_get lits s ≡ Some l → x (side s) ≡ lit_bit values l.0) → map (taken values lits) m.latches ≡ map x (map (λ (l : LatchAt). side l.next.0) m.latches)
side_nexts m sound lits each side x values same =
    map_same (taken values lits) (λ (l : LatchAt). x (side l.next.0)) m.latches
    (λ l h.
    let at = at_of m.latches l h in
    let inside = (sound.latches at.0 l at.1).within in
    sym (same l.next.0 (lit_at lits l.next.0) (slice_get-get_or lits l.next.0 (record { 0 = 0 }) (omega (arith, inside, each)))))
    ∙ sym (map-map x (λ (l : LatchAt). side l.next.0) m.latches)

-- the bits of both sides, one after the other
pub next_values : (n : BlockNets) (g : BlockGraph) → IsBlockGraph n g → IsSound n.left.now → IsSound n.right.now → (v : ℕ → Bool) (x : Either ℕ ℕ → Bool) → AreReadBy n g v x →
    map (taken (node_bits g.aig v) g.left.lits.items) n.left.now.latches ++ map (taken (node_bits g.aig v) g.right.lits.items) n.right.now.latches ≡ map x (nexts_of n.left.now n.right.now)
next_values n g is sound_a sound_b v x read =
    let a = n.left.now in
    let b = n.right.now in
    let values = node_bits g.aig v in
    let first : map (taken values g.left.lits.items) a.latches ≡ map x (map (λ (l : LatchAt). Left l.next.0) a.latches) =
    side_nexts a sound_a g.left.lits.items is.left_on.each (λ s. Left s) x values (λ s l at. read.lits (Left s) l at ∙ value_is g.aig v l.0) in
    let second : map (taken values g.right.lits.items) b.latches ≡ map x (map (λ (l : LatchAt). Right l.next.0) b.latches) =
    side_nexts b sound_b g.right.lits.items is.right_on.each (λ s. Right s) x values (λ s l at. read.lits (Right s) l at ∙ value_is g.aig v l.0) in
    ap (λ xs. xs ++ map (taken values g.right.lits.items) b.latches) first
    ∙ (ap (λ ys. map x (map (λ (l : LatchAt). Left l.next.0) a.latches) ++ ys) second
    ∙ sym (map-append x (map (λ (l : LatchAt). Left l.next.0) a.latches) (map (λ (l : LatchAt). Right l.next.0) b.latches)))

-- the same by the values that the calls have
pub nexts_are : (n : BlockNets) (g : BlockGraph) → IsBlockGraph n g → IsSound n.left.now → IsSound n.right.now → (v : ℕ → Bool) (x : Either ℕ ℕ → Bool) → AreReadBy n g v x →
    (none first second : List Bool) (ls rs : List LatchAt) (xs ys : List Lit) (vs ws : List Bool) → none ≡ [] → ls ≡ n.left.now.latches → rs ≡ n.right.now.latches → xs ≡ g.left.lits.items → ys ≡ g.right.lits.items →
    vs ≡ node_bits g.aig v → ws ≡ node_bits g.aig v → first ≡ none ++ map (taken vs xs) ls → second ≡ first ++ map (taken ws ys) rs → second ≡ map x (nexts_of n.left.now n.right.now)
nexts_are n g is sound_a sound_b v x read none first second ls rs xs ys vs ws empty ls_is rs_is xs_is ys_is vs_is ws_is one two =
    let a = n.left.now.latches in
    let b = n.right.now.latches in
    both_sides (taken vs xs) (taken ws ys) none first second ls rs a b empty ls_is rs_is one two
    ∙ (ap (λ (zs : List Bool). map (taken zs xs) a ++ map (taken ws ys) b) vs_is
    ∙ (ap (λ (zs : List Bool). map (taken (node_bits g.aig v) xs) a ++ map (taken zs ys) b) ws_is
    ∙ (ap (λ (zs : List Lit). map (taken (node_bits g.aig v) zs) a ++ map (taken (node_bits g.aig v) ys) b) xs_is
    ∙ (ap (λ (zs : List Lit). map (taken (node_bits g.aig v) g.left.lits.items) a ++ map (taken (node_bits g.aig v) zs) b) ys_is
    ∙ next_values n g is sound_a sound_b v x read))))

-- what the latches take over is among the literals, and these are of the graph
pub latches_within : (m : NetView) → IsSound m → (g : List Node) (on : NetLits) → AreOn m g on → (ls : List LatchAt) (xs : List Lit) → ls ≡ m.latches → xs ≡ on.lits.items → All (λ l. l.next.0 < length xs) ls
latches_within m sound g on are ls xs ls_is xs_is =
    let long : length xs ≡ length m.drivers = ap length xs_is ∙ are.each in
    subst (All (λ (l : LatchAt). l.next.0 < length xs)) (sym ls_is) (subst (λ k. All (λ (l : LatchAt). l.next.0 < k) m.latches) (sym long) (nexts_within m sound))

pub lits_inside : (m : NetView) (g : List Node) (on : NetLits) → AreOn m g on → (xs : List Lit) (vs : List Bool) (v : ℕ → Bool) → xs ≡ on.lits.items → vs ≡ node_bits g v → All (λ x. x.0 < 2 * length vs) xs
lits_inside m g on are xs vs v xs_is vs_is =
    let long : length vs ≡ length g = ap length vs_is ∙ length-node_bits g v in
    subst (All (λ (x : Lit). x.0 < 2 * length vs)) (sym xs_is) (subst (λ k. All (λ (x : Lit). x.0 < 2 * k) on.lits.items) (sym long) (lits_within m on.variables g on.lits.items are.lits))
