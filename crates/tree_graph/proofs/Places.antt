-- The trees of places, and how they are made of the trees of what the places read.
use Rattle.std.proofs.Common.{◌≡◌, ℕ, suc, max, ◌+◌, ◌<◌, List, [], ◌∷◌, length, map, slice_get, Some, Result, Ok, Err, IfOk, refl, sym, ap, subst, ◌∙◌, add-one}
use Rattle.std.specs.List.{AllZip, Contains}
use Rattle.std.proofs.lemmas.Option.{slice_get_within}
use Rattle.circuit_theory.specs.Cover.{Cover}
use Rattle.circuit_theory.specs.Tree.{Tree, Trees, Leaf, Branch, Nil, Cons, Unfolds, UnfoldsAll, IsInputNumber}
use Rattle.circuit_theory.specs.Net.{IsNet}
use Rattle.circuit_theory.proofs.Lists.{map-map, zip_weaker}
use Rattle.circuit_theory.proofs.Inputs.{beside_is_input}
use Rattle.circuit_theory.proofs.Numbers.{one_number, at_beside, slice_get-map}
use Rattle.circuit_laws.proofs.OneTree.{one_tree}
use Rattle.base_tables.specs.Table.{AreDistinct}
use Rattle.base_tables.specs.unique_table.Places.{StandOnce}
use Rattle.flat_net.specs.declared.signals.Signal.{Signal}
use Rattle.flat_net.specs.declared.parts.Gate.{Gate}
use Rattle.flat_net.specs.declared.parts.LatchAt.{LatchAt}
use Rattle.flat_net.specs.declared.parts.Driver.TheVariants as driver
use Rattle.flat_net.specs.View.{NetView, circuit_of, cover_of, named}
use Rattle.flat_net.specs.Sound.{IsSound}
use Rattle.flat_net.proofs.Nets.{sound_is_net}
use Rattle.flat_net.proofs.Drivers.{gate_of_equation, latch_of_equation, no_port, input_owner, gate_equation_stands, latch_equation_stands}
use Rattle.aig.specs.declared.node.Lit.{Lit}
use Rattle.aig.specs.declared.node.Node.{Node}
use Rattle.aig.specs.Builds.{BuildsAll}
use Rattle.aig.specs.Making.{MakesCover}
use Rattle.tree_graph.specs.Making.{Makes, MakesAll}
use Rattle.tree_graph.specs.Rooted.{IsTreeAt}
use Rattle.tree_graph.specs.Walking.{reads_by, reads_of, fanins_at, taken_at, IsKnown, AreKnown, MakesEach, MakesGate}
use Rattle.tree_graph.proofs.One.{tree_one, trees_one}
use Rattle.tree_graph.proofs.Kept.{tree_kept, trees_kept}
use Rattle.tree_graph.proofs.Built.{tree_built, trees_built}

module _ (n : NetView) (order : List ℕ) (sound : IsSound n) where
  -- a place has one tree
  pub one_at : (p : ℕ × ℕ) (l r : Tree ℕ) → IsTreeAt n order p l → IsTreeAt n order p r → l ≡ r
  one_at p l r (d, u) (e, v) =
      let net : IsNet (circuit_of n) (length n.drivers) = sound_is_net n sound in
      (one_tree (circuit_of n) order net.single (λ q i j a b. one_number (circuit_of n).inputs order net.inputs q i j a b) u v).0

  -- its signal is one of the net
  pub signal_within : {s k d : ℕ} {t : Tree ℕ} → Unfolds (circuit_of n) order s k d t → s < length n.drivers
  signal_within {s} (Unfolds.input {i = i} h) = let o = input_owner n sound s (beside_is_input (circuit_of n).inputs order s i h) in slice_get_within n.drivers s (driver.Input o.0) o.4
  signal_within (Unfolds.gate {out = out} {fanins = fanins} {cover = cover} eq each) = let o = gate_of_equation n sound out fanins cover eq in slice_get_within n.drivers out (driver.Gate o.j) o.owner
  signal_within (Unfolds.port {out = out} {from = from} eq rest) = absurd (no_port n sound out from eq)
  signal_within (Unfolds.latch {name = name} {out = out} {next = next} eq rest) = let o = latch_of_equation n sound name out next eq in slice_get_within n.drivers out (driver.Latch o.j) o.owner

  pub tree_within : (p : ℕ × ℕ) → (t : Tree ℕ) × IsTreeAt n order p t → p.1 < length n.drivers
  tree_within p (t, (d, u)) = signal_within u

  abbrev pub listed : Trees ℕ → List (Tree ℕ)
  listed Nil = []
  listed (Cons first rest) = first ∷ listed rest

  each_tree : {fanins : List ℕ} {k d : ℕ} {trees : Trees ℕ} → UnfoldsAll (circuit_of n) order fanins k d trees → AllZip (IsTreeAt n order) (map (λ s. (k, s)) fanins) (listed trees)
  each_tree UnfoldsAll.none = tt
  each_tree (UnfoldsAll.more {d = d} one rest) = ((d, one), each_tree rest)

  module _ (places : List (ℕ × ℕ)) (distinct : AreDistinct places) where
    -- what trees one after the other make, several subtrees make
    pub each_all : (g h : List Node) (trees : Trees ℕ) → MakesEach places g (listed trees) h → (fs : List ℕ) × MakesAll places g trees h fs
    each_all g h Nil e = ([], (e, refl))
    each_all g h (Cons first rest) (k, x, before, here) = let r = each_all g k rest before in (x ∷ r.0, (k, x, r.0, r.1, here, refl))

    -- the trees of what a place reads, after which making its own is making it with them
    pub record HasReads (p : ℕ × ℕ) (t : Tree ℕ) : Type 0 where
      pub trees : List (Tree ℕ)
      pub are : AllZip (IsTreeAt n order) (reads_of n p) trees
      pub makes : (g k : List Node) → StandOnce g → MakesEach places g (t ∷ trees) k → (x : ℕ) × Makes places g t k x

    branch_made : (g k : List Node) (cover : Cover) (trees : Trees ℕ) → StandOnce g → MakesEach places g (Branch cover trees ∷ listed trees) k → (x : ℕ) × Makes places g (Branch cover trees) k x
    branch_made g k cover trees once (m, x, each, (l, gs, again, made)) =
        let a = each_all g m trees each in
        let fs : List ℕ = a.0 in
        let itself = trees_one places distinct g m m trees fs fs once a.1 a.1 in
        let kept : MakesAll places m trees m fs = trees_kept m places trees fs (trees_built places g m trees fs a.1) in
        let one = trees_one places distinct m m l trees fs gs itself.once kept again in
        (x, (m, fs, a.1, subst (λ (zs : List ℕ). MakesCover m cover zs k x) (sym one.lits) (subst (λ (z : List Node). MakesCover z cover gs k x) (sym one.graphs) made)))

    twice_made : (g k : List Node) (t : Tree ℕ) → StandOnce g → MakesEach places g (t ∷ t ∷ []) k → (x : ℕ) × Makes places g t k x
    twice_made g k t once (m, x, (l, y, same, first), second) =
        let here : Makes places g t m y = subst (λ (z : List Node). Makes places z t m y) same first in
        let itself = tree_one places distinct g m m t y y once here here in
        let kept : Makes places m t m y = tree_kept m places t y (tree_built places g m t y here) in
        let one = tree_one places distinct m m k t y x itself.once kept second in
        (y, subst (λ (z : List Node). Makes places g t z y) one.graphs here)

    alone_made : (g k : List Node) (t : Tree ℕ) → MakesEach places g (t ∷ []) k → (x : ℕ) × Makes places g t k x
    alone_made g k t (m, x, same, made) = (x, subst (λ (z : List Node). Makes places z t k x) same made)

    pub has_reads : {s k d : ℕ} {t : Tree ℕ} → Unfolds (circuit_of n) order s k d t → HasReads (k, s) t
    has_reads {s} (Unfolds.input {k = k} {i = i} h) =
        let o = input_owner n sound s (beside_is_input (circuit_of n).inputs order s i h) in
        let none : reads_of n (k, s) ≡ [] = ap (reads_by n k) o.4 in
        record { trees = []; are = subst (λ ps. AllZip (IsTreeAt n order) ps []) (sym none) tt; makes = λ g l once each. alone_made g l (Leaf i k) each }
    has_reads (Unfolds.gate {out = out} {fanins = fanins} {cover = cover} {k = k} {trees = trees} eq each) =
        let o = gate_of_equation n sound out fanins cover eq in
        let are : reads_of n (k, out) ≡ map (λ s. (k, s)) fanins =
        ap (reads_by n k) o.owner ∙ ap (fanins_at k) o.at ∙ sym (map-map (λ (s : ℕ). (k, s)) (λ (f : Signal). f.0) o.gate.fanins) ∙ ap (map (λ (s : ℕ). (k, s))) o.fanins_are in
        record { trees = listed trees; are = subst (λ ps. AllZip (IsTreeAt n order) ps (listed trees)) (sym are) (each_tree each); makes = λ g l once made. branch_made g l cover trees once made }
    has_reads (Unfolds.port {out = out} {from = from} eq rest) = absurd (no_port n sound out from eq)
    has_reads (Unfolds.latch {name = name} {out = out} {next = next} {k = k} {d = d} {tree = tree} eq rest) =
        let o = latch_of_equation n sound name out next eq in
        let are : reads_of n (k, out) ≡ (k + 1, next) ∷ [] = ap (reads_by n k) o.owner ∙ ap (taken_at k) o.at ∙ ap (λ (m : ℕ). (k + 1, m) ∷ []) o.next_is in
        let below : IsTreeAt n order (k + 1, next) tree = (d, subst (λ (m : ℕ). Unfolds (circuit_of n) order next m d tree) (sym (add-one k)) rest) in
        record { trees = tree ∷ []; are = subst (λ ps. AllZip (IsTreeAt n order) ps (tree ∷ [])) (sym are) (below, tt); makes = λ g l once made. twice_made g l tree once made }

  module _ (places : List (ℕ × ℕ)) where
    -- the place of an input is made as its leaf
    pub input_made : (s k i number x : ℕ) (g h : List Node) → slice_get n.drivers s ≡ Some (driver.Input i) → slice_get order i ≡ Some number → Makes places g (Leaf number k) h x → (t : Tree ℕ) → IsTreeAt n order (k, s) t → Makes places g t h x
    input_made s k i number x g h drives at made t is =
        let port = sound.drivers s (driver.Input i) drives in
        let beside = at_beside (map named n.inputs) order i number (named port.0) (slice_get-map named n.inputs i port.0 port.1) at in
        let mine : IsTreeAt n order (k, s) (Leaf number k) = (0, Unfolds.input (subst (λ m. IsInputNumber (circuit_of n) order m number) port.2 beside)) in
        subst (λ (r : Tree ℕ). Makes places g r h x) (one_at (k, s) (Leaf number k) t mine is) made

    record AreTrees (g : List Node) (k : ℕ) (fanins fs : List ℕ) : Type 0 where
      depth : ℕ
      trees : Trees ℕ
      unfolds : UnfoldsAll (circuit_of n) order fanins k depth trees
      builds : BuildsAll g places trees fs

    are_trees : (g : List Node) (k : ℕ) (fanins : List Signal) (lits : List Lit) → AllZip (λ f y. IsKnown n order places g (k, f.0) y.0) fanins lits → AreTrees g k (map (λ f. f.0) fanins) (map (λ y. y.0) lits)
    are_trees g k [] [] h = record { depth = 0; trees = Nil; unfolds = UnfoldsAll.none; builds = refl }
    are_trees g k [] (y ∷ lits) h = absurd h
    are_trees g k (f ∷ fanins) [] h = absurd h
    are_trees g k (f ∷ fanins) (y ∷ lits) h =
        let rest = are_trees g k fanins lits h.1 in
        record {
          depth = max h.0.is_tree.0 rest.depth;
          trees = Cons h.0.tree rest.trees;
          unfolds = UnfoldsAll.more h.0.is_tree.1 rest.unfolds;
          builds = (y.0, map (λ y. y.0) lits, h.0.builds, rest.builds, refl);
        }

    -- the place of a gate is made as its cover
    pub gate_made : (s k j x : ℕ) (g h : List Node) (memo : List ((ℕ × ℕ) × Lit)) → slice_get n.drivers s ≡ Some (driver.Gate j) → AreKnown n order places memo g → MakesGate n memo k j g h x → (t : Tree ℕ) → IsTreeAt n order (k, s) t → Makes places g t h x
    gate_made s k j x g h memo drives known m t is =
        let trees = are_trees g k m.gate.fanins m.lits (zip_weaker (λ f y. Contains memo ((k, f.0), y)) (λ f y. IsKnown n order places g (k, f.0) y.0) (λ f y there. known (k, f.0) y there) m.gate.fanins m.lits m.each) in
        let whole : Tree ℕ = Branch (cover_of n.covers m.gate) trees.trees in
        let mine : IsTreeAt n order (k, s) whole = (trees.depth, Unfolds.gate (gate_equation_stands n sound s j drives m.gate m.at) trees.unfolds) in
        subst (λ (r : Tree ℕ). Makes places g r h x) (one_at (k, s) whole t mine is) (g, map (λ (y : Lit). y.0) m.lits, trees_kept g places trees.trees (map (λ (y : Lit). y.0) m.lits) trees.builds, m.made)

    -- the gate's cover is made of the literals that were looked up
    pub gate_lits : {E : Type 0} (k j : ℕ) (g h : List Node) (memo : List ((ℕ × ℕ) × Lit)) (gate : Gate) (signals : List Signal) (lits given : List Lit) (cover : Cover) (r : Result Lit E) → slice_get n.gates j ≡ Some gate → signals ≡ gate.fanins →
        AllZip (λ f y. Contains memo ((k, f.0), y)) signals lits → given ≡ lits → cover_of n.covers gate ≡ cover → IfOk r (λ x. MakesCover g cover (map (λ y. y.0) given) h x.0) → IfOk r (λ x. MakesGate n memo k j g h x.0)
    gate_lits k j g h memo gate signals lits given cover (Err e) at are each same is made = made
    gate_lits k j g h memo gate signals lits given cover (Ok x) at are each same is made = record {
      gate = gate;
      at = at;
      lits = lits;
      each = subst (λ (fs : List Signal). AllZip (λ f y. Contains memo ((k, f.0), y)) fs lits) are each;
      made = subst (λ (v : Cover). MakesCover g v (map (λ (y : Lit). y.0) lits) h x.0) (sym is) (subst (λ (ys : List Lit). MakesCover g cover (map (λ (y : Lit). y.0) ys) h x.0) same made);
    }

    -- the place of a latch is made with what it takes over
    pub latch_made : (s k j x : ℕ) (l : LatchAt) (g : List Node) → slice_get n.drivers s ≡ Some (driver.Latch j) → slice_get n.latches j ≡ Some l → IsKnown n order places g (k + 1, l.next.0) x → (t : Tree ℕ) → IsTreeAt n order (k, s) t → Makes places g t g x
    latch_made s k j x l g drives at known t is =
        let below = subst (λ (m : ℕ). Unfolds (circuit_of n) order l.next.0 m known.is_tree.0 known.tree) (add-one k) known.is_tree.1 in
        let mine : IsTreeAt n order (k, s) known.tree = (suc known.is_tree.0, Unfolds.latch (latch_equation_stands n sound s j drives l at) below) in
        subst (λ (r : Tree ℕ). Makes places g r g x) (one_at (k, s) known.tree t mine is) (tree_kept g places known.tree x known.builds)
