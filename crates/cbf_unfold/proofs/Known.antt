-- How the literals of places follow from those of the places that they read, and stay while the graph and the table grow.
use Rattle.std.proofs.Common.{◌≡◌, ◌-◌, ◌*◌, ◌<◌, ◌≤◌, ℕ, suc, max, List, [], ◌∷◌, length, map, slice_get, Some, refl, subst, arith}
use Rattle.std.specs.List.{AllZip, Contains}
use Rattle.circuit_theory.specs.Cover.{Cover}
use Rattle.circuit_theory.specs.Circuit.{Gate as gate_equation, IsLatch}
use Rattle.circuit_theory.specs.Tree.{Trees, Leaf, Branch, Nil, Cons, Unfolds, UnfoldsAll, IsInputNumber}
use Rattle.circuit_theory.proofs.Lists.{zip_weaker}
use Rattle.flat_net.specs.declared.signals.Signal.{Signal}
use Rattle.flat_net.specs.View.{NetView, circuit_of}
use Rattle.aig.specs.declared.node.Lit.{Lit}
use Rattle.aig.specs.declared.node.Node.{Node}
use Rattle.aig.specs.declared.node.Node.TheVariants.{Input}
use Rattle.aig.specs.Graph.{Grows, IsLitOf}
use Rattle.aig.specs.Rules.{IsCoverOf}
use Rattle.aig.specs.Builds.{BuildsAll}
use Rattle.aig.proofs.Growth.{Grows-length}
use Rattle.aig.specs.Adds.{Adds}
use Rattle.cbf_unfold.specs.View.{UnfolderView}
use Rattle.cbf_unfold.specs.Unfolded.{IsKnown, IsNumberOf, IsUnfolded, IsLiteralOf, Fits, Holds}
use Rattle.aig.proofs.Lists.{adds_at}
pub use Rattle.cbf_unfold.proofs.unfold_places.Growing.{Any, builds_later}

pub known_later : (n : NetView) (order : List ℕ) (last : ℕ) (g h : List Node) (places more : List (ℕ × ℕ)) (p : ℕ × ℕ) (x : ℕ) → Grows g h → Adds Any places more → IsKnown n order last g places p x →
    IsKnown n order last h more p x
known_later n order last g h places more p x grows adds k = record {
  depth = k.depth;
  tree = k.tree;
  unfolds = k.unfolds;
  builds = builds_later g h places more k.tree x grows adds k.builds;
  within = omega (arith, k.within, Grows-length g h grows);
}

pub unfolded_later : (n : NetView) (order : List ℕ) (g h : List Node) (places more : List (ℕ × ℕ)) (s x : ℕ) (vars : List ℕ) → Grows g h → Adds Any places more → IsUnfolded n order g places s x vars →
    IsUnfolded n order h more s x vars
unfolded_later n order g h places more s x vars grows adds u = record {
  depth = u.depth;
  tree = u.tree;
  unfolds = u.unfolds;
  builds = builds_later g h places more u.tree x grows adds u.builds;
  within = omega (arith, u.within, Grows-length g h grows);
  variables = u.variables;
  are_variables = u.are_variables;
  numbered = zip_weaker (IsNumberOf places) (IsNumberOf more) (λ v y at. adds_at Any places more v _ adds at) vars u.variables u.numbered;
}

pub literal_later : (n : NetView) (order : List ℕ) (g h : List Node) (places more : List (ℕ × ℕ)) (s x : ℕ) → Grows g h → Adds Any places more → IsLiteralOf n order g places s x → IsLiteralOf n order h more s x
literal_later n order g h places more s x grows adds u = record {
  depth = u.depth;
  tree = u.tree;
  unfolds = u.unfolds;
  builds = builds_later g h places more u.tree x grows adds u.builds;
  within = omega (arith, u.within, Grows-length g h grows);
}

pub holds_later : (u : UnfolderView) (g h : List Node) (places more : List (ℕ × ℕ)) → Grows g h → Adds Any places more → Holds u g places → Holds u h more
holds_later u g h places more grows adds holds = record {
  known = λ p x m. known_later u.net u.order u.cap g h places more p x.0 grows adds (holds.known p x m);
  visited = holds.visited;
  within = holds.within;
  counted = holds.counted;
  planned = holds.planned;
}

pub fits_later : (u : UnfolderView) (g h : List Node) (places more : List (ℕ × ℕ)) → Grows g h → Adds Any places more → Fits u g places → Fits u h more
fits_later u g h places more grows adds fits = record {
  holds = holds_later u g h places more grows adds fits.holds;
  met = fits.met;
  weighs = fits.weighs;
  limit = fits.limit;
  small = fits.small;
}

module _ (n : NetView) (order : List ℕ) (last : ℕ) (g : List Node) (places : List (ℕ × ℕ)) where
  -- an input is its variable
  pub known_input : (p : ℕ × ℕ) (x number v : ℕ) → IsInputNumber (circuit_of n) order p.1 number → slice_get places v ≡ Some (number, last - p.0) → IsLitOf g (Input v) x → x < 2 * length g → IsKnown n order last g places p x
  known_input p x number v is at lit within = record { depth = 0; tree = Leaf number (last - p.0); unfolds = Unfolds.input is; builds = (v, at, lit); within = within }

  -- a latch is what it takes over, in the cycle before
  pub known_latch : (t s next x : ℕ) (name : List ℕ) → IsLatch (circuit_of n) name s next → 0 < t → t ≤ last → IsKnown n order last g places (t - 1, next) x → IsKnown n order last g places (t, s) x
  known_latch t s next x name latch early late k = record {
    depth = suc k.depth;
    tree = k.tree;
    unfolds = Unfolds.latch latch (subst (λ j. Unfolds (circuit_of n) order next j k.depth k.tree) (let e : last - (t - 1) ≡ suc (last - t) = omega arith in e) k.unfolds);
    builds = k.builds;
    within = k.within;
  }

  -- the trees of fan-ins, with their literals
  pub record AreTrees (t : ℕ) (fanins fs : List ℕ) : Type 0 where
    pub depth : ℕ
    pub trees : Trees ℕ
    pub unfolds : UnfoldsAll (circuit_of n) order fanins (last - t) depth trees
    pub builds : BuildsAll g places trees fs

  pub are_trees : (t : ℕ) (fanins : List Signal) (lits : List Lit) → AllZip (λ f x. IsKnown n order last g places (t, f.0) x.0) fanins lits → AreTrees t (map (λ f. f.0) fanins) (map (λ x. x.0) lits)
  are_trees t [] [] h = record { depth = 0; trees = Nil; unfolds = UnfoldsAll.none; builds = refl }
  are_trees t [] (x ∷ lits) h = absurd h
  are_trees t (f ∷ fanins) [] h = absurd h
  are_trees t (f ∷ fanins) (x ∷ lits) h =
      let rest = are_trees t fanins lits h.1 in
      record {
        depth = max h.0.depth rest.depth;
        trees = Cons h.0.tree rest.trees;
        unfolds = UnfoldsAll.more h.0.unfolds rest.unfolds;
        builds = (x.0, map (λ y. y.0) lits, h.0.builds, rest.builds, refl);
      }

  -- a gate is its cover of the fan-ins
  pub known_gate : (t s x : ℕ) (fanins : List Signal) (cover : Cover) (lits : List Lit) → Contains (circuit_of n).equations (gate_equation s (map (λ f. f.0) fanins) cover) →
      AllZip (λ f y. IsKnown n order last g places (t, f.0) y.0) fanins lits → IsCoverOf g cover (map (λ y. y.0) lits) x → x < 2 * length g → IsKnown n order last g places (t, s) x
  known_gate t s x fanins cover lits stands known is within =
      let trees = are_trees t fanins lits known in
      record { depth = trees.depth; tree = Branch cover trees.trees; unfolds = Unfolds.gate stands trees.unfolds; builds = (map (λ y. y.0) lits, trees.builds, is); within = within }
