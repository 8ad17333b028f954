-- How the literals of places follow from those of the places that they read, and stay while the graph and the table grow.
use Rattle.std.proofs.Common.{◌≡◌, ◌-◌, ◌*◌, ◌<◌, ℕ, suc, Bool, true, false, if◌then◌else◌, List, [], ◌∷◌, length, map, refl, sym, subst, arith, inl, inr}
use Rattle.std.specs.List.{AllZip, Contains}
use Rattle.circuit_theory.specs.Cover.{Cover}
use Rattle.circuit_theory.specs.Circuit.{Circuit, Gate as gate_equation, IsLatch}
use Rattle.circuit_theory.specs.Tree.{Trees, Leaf, Fixed, Branch, Nil, Cons}
use Rattle.circuit_theory.proofs.Lists.{zip_weaker}
use Rattle.flat_net.specs.declared.signals.Signal.{Signal}
use Rattle.flat_net.specs.View.{NetView, circuit_of}
use Rattle.circuit_laws.specs.reset_laws.Reset.{ResetUnfolds, ResetUnfoldsAll}
use Rattle.aig.specs.declared.node.Lit.{Lit}
use Rattle.aig.specs.declared.node.Node.{Node}
use Rattle.aig.specs.Graph.{Grows}
use Rattle.aig.specs.Rules.{IsCoverOf}
use Rattle.aig.specs.Builds.{BuildsAll}
use Rattle.aig.proofs.Growth.{Grows-length}
use Rattle.cbf_unfold.specs.unfold_places.Reach.{Adds}
use Rattle.cbf_unfold.specs.unfold_places.Growing.{IsNumberOf}
use Rattle.cbf_unfold.proofs.unfold_places.Lists.{adds_at}
use Rattle.cbf_unfold.proofs.unfold_places.Growing.{Any, builds_later}
use Rattle.reset_form.specs.reset_unfold.Places.{IsLeafAt}
use Rattle.reset_form.specs.reset_unfold.View.{ResetView}
use Rattle.reset_form.specs.reset_unfold.Unfolded.{IsKnown, IsResetUnfolded, FitsReset, Holds}
use Rattle.cbf_unfold.specs.unfold_places.Literals.{IsVariableLit}

-- the tree of a place for which a variable stands
pub leaf_unfolds : (c : Circuit ℕ) (order : List ℕ) (base : ℕ) (p : ℕ × ℕ) (number : ℕ) → IsLeafAt c order base p number → ResetUnfolds c order base p.1 p.0 (Leaf number p.0)
leaf_unfolds c order base p number (inl is) = ResetUnfolds.input is
leaf_unfolds c order base p number (inr f) =
    subst (λ (k : ℕ). ResetUnfolds c order base p.1 k (Leaf number k)) (sym f.0) (subst (λ (m : ℕ). ResetUnfolds c order base p.1 0 (Leaf m 0)) f.4 (ResetUnfolds.free f.1 f.2 f.3))

pub known_later : (n : NetView) (order : List ℕ) (base : ℕ) (g h : List Node) (places more : List (ℕ × ℕ)) (p : ℕ × ℕ) (x : ℕ) → Grows g h → Adds Any places more → IsKnown n order base g places p x →
    IsKnown n order base h more p x
known_later n order base g h places more p x grows adds k = record {
  tree = k.tree;
  unfolds = k.unfolds;
  builds = builds_later g h places more k.tree x grows adds k.builds;
  within = omega (arith, k.within, Grows-length g h grows);
}

pub unfolded_later : (n : NetView) (order : List ℕ) (base : ℕ) (g h : List Node) (places more : List (ℕ × ℕ)) (s cycle x : ℕ) (vars : List ℕ) → Grows g h → Adds Any places more →
    IsResetUnfolded n order base g places s cycle x vars → IsResetUnfolded n order base h more s cycle x vars
unfolded_later n order base g h places more s cycle x vars grows adds u = record {
  tree = u.tree;
  unfolds = u.unfolds;
  builds = builds_later g h places more u.tree x grows adds u.builds;
  within = omega (arith, u.within, Grows-length g h grows);
  variables = u.variables;
  are_variables = u.are_variables;
  numbered = zip_weaker (IsNumberOf places) (IsNumberOf more) (λ v y at. adds_at Any places more v _ adds at) vars u.variables u.numbered;
}

pub holds_later : (u : ResetView) (g h : List Node) (places more : List (ℕ × ℕ)) → Grows g h → Adds Any places more → Holds u g places → Holds u h more
holds_later u g h places more grows adds holds = record {
  known = λ p x m. known_later u.net u.order u.base g h places more p x.0 grows adds (holds.known p x m);
  visited = holds.visited;
  within = holds.within;
  counted = holds.counted;
}

pub fits_later : (u : ResetView) (g h : List Node) (places more : List (ℕ × ℕ)) → Grows g h → Adds Any places more → FitsReset u g places → FitsReset u h more
fits_later u g h places more grows adds fits = record {
  holds = holds_later u g h places more grows adds fits.holds;
  met = fits.met;
  weighs = fits.weighs;
  limit = fits.limit;
  small = fits.small;
}

module _ (n : NetView) (order : List ℕ) (base : ℕ) (g : List Node) (places : List (ℕ × ℕ)) where
  -- a place for which a variable stands
  pub known_leaf : (p : ℕ × ℕ) (x number : ℕ) → IsLeafAt (circuit_of n) order base p number → IsVariableLit number p.0 g places x → IsKnown n order base g places p x
  known_leaf p x number leaf l = record { tree = Leaf number p.0; unfolds = leaf_unfolds (circuit_of n) order base p number leaf; builds = (l.variable, l.numbered, l.lit); within = l.within }

  -- a latch is what it takes over, in the cycle before
  pub known_latch : (t s next x : ℕ) (name : List ℕ) → IsLatch (circuit_of n) name s next → 0 < t → IsKnown n order base g places (t - 1, next) x → IsKnown n order base g places (t, s) x
  known_latch t s next x name latch early k = record {
    tree = k.tree;
    unfolds = subst (λ j. ResetUnfolds (circuit_of n) order base s j k.tree) (let e : suc (t - 1) ≡ t = omega arith in e) (ResetUnfolds.later latch k.unfolds);
    builds = k.builds;
    within = k.within;
  }

  -- a latch in cycle 0 is its initial value
  pub known_start : (p : ℕ × ℕ) (x next : ℕ) (name : List ℕ) (bit : Bool) → IsLatch (circuit_of n) name p.1 next → Contains (circuit_of n).starts (record { place = p.1; bit = bit }) → p.0 ≡ 0 → x ≡ (if bit then 1 else 0) → 0 < length g →
      IsKnown n order base g places p x
  known_start p x next name bit latch start zero is some = record {
    tree = Fixed bit;
    unfolds = subst (λ (k : ℕ). ResetUnfolds (circuit_of n) order base p.1 k (Fixed bit)) (sym zero) (ResetUnfolds.started latch start);
    builds = is;
    within = small bit is;
  }
    where
      small : (b : Bool) → x ≡ (if b then 1 else 0) → x < 2 * length g
      small true e = omega (arith, e, some)
      small false e = omega (arith, e, some)

  -- the trees of fan-ins, with their literals
  pub record AreTrees (t : ℕ) (fanins fs : List ℕ) : Type 0 where
    pub trees : Trees ℕ
    pub unfolds : ResetUnfoldsAll (circuit_of n) order base fanins t trees
    pub builds : BuildsAll g places trees fs

  pub are_trees : (t : ℕ) (fanins : List Signal) (lits : List Lit) → AllZip (λ f x. IsKnown n order base g places (t, f.0) x.0) fanins lits → AreTrees t (map (λ f. f.0) fanins) (map (λ x. x.0) lits)
  are_trees t [] [] h = record { trees = Nil; unfolds = ResetUnfoldsAll.none; builds = refl }
  are_trees t [] (x ∷ lits) h = absurd h
  are_trees t (f ∷ fanins) [] h = absurd h
  are_trees t (f ∷ fanins) (x ∷ lits) h =
      let rest = are_trees t fanins lits h.1 in
      record {
        trees = Cons h.0.tree rest.trees;
        unfolds = ResetUnfoldsAll.more h.0.unfolds rest.unfolds;
        builds = (x.0, map (λ y. y.0) lits, h.0.builds, rest.builds, refl);
      }

  -- a gate is its cover of the fan-ins
  pub known_gate : (t s x : ℕ) (fanins : List Signal) (cover : Cover) (lits : List Lit) → Contains (circuit_of n).equations (gate_equation s (map (λ f. f.0) fanins) cover) →
      AllZip (λ f y. IsKnown n order base g places (t, f.0) y.0) fanins lits → IsCoverOf g cover (map (λ y. y.0) lits) x → x < 2 * length g → IsKnown n order base g places (t, s) x
  known_gate t s x fanins cover lits stands known is within =
      let trees = are_trees t fanins lits known in
      record { tree = Branch cover trees.trees; unfolds = ResetUnfolds.gate stands trees.unfolds; builds = (map (λ y. y.0) lits, trees.builds, is); within = within }
