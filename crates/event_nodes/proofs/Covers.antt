-- Covers that are remembered stay right while the graph grows.
use Rattle.std.proofs.Common.{◌≡◌, ◌*◌, ◌<◌, List, ◌∷◌, [], ◌++◌, length, map, Contains, sym, subst, arith}
use Rattle.std.specs.Prelude.{All}
use Rattle.std.proofs.lemmas.List.Elements.{All-weaker, All-contains, All-push}
use Rattle.circuit_theory.specs.Cover.{Cover}
use Rattle.aig.specs.declared.node.Lit.{Lit}
use Rattle.aig.specs.declared.node.Node.{Node}
use Rattle.aig.specs.Graph.{Grows}
use Rattle.aig.specs.Rules.{IsCoverOf}
use Rattle.aig.proofs.Growth.{Grows-length, IsCoverOf-grows}
use Rattle.event_nodes.specs.declared.cover_graph.made.MadeCover.{MadeCover}
use Rattle.event_nodes.specs.Covers.{IsMadeCover}

pub made_grow : (g h : List Node) → Grows g h → (ms : List MadeCover) → All (IsMadeCover g) ms → All (IsMadeCover h) ms
made_grow g h grows ms all =
    All-weaker (IsMadeCover g) (IsMadeCover h) (λ m is. record { is = IsCoverOf-grows g h grows m.cover (map (λ f. f.0) m.fanins.items) m.lit.0 is.is; within = omega (arith, is.within, Grows-length g h grows) }) ms all

-- a cover that was made with its fan-ins and its literal
pub made_of : (g : List Node) (m : MadeCover) (cover : Cover) (fs : List Lit) (lit : Lit) → m.cover ≡ cover → m.fanins.items ≡ fs → m.lit ≡ lit → IsCoverOf g cover (map (λ f. f.0) fs) lit.0 → lit.0 < 2 * length g → IsMadeCover g m
made_of g m cover fs lit e f h is within = record {
  is = subst (λ (k : Lit). IsCoverOf g m.cover (map (λ f. f.0) m.fanins.items) k.0) (sym h) (subst (λ (gs : List Lit). IsCoverOf g m.cover (map (λ f. f.0) gs) lit.0) (sym f) (subst (λ (c : Cover). IsCoverOf g c (map (λ f. f.0) fs) lit.0) (sym e) is));
  within = subst (λ (k : Lit). k.0 < 2 * length g) (sym h) within;
}

-- one more stands behind the others
pub made_more : (g h : List Node) → Grows g h → (ms ns : List MadeCover) (m : MadeCover) → ns ≡ ms ++ m ∷ [] → All (IsMadeCover g) ms → IsMadeCover h m → All (IsMadeCover h) ns
made_more g h grows ms ns m more all is = subst (λ (xs : List MadeCover). All (IsMadeCover h) xs) (sym more) (All-push (IsMadeCover h) ms m (made_grow g h grows ms all) is)

-- what is found is the literal of the cover
module _ (g : List Node) (ms : List MadeCover) (all : All (IsMadeCover g) ms) (m : MadeCover) (there : Contains ms m) (cover : Cover) (fs : List Lit) (lit : Lit) (e : m.cover ≡ cover) (f : m.fanins.items ≡ fs) (h : m.lit ≡ lit) where
  stands : IsMadeCover g m
  stands = All-contains (IsMadeCover g) ms m all there

  pub found_is : IsCoverOf g cover (map (λ f. f.0) fs) lit.0
  found_is = subst (λ (k : Lit). IsCoverOf g cover (map (λ f. f.0) fs) k.0) h (subst (λ (gs : List Lit). IsCoverOf g cover (map (λ f. f.0) gs) m.lit.0) f (subst (λ (c : Cover). IsCoverOf g c (map (λ f. f.0) m.fanins.items) m.lit.0) e stands.is))

  pub found_within : lit.0 < 2 * length g
  found_within = subst (λ (k : Lit). k.0 < 2 * length g) h stands.within
