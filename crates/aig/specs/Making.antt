-- Which graph it leaves to make a cover, and the literal there. Each and is looked up, and its node goes last where it isn't there, so no
-- node is made without need, and what has been made already leaves the graph as it was.
use Rattle.std.specs.Prelude.{◌≡◌, ℕ, List, [], ◌∷◌, Option, Some, None, if◌then◌else◌}
use Rattle.sec_base.specs.circuit_theory.Cover.{Cover}
use Rattle.aig.specs.declared.node.Node.{Node}
use Rattle.aig.specs.Graph.{flip}
use Rattle.aig.specs.Rules.{IsAndOf, IsWithAnd, place_lit}

-- the graph with what the and of l and r needs, and its literal
abbrev pub MakesAnd : List Node → ℕ → ℕ → List Node → ℕ → Type 0
MakesAnd g l r h x = IsWithAnd g l r h × IsAndOf h l r x

-- the literal so far, and what a place asks
abbrev pub MakesPlace : List Node → ℕ → Option ℕ → List Node → ℕ → Type 0
MakesPlace g from None h x = (h ≡ g) × (x ≡ from)
MakesPlace g from (Some l) h x = MakesAnd g from l h x

-- a cube folds its places from the left
abbrev pub MakesCube : List Node → ℕ → List ℕ → List ℕ → List Node → ℕ → Type 0
MakesCube g from [] [] h x = (h ≡ g) × (x ≡ from)
MakesCube g from [] (f ∷ fs) h x = ⊥
MakesCube g from (p ∷ ps) [] h x = ⊥
MakesCube g from (p ∷ ps) (f ∷ fs) h x = (k : List Node) × (y : ℕ) × MakesPlace g from (place_lit p f) k y × MakesCube k y ps fs h x

-- the literal so far, or a row's cube
abbrev pub MakesRow : List Node → ℕ → List ℕ → List ℕ → List Node → ℕ → Type 0
MakesRow g from row fs h x = (k : List Node) × (y : ℕ) × (z : ℕ) × MakesCube g 1 row fs k y × MakesAnd k (flip from) (flip y) h z × (x ≡ flip z)

-- rows fold in their order
abbrev pub MakesRows : List Node → ℕ → List (List ℕ) → List ℕ → List Node → ℕ → Type 0
MakesRows g from [] fs h x = (h ≡ g) × (x ≡ from)
MakesRows g from (row ∷ rows) fs h x = (k : List Node) × (y : ℕ) × MakesRow g from row fs k y × MakesRows k y rows fs h x

-- a cover of these fan-ins: its rows folded from 0, and complemented where they list the 0s
abbrev pub MakesCover : List Node → Cover → List ℕ → List Node → ℕ → Type 0
MakesCover g cover fs h x = (y : ℕ) × MakesRows g 0 cover.rows fs h y × (x ≡ (if cover.on then y else flip y))
