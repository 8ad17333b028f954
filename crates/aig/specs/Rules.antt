-- Which literal stands for an and, for a cube and for a cover.
use Rattle.std.specs.Prelude.{◌≡◌, ℕ, ◌+◌, ◌*◌, ◌==◌, ◌||◌, nat_lt, if◌then◌else◌, List, [], ◌∷◌, length, Option, Some, None}
use Rattle.sec_base.specs.circuit_theory.Cover.{Cover}
use Rattle.base_tables.specs.unique_table.Places.{IsWith}
use Rattle.aig.specs.declared.node.Node.{Node}
use Rattle.aig.specs.declared.node.Node.TheVariants.{And}
use Rattle.aig.specs.Graph.{flip, IsLitOf}

-- The and of two literals where it needs no node, by the first rule that fits: 0 if one is 0; the other if one is 1; the
-- literal if both are one; 0 if one is the other's complement.
unfoldable pub simple_and : ℕ → ℕ → Option ℕ
simple_and l r =
    if (l == 0) || (r == 0) then Some 0 else if l == 1 then Some r else if (r == 1) || (l == r) then Some l else if l == flip r then Some 0 else None

-- the node of two operands, the lesser first
abbrev pub and_node : ℕ → ℕ → Node
and_node l r = if nat_lt r l then And (record { 0 = r }) (record { 0 = l }) else And (record { 0 = l }) (record { 0 = r })

-- the literal that needs no node, or else the node's
abbrev pub IsAndBy : List Node → ℕ → ℕ → Option ℕ → ℕ → Type 0
IsAndBy g l r None x = IsLitOf g (and_node l r) x
IsAndBy g l r (Some y) x = x ≡ y

-- the literal for l and r
abbrev pub IsAndOf : List Node → ℕ → ℕ → ℕ → Type 0
IsAndOf g l r x = IsAndBy g l r (simple_and l r) x

-- the graph as it was, where l and r need no node, or else with their node, which goes last if it isn't there
abbrev pub IsWithAndBy : List Node → ℕ → ℕ → Option ℕ → List Node → Type 0
IsWithAndBy g l r None h = IsWith g (and_node l r) h
IsWithAndBy g l r (Some y) h = h ≡ g

-- the graph with what the and of l and r needs
abbrev pub IsWithAnd : List Node → ℕ → ℕ → List Node → Type 0
IsWithAnd g l r h = IsWithAndBy g l r (simple_and l r) h

-- the literal for l or r
abbrev pub IsOrOf : List Node → ℕ → ℕ → ℕ → Type 0
IsOrOf g l r x = (y : ℕ) × IsAndOf g (flip l) (flip r) y × (x ≡ flip y)

-- What a place of a cube asks of its fan-in: `1` the fan-in, `0` its complement, `-` nothing. Another byte matches nothing.
unfoldable pub place_lit : ℕ → ℕ → Option ℕ
place_lit place f = if place == 45 then None else Some (if place == 49 then f else (if place == 48 then flip f else 0))

-- the literal so far, and what a place asks
abbrev pub IsPlaceOf : List Node → ℕ → Option ℕ → ℕ → Type 0
IsPlaceOf g from None y = y ≡ from
IsPlaceOf g from (Some l) y = IsAndOf g from l y

-- a cube folds its places from the left
abbrev pub IsCubeOf : List Node → ℕ → List ℕ → List ℕ → ℕ → Type 0
IsCubeOf g from [] [] x = x ≡ from
IsCubeOf g from [] (f ∷ fs) x = ⊥
IsCubeOf g from (p ∷ ps) [] x = ⊥
IsCubeOf g from (p ∷ ps) (f ∷ fs) x = (y : ℕ) × IsPlaceOf g from (place_lit p f) y × IsCubeOf g y ps fs x

-- the literal so far, or a row's cube
abbrev pub IsRowOf : List Node → ℕ → List ℕ → List ℕ → ℕ → Type 0
IsRowOf g from row fs x = (y : ℕ) × IsCubeOf g 1 row fs y × IsOrOf g from y x

-- rows fold in their order
abbrev pub AreRowsOf : List Node → ℕ → List (List ℕ) → List ℕ → ℕ → Type 0
AreRowsOf g from [] fs x = x ≡ from
AreRowsOf g from (row ∷ rows) fs x = (y : ℕ) × IsRowOf g from row fs y × AreRowsOf g y rows fs x

-- the literal of a cover of these fan-ins: its rows folded from 0, and complemented where they list the 0s
abbrev pub IsCoverOf : List Node → Cover → List ℕ → ℕ → Type 0
IsCoverOf g cover fs x = (y : ℕ) × AreRowsOf g 0 cover.rows fs y × (x ≡ (if cover.on then y else flip y))

-- as many nodes as the folding of a cover may add: one for each place of each row, and one for each row
abbrev pub cover_room : Cover → ℕ
cover_room cover = length cover.rows * (cover.width + 1)
