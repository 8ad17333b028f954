-- What stays and what grows while places are given literals.
use Rattle.std.proofs.Common.{◌≡◌, ◌+◌, ◌*◌, ◌≤◌, max, ℕ, List, [], ◌∷◌, ◌++◌, length, map, Some, refl, sym, ap, subst, arith}
use Rattle.std.specs.List.{All, AllZip, Contains}
use Rattle.std.proofs.lemmas.List.Elements.{All-nil, All-cons}
use Rattle.std.proofs.Math.Nat.{mul-le-mul_right}
use Rattle.circuit_theory.specs.Cover.{Cover}
use Rattle.circuit_theory.specs.Tree.{Tree}
use Rattle.flat_net.specs.declared.parts.Gate.{Gate}
use Rattle.flat_net.specs.View.{cover_of}
use Rattle.aig.specs.declared.node.Node.{Node}
use Rattle.aig.specs.Graph.{Grows}
use Rattle.aig.specs.Rules.{cover_room}
use Rattle.aig.specs.Builds.{Builds}
use Rattle.aig.proofs.Growth.{Grows-refl, Builds-grows}
use Rattle.flat_net.specs.Weights.{gate_weight}
use Rattle.aig.specs.Adds.{Adds}
use Rattle.cbf_unfold.specs.unfold_places.Growing.{HasGrown}
use Rattle.aig.proofs.Lists.{adds_none, adds_weaker}
use Rattle.aig.proofs.Interned.{interned}

-- whatever is added
abbrev pub Any : ℕ × ℕ → Type 0
Any p = Unit {0}

pub builds_later : (g h : List Node) (places more : List (ℕ × ℕ)) (tree : Tree ℕ) (x : ℕ) → Grows g h → Adds Any places more → Builds g places tree x → Builds h more tree x
builds_later g h places more tree x grows adds builds = subst (λ ps. Builds h ps tree x) (sym adds.is) (Builds-grows g h grows places adds.more tree x builds)

pub zip_map : {X Y Z : Type 0} (R : X → Y → Type 0) (S : X → Z → Type 0) (f : Y → Z) → ((x : X) (y : Y) → R x y → S x (f y)) → (xs : List X) (ys : List Y) → AllZip R xs ys → AllZip S xs (map f ys)
zip_map R S f step [] [] h = tt
zip_map R S f step [] (y ∷ ys) h = absurd h
zip_map R S f step (x ∷ xs) [] h = absurd h
zip_map R S f step (x ∷ xs) (y ∷ ys) h = (step x y h.0, zip_map R S f step xs ys h.1)

-- what follows for each element on the right
pub zip_all : {X Y : Type 0} (R : X → Y → Type 0) (P : Y → Type 0) → ((x : X) (y : Y) → R x y → P y) → (xs : List X) (ys : List Y) → AllZip R xs ys → All P ys
zip_all R P f [] [] h = All-nil P
zip_all R P f [] (y ∷ ys) h = absurd h
zip_all R P f (x ∷ xs) [] h = absurd h
zip_all R P f (x ∷ xs) (y ∷ ys) h = All-cons P y ys (f x y h.0) (zip_all R P f xs ys h.1)

-- nothing has grown
pub grown_none : (g : List Node) (places more : List (ℕ × ℕ)) (room : ℕ) → more ≡ places → HasGrown g g places more room
grown_none g places more room same = record { grows = Grows-refl g; adds = adds_none Any places more same; nodes = omega arith; entries = omega (arith, ap length same) }

-- a gate's room is within what it counts
pub cover_within_weight : (covers : List Cover) (g : Gate) (cover : Cover) → cover_of covers g ≡ cover → cover.width ≡ length g.fanins → cover_room cover + 1 ≤ gate_weight covers (Some g)
cover_within_weight covers g cover is width =
    let weight : gate_weight covers (Some g) ≡ 1 + max 1 (length cover.rows) * (length g.fanins + 1) = ap (λ (k : Cover). 1 + max 1 (length k.rows) * (length g.fanins + 1)) is in
    let room : cover_room cover ≡ length cover.rows * (length g.fanins + 1) = ap (λ w. length cover.rows * (w + 1)) width in
    let less : length cover.rows * (length g.fanins + 1) ≤ max 1 (length cover.rows) * (length g.fanins + 1) = mul-le-mul_right (length g.fanins + 1) (let k : length cover.rows ≤ max 1 (length cover.rows) = omega arith in k) in
    omega (arith, weight, room, less)

-- one variable more at most
pub input_grown : (g h : List Node) (places more : List (ℕ × ℕ)) (p : ℕ × ℕ) → Grows g h → length h ≤ length g + 1 → (Contains places p → more ≡ places) → ((Contains places p → ⊥) → more ≡ places ++ p ∷ []) → HasGrown g h places more 1
input_grown g h places more p grows few known added =
    let one = interned places more p known added in
    record { grows = grows; adds = adds_weaker (λ q. q ≡ p) Any places more (λ q e. tt) one.0; nodes = few; entries = one.1 }

-- a gate's place adds no entry
pub gate_grown : (g h : List Node) (places : List (ℕ × ℕ)) (room weight : ℕ) → weight ≡ room → Grows g h → length h ≤ length g + room → HasGrown g h places places weight
gate_grown g h places room weight same grows few = record { grows = grows; adds = adds_none Any places places refl; nodes = omega (arith, few, same); entries = omega arith }

-- the same growth within an equal room
pub grown_as : (g h : List Node) (places more : List (ℕ × ℕ)) (room weight : ℕ) → weight ≡ room → HasGrown g h places more room → HasGrown g h places more weight
grown_as g h places more room weight same grown = subst (HasGrown g h places more) (sym same) grown
