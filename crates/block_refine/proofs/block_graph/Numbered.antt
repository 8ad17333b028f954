-- The variables of inputs and blocks are small, and those of the nets.
use Rattle.std.proofs.Common.{◌≡◌, ◌∙◌, zero, suc, ◌+◌, ◌<◌, ◌≤◌, ◌^◌, ℕ, List, [], ◌∷◌, length, map, drop, slice_get, Some, refl, sym, ap, subst, arith, add-one}
use Rattle.std.specs.List.{All}
use Rattle.std.proofs.lemmas.List.Elements.{All-weaker}
use Rattle.std.proofs.lemmas.Option.{slice_get_within, get_or_from_slice_get}
use Rattle.circuit_theory.proofs.Lists.{All-from_each, at_of, length-map, map_at}
use Rattle.flat_net.specs.View.{NetView}
use Rattle.flat_net.specs.Sound.{IsSound}
use Rattle.flat_net.proofs.Places.{All-at}
use Rattle.flat_net.proofs.Drivers.{weight_positive}
use Rattle.block_refine.specs.declared.latch_blocks.variables.Variables.{Variables}
use Rattle.block_refine.specs.latch_blocks.Blocks.{block_at, AreInOrder}
use Rattle.block_refine.specs.latch_blocks.Signals.{AreVariables, net_weight}
use Rattle.block_refine.proofs.latch_blocks.Weights.{weight_below, weight_step, weight_all}
use Rattle.block_refine.specs.block_graph.Graph.{AreBelow}

-- a block's number is no greater than the place of each of its latches
below_place : (blocks : List ℕ) → AreInOrder blocks → (n j : ℕ) → j < n → j < length blocks → block_at blocks j ≤ j
below_place blocks order zero j less inside = absurd (omega arith)
below_place blocks order (suc n) j less inside = go (block_at blocks j) refl (λ m l i. below_place blocks order n m l i)
  where
    go : (k : ℕ) → block_at blocks j ≡ k → ((m : ℕ) → m < n → m < length blocks → block_at blocks m ≤ m) → block_at blocks j ≤ j
    go zero e before = omega (arith, e)
    go (suc y) e before =
        let m = order j y inside (omega (arith, e)) in
        let ih : block_at blocks m.0 ≤ m.0 = before m.0 (omega (arith, less, m.1)) (omega (arith, inside, m.1)) in
        omega (arith, e, ih, m.1, m.2)

pub block_below : (blocks : List ℕ) → AreInOrder blocks → (j : ℕ) → j < length blocks → block_at blocks j ≤ j
block_below blocks order j inside = below_place blocks order (suc j) j (omega arith) inside

-- so it is below the number of latches
pub blocks_below : (blocks : List ℕ) → AreInOrder blocks → All (λ k. k < length blocks) blocks
blocks_below blocks order = All-from_each (λ (k : ℕ). k < length blocks) blocks
    (λ k h.
    let at = at_of blocks k h in
    let inside = slice_get_within blocks at.0 k at.1 in
    let low = block_below blocks order at.0 inside in
    let same = get_or_from_slice_get blocks at.0 k 0 at.1 in
    omega (arith, inside, low, same))

-- a light net has few signals
pub light_few : (n : NetView) → IsSound n → length n.drivers ≤ net_weight n
light_few n sound =
    let all = weight_all n (length n.drivers) (omega arith) in
    let some = count (length n.drivers) (omega arith) in
    omega (arith, all, some)
  where
    count : (s : ℕ) → s ≤ length n.drivers → s ≤ weight_below n s
    count zero h = omega arith
    count (suc s) h =
        let ih = count s (omega arith) in
        let one = weight_positive n sound s in
        let step = weight_step n s (omega arith) in
        subst (λ k. suc s ≤ weight_below n k) (add-one s) (omega (arith, ih, one, step))

-- of a list from a place on
pub at_drop : {X : Type 0} (n : ℕ) (xs : List X) (i : ℕ) (x : X) → slice_get (drop n xs) i ≡ Some x → slice_get xs (n + i) ≡ Some x
at_drop {X} zero xs i x h = subst (λ k. slice_get xs k ≡ Some x) (let z : i ≡ 0 + i = omega arith in z) h
at_drop (suc n) [] i x h = absurd (let l = slice_get_within [] i x h in omega arith)
at_drop {X} (suc n) (y ∷ xs) i x h = subst (λ k. slice_get (y ∷ xs) k ≡ Some x) (let z : suc (n + i) ≡ suc n + i = omega arith in z) (at_drop n xs i x h)

-- so blocks have small variables
pub blocks_small : (blocks : List ℕ) → AreInOrder blocks → (first : ℕ) → first ≤ 2 ^ 31 → length blocks ≤ 4000000 → All (λ k. first + k < 2 ^ 32) blocks
blocks_small blocks order first high few = All-weaker (λ k. k < length blocks) (λ k. first + k < 2 ^ 32) (λ k l. omega (arith, l, high, few)) blocks (blocks_below blocks order)

module _ (blocks : List ℕ) (first : ℕ) (m : NetView) (w : Variables) (order part : List ℕ) (inputs : w.inputs ≡ order) (latches : w.latches ≡ map (λ k. first + k) part) where
  -- one small variable for each input and each latch
  pub side_variables : length order ≡ length m.inputs → length part ≡ length m.latches → All (λ i. i < 2 ^ 31) order → All (λ k. k < length blocks) part → first ≤ 2 ^ 31 → length blocks ≤ 4000000 → AreVariables m w
  side_variables long each small below high few = record {
    inputs = ap length inputs ∙ long;
    latches = ap length latches ∙ length-map (λ k. first + k) part ∙ each;
    small_inputs = subst (All (λ k. k + 1 < 2 ^ 32)) (sym inputs) (All-weaker (λ i. i < 2 ^ 31) (λ k. k + 1 < 2 ^ 32) (λ i l. omega (arith, l)) order small);
    small_latches = subst (All (λ k. k + 1 < 2 ^ 32)) (sym latches) (All-from_each (λ k. k + 1 < 2 ^ 32) (map (λ k. first + k) part)
        (λ k h.
        let at = at_of (map (λ b. first + b) part) k h in
        let from = map_at (λ b. first + b) part at.0 k at.1 in
        let low = All-at (λ b. b < length blocks) part at.0 from.0 from.1 below in
        omega (arith, low, from.2, high, few)));
  }

  -- a latch's variable is that of its block
  pub side_latches : (at : ℕ → ℕ) → ((j x : ℕ) → slice_get part j ≡ Some x → slice_get blocks (at j) ≡ Some x) → (j k : ℕ) → slice_get w.latches j ≡ Some k → k ≡ first + block_at blocks (at j)
  side_latches at place j k h =
      let from = map_at (λ b. first + b) part j k (subst (λ (l : List ℕ). slice_get l j ≡ Some k) latches h) in
      sym from.2 ∙ ap (λ b. first + b) (sym (get_or_from_slice_get blocks (at j) from.0 0 (place j from.0 from.1)))

  -- all variables are below the limit
  pub side_below : All (λ i. i < first) order → All (λ k. k < length blocks) part → AreBelow (first + length blocks) w
  side_below above below = record {
    inputs = subst (All (λ k. k < first + length blocks)) (sym inputs) (All-weaker (λ i. i < first) (λ k. k < first + length blocks) (λ i l. omega (arith, l)) order above);
    latches = subst (All (λ k. k < first + length blocks)) (sym latches) (All-from_each (λ k. k < first + length blocks) (map (λ k. first + k) part)
        (λ k h.
        let at = at_of (map (λ b. first + b) part) k h in
        let from = map_at (λ b. first + b) part at.0 k at.1 in
        let low = All-at (λ b. b < length blocks) part at.0 from.0 from.1 below in
        omega (arith, low, from.2)));
  }
