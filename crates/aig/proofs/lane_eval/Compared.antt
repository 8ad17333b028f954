-- The lanes where the care holds and the sides differ.
use Rattle.std.proofs.Common.{◌≡◌, ◌≢◌, ℕ, ◌+◌, ◌-◌, ◌*◌, ◌/◌, ◌%◌, ◌^◌, ◌<◌, ◌≤◌, ◌⊎◌, inl, inr, Bool, true, false, List, length, get_or, Option, Some, None, refl, sym, ◌∙◌, ap, subst, arith, true≢false}
use Rattle.std.specs.Prelude.{◌==◌, ◌&&◌, not, bit_and, All}
use lib.Lanes.{zip2}
use Rattle.aig.specs.circuit_theory.Query.{bits_of}
use Rattle.aig.specs.declared.node.Node.{Node}
use Rattle.aig.specs.Graph.{flip}
use Rattle.aig.specs.Values.{lit_bit, node_bits, value, assigned}
use Rattle.aig.proofs.Meaning.{lit_bit-flip}
use Rattle.aig.specs.declared.lane_eval.table.Table.{Table}
use Rattle.aig.specs.lane_eval.Blocks.{flipped, block_bit, IsBlock, lane, IsFirstBit}
use Rattle.aig.specs.lane_eval.Renaming.{TellsApart, IsFirstOfBlock, IsLeastOf, tells_apart}
use Rattle.aig.proofs.lane_eval.Lanes.{block_bit-and_flipped, lit_bit-lane}

-- what the four ands of the two sides and the care give
pub difference-bit : (t : Table) (blocks : List (List ℕ)) (x y : ℕ) (left_only right_only same result d : List ℕ) (k : ℕ) → All IsBlock blocks → t.care.0 < 2 * length blocks → IsBlock left_only → IsBlock right_only → IsBlock same →
    x ≡ flip t.right.0 → y ≡ flip t.left.0 → block_bit left_only k ≡ (lit_bit (lane k blocks) t.left.0 && lit_bit (lane k blocks) x) → block_bit right_only k ≡ (lit_bit (lane k blocks) y && lit_bit (lane k blocks) t.right.0) →
    same ≡ zip2 bit_and (flipped true left_only) (flipped true right_only) → result ≡ zip2 bit_and (flipped true same) (flipped (t.care.0 % 2 == 1) (get_or blocks (t.care.0 / 2) d)) → k < 512 → block_bit result k ≡ tells_apart t (lane k blocks)
difference-bit t blocks x y left_only right_only same result d k each within left right both at_x at_y is_left is_right is_same is inside =
    ap (λ (b : List ℕ). block_bit b k) is ∙ block_bit-and_flipped true (t.care.0 % 2 == 1) same (get_or blocks (t.care.0 / 2) d) k both (each (t.care.0 / 2) d (omega arith)) inside
    ∙ ap (λ (b : Bool). not (block_bit same k) && b) (sym (lit_bit-lane blocks t.care.0 k d (omega arith)))
    ∙ ap (λ (b : Bool). not b && lit_bit (lane k blocks) t.care.0) (ap (λ (b : List ℕ). block_bit b k) is_same ∙ block_bit-and_flipped true true left_only right_only k left right inside)
    ∙ ap (λ (b : Bool). not (not b && not (block_bit right_only k)) && lit_bit (lane k blocks) t.care.0) (is_left ∙ ap (λ (b : Bool). lit_bit (lane k blocks) t.left.0 && b) (ap (lit_bit (lane k blocks)) at_x ∙ lit_bit-flip (lane k blocks) t.right.0))
    ∙ ap (λ (b : Bool). not (not (lit_bit (lane k blocks) t.left.0 && not (lit_bit (lane k blocks) t.right.0)) && not b) && lit_bit (lane k blocks) t.care.0)
    (is_right ∙ ap (λ (b : Bool). b && lit_bit (lane k blocks) t.right.0) (ap (lit_bit (lane k blocks)) at_y ∙ lit_bit-flip (lane k blocks) t.left.0))

-- the test tells whether the care holds and the sides differ
tested : (x y z : Bool) → (not (not (x && not y) && not (not x && y)) && z) ≡ true → (z ≡ true) × (x ≢ y)
tested true true z e = absurd (true≢false (sym e))
tested true false z e = (e, true≢false)
tested false true z e = (e, λ h. true≢false (sym h))
tested false false z e = absurd (true≢false (sym e))

test-of : (x y z : Bool) → z ≡ true → x ≢ y → (not (not (x && not y) && not (not x && y)) && z) ≡ true
test-of true true z e apart = absurd (apart refl)
test-of true false z e apart = e
test-of false true z e apart = e
test-of false false z e apart = absurd (apart refl)

module _ (t : Table) (bits : List Bool) (a : List Bool) (filled : bits ≡ node_bits t.nodes.items (assigned a)) where
  lit-value : (x : ℕ) → lit_bit bits x ≡ value t.nodes.items (assigned a) x
  unfolding value
  lit-value x = ap (λ (s : List Bool). lit_bit s x) filled

  test-tells : tells_apart t bits ≡ true → TellsApart t a
  test-tells e =
      let h = tested (lit_bit bits t.left.0) (lit_bit bits t.right.0) (lit_bit bits t.care.0) e in
      record { care = sym (lit-value t.care.0) ∙ h.0; differ = λ f. h.1 (lit-value t.left.0 ∙ f ∙ sym (lit-value t.right.0)) }

  tells-test : TellsApart t a → tells_apart t bits ≡ true
  tells-test h = test-of (lit_bit bits t.left.0) (lit_bit bits t.right.0) (lit_bit bits t.care.0) (lit-value t.care.0 ∙ h.care) (λ f. h.differ (sym (lit-value t.left.0) ∙ f ∙ lit-value t.right.0))

-- the first bit of the difference is the first number of the block that tells the sides apart
pub first-of_block : (t : Table) (count number : ℕ) (inputs blocks : List (List ℕ)) (nodes : List Node) (diff : List ℕ) (o : Option ℕ) → nodes ≡ t.nodes.items → ((k : ℕ) → k < 512 → lane k inputs ≡ bits_of (512 * number + k) count) →
    ((k : ℕ) → k < 512 → lane k blocks ≡ node_bits nodes (assigned (lane k inputs))) → ((k : ℕ) → k < 512 → block_bit diff k ≡ tells_apart t (lane k blocks)) → IsFirstBit diff o → IsFirstOfBlock t count number o
first-of_block t count number inputs blocks nodes diff o same is_inputs is_blocks is_diff = by o
  where
    filled : (k : ℕ) → k < 512 → lane k blocks ≡ node_bits t.nodes.items (assigned (bits_of (512 * number + k) count))
    filled k inside = is_blocks k inside ∙ ap (λ (a : List Bool). node_bits nodes (assigned a)) (is_inputs k inside) ∙ ap (λ (g : List Node). node_bits g (assigned (bits_of (512 * number + k) count))) same

    on : (k : ℕ) → k < 512 → block_bit diff k ≡ true → TellsApart t (bits_of (512 * number + k) count)
    on k inside e = test-tells t (lane k blocks) (bits_of (512 * number + k) count) (filled k inside) (sym (is_diff k inside) ∙ e)

    off : (k : ℕ) → k < 512 → TellsApart t (bits_of (512 * number + k) count) → block_bit diff k ≡ true
    off k inside h = is_diff k inside ∙ tells-test t (lane k blocks) (bits_of (512 * number + k) count) (filled k inside) h

    by : (o : Option ℕ) → IsFirstBit diff o → IsFirstOfBlock t count number o
    by None none = λ k inside h. none k inside (off k inside h)
    by (Some k) (inside, set, least) = (inside, on k inside set, λ j below h. least j below (off j (omega (arith, below, inside)) h))

-- a number of the block, or one before
in-block : (number m : ℕ) → m < 512 * (number + 1) → (m < 512 * number) ⊎ ((512 * number + (m - 512 * number) ≡ m) × (m - 512 * number < 512))
in-block number m below = by (cases m (512 * number))
  where
    cases : (m n : ℕ) → (m < n) ⊎ (n ≤ m)
    cases m n = grind arith

    by : (m < 512 * number) ⊎ (512 * number ≤ m) → (m < 512 * number) ⊎ ((512 * number + (m - 512 * number) ≡ m) × (m - 512 * number < 512))
    by (inl l) = inl l
    by (inr g) = inr (omega arith, omega arith)

-- one block more has no number that tells the sides apart
pub none-here : (t : Table) (count number total : ℕ) → ((m : ℕ) → m < 512 * number → m < total → TellsApart t (bits_of m count) → ⊥) → IsFirstOfBlock t count number None →
    (m : ℕ) → m < 512 * (number + 1) → m < total → TellsApart t (bits_of m count) → ⊥
none-here t count number total before none m below inside h = by (in-block number m below)
  where
    by : (m < 512 * number) ⊎ ((512 * number + (m - 512 * number) ≡ m) × (m - 512 * number < 512)) → ⊥
    by (inl l) = before m l inside h
    by (inr (e, small)) = none (m - 512 * number) small (subst (λ (n : ℕ). TellsApart t (bits_of n count)) (sym e) h)

-- nor one whose first is no number of so many bits
pub none-within : (t : Table) (count number total k : ℕ) → ((m : ℕ) → m < 512 * number → m < total → TellsApart t (bits_of m count) → ⊥) → IsFirstOfBlock t count number (Some k) → total ≤ 512 * number + k →
    (m : ℕ) → m < 512 * (number + 1) → m < total → TellsApart t (bits_of m count) → ⊥
none-within t count number total k before (small, here, least) beyond m below inside h = by (in-block number m below)
  where
    by : (m < 512 * number) ⊎ ((512 * number + (m - 512 * number) ≡ m) × (m - 512 * number < 512)) → ⊥
    by (inl l) = before m l inside h
    by (inr (e, less)) = least (m - 512 * number) (omega arith) (subst (λ (n : ℕ). TellsApart t (bits_of n count)) (sym e) h)

-- the first number of the first block that has one is the least
pub least-here : (t : Table) (count number total k : ℕ) → total ≡ 2 ^ count → ((m : ℕ) → m < 512 * number → m < total → TellsApart t (bits_of m count) → ⊥) → IsFirstOfBlock t count number (Some k) → 512 * number + k < total →
    IsLeastOf t count (Some (512 * number + k))
least-here t count number total k e before (small, here, least) within =
    (omega (arith, e), here, λ m below h. by m h below (in-block number m (omega arith)))
  where
    by : (m : ℕ) → TellsApart t (bits_of m count) → m < 512 * number + k → (m < 512 * number) ⊎ ((512 * number + (m - 512 * number) ≡ m) × (m - 512 * number < 512)) → ⊥
    by m h below (inl l) = before m l (omega arith) h
    by m h below (inr (e, less)) = least (m - 512 * number) (omega arith) (subst (λ (n : ℕ). TellsApart t (bits_of n count)) (sym e) h)
