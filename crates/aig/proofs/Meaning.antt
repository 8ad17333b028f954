-- The values of literals: older ones stay, a node's is by its operands', and each literal made by a rule has the value of
-- what it stands for.
use Rattle.std.proofs.Common.{◌≡◌, ℕ, zero, suc, ◌*◌, ◌/◌, ◌%◌, ◌<◌, ◌==◌, ◌⊎◌, inl, inr, Bool, true, false, not, ◌&&◌, if◌then◌else◌, List, [], ◌∷◌, ◌++◌, length, get_or, slice_get, Some, refl, sym, ap, ◌∙◌, arith, append_assoc}
use Rattle.std.proofs.lemmas.Option.{none-some, same_Some}
use Rattle.std.proofs.lemmas.List.{get_or_append_left}
use Rattle.std.proofs.Math.Seq.{get_or-append_seam}
use Rattle.aig.specs.declared.node.Lit.{Lit}
use Rattle.aig.specs.declared.node.Node.{Node}
use Rattle.aig.specs.declared.node.Node.TheVariants.{Constant, Input, And}
use Rattle.aig.specs.Graph.{IsOrdered, Grows, flip}
use Rattle.aig.specs.Values.{lit_bit, node_bit, bits_from, node_bits, value, node_value, KeepsValues}
use Rattle.aig.proofs.Literals.{parity, flip-half, flip-parity}

pub lit_bit-even : (bits : List Bool) (x : ℕ) → x % 2 ≡ 0 → lit_bit bits x ≡ get_or bits (x / 2) false
unfolding lit_bit
lit_bit-even bits x e = ap (λ (r : ℕ). if r == 0 then get_or bits (x / 2) false else not (get_or bits (x / 2) false)) e

pub lit_bit-odd : (bits : List Bool) (x : ℕ) → x % 2 ≡ 1 → lit_bit bits x ≡ not (get_or bits (x / 2) false)
unfolding lit_bit
lit_bit-odd bits x e = ap (λ (r : ℕ). if r == 0 then get_or bits (x / 2) false else not (get_or bits (x / 2) false)) e

not-not : (b : Bool) → b ≡ not (not b)
not-not true = refl
not-not false = refl

pub lit_bit-flip : (bits : List Bool) (x : ℕ) → lit_bit bits (flip x) ≡ not (lit_bit bits x)
lit_bit-flip bits x = by (flip-parity x)
  where
    bit_at : ℕ → Bool
    bit_at n = get_or bits n false

    by : ((x % 2 ≡ 0) × (flip x % 2 ≡ 1)) ⊎ ((x % 2 ≡ 1) × (flip x % 2 ≡ 0)) → lit_bit bits (flip x) ≡ not (lit_bit bits x)
    by (inl (e, f)) = lit_bit-odd bits (flip x) f ∙ ap (λ (n : ℕ). not (get_or bits n false)) (flip-half x) ∙ sym (ap not (lit_bit-even bits x e))
    by (inr (e, f)) = lit_bit-even bits (flip x) f ∙ ap (λ (n : ℕ). get_or bits n false) (flip-half x) ∙ not-not (get_or bits (x / 2) false) ∙ sym (ap not (lit_bit-odd bits x e))

-- more bits behind
pub lit_bit-append : (bits more : List Bool) (x : ℕ) → x / 2 < length bits → lit_bit (bits ++ more) x ≡ lit_bit bits x
lit_bit-append bits more x h = by (parity x)
  where
    same : get_or (bits ++ more) (x / 2) false ≡ get_or bits (x / 2) false
    same = get_or_append_left bits more false (x / 2) h

    by : (x % 2 ≡ 0) ⊎ (x % 2 ≡ 1) → lit_bit (bits ++ more) x ≡ lit_bit bits x
    by (inl e) = lit_bit-even (bits ++ more) x e ∙ same ∙ sym (lit_bit-even bits x e)
    by (inr e) = lit_bit-odd (bits ++ more) x e ∙ ap not same ∙ sym (lit_bit-odd bits x e)

-- the bits of more nodes are put behind
pub bits_from-front : (a : ℕ → Bool) (bits : List Bool) (nodes : List Node) → (more : List Bool) × (bits_from a bits nodes ≡ bits ++ more) × (length more ≡ length nodes)
unfolding bits_from
bits_from-front a bits [] = ([], nil bits, refl)
  where
    nil : (xs : List Bool) → xs ≡ xs ++ []
    nil [] = refl
    nil (x ∷ xs) = ap (λ (ys : List Bool). x ∷ ys) (nil xs)
bits_from-front a bits (node ∷ nodes) =
    let (more, e, same) = bits_from-front a (bits ++ node_bit a bits node ∷ []) nodes in
    (node_bit a bits node ∷ more, e ∙ append_assoc bits (node_bit a bits node ∷ []) more, ap suc same)

pub bits_from-append : (a : ℕ → Bool) (bits : List Bool) (nodes others : List Node) → bits_from a bits (nodes ++ others) ≡ bits_from a (bits_from a bits nodes) others
unfolding bits_from
bits_from-append a bits [] others = refl
bits_from-append a bits (node ∷ nodes) others = bits_from-append a (bits ++ node_bit a bits node ∷ []) nodes others

pub length-node_bits : (g : List Node) (a : ℕ → Bool) → length (node_bits g a) ≡ length g
unfolding node_bits
length-node_bits g a = let (more, e, same) = bits_from-front a [] g in ap length e ∙ same

pub node_bits-append : (g others : List Node) (a : ℕ → Bool) → node_bits (g ++ others) a ≡ bits_from a (node_bits g a) others
unfolding node_bits
node_bits-append g others a = bits_from-append a [] g others

-- one node more
pub node_bits-push : (g : List Node) (node : Node) (a : ℕ → Bool) → node_bits (g ++ node ∷ []) a ≡ node_bits g a ++ node_bit a (node_bits g a) node ∷ []
unfolding bits_from
node_bits-push g node a = node_bits-append g (node ∷ []) a

pub lit_bit-grows : (g others : List Node) (a : ℕ → Bool) (x : ℕ) → x < 2 * length g → lit_bit (node_bits (g ++ others) a) x ≡ lit_bit (node_bits g a) x
lit_bit-grows g others a x h =
    let (more, e, same) = bits_from-front a (node_bits g a) others in
    let within : x / 2 < length (node_bits g a) = omega (arith, length-node_bits g a) in
    ap (λ (bits : List Bool). lit_bit bits x) (node_bits-append g others a ∙ e) ∙ lit_bit-append (node_bits g a) more x within

-- older literals keep their values
pub value-grows : (g h : List Node) → Grows g h → KeepsValues g h
unfolding value
value-grows g h (others, e) a x within = ap (λ (k : List Node). lit_bit (node_bits k a) x) e ∙ lit_bit-grows g others a x within

pub value-flip : (g : List Node) (a : ℕ → Bool) (x : ℕ) → value g a (flip x) ≡ not (value g a x)
unfolding value
value-flip g a x = lit_bit-flip (node_bits g a) x

-- a list around one of its elements
pub split_at : {X : Type 0} (xs : List X) (n : ℕ) (x : X) → slice_get xs n ≡ Some x → (front : List X) × (back : List X) × (xs ≡ front ++ x ∷ back) × (length front ≡ n)
split_at [] n x h = absurd (none-some x h)
split_at (y ∷ xs) zero x h = ([], xs, ap (λ z. z ∷ xs) (same_Some y x h), refl)
split_at (y ∷ xs) (suc n) x h =
    let (front, back, e, same) = split_at xs n x h in
    (y ∷ front, back, ap (λ zs. y ∷ zs) e, ap suc same)

-- the bit at a node's place
pub node_bits-at : (front back : List Node) (node : Node) (a : ℕ → Bool) → get_or (node_bits (front ++ node ∷ back) a) (length front) false ≡ node_bit a (node_bits front a) node
unfolding bits_from
node_bits-at front back node a =
    let bits = node_bits front a in
    let (more, e, same) = bits_from-front a (bits ++ node_bit a bits node ∷ []) back in
    let whole : node_bits (front ++ node ∷ back) a ≡ bits ++ node_bit a bits node ∷ more = node_bits-append front (node ∷ back) a ∙ e ∙ append_assoc bits (node_bit a bits node ∷ []) more in
    ap (λ (all : List Bool). get_or all (length front) false) whole ∙ ap (λ (n : ℕ). get_or (bits ++ node_bit a bits node ∷ more) n false) (sym (length-node_bits front a)) ∙ get_or-append_seam bits (node_bit a bits node) more false

-- by the nodes before it a node is worth what it is by all nodes
pub node_bit-value : (g front others : List Node) (a : ℕ → Bool) (node : Node) → g ≡ front ++ others → ((l r : Lit) → node ≡ And l r → (l.0 < 2 * length front) × (r.0 < 2 * length front)) →
    node_bit a (node_bits front a) node ≡ node_value g a node
unfolding value
node_bit-value g front others a Constant e above = refl
node_bit-value g front others a (Input v) e above = refl
node_bit-value g front others a (And l r) e above =
    let (left, right) = above l r refl in
    let at_left : value g a l.0 ≡ lit_bit (node_bits front a) l.0 = ap (λ (k : List Node). lit_bit (node_bits k a) l.0) e ∙ lit_bit-grows front others a l.0 left in
    let at_right : value g a r.0 ≡ lit_bit (node_bits front a) r.0 = ap (λ (k : List Node). lit_bit (node_bits k a) r.0) e ∙ lit_bit-grows front others a r.0 right in
    ap (λ (b : Bool). b && lit_bit (node_bits front a) r.0) (sym at_left) ∙ ap (λ (b : Bool). value g a l.0 && b) (sym at_right)

-- the literal of a node without the complement
pub value-even : (g : List Node) (a : ℕ → Bool) (n : ℕ) → value g a (2 * n) ≡ get_or (node_bits g a) n false
unfolding value
value-even g a n = lit_bit-even (node_bits g a) (2 * n) (omega arith) ∙ ap (λ (k : ℕ). get_or (node_bits g a) k false) half
  where
    half : 2 * n / 2 ≡ n
    half = omega arith

-- a node's value is 0, its variable's, or the and of its operands'
pub value-node : (g : List Node) → IsOrdered g → (n : ℕ) (node : Node) (a : ℕ → Bool) → slice_get g n ≡ Some node → value g a (2 * n) ≡ node_value g a node
value-node g ordered n node a at =
    let (front, back, e, same) = split_at g n node at in
    let above : (l r : Lit) → node ≡ And l r → (l.0 < 2 * length front) × (r.0 < 2 * length front) = λ l r is. operands front l r same (ordered n (And l r) (at ∙ ap Some is)) in
    value-even g a n ∙ ap (λ (k : List Node). get_or (node_bits k a) n false) e ∙ ap (λ (k : ℕ). get_or (node_bits (front ++ node ∷ back) a) k false) (sym same)
    ∙ node_bits-at front back node a ∙ node_bit-value g front (node ∷ back) a node e above
  where
    operands : (front : List Node) (l r : Lit) → length front ≡ n → (l.0 < r.0) × (r.0 < 2 * n) → (l.0 < 2 * length front) × (r.0 < 2 * length front)
    operands front l r same (lesser, greater) = (omega arith, omega arith)
