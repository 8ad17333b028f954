-- The nodes that are reached from literals of the graph, and that values depend on the variables among them alone.
use Rattle.std.proofs.Common.{◌≡◌, ℕ, zero, suc, ◌+◌, ◌*◌, ◌/◌, ◌%◌, ◌<◌, ◌⊎◌, inl, inr, Bool, List, length, get_or, slice_get, Some, Contains, refl, sym, ◌∙◌, ap, arith}
use Rattle.std.specs.Prelude.{not, ◌&&◌}
use Rattle.std.proofs.lemmas.Option.{slice_get_within, slice_get-get_or}
use Rattle.aig.specs.declared.node.Node.{Node}
use Rattle.aig.specs.declared.node.Node.TheVariants.{Constant, Input, And}
use Rattle.aig.specs.Graph.{IsOrdered, IsAbove, flip}
use Rattle.aig.specs.Values.{value, node_value}
use Rattle.aig.specs.Cone.{Reads, IsReached}
use Rattle.aig.proofs.Literals.{parity, flip-even}
use Rattle.aig.proofs.Meaning.{value-node, value-flip}

module _ (g : List Node) (ordered : IsOrdered g) (roots : List ℕ) (within : (x : ℕ) → Contains roots x → x < 2 * length g) where
  reads-below : (n x : ℕ) (node : Node) → IsAbove n node → Reads node x → x < 2 * n
  reads-below n x Constant above reading = absurd reading
  reads-below n x (Input v) above reading = absurd reading
  reads-below n x (And l r) (lesser, greater) (inl e) = omega (arith, e)
  reads-below n x (And l r) (lesser, greater) (inr e) = omega (arith, e)

  pub reached-within : {n : ℕ} → IsReached g roots n → n < length g
  reached-within (IsReached.root x root) = let below : x < 2 * length g = within x root in omega arith
  reached-within (IsReached.operand n x node reach at reading) =
      let inside : n < length g = slice_get_within g n node at in
      let below : x < 2 * n = reads-below n x node (ordered n node at) reading in
      omega arith

  module _ (a b : ℕ → Bool) (same : (n v : ℕ) → IsReached g roots n → slice_get g n ≡ Some (Input v) → a v ≡ b v) where
    same-lit : (x : ℕ) → value g a (2 * (x / 2)) ≡ value g b (2 * (x / 2)) → value g a x ≡ value g b x
    same-lit x e = by (parity x)
      where
        by : (x % 2 ≡ 0) ⊎ (x % 2 ≡ 1) → value g a x ≡ value g b x
        by (inl even) =
            let half : 2 * (x / 2) ≡ x = omega arith in
            sym (ap (value g a) half) ∙ e ∙ ap (value g b) half
        by (inr odd) =
            let half : 2 * (x / 2) + 1 ≡ x = omega arith in
            let turned : flip (2 * (x / 2)) ≡ x = flip-even (2 * (x / 2)) (omega arith) ∙ half in
            sym (ap (value g a) turned) ∙ value-flip g a (2 * (x / 2)) ∙ ap not e ∙ sym (value-flip g b (2 * (x / 2))) ∙ ap (value g b) turned

    same-node : (n : ℕ) (node : Node) → slice_get g n ≡ Some node → IsReached g roots n → ((m : ℕ) → m < n → IsReached g roots m → value g a (2 * m) ≡ value g b (2 * m)) → node_value g a node ≡ node_value g b node
    same-node n Constant at reach earlier = refl
    same-node n (Input v) at reach earlier = same n v reach at
    same-node n (And l r) at reach earlier =
        let above : (l.0 < r.0) × (r.0 < 2 * n) = ordered n (And l r) at in
        let left : value g a l.0 ≡ value g b l.0 = same-lit l.0 (earlier (l.0 / 2) (omega (arith, above.0, above.1)) (IsReached.operand n l.0 (And l r) reach at (inl refl))) in
        let right : value g a r.0 ≡ value g b r.0 = same-lit r.0 (earlier (r.0 / 2) (omega (arith, above.1)) (IsReached.operand n r.0 (And l r) reach at (inr refl))) in
        ap (λ (c : Bool). c && value g a r.0) left ∙ ap (λ (c : Bool). value g b l.0 && c) right

    same-below : (k n : ℕ) → n < k → IsReached g roots n → value g a (2 * n) ≡ value g b (2 * n)
    same-below zero n below reach = absurd (omega arith)
    same-below (suc k) n below reach =
        let at = slice_get-get_or g n Constant (reached-within reach) in
        value-node g ordered n (get_or g n Constant) a at ∙ same-node n (get_or g n Constant) at reach (λ m less other. same-below k m (omega arith) other) ∙ sym (value-node g ordered n (get_or g n Constant) b at)

    -- assignments that agree on the variables that are reached give a root one value
    pub same-root : (x : ℕ) → Contains roots x → value g a x ≡ value g b x
    same-root x root = same-lit x (same-below (x / 2 + 1) (x / 2) (omega arith) (IsReached.root x root))
