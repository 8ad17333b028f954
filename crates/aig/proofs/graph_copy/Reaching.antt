-- What a literal reads: through what its node reads, and in a graph that has grown.
use Rattle.std.proofs.Common.{◌≡◌, ℕ, ◌*◌, ◌/◌, ◌<◌, nat_lt, if◌then◌else◌, List, [], ◌∷◌, length, get_or, slice_get, Option, Some, sym, ◌∙◌, ap, subst, arith, inl, inr, true, false, Bool}
use Rattle.std.specs.Prelude.{◌⊎◌}
use Rattle.std.specs.List.{Contains}
use Rattle.std.proofs.lemmas.Option.{same_Some, slice_get-get_or}
use Rattle.circuit_theory.proofs.Lists.{Contains-cases, Contains-head}
use Rattle.aig.specs.declared.node.Lit.{Lit}
use Rattle.aig.specs.declared.node.Node.{Node}
use Rattle.aig.specs.declared.node.Node.TheVariants.{Constant, Input, And}
use Rattle.aig.specs.Graph.{IsGraph, IsOrdered, IsAbove, IsLitOf, Grows}
use Rattle.aig.specs.Rules.{IsAndBy, IsAndOf}
use Rattle.aig.specs.Cone.{Reads, IsReached}
use Rattle.aig.proofs.CoverMeaning.{Simple, simple}
use Rattle.aig.proofs.Growth.{slice_get-grows}

only : (x y : ℕ) → Contains (x ∷ []) y → y ≡ x
only x y h = elim (Contains-cases x y [] h) [ inl e ↦ sym e | inr n ↦ absurd (omega (arith, n.1)) ]

-- what is reached from a literal that its node reads
pub record Onward (g : List Node) (x k : ℕ) : Type 0 where
  pub node : Node
  pub read : ℕ
  pub at : slice_get g (x / 2) ≡ Some node
  pub reads : Reads node read
  pub reached : IsReached g (read ∷ []) k

-- the literal's own node, or that
pub onward : (g : List Node) (x : ℕ) {k : ℕ} → IsReached g (x ∷ []) k → (x / 2 ≡ k) ⊎ Onward g x k
onward g x (IsReached.root y h) = inl (ap (λ z. z / 2) (sym (only x y h)))
onward g x (IsReached.operand n y node reached at reads) = go (onward g x reached)
  where
    go : (x / 2 ≡ n) ⊎ Onward g x n → (x / 2 ≡ y / 2) ⊎ Onward g x (y / 2)
    go (inl e) = inr (record { node = node; read = y; at = ap (slice_get g) e ∙ at; reads = reads; reached = IsReached.root y (Contains-head y []) })
    go (inr o) = inr (record { node = o.node; read = o.read; at = o.at; reads = o.reads; reached = IsReached.operand n y node o.reached at reads })

-- what is reached from a literal that a node reads is reached from the node's literal
pub through : (g : List Node) (x y : ℕ) (node : Node) → slice_get g (x / 2) ≡ Some node → Reads node y → {k : ℕ} → IsReached g (y ∷ []) k → IsReached g (x ∷ []) k
through g x y node at reads (IsReached.root z h) =
    subst (λ w. IsReached g (x ∷ []) (w / 2)) (sym (only y z h)) (IsReached.operand (x / 2) y node (IsReached.root x (Contains-head x [])) at reads)
through g x y node at reads (IsReached.operand n z other reached there more) = IsReached.operand n z other (through g x y node at reads reached) there more

-- a literal reaches what its complement reaches
pub across : (g : List Node) (x y : ℕ) → x / 2 ≡ y / 2 → {k : ℕ} → IsReached g (x ∷ []) k → IsReached g (y ∷ []) k
across g x y half (IsReached.root z h) = subst (IsReached g (y ∷ [])) (sym (ap (λ w. w / 2) (only x z h) ∙ half)) (IsReached.root y (Contains-head y []))
across g x y half (IsReached.operand n z node reached at reads) = IsReached.operand n z node (across g x y half reached) at reads

operand_below : (n : ℕ) (node : Node) (z : ℕ) → IsAbove n node → Reads node z → z < 2 * n
operand_below n Constant z above reads = absurd reads
operand_below n (Input v) z above reads = absurd reads
operand_below n (And l r) z above (inl e) = omega (arith, e, above.0, above.1)
operand_below n (And l r) z above (inr e) = omega (arith, e, above.1)

module _ (g h : List Node) (ordered : IsOrdered h) (grows : Grows g h) where
  at_back : (n : ℕ) (node : Node) → n < length g → slice_get h n ≡ Some node → slice_get g n ≡ Some node
  at_back n node below at =
      let old = slice_get-get_or g n node below in
      let same : get_or g n node ≡ node = same_Some (get_or g n node) node (sym (slice_get-grows g h grows n (get_or g n node) old) ∙ at) in
      old ∙ ap Some same

  -- an older literal reaches older nodes alone, as before
  pub reached_back : (y : ℕ) → y < 2 * length g → {k : ℕ} → IsReached h (y ∷ []) k → IsReached g (y ∷ []) k × (k < length g)
  reached_back y small (IsReached.root z k) = let e = only y z k in (IsReached.root z k, omega (arith, e, small))
  reached_back y small (IsReached.operand n z node reached at reads) =
      let old = reached_back y small reached in
      let below = operand_below n node z (ordered n node at) reads in
      (IsReached.operand n z node old.0 (at_back n node old.1 at) reads, omega (arith, below, old.1))

  pub input_back : (y k v : ℕ) → y < 2 * length g → IsReached h (y ∷ []) k → slice_get h k ≡ Some (Input v) → IsReached g (y ∷ []) k × (slice_get g k ≡ Some (Input v))
  input_back y k v small reached at = let old = reached_back y small reached in (old.0, at_back k (Input v) old.1 at)

no_input_and : {v : ℕ} {l r : Lit} → Input v ≡ And l r → ⊥
no_input_and e = cc

no_input_constant : {v : ℕ} → Input v ≡ Constant → ⊥
no_input_constant e = cc

same_input : {v w : ℕ} → Input v ≡ Input w → v ≡ w
same_input e = cc

at_lit : (g : List Node) (node : Node) (x : ℕ) → IsLitOf g node x → slice_get g (x / 2) ≡ Some node
at_lit g node x (n, e, at) = ap (slice_get g) (let h : x / 2 ≡ n = omega arith in h) ∙ at

module _ (g : List Node) (graph : IsGraph g) (V : ℕ → Type 0) where
  -- each variable that the literal reads is one of these
  abbrev pub ReadsOnly : ℕ → Type 0
  ReadsOnly x = (k v : ℕ) → IsReached g (x ∷ []) k → slice_get g k ≡ Some (Input v) → V v

  pub reads_constant : (x : ℕ) → x < 2 → ReadsOnly x
  reads_constant x small k w reached at = go (onward g x reached)
    where
      here : slice_get g (x / 2) ≡ Some Constant
      here = ap (slice_get g) (let h : x / 2 ≡ 0 = omega arith in h) ∙ graph.constant

      go : (x / 2 ≡ k) ⊎ Onward g x k → V w
      go (inl e) = absurd (no_input_constant (same_Some (Input w) Constant (sym at ∙ (ap (slice_get g) (sym e) ∙ here))))
      go (inr o) = absurd (subst (λ (n : Node). Reads n o.read) (same_Some o.node Constant (sym o.at ∙ here)) o.reads)

  pub reads_input : (v x : ℕ) → IsLitOf g (Input v) x → V v → ReadsOnly x
  reads_input v x lit has k w reached at = go (onward g x reached)
    where
      go : (x / 2 ≡ k) ⊎ Onward g x k → V w
      go (inl e) = subst V (same_input (same_Some (Input v) (Input w) (sym (at_lit g (Input v) x lit) ∙ (ap (slice_get g) e ∙ at)))) has
      go (inr o) = absurd (subst (λ (n : Node). Reads n o.read) (same_Some o.node (Input v) (sym o.at ∙ at_lit g (Input v) x lit)) o.reads)

  reads_node : (l r : Lit) (x : ℕ) → IsLitOf g (And l r) x → ReadsOnly l.0 → ReadsOnly r.0 → ReadsOnly x
  reads_node l r x lit left right k w reached at = go (onward g x reached)
    where
      pick : (y : ℕ) → (y ≡ l.0) ⊎ (y ≡ r.0) → IsReached g (y ∷ []) k → V w
      pick y (inl e) there = left k w (subst (λ (z : ℕ). IsReached g (z ∷ []) k) e there) at
      pick y (inr e) there = right k w (subst (λ (z : ℕ). IsReached g (z ∷ []) k) e there) at

      go : (x / 2 ≡ k) ⊎ Onward g x k → V w
      go (inl e) = absurd (no_input_and (same_Some (Input w) (And l r) (sym at ∙ (ap (slice_get g) (sym e) ∙ at_lit g (And l r) x lit))))
      go (inr o) = pick o.read (subst (λ (n : Node). Reads n o.read) (same_Some o.node (And l r) (sym o.at ∙ at_lit g (And l r) x lit)) o.reads) o.reached

  reads_as : (x y : ℕ) → y ≡ x → ReadsOnly x → ReadsOnly y
  reads_as x y e h = subst ReadsOnly (sym e) h

  -- the and of two literals reads what they read
  pub reads_and : (l r x : ℕ) → IsAndOf g l r x → ReadsOnly l → ReadsOnly r → ReadsOnly x
  reads_and l r x is left right = go (simple l r) is
    where
      node : (b : Bool) → IsLitOf g (if b then And (record { 0 = r }) (record { 0 = l }) else And (record { 0 = l }) (record { 0 = r })) x → ReadsOnly x
      node true lit = reads_node (record { 0 = r }) (record { 0 = l }) x lit right left
      node false lit = reads_node (record { 0 = l }) (record { 0 = r }) x lit left right

      go : {o : Option ℕ} → Simple l r o → IsAndBy g l r o x → ReadsOnly x
      go (Simple.left_zero e) by = reads_as 0 x by (reads_constant 0 (omega arith))
      go (Simple.right_zero e) by = reads_as 0 x by (reads_constant 0 (omega arith))
      go (Simple.left_one e) by = reads_as r x by right
      go (Simple.right_one e) by = reads_as l x by left
      go (Simple.same e) by = reads_as l x by left
      go (Simple.complements e) by = reads_as 0 x by (reads_constant 0 (omega arith))
      go (Simple.none e) by = node (nat_lt r l) by
