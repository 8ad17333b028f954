-- Values of the places of a part: those that its nodes' clauses leave are the nodes' under an assignment.
use Rattle.std.proofs.Common.{◌≡◌, ℕ, zero, suc, ◌+◌, ◌*◌, ◌/◌, ◌%◌, ◌<◌, ◌⊎◌, inl, inr, Bool, true, false, List, [], ◌∷◌, length, get_or, slice_get, Some, refl, sym, ◌∙◌, ap, arith}
use Rattle.std.specs.Prelude.{not, ◌&&◌, ◌==◌, if◌then◌else◌}
use Rattle.std.proofs.lemmas.Bool.{eq-eqb}
use Rattle.std.proofs.lemmas.Bool.Decides.{Decides-eqb}
use Rattle.std.proofs.lemmas.Option.{none-some, same_Some, slice_get_within, slice_get-get_or}
use Rattle.proof_check.specs.Literals.{literal_value}
use Rattle.aig.specs.declared.node.Node.{Node}
use Rattle.aig.specs.declared.node.Node.TheVariants.{Constant, Input, And}
use Rattle.aig.specs.Graph.{IsOrdered, flip}
use Rattle.aig.specs.Values.{value, node_value}
use Rattle.aig.proofs.Literals.{parity, flip-even}
use Rattle.aig.proofs.Meaning.{value-node, value-flip}
use Rattle.pair_decide.specs.cnf_encode.Encoding.{literal_of}
use Rattle.pair_decide.proofs.cnf_encode.Meeting.{NodeHolds}

-- the variable's value at the first place that is its input
abbrev pub var_bit : ℕ → List Node → (ℕ → Bool) → ℕ → Bool
var_bit k [] w u = false
var_bit k (Constant ∷ part) w u = var_bit (suc k) part w u
var_bit k (Input t ∷ part) w u = if t == u then w k else var_bit (suc k) part w u
var_bit k (And l r ∷ part) w u = var_bit (suc k) part w u

-- a variable with one place has that place's value
pub var_bit-at : (k : ℕ) (part : List Node) (w : ℕ → Bool) (u j : ℕ) → slice_get part j ≡ Some (Input u) → ((i : ℕ) → slice_get part i ≡ Some (Input u) → i ≡ j) → var_bit k part w u ≡ w (k + j)
var_bit-at k [] w u j at one = absurd (none-some (Input u) at)
var_bit-at k (Constant ∷ part) w u zero at one = absurd (let h : Constant ≡ Input u = same_Some Constant (Input u) at in cc)
var_bit-at k (Constant ∷ part) w u (suc j) at one =
    let later : suc k + j ≡ k + suc j = omega arith in
    var_bit-at (suc k) part w u j at (λ i there. let e : suc i ≡ suc j = one (suc i) there in omega arith) ∙ ap w later
var_bit-at k (And l r ∷ part) w u zero at one = absurd (let h : And l r ≡ Input u = same_Some (And l r) (Input u) at in cc)
var_bit-at k (And l r ∷ part) w u (suc j) at one =
    let later : suc k + j ≡ k + suc j = omega arith in
    var_bit-at (suc k) part w u j at (λ i there. let e : suc i ≡ suc j = one (suc i) there in omega arith) ∙ ap w later
var_bit-at k (Input t ∷ part) w u j at one = by (t == u) refl j at one (λ i there once. var_bit-at (suc k) part w u i there once)
  where
    same_input : (s t : ℕ) → Input s ≡ Input t → s ≡ t
    same_input s t e = cc

    by : (b : Bool) → (t == u) ≡ b → (j : ℕ) → slice_get (Input t ∷ part) j ≡ Some (Input u) → ((i : ℕ) → slice_get (Input t ∷ part) i ≡ Some (Input u) → i ≡ j)
        → ((i : ℕ) → slice_get part i ≡ Some (Input u) → ((m : ℕ) → slice_get part m ≡ Some (Input u) → m ≡ i) → var_bit (suc k) part w u ≡ w (suc k + i)) → var_bit k (Input t ∷ part) w u ≡ w (k + j)
    by true e j at one later =
        let here : slice_get (Input t ∷ part) 0 ≡ Some (Input u) = ap (λ (s : ℕ). Some (Input s)) ((Decides-eqb t u).0 e) in
        let place : k ≡ k + j = omega (arith, one 0 here) in
        ap (λ (b : Bool). if b then w k else var_bit (suc k) part w u) e ∙ ap w place
    by false e zero at one later = absurd (let h : true ≡ false = sym (eq-eqb t u (same_input t u (same_Some (Input t) (Input u) at))) ∙ e in cc)
    by false e (suc j) at one later =
        let place : suc k + j ≡ k + suc j = omega arith in
        ap (λ (b : Bool). if b then w k else var_bit (suc k) part w u) e ∙ later j at (λ i there. let f : suc i ≡ suc j = one (suc i) there in omega arith) ∙ ap w place

module _ (part : List Node) (ordered : IsOrdered part) (v a : ℕ → Bool) where
  -- a literal has its value where its node's place has
  pub same-lit : (x : ℕ) → v (x / 2 + 1) ≡ value part a (2 * (x / 2)) → literal_value v (literal_of x) ≡ value part a x
  same-lit x at = by (parity x)
    where
      by : (x % 2 ≡ 0) ⊎ (x % 2 ≡ 1) → literal_value v (literal_of x) ≡ value part a x
      by (inl e) =
          let half : 2 * (x / 2) ≡ x = omega arith in
          ap (λ (r : ℕ). if r == 0 then v (x / 2 + 1) else not (v (x / 2 + 1))) e ∙ at ∙ ap (value part a) half
      by (inr e) =
          let half : 2 * (x / 2) + 1 ≡ x = omega arith in
          let turned : flip (2 * (x / 2)) ≡ 2 * (x / 2) + 1 = flip-even (2 * (x / 2)) (omega arith) in
          ap (λ (r : ℕ). if r == 0 then v (x / 2 + 1) else not (v (x / 2 + 1))) e ∙ ap not at ∙ sym (value-flip part a (2 * (x / 2))) ∙ ap (value part a) (turned ∙ half)

  module _ (each : (k : ℕ) (node : Node) → slice_get part k ≡ Some node → NodeHolds v k node) (inputs : (k u : ℕ) → slice_get part k ≡ Some (Input u) → a u ≡ v (k + 1)) where
    node-held : (k : ℕ) (node : Node) → slice_get part k ≡ Some node → NodeHolds v k node → ((j : ℕ) (p : Node) → j < k → slice_get part j ≡ Some p → v (j + 1) ≡ value part a (2 * j)) → v (k + 1) ≡ node_value part a node
    node-held k Constant at holds earlier = holds
    node-held k (Input u) at holds earlier = sym (inputs k u at)
    node-held k (And l r) at holds earlier =
        let above : (l.0 < r.0) × (r.0 < 2 * k) = ordered k (And l r) at in
        let inside : k < length part = slice_get_within part k (And l r) at in
        let left : literal_value v (literal_of l.0) ≡ value part a l.0 =
        same-lit l.0 (earlier (l.0 / 2) (get_or part (l.0 / 2) Constant) (omega (arith, above.0, above.1)) (slice_get-get_or part (l.0 / 2) Constant (omega (arith, above.0, above.1)))) in
        let right : literal_value v (literal_of r.0) ≡ value part a r.0 = same-lit r.0 (earlier (r.0 / 2) (get_or part (r.0 / 2) Constant) (omega (arith, above.1)) (slice_get-get_or part (r.0 / 2) Constant (omega (arith, above.1)))) in
        holds ∙ ap (λ (b : Bool). b && literal_value v (literal_of r.0)) left ∙ ap (λ (b : Bool). value part a l.0 && b) right

    below-held : (m k : ℕ) (node : Node) → k < m → slice_get part k ≡ Some node → v (k + 1) ≡ value part a (2 * k)
    below-held zero k node below at = absurd (omega arith)
    below-held (suc m) k node below at = node-held k node at (each k node at) (λ j p less there. below-held m j p (omega arith) there) ∙ sym (value-node part ordered k node a at)

    -- each place has its node's value
    pub places-held : (k : ℕ) (node : Node) → slice_get part k ≡ Some node → v (k + 1) ≡ value part a (2 * k)
    places-held k node at = below-held (k + 1) k node (omega arith) at

  -- values of the nodes meet what is said of them
  module _ (values : (k : ℕ) (node : Node) → slice_get part k ≡ Some node → v (k + 1) ≡ value part a (2 * k)) where
    lit-at : (x : ℕ) → x / 2 < length part → literal_value v (literal_of x) ≡ value part a x
    lit-at x inside = same-lit x (values (x / 2) (get_or part (x / 2) Constant) (slice_get-get_or part (x / 2) Constant inside))

    pub node-meets : (k : ℕ) (node : Node) → slice_get part k ≡ Some node → NodeHolds v k node
    node-meets k Constant at = values k Constant at ∙ value-node part ordered k Constant a at
    node-meets k (Input u) at = tt
    node-meets k (And l r) at =
        let above : (l.0 < r.0) × (r.0 < 2 * k) = ordered k (And l r) at in
        let inside : k < length part = slice_get_within part k (And l r) at in
        values k (And l r) at ∙ value-node part ordered k (And l r) a at ∙ sym (ap (λ (b : Bool). b && literal_value v (literal_of r.0)) (lit-at l.0 (omega (arith, above.0, above.1))) ∙ ap (λ (b : Bool). value part a l.0 && b) (lit-at r.0 (omega (arith, above.1))))
