-- The bits of variables that are read from values of their nodes.
use Rattle.std.proofs.Common.{◌≡◌, ℕ, ◌+◌, ◌<◌, ◌⊎◌, inl, inr, Bool, true, false, List, length, map, get_or, slice_get, Option, Some, option_map, unwrap_or, Result, Ok, Err, IfOk, refl, sym, ◌∙◌, ap, arith}
use Rattle.std.specs.Prelude.{◌==◌}
use Rattle.std.specs.List.Sorted.{IsStrictlyIncreasing}
use Rattle.std.proofs.lemmas.Bool.Decides.{Decides-eqb}
use Rattle.std.proofs.lemmas.List.{length-map}
use Rattle.std.proofs.lemmas.Option.{same_Some, slice_get_within, slice_get-get_or, slice_get-map}
use Rattle.aig.specs.declared.node.Node.{Node}
use Rattle.aig.specs.declared.node.Node.TheVariants.{Input}
use Rattle.aig.specs.Graph.{IsGraph}
use Rattle.aig.proofs.Parts.{stands_once}
use Rattle.pair_decide.specs.Reading.{HasInputBits, AreInputBits}

same_input : (s t : ℕ) → Input s ≡ Input t → s ≡ t
same_input s t e = cc

below_or_here : (k i : ℕ) → k < i + 1 → (k < i) ⊎ (k ≡ i)
below_or_here k i h = grind arith

module _ (g : List Node) (graph : IsGraph g) (nodes : List ℕ) (increasing : IsStrictlyIncreasing nodes) (values : List Bool) where
  -- the bit of one node's variable more
  pub one-more : (f new : ℕ → Option Bool) (i n v : ℕ) (bit : Bool) → slice_get nodes i ≡ Some n → slice_get g n ≡ Some (Input v) → slice_get values i ≡ Some bit → new v ≡ Some bit → ((q : ℕ) → (v == q) ≡ false → new q ≡ f q)
      → HasInputBits g nodes values f i → HasInputBits g nodes values new (i + 1)
  one-more f new i n v bit here is has put kept before k m u below at other = by (below_or_here k i below)
    where
      by : (k < i) ⊎ (k ≡ i) → new u ≡ slice_get values k
      by (inl less) = apart (v == u) refl
        where
          apart : (b : Bool) → (v == u) ≡ b → new u ≡ slice_get values k
          apart false e = kept u e ∙ before k m u less at other
          apart true e =
              let one : n ≡ m = graph.once n m (Input u) (is ∙ ap (λ (t : ℕ). Some (Input t)) ((Decides-eqb v u).0 e)) other in
              let place : k ≡ i = stands_once nodes increasing k i m at (here ∙ ap Some one) in
              absurd (omega (arith, place))
      by (inr e) =
          let one : m ≡ n = same_Some m n (sym at ∙ ap (slice_get nodes) e ∙ here) in
          let same : u ≡ v = same_input u v (same_Some (Input u) (Input v) (sym other ∙ ap (slice_get g) one ∙ is)) in
          ap new same ∙ put ∙ sym has ∙ ap (slice_get values) (sym e)

  -- a node that is no variable's
  pub none-more : (f : ℕ → Option Bool) (i n : ℕ) (node : Node) → slice_get nodes i ≡ Some n → slice_get g n ≡ Some node → ((v : ℕ) → node ≡ Input v → ⊥) → HasInputBits g nodes values f i → HasInputBits g nodes values f (i + 1)
  none-more f i n node here is other_kind before k m u below at other = by (below_or_here k i below)
    where
      by : (k < i) ⊎ (k ≡ i) → f u ≡ slice_get values k
      by (inl less) = before k m u less at other
      by (inr e) =
          let one : m ≡ n = same_Some m n (sym at ∙ ap (slice_get nodes) e ∙ here) in
          absurd (other_kind u (same_Some node (Input u) (sym is ∙ ap (slice_get g) (sym one) ∙ other)))

-- what is found for each variable
pub all-read : (g : List Node) (nodes : List ℕ) (values : List Bool) (vars : List ℕ) (found : ℕ → Option Bool) (bits : List Bool) → length values ≡ length nodes → HasInputBits g nodes values found (length nodes) → bits ≡ map (λ v. unwrap_or (found v) false) vars → AreInputBits g nodes values vars bits
all-read g nodes values vars found bits each has e = record {
  each = ap length e ∙ length-map vars (λ v. unwrap_or (found v) false);
  same = λ j k n v var at is.
      let inside : k < length nodes = slice_get_within nodes k n at in
      let bit = slice_get-get_or values k false (omega (arith, each, inside)) in
      let value : found v ≡ Some (get_or values k false) = has k n v inside at is ∙ bit in
      ap (λ (bs : List Bool). slice_get bs j) e ∙ slice_get-map (λ (t : ℕ). unwrap_or (found t) false) vars j ∙ ap (option_map (λ (t : ℕ). unwrap_or (found t) false)) var ∙ ap (λ (o : Option Bool). Some (unwrap_or o false)) value ∙ sym bit;
}

-- what follows of the value where a call succeeds
pub IfOk-then : {T E : Type 0} (r : Result T E) (P Q : T → Type 0) → ((x : T) → P x → Q x) → IfOk r P → IfOk r Q
IfOk-then (Ok x) P Q f h = f x h
IfOk-then (Err e) P Q f h = tt
