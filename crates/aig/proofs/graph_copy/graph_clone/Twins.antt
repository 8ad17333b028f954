-- Twins of constants, variables, complements and ands, and twins in a graph that has grown.
use Rattle.std.proofs.Common.{◌≡◌, ℕ, ◌*◌, ◌/◌, ◌%◌, ◌<◌, Bool, true, false, not, ◌&&◌, List, [], ◌∷◌, ◌++◌, length, get_or, slice_get, Some, refl, sym, ◌∙◌, ap, subst, arith, inl, inr}
use Rattle.std.specs.Prelude.{◌⊎◌, ◌==◌}
use Rattle.std.proofs.lemmas.Option.{slice_get-get_or}
use Rattle.circuit_theory.proofs.Inputs.{test_same, test_refl}
use Rattle.circuit_theory.proofs.Lists.{Contains-head}
use Rattle.aig.specs.declared.node.Lit.{Lit}
use Rattle.aig.specs.declared.node.Node.{Node}
use Rattle.aig.specs.declared.node.Node.TheVariants.{Input, And}
use Rattle.aig.specs.Cone.{Reads, IsReached}
use Rattle.aig.specs.Graph.{IsGraph, IsLitOf, Grows, flip}
use Rattle.aig.specs.Rules.{IsAndOf}
use Rattle.aig.specs.Values.{value}
use Rattle.aig.proofs.CoverMeaning.{value-zero}
use Rattle.aig.proofs.Growth.{Grows-length}
use Rattle.aig.proofs.Insert.{push-cases}
use Rattle.aig.proofs.Literals.{flip-even, flip-half, flip-within, parity}
use Rattle.aig.proofs.Meaning.{value-flip, value-grows}
use Rattle.aig.proofs.graph_copy.Reaching.{across, through, input_back, reads_constant, reads_input, reads_and}
use Rattle.aig.specs.graph_copy.graph_clone.Twins.{IsTwinOf, AreTwins, literal_by, twin_in}

module _ (own : List Node) where
  -- the literal reads the variable
  abbrev Reading : ℕ → ℕ → Type 0
  Reading x v = (n : ℕ) × IsReached own (x ∷ []) n × (slice_get own n ≡ Some (Input v))

  read_through : (x y v : ℕ) (node : Node) → slice_get own (x / 2) ≡ Some node → Reads node y → Reading y v → Reading x v
  read_through x y v node at reads r = (r.0, through own x y node at reads r.1, r.2)

  read_across : (x y v : ℕ) → x / 2 ≡ y / 2 → Reading x v → Reading y v
  read_across x y v half r = (r.0, across own x y half r.1, r.2)

  pub twin_grows : (g h : List Node) → IsGraph h → Grows g h → (x y : ℕ) → IsTwinOf own g x y → IsTwinOf own h x y
  twin_grows g h graph grows x y c = record {
    within = omega (arith, c.within, Grows-length g h grows);
    same = λ a. value-grows g h grows a y c.within ∙ c.same a;
    reads = λ k v reached at. let old = input_back g h graph.ordered grows y k v c.within reached at in c.reads k v old.0 old.1;
  }

  pub twins_grow : (g h : List Node) → IsGraph h → Grows g h → (lits : List Lit) → AreTwins own g lits → AreTwins own h lits
  twins_grow g h graph grows lits are n y at = twin_grows g h graph grows (2 * n) y.0 (are n y at)

  pub twins_push : (g : List Node) (lits : List Lit) (n : ℕ) (y : Lit) → length lits ≡ n → AreTwins own g lits → IsTwinOf own g (2 * n) y.0 → AreTwins own g (lits ++ y ∷ [])
  twins_push g lits n y each are c m z at = by (push-cases lits y m z at)
    where
      by : (slice_get lits m ≡ Some z) ⊎ ((m ≡ length lits) × (z ≡ y)) → IsTwinOf own g (2 * m) z.0
      by (inl before) = are m z before
      by (inr (e, f)) =
          let here : n ≡ m = sym each ∙ sym e in
          subst (λ (w : Lit). IsTwinOf own g (2 * m) w.0) (sym f) (subst (λ (j : ℕ). IsTwinOf own g (2 * j) y.0) here c)

  twin_flip : (g : List Node) (x y : ℕ) → IsTwinOf own g x y → IsTwinOf own g (flip x) (flip y)
  twin_flip g x y c = record {
    within = flip-within y (length g) c.within;
    same = λ a. value-flip g a y ∙ ap not (c.same a) ∙ sym (value-flip own a x);
    reads = λ k v reached at. read_across x (flip x) v (sym (flip-half x)) (c.reads k v (across g (flip y) y (flip-half y) reached) at);
  }

  pub twin_zero : (g : List Node) → IsGraph g → (n : ℕ) → ((a : ℕ → Bool) → value own a (2 * n) ≡ false) → 0 < length g → IsTwinOf own g (2 * n) 0
  twin_zero g graph n worth some = record {
    within = omega arith;
    same = λ a. value-zero g graph a ∙ sym (worth a);
    reads = reads_constant g graph (Reading (2 * n)) 0 (omega arith);
  }

  pub twin_input : (g : List Node) → IsGraph g → (n v y : ℕ) → slice_get own n ≡ Some (Input v) → ((a : ℕ → Bool) → value own a (2 * n) ≡ a v) →
      IsLitOf g (Input v) y → y < 2 * length g → ((a : ℕ → Bool) → value g a y ≡ a v) → IsTwinOf own g (2 * n) y
  twin_input g graph n v y at worth lit within made =
      let half : 2 * n / 2 ≡ n = omega arith in
      record {
        within = within;
        same = λ a. made a ∙ sym (worth a);
        reads = reads_input g graph (Reading (2 * n)) v y lit (n, subst (IsReached own (2 * n ∷ [])) half (IsReached.root (2 * n) (Contains-head (2 * n) [])), at);
      }

  pub twin_and : (g h : List Node) → IsGraph h → Grows g h → (n : ℕ) (l r : Lit) (s t y : ℕ) → slice_get own n ≡ Some (And l r) →
      ((a : ℕ → Bool) → value own a (2 * n) ≡ (value own a l.0 && value own a r.0)) → IsTwinOf own g l.0 s → IsTwinOf own g r.0 t →
      IsAndOf h s t y → y < 2 * length h → ((a : ℕ → Bool) → value h a y ≡ (value g a s && value g a t)) → IsTwinOf own h (2 * n) y
  twin_and g h graph grows n l r s t y at worth left right is within made =
      let half : 2 * n / 2 ≡ n = omega arith in
      let here : slice_get own (2 * n / 2) ≡ Some (And l r) = ap (slice_get own) half ∙ at in
      let old = twin_grows g h graph grows l.0 s left in
      let other = twin_grows g h graph grows r.0 t right in
      record {
        within = within;
        same = λ a. made a ∙ ap (λ (b : Bool). b && value g a t) (left.same a) ∙ ap (λ (b : Bool). value own a l.0 && b) (right.same a) ∙ sym (worth a);
        reads = reads_and h graph (Reading (2 * n)) s t y is
            (λ k v reached there. read_through (2 * n) l.0 v (And l r) here (inl refl) (old.reads k v reached there))
            (λ k v reached there. read_through (2 * n) r.0 v (And l r) here (inr refl) (other.reads k v reached there));
      }

  -- the literal for one of the graph is its twin
  pub twin_there : (g : List Node) (lits : List Lit) (x : Lit) → AreTwins own g lits → x.0 / 2 < length lits → IsTwinOf own g x.0 (twin_in lits x).0
  twin_there g lits x are inside = go (x.0 % 2 == 1) refl (parity x.0)
    where
      here : IsTwinOf own g (2 * (x.0 / 2)) (get_or lits (x.0 / 2) (record { 0 = 0 })).0
      here = are (x.0 / 2) (get_or lits (x.0 / 2) (record { 0 = 0 })) (slice_get-get_or lits (x.0 / 2) (record { 0 = 0 }) inside)

      off : {b : Bool} → b ≡ true → b ≡ false → ⊥
      off p q = cc

      go : (b : Bool) → (x.0 % 2 == 1) ≡ b → (x.0 % 2 ≡ 0) ⊎ (x.0 % 2 ≡ 1) → IsTwinOf own g x.0 (literal_by b (get_or lits (x.0 / 2) (record { 0 = 0 }))).0
      go true e (inl even) = absurd (let odd = test_same (x.0 % 2) 1 e in omega (arith, odd, even))
      go true e (inr odd) =
          let even : (2 * (x.0 / 2)) % 2 ≡ 0 = omega arith in
          let q : flip (2 * (x.0 / 2)) ≡ x.0 = flip-even (2 * (x.0 / 2)) even ∙ (omega (arith, odd)) in
          subst (λ (z : ℕ). IsTwinOf own g z (flip (get_or lits (x.0 / 2) (record { 0 = 0 })).0)) q (twin_flip g (2 * (x.0 / 2)) (get_or lits (x.0 / 2) (record { 0 = 0 })).0 here)
      go false e (inl even) = let q : 2 * (x.0 / 2) ≡ x.0 = omega (arith, even) in subst (λ (z : ℕ). IsTwinOf own g z (get_or lits (x.0 / 2) (record { 0 = 0 })).0) q here
      go false e (inr odd) = absurd (off (ap (λ n. n == 1) odd ∙ test_refl 1) e)
