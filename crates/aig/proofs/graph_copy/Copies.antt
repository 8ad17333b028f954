-- Copies of constants, variables, complements and ands, and copies in a graph that has grown.
use Rattle.std.proofs.Common.{◌≡◌, ℕ, ◌*◌, ◌/◌, ◌%◌, ◌<◌, Bool, not, ◌&&◌, false, List, [], ◌∷◌, ◌++◌, length, slice_get, Some, refl, sym, ◌∙◌, ap, subst, arith, inl, inr}
use Rattle.std.specs.Prelude.{◌⊎◌}
use Rattle.std.proofs.lemmas.Option.{get_or_from_slice_get}
use Rattle.circuit_theory.proofs.Lists.{Contains-head}
use Rattle.aig.specs.declared.node.Lit.{Lit}
use Rattle.aig.specs.declared.node.Node.{Node}
use Rattle.aig.specs.declared.node.Node.TheVariants.{Input, And}
use Rattle.aig.specs.Cone.{Reads, IsReached}
use Rattle.aig.specs.Graph.{IsGraph, IsLitOf, Grows, flip}
use Rattle.aig.specs.Rules.{IsAndOf}
use Rattle.aig.specs.Values.{value}
use Rattle.aig.proofs.CoverMeaning.{value-zero}
use Rattle.aig.proofs.Growth.{Grows-length}
use Rattle.aig.proofs.Insert.{push-cases}
use Rattle.aig.proofs.Literals.{flip-even, flip-half, flip-within}
use Rattle.aig.proofs.Meaning.{value-flip, value-grows}
use Rattle.aig.specs.graph_copy.Copy.{renamed, IsReadBy, IsCopyOf, AreCopies}
use Rattle.aig.proofs.graph_copy.Reaching.{across, through, input_back, reads_constant, reads_input, reads_and}

module _ (own : List Node) (numbers : List ℕ) where
  -- what a literal reads that another one's node reads
  read_through : (x y v : ℕ) (node : Node) → slice_get own (x / 2) ≡ Some node → Reads node y → IsReadBy own numbers y v → IsReadBy own numbers x v
  read_through x y v node at reads r =
      record { node = r.node; variable = r.variable; reached = through own x y node at reads r.reached; at = r.at; number = r.number }

  read_across : (x y v : ℕ) → x / 2 ≡ y / 2 → IsReadBy own numbers x v → IsReadBy own numbers y v
  read_across x y v half r = record { node = r.node; variable = r.variable; reached = across own x y half r.reached; at = r.at; number = r.number }

  pub copy_grows : (g h : List Node) → IsGraph h → Grows g h → (x y : ℕ) → IsCopyOf own numbers g x y → IsCopyOf own numbers h x y
  copy_grows g h graph grows x y c = record {
    within = omega (arith, c.within, Grows-length g h grows);
    same = λ a. value-grows g h grows a y c.within ∙ c.same a;
    reads = λ k v reached at. let old = input_back g h graph.ordered grows y k v c.within reached at in c.reads k v old.0 old.1;
  }

  pub copies_grow : (g h : List Node) → IsGraph h → Grows g h → (lits : List Lit) → AreCopies own numbers g lits → AreCopies own numbers h lits
  copies_grow g h graph grows lits are n y at = copy_grows g h graph grows (2 * n) y.0 (are n y at)

  pub copies_push : (g : List Node) (lits : List Lit) (n : ℕ) (y : Lit) → length lits ≡ n → AreCopies own numbers g lits → IsCopyOf own numbers g (2 * n) y.0 → AreCopies own numbers g (lits ++ y ∷ [])
  copies_push g lits n y each are c m z at = by (push-cases lits y m z at)
    where
      by : (slice_get lits m ≡ Some z) ⊎ ((m ≡ length lits) × (z ≡ y)) → IsCopyOf own numbers g (2 * m) z.0
      by (inl before) = are m z before
      by (inr (e, f)) =
          let here : n ≡ m = sym each ∙ sym e in
          subst (λ (w : Lit). IsCopyOf own numbers g (2 * m) w.0) (sym f) (subst (λ (j : ℕ). IsCopyOf own numbers g (2 * j) y.0) here c)

  pub copy_flip : (g : List Node) (x y : ℕ) → IsCopyOf own numbers g x y → IsCopyOf own numbers g (flip x) (flip y)
  copy_flip g x y c = record {
    within = flip-within y (length g) c.within;
    same = λ a. value-flip g a y ∙ ap not (c.same a) ∙ sym (value-flip own (renamed numbers a) x);
    reads = λ k v reached at. read_across x (flip x) v (sym (flip-half x)) (c.reads k v (across g (flip y) y (flip-half y) reached) at);
  }

  pub copy_zero : (g : List Node) → IsGraph g → (n : ℕ) → ((a : ℕ → Bool) → value own a (2 * n) ≡ false) → 0 < length g → IsCopyOf own numbers g (2 * n) 0
  copy_zero g graph n worth some = record {
    within = omega arith;
    same = λ a. value-zero g graph a ∙ sym (worth (renamed numbers a));
    reads = reads_constant g graph (IsReadBy own numbers (2 * n)) 0 (omega arith);
  }

  pub copy_input : (g : List Node) → IsGraph g → (n u v y : ℕ) → slice_get own n ≡ Some (Input u) → ((a : ℕ → Bool) → value own a (2 * n) ≡ a u) → slice_get numbers u ≡ Some v →
      IsLitOf g (Input v) y → y < 2 * length g → ((a : ℕ → Bool) → value g a y ≡ a v) → IsCopyOf own numbers g (2 * n) y
  copy_input g graph n u v y at worth number lit within made =
      let half : 2 * n / 2 ≡ n = omega arith in
      record {
        within = within;
        same = λ a. made a ∙ sym (ap a (get_or_from_slice_get numbers u v 0 number)) ∙ sym (worth (renamed numbers a));
        reads = reads_input g graph (IsReadBy own numbers (2 * n)) v y lit
            (record { node = n; variable = u; reached = subst (IsReached own (2 * n ∷ [])) half (IsReached.root (2 * n) (Contains-head (2 * n) [])); at = at; number = number });
      }

  pub copy_and : (g h : List Node) → IsGraph h → Grows g h → (n : ℕ) (l r : Lit) (s t y : ℕ) → slice_get own n ≡ Some (And l r) →
      ((a : ℕ → Bool) → value own a (2 * n) ≡ (value own a l.0 && value own a r.0)) → IsCopyOf own numbers g l.0 s → IsCopyOf own numbers g r.0 t →
      IsAndOf h s t y → y < 2 * length h → ((a : ℕ → Bool) → value h a y ≡ (value g a s && value g a t)) → IsCopyOf own numbers h (2 * n) y
  copy_and g h graph grows n l r s t y at worth left right is within made =
      let half : 2 * n / 2 ≡ n = omega arith in
      let here : slice_get own (2 * n / 2) ≡ Some (And l r) = ap (slice_get own) half ∙ at in
      let old = copy_grows g h graph grows l.0 s left in
      let other = copy_grows g h graph grows r.0 t right in
      record {
        within = within;
        same = λ a. made a ∙ ap (λ (b : Bool). b && value g a t) (left.same a) ∙ ap (λ (b : Bool). value own (renamed numbers a) l.0 && b) (right.same a) ∙ sym (worth (renamed numbers a));
        reads = reads_and h graph (IsReadBy own numbers (2 * n)) s t y is
            (λ k v reached there. read_through (2 * n) l.0 v (And l r) here (inl refl) (old.reads k v reached there))
            (λ k v reached there. read_through (2 * n) r.0 v (And l r) here (inr refl) (other.reads k v reached there));
      }

  pub copy_even : (g : List Node) (x y : ℕ) → x % 2 ≡ 0 → IsCopyOf own numbers g (2 * (x / 2)) y → IsCopyOf own numbers g x y
  copy_even g x y even c = let e : 2 * (x / 2) ≡ x = omega arith in subst (λ (z : ℕ). IsCopyOf own numbers g z y) e c

  pub copy_odd : (g : List Node) (x y z : ℕ) → x % 2 ≡ 1 → z ≡ flip y → IsCopyOf own numbers g (2 * (x / 2)) y → IsCopyOf own numbers g x z
  copy_odd g x y z odd is c =
      let even : (2 * (x / 2)) % 2 ≡ 0 = omega arith in
      let e : flip (2 * (x / 2)) ≡ x = flip-even (2 * (x / 2)) even ∙ (omega arith) in
      subst (IsCopyOf own numbers g x) (sym is) (subst (λ (w : ℕ). IsCopyOf own numbers g w (flip y)) e (copy_flip g (2 * (x / 2)) y c))
