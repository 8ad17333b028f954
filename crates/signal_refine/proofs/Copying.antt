-- A node more.
use Rattle.std.proofs.Common.{◌≡◌, ◌∙◌, ◌+◌, ◌*◌, ◌/◌, ◌%◌, ◌<◌, ℕ, Bool, List, [], ◌∷◌, ◌++◌, length, sym, ap, subst, arith}
use Rattle.std.specs.List.{All}
use Rattle.std.proofs.lemmas.Option.{slice_get_within}
use Rattle.aig.specs.declared.node.Lit.{Lit}
use Rattle.aig.specs.declared.node.Node.{Node}
use Rattle.aig.specs.Graph.{IsGraph, Grows}
use Rattle.aig.specs.Values.{value}
use Rattle.aig.proofs.Growth.{Grows-refl, Grows-trans}
use Rattle.aig.proofs.Insert.{graph-some}
use Rattle.circuit_laws.specs.declared.signal_laws.anchor.Anchor.{Anchor}
use Rattle.signal_refine.specs.declared.copies.NodeLits.{NodeLits}
use Rattle.signal_refine.specs.Copies.{HaveAt, node_at, AreTiedAt, IsCopy, IsReadAs, IsCopied}
use Rattle.signal_refine.proofs.Framing.{within_grows, values_grow, push_value, length_push, within_push, nothing_has, nothing_within}

module _ (base : List Node) (leaves : List Lit) (anchors : List Anchor) where
  pub copy_none : (g : List Node) (f : NodeLits) → f.own.items ≡ [] → f.read.items ≡ [] → IsCopy base leaves anchors g g 0 f
  copy_none g f own read = record {
    grows = Grows-refl g;
    own_each = ap length own;
    read_each = ap length read;
    own_within = nothing_within g f.own.items own;
    read_within = nothing_within g f.read.items read;
    own_values = λ a c at tied. nothing_has (node_at base c) g a f.own.items own;
    read_values = λ a c at tied. nothing_has (node_at base c) g a f.read.items read;
  }

  pub copy_more : (from g h : List Node) → All (λ x. x.0 < 2 * length from) leaves → (n : ℕ) (old new : NodeLits) → IsCopy base leaves anchors from g n old → IsCopied base leaves anchors g old h new → IsCopy base leaves anchors from h (n + 1) new
  copy_more from g h leaves_within n old new is put = record {
    grows = Grows-trans from g h is.grows put.grows;
    own_each = ap length put.own_is ∙ length_push old.own.items put.own n is.own_each;
    read_each = ap length put.read_is ∙ length_push old.read.items put.read n is.read_each;
    own_within = subst (All (λ (x : Lit). x.0 < 2 * length h)) (sym put.own_is) (within_push g h put.grows old.own.items put.own is.own_within put.own_within);
    read_within = subst (All (λ (x : Lit). x.0 < 2 * length h)) (sym put.read_is) (within_push g h put.grows old.read.items put.read is.read_within put.read_within);
    own_values = λ a c at tied.
        subst (HaveAt (node_at base c) h a) (sym put.own_is)
        (push_value (node_at base c) g h put.grows a old.own.items put.own n is.own_each is.own_within (is.own_values a c at tied)
        (put.own_value a c (values_grow c from g is.grows a leaves leaves_within at) (is.read_values a c at tied) ∙ ap (node_at base c) is.read_each));
    read_values = λ a c at tied.
        subst (HaveAt (node_at base c) h a) (sym put.read_is)
        (push_value (node_at base c) g h put.grows a old.read.items put.read n is.read_each is.read_within (is.read_values a c at tied)
        (put.read_value a c (values_grow c from g is.grows a leaves leaves_within at) tied (is.read_values a c at tied) ∙ ap (node_at base c) is.read_each));
  }

  pub copied_from : (g h : List Node) (old new : NodeLits) (n : ℕ) (own read : Lit) → new.own.items ≡ old.own.items ++ own ∷ [] → new.read.items ≡ old.read.items ++ read ∷ [] → IsGraph h → Grows g h →
      length old.read.items ≡ n → All (λ x. x.0 < 2 * length g) old.read.items → own.0 < 2 * length h →
      ((a c : ℕ → Bool) → HaveAt c g a leaves → HaveAt (node_at base c) g a old.read.items → value h a own.0 ≡ node_at base c n) →
      IsReadAs anchors old.read.items n own read → IsCopied base leaves anchors g old h new
  copied_from g h old new n own read own_is read_is graph grows each within own_within own_value reads = record {
    grows = grows;
    own = own;
    read = read;
    own_is = own_is;
    read_is = read_is;
    own_within = own_within;
    read_within = reads.within (length h) (within_grows g h grows old.read.items within) own_within (graph-some h graph);
    own_value = λ a c at values. own_value a c at values ∙ ap (node_at base c) (sym each);
    read_value = λ a c at tied values.
        reads.holds h a (node_at base c) graph (values_grow (node_at base c) g h grows a old.read.items within values) tied (own_value a c at values) ∙ ap (node_at base c) (sym each);
  }

-- no ties hold always
pub no_ties : (anchors : List Anchor) → anchors ≡ [] → (w : ℕ → Bool) → AreTiedAt anchors w
no_ties anchors none w p k at = absurd (let inside = slice_get_within anchors p k at in let empty = ap length none in omega (arith, inside, empty))
