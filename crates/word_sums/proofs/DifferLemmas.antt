-- Words that differ at a place by the bits of all nodes.
use Rattle.std.proofs.Common.{◌≡◌, ℕ, ◌<◌, Bool, true, false, not, true≢false, List, length, get_or, sym, ap, ◌∙◌}
use mathlib.Core.Bool.{beq}
use Rattle.std.proofs.lemmas.Bool.{false≢true}
use Rattle.std.proofs.lemmas.Option.{slice_get-get_or}
use Rattle.aig.specs.declared.node.Lit.{Lit}
use Rattle.aig.specs.declared.node.Node.{Node}
use Rattle.aig.specs.Values.{value, node_bits, lit_bit, assigned}
use Rattle.word_sums.specs.Words.{DifferAt}

pub differ-here : (g : List Node) (left right : List Lit) (bits values : List Bool) (i : ℕ) (d e : Lit) (x y : Bool) → i < length left → i < length right → values ≡ node_bits g (assigned bits) →
    x ≡ lit_bit values (get_or left i d).0 → y ≡ lit_bit values (get_or right i e).0 → (x ≡ y → ⊥) → DifferAt g left right bits
unfolding value
differ-here g left right bits values i d e x y in_left in_right is at_left at_right apart = record {
  place = i;
  left_lit = get_or left i d;
  right_lit = get_or right i e;
  at_left = slice_get-get_or left i d in_left;
  at_right = slice_get-get_or right i e in_right;
  differ = λ same.
      apart (at_left ∙ ap (λ (vs : List Bool). lit_bit vs (get_or left i d).0) is ∙ same ∙ sym (ap (λ (vs : List Bool). lit_bit vs (get_or right i e).0) is) ∙ sym at_right);
}

-- bits that a test tells apart
pub beq-apart : (x y : Bool) → not (beq x y) ≡ true → x ≡ y → ⊥
beq-apart true true e same = false≢true e
beq-apart false false e same = false≢true e
beq-apart true false e same = true≢false same
beq-apart false true e same = false≢true same
