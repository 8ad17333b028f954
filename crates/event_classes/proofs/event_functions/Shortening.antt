-- What the literal of an or reads, one of both reads.
use Rattle.std.proofs.Common.{◌≡◌, ◌∙◌, ℕ, ◌/◌, List, slice_get, Some, refl, sym, ap, subst, arith, inl, inr}
use Rattle.event_nodes.specs.event_variables.aig.Node.{Node}
use Rattle.event_nodes.specs.event_variables.aig.Node.TheVariants.{And}
use Rattle.event_nodes.specs.event_variables.aig.Cone.{Reads}
use Rattle.event_nodes.specs.event_variables.aig.Graph.{IsGraph, flip}
use Rattle.aig.proofs.Supports.{From, Supports, supports_constant, supports_flip, supports_and_of}
use Rattle.edbf_unfold.specs.event_literals.ShortOr.{short_and, IsShortOr}
use Rattle.edbf_unfold.proofs.event_literals.OrKeeping.{IsKept, short_keeps}

-- what is reached from a node that another one reads is reached from that one
from_reader : (g : List Node) (m y : ℕ) (node : Node) → slice_get g m ≡ Some node → Reads node y → {k : ℕ} → From g (y / 2) k → From g m k
from_reader g m y node at reads From.here = From.there m y node From.here at reads
from_reader g m y node at reads (From.there n z other from here also) = From.there n z other (from_reader g m y node at reads from) here also

module _ (g : List Node) (graph : IsGraph g) (V : ℕ → Type 0) where
  supports_kept : IsKept g (Supports g graph V)
  supports_kept = record {
    off = supports_constant g graph V 0 (omega arith);
    on = supports_constant g graph V 1 (omega arith);
    complement = λ x h. supports_flip g graph V x h;
    operand = λ n x l r at half h. (λ k v from there. h k v (from_reader g (x / 2) l.0 (And l r) (ap (slice_get g) half ∙ at) (inl refl) from) there, λ k v from there. h k v (from_reader g (x / 2) r.0 (And l r) (ap (slice_get g) half ∙ at) (inr refl) from) there);
  }

  pub supports_short_or : (x y lit : ℕ) → IsShortOr g x y lit → Supports g graph V x → Supports g graph V y → Supports g graph V lit
  supports_short_or x y lit (k, is, same) left right =
      let both = short_keeps g (Supports g graph V) supports_kept (flip x) (flip y) (supports_flip g graph V x left) (supports_flip g graph V y right) in
      subst (Supports g graph V) (sym same) (supports_flip g graph V k (supports_and_of g graph V (short_and g (flip x) (flip y)).0 (short_and g (flip x) (flip y)).1 k is both.0 both.1))
