-- Two nets side by side have values for each choice of inputs and latches.
use Rattle.std.proofs.Common.{◌≡◌, ℕ, Bool}
use Rattle.circuit_theory.specs.Run.{Extends}
use Rattle.circuit_theory.specs.Net.{IsNet}
use Rattle.circuit_theory.specs.Circuit.{Circuit, IsSource}
use Rattle.circuit_theory.specs.Joined.{Either, Left, Right, joined, beside}
use Rattle.circuit_laws.proofs.NetLaws.{net_value, net_value-meets, net_value-source}
use Rattle.circuit_laws.proofs.Parts.{source_from}
use Rattle.circuit_laws.proofs.JoinedParts.{left_part, right_part, replace_left, replace_right, meets_both}

-- values of two nets side by side
pub joined_values : (a b : Circuit ℕ) (m n : ℕ) → IsNet a m → IsNet b n → (x : Either ℕ ℕ → Bool) → (v : Either ℕ ℕ → Bool) × Extends (joined a b) x v
joined_values a b m n na nb x = (beside v w, record { meets = meets_both a b v w (net_value-meets a m na own) (net_value-meets b n nb other); sources = sources })
  where
    own : ℕ → Bool
    own p = x (Left p)

    other : ℕ → Bool
    other q = x (Right q)

    v : ℕ → Bool
    v = net_value a own

    w : ℕ → Bool
    w = net_value b other

    sources : (p : Either ℕ ℕ) → IsSource (joined a b) p → beside v w p ≡ x p
    sources (Left p) s = net_value-source a m na own p (source_from a (joined a b) Left (replace_left a b) (left_part a b) p s)
    sources (Right q) s = net_value-source b n nb other q (source_from b (joined a b) Right (replace_right a b) (right_part a b) q s)
