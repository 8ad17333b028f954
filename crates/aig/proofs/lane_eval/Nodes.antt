-- Blocks of nodes, one after the other.
use Rattle.std.proofs.Common.{◌≡◌, ℕ, ◌+◌, ◌%◌, ◌<◌, ◌≤◌, max, Bool, false, List, [], ◌∷◌, ◌++◌, length, take, set, get_or, slice_get, Some, sym, ◌∙◌, ap, arith, subst}
use Rattle.std.specs.Prelude.{All, replicate}
use Rattle.std.proofs.lemmas.List.{get_or-map, map-append, take_more_set}
use Rattle.std.proofs.lemmas.List.Elements.{All-push}
use Rattle.aig.proofs.TableLemmas.{take-push}
use Rattle.aig.specs.declared.node.Node.{Node}
use Rattle.aig.specs.declared.node.Node.TheVariants.{Constant, Input}
use Rattle.aig.specs.Graph.{vars_of}
use Rattle.aig.specs.Values.{node_bit, node_bits, assigned}
use Rattle.aig.proofs.Meaning.{node_bits-push}
use Rattle.aig.specs.lane_eval.Blocks.{block_bit, IsBlock, lane}
use Rattle.aig.proofs.lane_eval.Bits.{word_bit-zero}
use Rattle.aig.proofs.lane_eval.Lanes.{block_bit-splat}

pub constant-bit : (r : List ℕ) (a : ℕ → Bool) (bits : List Bool) (node : Node) (k : ℕ) → k < 512 → r ≡ replicate 8 0 → node ≡ Constant → block_bit r k ≡ node_bit a bits node
constant-bit r a bits node k inside is at = ap (λ (b : List ℕ). block_bit b k) is ∙ block_bit-splat 0 k inside ∙ word_bit-zero (k % 64) ∙ sym (ap (node_bit a bits) at)

pub input-bit : (r : List ℕ) (inputs : List (List ℕ)) (bits : List Bool) (node : Node) (v k : ℕ) (d : List ℕ) → v < length inputs → r ≡ get_or inputs v d → node ≡ Input v → block_bit r k ≡ node_bit (assigned (lane k inputs)) bits node
input-bit r inputs bits node v k d inside is at =
    ap (λ (b : List ℕ). block_bit b k) is ∙ sym (get_or-map (λ (b : List ℕ). block_bit b k) inputs v d false inside) ∙ sym (ap (node_bit (assigned (lane k inputs)) bits) at)

-- an input's place
pub input-within : (node : Node) (v n : ℕ) → node ≡ Input v → vars_of (node ∷ []) ≤ n → v < n
input-within node v n e covers = let h : max (v + 1) 0 ≤ n = subst (λ (x : Node). vars_of (x ∷ []) ≤ n) e covers in omega arith

-- one node more has its block
pub block-step : (nodes : List Node) (node : Node) (inputs blocks : List (List ℕ)) (n : ℕ) (b : List ℕ) → n < length blocks → slice_get nodes n ≡ Some node → All IsBlock (take n blocks) → IsBlock b →
    ((k : ℕ) → k < 512 → lane k (take n blocks) ≡ node_bits (take n nodes) (assigned (lane k inputs))) →
    ((k : ℕ) → k < 512 → block_bit b k ≡ node_bit (assigned (lane k inputs)) (lane k (take n blocks)) node) →
    All IsBlock (take (n + 1) (set blocks n b)) × ((k : ℕ) → k < 512 → lane k (take (n + 1) (set blocks n b)) ≡ node_bits (take (n + 1) nodes) (assigned (lane k inputs)))
block-step nodes node inputs blocks n b within at each block done is =
    (subst (All IsBlock) (sym (take_more_set blocks n b within)) (All-push IsBlock (take n blocks) b each block), λ k inside. step k inside)
  where
    step : (k : ℕ) → k < 512 → lane k (take (n + 1) (set blocks n b)) ≡ node_bits (take (n + 1) nodes) (assigned (lane k inputs))
    step k inside =
        ap (lane k) (take_more_set blocks n b within) ∙ map-append (λ (b : List ℕ). block_bit b k) (take n blocks) (b ∷ [])
        ∙ ap (λ (c : Bool). lane k (take n blocks) ++ c ∷ []) (is k inside)
        ∙ ap (λ (bits : List Bool). bits ++ node_bit (assigned (lane k inputs)) bits node ∷ []) (done k inside)
        ∙ sym (node_bits-push (take n nodes) node (assigned (lane k inputs))) ∙ ap (λ (ns : List Node). node_bits ns (assigned (lane k inputs))) (take-push nodes n node at)
