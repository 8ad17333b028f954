-- One more node of a list and its bit.
use Rattle.std.proofs.Common.{◌≡◌, ℕ, ◌+◌, ◌<◌, Bool, List, [], ◌∷◌, ◌++◌, length, take, set, slice_get, Some, sym, ap, ◌∙◌}
use Rattle.std.proofs.lemmas.List.{take_more_set}
use Rattle.base_tables.proofs.TableLemmas.{take-push}
use Rattle.aig.specs.declared.node.Node.{Node}
use Rattle.aig.specs.Values.{node_bit, node_bits}
use Rattle.aig.proofs.Meaning.{node_bits-push}

pub bits-step : (a : ℕ → Bool) (scratch : List Bool) (nodes : List Node) (n : ℕ) (node : Node) (b : Bool) → n < length scratch → slice_get nodes n ≡ Some node → take n scratch ≡ node_bits (take n nodes) a → b ≡ node_bit a (take n scratch) node →
    take (n + 1) (set scratch n b) ≡ node_bits (take (n + 1) nodes) a
bits-step a scratch nodes n node b within at done is =
    take_more_set scratch n b within ∙ ap (λ (c : Bool). take n scratch ++ c ∷ []) is ∙ ap (λ (bits : List Bool). bits ++ node_bit a bits node ∷ []) done
    ∙ sym (node_bits-push (take n nodes) node a) ∙ ap (λ (ns : List Node). node_bits ns a) (take-push nodes n node at)
