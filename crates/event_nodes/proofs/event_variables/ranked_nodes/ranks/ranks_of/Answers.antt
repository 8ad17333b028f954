-- The nodes in the order of the input 0 at each.
use Rattle.std.proofs.Common.{◌≡◌, ℕ, ◌+◌, ◌<◌, ◌↔◌, List, length, slice_get, Some, sym, ap, subst, arith}
use Rattle.std.specs.List.{Contains, All}
use Rattle.circuit_theory.proofs.Lists.{All-from_each}
use Rattle.event_nodes.specs.event_variables.ranked_nodes.Ranks.{HasZeros}
use Rattle.event_nodes.proofs.event_variables.ranked_nodes.Zeros.{ranked_within, ranked_order, ranked_apart, ranked_there}
use Rattle.event_nodes.proofs.event_variables.ranked_nodes.ranks.ranks_of.Goals as goal

pub in_order-requires : goal.in_order-requires
in_order-requires c =
    All-from_each (λ v. v < length c.in_ok-alone.alone.places) c.in_ok-numbers.numbers.items
    (λ v h. let low = (c.in_ok-numbers.ensures v).0 h in omega (arith, low, c.nodes-count.ensures, c.in_ok-alone.ensures.zeros.each))

pub places_among-requires-clause-apart : goal.places_among-requires-clause-apart
places_among-requires-clause-apart c =
    let children = c.args.events.now.children in
    let zeros = subst (λ (n : ℕ). HasZeros (n + 1) c.in_ok-alone.alone.places) (sym (ap length c.in_ok-alone.ensures.children)) c.in_ok-alone.ensures.zeros in
    let below = subst (λ (n : ℕ). (v : ℕ) → Contains c.in_ok-numbers.numbers.items v ↔ (v < n + 1)) c.nodes-count.ensures c.in_ok-numbers.ensures in
    subst (λ (l : List ℕ). (i j n : ℕ) → slice_get l i ≡ Some n → slice_get l j ≡ Some n → i ≡ j) (sym c.as_slice.ensures)
    (ranked_apart children c.in_ok-alone.alone c.in_ok-numbers.numbers.items c.in_ok-nodes.nodes c.in_ok-alone.ensures.children zeros below c.in_ok-nodes.ensures)

pub returns : goal.returns
returns c =
    let children = c.args.events.now.children in
    let zeros = subst (λ (n : ℕ). HasZeros (n + 1) c.in_ok-alone.alone.places) (sym (ap length c.in_ok-alone.ensures.children)) c.in_ok-alone.ensures.zeros in
    let below = subst (λ (n : ℕ). (v : ℕ) → Contains c.in_ok-numbers.numbers.items v ↔ (v < n + 1)) c.nodes-count.ensures c.in_ok-numbers.ensures in
    let placed = subst (λ (l : List ℕ). (i n : ℕ) → slice_get l i ≡ Some n → slice_get c.in_ok-ranks.ranks.items n ≡ Some i) c.as_slice.ensures c.in_ok-ranks.ensures.places in
    record {
      within = ranked_within children c.in_ok-alone.alone c.in_ok-numbers.numbers.items c.in_ok-nodes.nodes c.in_ok-alone.ensures.children zeros below c.in_ok-nodes.ensures;
      in_order = ranked_order children c.in_ok-alone.alone c.in_ok-numbers.numbers.items c.in_ok-nodes.nodes c.in_ok-alone.ensures.children zeros below c.in_ok-nodes.ensures;
      there = ranked_there children c.in_ok-alone.alone c.in_ok-numbers.numbers.items c.in_ok-nodes.nodes c.in_ok-alone.ensures.children zeros below c.in_ok-nodes.ensures c.in_ok-ranks.ranks.items placed;
    }

pub places_among-requires-clause-within : goal.places_among-requires-clause-within
places_among-requires-clause-within c =
    subst (All (λ n. n < c.nodes-count.result + 1)) (sym c.as_slice.ensures)
    (All-from_each (λ n. n < c.nodes-count.result + 1) c.in_ok-nodes.nodes (λ n h. (c.in_ok-numbers.ensures n).0 ((c.in_ok-nodes.ensures.same n).0 h)))
