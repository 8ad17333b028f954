-- The mask has one bit.
use Rattle.std.proofs.Common.{◌<◌, ℕ, List, length, sym, ap, subst, ◌∙◌, IfOk}
use Rattle.std.specs.List.{All}
use Rattle.std.proofs.lemmas.List.Elements.{All-filter}
use Rattle.std.proofs.lemmas.Nat.{one_shl}
use Rattle.aig.specs.declared.node.Lit.{Lit}
use Rattle.cbf_unfold.specs.unfold_places.Visitors.{ArePlacesAt, has_bit, with_bits}
use Rattle.cbf_unfold.proofs.unfolder.Unfolder.places_with.Goals as goal

pub with_bits-requires : goal.with_bits-requires
with_bits-requires c = subst (λ (n : ℕ). All (λ i. i < n) c.args.numbers.now) (sym c.requires.size) c.requires.within

pub places_at-requires : goal.places_at-requires
places_at-requires c =
    subst (λ (m : List ((ℕ × ℕ) × Lit)). All (λ i. i < length m) c.as_slice.result.now) (sym c.memo.ensures)
    (subst (λ (l : List ℕ). All (λ i. i < length c.args.self.now.memo) l) (sym (c.as_slice.ensures.value ∙ c.in_ok-own.ensures)) (All-filter (has_bit c.args.words.now _) (λ i. i < length c.args.self.now.memo) c.args.numbers.now c.requires.within))

pub returns : goal.returns
returns c =
    let own = c.as_slice.ensures.value ∙ c.in_ok-own.ensures ∙ ap (λ (w : ℕ). with_bits c.args.words.now w c.args.numbers.now) (one_shl c.args.k 64 c.requires.bit) in
    subst (λ (l : List ℕ). IfOk c.places_at.result (λ places. ArePlacesAt c.args.self.now.memo l places.items)) own
    (subst (λ (m : List ((ℕ × ℕ) × Lit)). IfOk c.places_at.result (λ places. ArePlacesAt m c.as_slice.result.now places.items)) c.memo.ensures c.places_at.ensures)
