-- Bits of which one more is set.
use Rattle.std.proofs.Common.{◌≡◌, ◌≢◌, ℕ, ◌+◌, ◌<◌, Bool, true, false, List, length, Some, ◌∙◌, sym, subst, arith, inl, inr}
use Rattle.std.specs.Prelude.{◌⊎◌, slice_get}
use Rattle.std.specs.List.{All, Contains}
use Rattle.std.proofs.Math.ListN.{set}
use Rattle.std.proofs.lemmas.Option.{slice_get_within, get_or_from_slice_get}
use Rattle.latch_graph.proofs.flat_net.Places.{one_at}
use Rattle.latch_graph.proofs.flat_net.Nets.{some_at}
use Rattle.circuit_theory.proofs.Lists.{of_at}
use Rattle.circuit_theory.proofs.Sums.{same_or_not}
use Rattle.latch_graph.proofs.Lists.{set_same, set_other, set_cases}
use Rattle.sec_setup.specs.cut_points.expose_pick.Bits.{AreBits}

-- one bit more is set
pub bits_more : (bits : List Bool) (positions : List ℕ) (i j : ℕ) → AreBits bits positions i → slice_get positions i ≡ Some j → j < length bits → AreBits (set bits j true) positions (i + 1)
bits_more bits positions i j b at inside = record {
  set = λ k m l h. put k m l h (same_or_not k i) (same_or_not m j);
  from = λ m h. from m (set_cases bits j m true true h);
}
  where
    there : slice_get (set bits j true) j ≡ Some true
    there = let old = some_at bits j inside in set_same bits j old.0 true old.1

    put : (k m : ℕ) → k < i + 1 → slice_get positions k ≡ Some m → (k ≡ i) ⊎ (k ≢ i) → (m ≡ j) ⊎ (m ≢ j) → slice_get (set bits j true) m ≡ Some true
    put k m l h e (inl same) = subst (λ z. slice_get (set bits j true) z ≡ Some true) (sym same) there
    put k m l h (inl e) (inr n) = absurd (n (one_at positions i m j (subst (λ z. slice_get positions z ≡ Some m) e h) at))
    put k m l h (inr o) (inr n) = set_other bits j m true true n (b.set k m (omega (arith, l, o)) h)

    from : (m : ℕ) → ((m ≡ j) × (true ≡ true)) ⊎ ((m ≢ j) × (slice_get bits m ≡ Some true)) → Contains positions m
    from m (inl x) = subst (λ z. Contains positions z) (sym x.0) (of_at positions i j at)
    from m (inr x) = b.from m x.1

pub bits_none : (bits : List Bool) (positions : List ℕ) → All (λ bit. bit ≡ false) bits → AreBits bits positions 0
bits_none bits positions none = record { set = λ i j l h. absurd (omega (arith, l)); from = λ j h. absurd (true_false (sym (get_or_from_slice_get bits j true false h) ∙ none j false (slice_get_within bits j true h))) }
  where
    true_false : true ≡ false → ⊥
    true_false e = cc
