-- The place is written if it is one of them, and is none of the others.
use Rattle.std.proofs.Common.{◌≡◌, ◌≢◌, ◌∙◌, ◌==◌, ◌<◌, ◌≤◌, ℕ, Bool, true, false, List, length, get_or, set, refl, sym, ap, subst, arith, get_or-set_same, get_or-set_other, inl, inr}
use Rattle.std.specs.Prelude.{◌||◌, ◌⊎◌}
use Rattle.circuit_theory.proofs.Inputs.{test_refl}
use Rattle.circuit_theory.proofs.Sums.{same_or_not}
use Rattle.cbf_unfold.proofs.shift_variables.Assignments.{test_differs}
use Rattle.assume_queries.proofs.assume_sequences.fill.mark.Goals as goal

or_true : (b : Bool) → (b || true) ≡ true
or_true true = refl
or_true false = refl

or_false : (b : Bool) → (b || false) ≡ b
or_false true = refl
or_false false = refl

-- a place beyond the end is none of those
beyond : (old : List Bool) (place k : ℕ) → length old ≤ place → k < length old → get_or old k false ≡ (get_or old k false || (place == k))
beyond old place k far h = sym (ap (λ b. get_or old k false || b) (test_differs place k (λ e. omega (arith, e, far, h))) ∙ or_false (get_or old k false))

written : (old : List Bool) (place k : ℕ) → place < length old → k < length old → get_or (set old place true) k false ≡ (get_or old k false || (place == k))
written old place k inside h = go (same_or_not place k)
  where
    go : (place ≡ k) ⊎ (place ≢ k) → get_or (set old place true) k false ≡ (get_or old k false || (place == k))
    go (inl e) =
        let new : get_or (set old place true) k false ≡ true = subst (λ j. get_or (set old place true) j false ≡ true) e (get_or-set_same old place true false inside) in
        let same : (place == k) ≡ true = subst (λ j. (place == j) ≡ true) e (test_refl place) in
        new ∙ sym (ap (λ b. get_or old k false || b) same ∙ or_true (get_or old k false))
    go (inr apart) = get_or-set_other old place k true false (λ e. apart (sym e)) ∙ sym (ap (λ b. get_or old k false || b) (test_differs place k apart) ∙ or_false (get_or old k false))

pub returns-then-place-len-clause-marked : goal.returns-then-place-len-clause-marked
returns-then-place-len-clause-marked c = λ k h. written c.args.met.now.items c.args.place k (omega (arith, c.if-place-len.true, c.len.ensures)) h

pub returns-else-place-len-clause-marked : goal.returns-else-place-len-clause-marked
returns-else-place-len-clause-marked c = λ k h. beyond c.args.met.now.items c.args.place k (omega (arith, c.if-place-len.false, c.len.ensures)) h
