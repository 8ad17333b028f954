-- One number more.
use Rattle.std.proofs.Common.{◌≡◌, ℕ, ◌+◌, ◌<◌, ◌⊎◌, inl, inr, List, [], ◌∷◌, ◌++◌, length, slice_get, Some, refl, sym, ap, subst, ◌∙◌, arith}
use Rattle.std.proofs.lemmas.List.{length-append}
use Rattle.aig.proofs.Growth.{slice_get-append}
use Rattle.latch_kinds.proofs.unate_enable.recovery.numbers.Goals as goal

last : (xs : List ℕ) (x : ℕ) → slice_get (xs ++ x ∷ []) (length xs) ≡ Some x
last [] x = refl
last (y ∷ xs) x = last xs x

one_more : (numbers new : List ℕ) (n : ℕ) → length numbers ≡ n → ((k : ℕ) → k < n → slice_get numbers k ≡ Some k) → new ≡ numbers ++ n ∷ [] → (k : ℕ) → k < n + 1 → slice_get new k ≡ Some k
one_more numbers new n count each e k below = subst (λ (l : List ℕ). slice_get l k ≡ Some k) (sym e) (by (cases k n below))
  where
    cases : (k n : ℕ) → k < n + 1 → (k < n) ⊎ (k ≡ n)
    cases k n h = grind arith

    by : (k < n) ⊎ (k ≡ n) → slice_get (numbers ++ n ∷ []) k ≡ Some k
    by (inl less) = slice_get-append numbers (n ∷ []) k k (each k less)
    by (inr same) = ap (slice_get (numbers ++ n ∷ [])) (same ∙ sym count) ∙ last numbers n ∙ ap Some (sym same)

pub loop-k-preserved : goal.loop-k-preserved
loop-k-preserved c = record {
  count = omega (arith, ap length c.in_ok-push.ensures.ok, length-append c.loop-k.numbers (c.loop-k.k ∷ []), c.loop-k.invariant.count);
  each = one_more c.loop-k.numbers c.push.new.self c.loop-k.k c.loop-k.invariant.count c.loop-k.invariant.each c.in_ok-push.ensures.ok;
}

pub returns-clause-each : goal.returns-clause-each
returns-clause-each c = omega (arith, c.loop-k.invariant.count, c.loop-k-test.false, c.loop-k.auto.k-end)

pub returns-clause-are : goal.returns-clause-are
returns-clause-are c = λ k below. c.loop-k.invariant.each k (omega (arith, below, c.loop-k-test.false))
