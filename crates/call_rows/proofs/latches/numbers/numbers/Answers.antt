-- One number more, which stands at its own place.
use Rattle.std.proofs.Common.{◌∙◌, ◌+◌, ◌<◌, ◌^◌, ℕ, [], ◌∷◌, ◌++◌, length, sym, subst, arith, inl, inr}
use Rattle.std.specs.List.{All}
use Rattle.std.proofs.lemmas.List.Elements.{All-contains, Contains-append_cases}
use Rattle.circuit_theory.proofs.Lists.{All-from_each, only}
use Rattle.call_rows.proofs.Numbered.{numbered_more, one_more}
use Rattle.call_rows.proofs.latches.numbers.numbers.Goals as goal

pub overflow_cast-number : goal.overflow_cast-number
overflow_cast-number c = omega (arith, c.loop-number-test.true, c.loop-number.invariant.few)

pub loop-number-preserved : goal.loop-number-preserved
loop-number-preserved c =
    let n = c.loop-number.number in
    let made = c.loop-number.made in
    let is = c.in_ok-push.ensures.ok in
    record {
      each = one_more made _ _ is c.loop-number.invariant.each;
      small = subst (All (λ i. i < 2 ^ 31)) (sym is)
          (All-from_each (λ (i : ℕ). i < 2 ^ 31) (made ++ n ∷ []) (λ i h.
          elim (Contains-append_cases made (n ∷ []) i h) [
            | inl k ↦ All-contains (λ (i : ℕ). i < 2 ^ 31) made i c.loop-number.invariant.small k
            | inr k ↦ (let one = only n i k in omega (arith, one, c.loop-number-test.true, c.loop-number.invariant.few))
          ]));
      few = c.loop-number.invariant.few;
      at = numbered_more made _ _ is c.loop-number.invariant.each c.loop-number.invariant.at;
    }

pub returns-clause-once : goal.returns-clause-once
returns-clause-once c = λ i j x a b. sym (c.loop-number.invariant.at i x a) ∙ c.loop-number.invariant.at j x b
