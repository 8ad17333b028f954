-- One number more.
use Rattle.std.proofs.Common.{◌≡◌, ℕ, zero, suc, ◌+◌, ◌^◌, ◌<◌, ◌≤◌, min, List, [], ◌∷◌, ◌++◌, length, slice_get, refl, sym, ◌∙◌, ap, subst, arith, inl, inr, All}
use Rattle.std.specs.Prelude.{◌⊎◌}
use Rattle.std.proofs.lemmas.List.{length-append}
use Rattle.std.proofs.lemmas.List.Elements.{All-nil, All-push}
use Rattle.std.proofs.lemmas.Option.{slice_get_within}
use Rattle.cbf_unfold.proofs.unfold_places.Lists.{adds_none, adds_trans}
use Rattle.assume_queries.proofs.assume_functions.TableNumbers.{numbers_push}
use Rattle.assume_queries.proofs.assume_functions.numbers.numbers_at.Goals as goal

below_or_not : (i j : ℕ) → (i + 1 ≤ j) ⊎ (j ≤ i)
below_or_not i zero = inr (omega arith)
below_or_not zero (suc j) = inl (omega arith)
below_or_not (suc i) (suc j) = elim (below_or_not i j) [ inl h ↦ inl (omega (arith, h)) | inr h ↦ inr (omega (arith, h)) ]

few_step : (old new : List (ℕ × ℕ)) (v size start : ℕ) → (size ≤ v → new ≡ old) → length new ≤ length old + 1 → length old ≤ start + min v size → length new ≤ start + min (v + 1) size
few_step old new v size start beyond one few = go (below_or_not v size)
  where
    go : (v + 1 ≤ size) ⊎ (size ≤ v) → length new ≤ start + min (v + 1) size
    go (inl h) = omega (arith, one, few, h)
    go (inr h) = omega (arith, ap length (beyond h), few, h)

pub loop-v-init : goal.loop-v-init
loop-v-init c = record {
  each = ap length c.new-numbers.ensures.items;
  numbers = λ u v p at number. absurd (let k = slice_get_within [] u v (ap (λ (l : List ℕ). slice_get l u) (sym c.new-numbers.ensures.items) ∙ number) in omega (arith, k));
  small = subst (All (λ v. v + 1 < 2 ^ 32)) (sym c.new-numbers.ensures.items) (All-nil (λ v. v + 1 < 2 ^ 32));
  adds = adds_none (λ p. Unit {0}) c.args.places.now c.args.places.now refl;
  entries = omega arith;
}

pub returns-in_err-number-clause-adds : goal.returns-in_err-number-clause-adds
returns-in_err-number-clause-adds c = adds_trans (λ p. Unit {0}) c.args.places.now c.loop-v.places c.number_at.new.places c.loop-v.invariant.adds c.number_at.ensures.adds

pub returns-in_err-number-clause-entries : goal.returns-in_err-number-clause-entries
returns-in_err-number-clause-entries c =
    let few = few_step c.loop-v.places c.number_at.new.places c.loop-v.v (length c.args.own.now.places) (length c.args.places.now) c.number_at.ensures.beyond c.number_at.ensures.one c.loop-v.invariant.entries in
    omega (arith, few)

pub returns-in_err-push-clause-adds : goal.returns-in_err-push-clause-adds
returns-in_err-push-clause-adds c = adds_trans (λ p. Unit {0}) c.args.places.now c.loop-v.places c.number_at.new.places c.loop-v.invariant.adds c.number_at.ensures.adds

pub returns-in_err-push-clause-entries : goal.returns-in_err-push-clause-entries
returns-in_err-push-clause-entries c =
    let few = few_step c.loop-v.places c.number_at.new.places c.loop-v.v (length c.args.own.now.places) (length c.args.places.now) c.number_at.ensures.beyond c.number_at.ensures.one c.loop-v.invariant.entries in
    omega (arith, few)

pub loop-v-preserved : goal.loop-v-preserved
loop-v-preserved c =
    let old = c.loop-v.places in
    let new = c.number_at.new.places in
    let numbers = c.loop-v.numbers.items in
    let n = c.in_ok-number.number in
    let pushed : c.push.new.self.items ≡ numbers ++ n ∷ [] = c.in_ok-push.ensures.items in
    record {
      each = ap length pushed ∙ length-append numbers (n ∷ []) ∙ ap (λ (m : ℕ). m + 1) c.loop-v.invariant.each;
      numbers = numbers_push c.args.own.now.places c.args.place old new numbers c.push.new.self.items c.loop-v.v n c.loop-v.invariant.each c.number_at.ensures.adds c.loop-v.invariant.numbers c.in_ok-number.ensures.here pushed;
      small = subst (All (λ v. v + 1 < 2 ^ 32)) (sym pushed) (All-push (λ v. v + 1 < 2 ^ 32) numbers n c.loop-v.invariant.small c.in_ok-number.ensures.small);
      adds = adds_trans (λ p. Unit {0}) c.args.places.now old new c.loop-v.invariant.adds c.number_at.ensures.adds;
      entries = few_step old new c.loop-v.v (length c.args.own.now.places) (length c.args.places.now) c.number_at.ensures.beyond c.number_at.ensures.one c.loop-v.invariant.entries;
    }
