-- What is told of one output more.
use Rattle.std.proofs.Common.{◌≡◌, ◌+◌, ◌^◌, ◌<◌, ℕ, List, [], ◌∷◌, ◌++◌, Option, Some, None, Result, Ok, Err, IfSome, OnOk, refl, sym, ap, ◌∙◌}
use Rattle.std.specs.List.{All}
use Rattle.std.specs.Option.{option_or}
use Rattle.std.proofs.lemmas.List.{map_push}
use Rattle.std.proofs.lemmas.List.Elements.{All-head, All-tail}
use Rattle.induct.specs.declared.block_outputs.answer.Shown.{Shown}
use Rattle.induct.specs.declared.block_outputs.answer.OutputAnswer.{OutputAnswer}
use Rattle.induct.specs.declared.block_outputs.answer.OutputAnswer.TheVariants as answer
use Rattle.induct.specs.declared.block_outputs.outputs.OutputPair.{OutputPair}
use Rattle.induct.specs.declared.induction.InductPair.{InductPair}
use Rattle.induct.specs.declared.verdict.Told.{Told}
use Rattle.induct.specs.Inductions.{pair_told, limit_or, shown_or, first_limit, first_shown, AreSmall, IsTold}

pub or_none : {X : Type 0} (o : Option X) → option_or o None ≡ o
or_none None = refl
or_none (Some x) = refl

limit_first : (name : List ℕ) (a : OutputAnswer) (x y : Option (List ℕ)) → limit_or name a (option_or x y) ≡ option_or (limit_or name a x) y
limit_first name answer.Equal x y = refl
limit_first name (answer.NotShown s) x y = refl
limit_first name (answer.Limit proof) x y = refl

shown_first : (name : List ℕ) (a : OutputAnswer) (x y : Option (List ℕ × Shown)) → shown_or name a (option_or x y) ≡ option_or (shown_or name a x) y
shown_first name answer.Equal x y = refl
shown_first name (answer.NotShown s) x y = refl
shown_first name (answer.Limit proof) x y = refl

limit_more : (outputs : List OutputPair) (pair : OutputPair) → first_limit (outputs ++ pair ∷ []) ≡ option_or (first_limit outputs) (limit_or pair.name pair.answer None)
limit_more [] pair = refl
limit_more (p ∷ ps) pair = ap (limit_or p.name p.answer) (limit_more ps pair) ∙ limit_first p.name p.answer (first_limit ps) (limit_or pair.name pair.answer None)

shown_more : (outputs : List OutputPair) (pair : OutputPair) → first_shown (outputs ++ pair ∷ []) ≡ option_or (first_shown outputs) (shown_or pair.name pair.answer None)
shown_more [] pair = refl
shown_more (p ∷ ps) pair = ap (shown_or p.name p.answer) (shown_more ps pair) ∙ shown_first p.name p.answer (first_shown ps) (shown_or pair.name pair.answer None)

module _ (pair : OutputPair) (old new : Told) (outputs : List OutputPair) (is : IsTold outputs old) where
  told_more : new.pairs ≡ old.pairs ++ pair_told pair ∷ [] → new.limit ≡ option_or old.limit (limit_or pair.name pair.answer None) → new.shown ≡ option_or old.shown (shown_or pair.name pair.answer None) → IsTold (outputs ++ pair ∷ []) new
  told_more p l s = record {
    pairs = p ∙ ap (λ (ps : List InductPair). ps ++ pair_told pair ∷ []) is.pairs ∙ sym (map_push pair_told outputs pair);
    limit = l ∙ ap (λ (x : Option (List ℕ)). option_or x (limit_or pair.name pair.answer None)) is.limit ∙ sym (limit_more outputs pair);
    shown = s ∙ ap (λ (x : Option (List ℕ × Shown)). option_or x (shown_or pair.name pair.answer None)) is.shown ∙ sym (shown_more outputs pair);
  }

module _ (pair : OutputPair) (a : OutputAnswer) (known : pair.answer ≡ a) (old mid new : Told) where
  -- the first ones are kept, and then the pair is pushed
  pub told_by : {T E : Type 0} (r : Result T E) → mid.pairs ≡ old.pairs → mid.limit ≡ option_or old.limit (limit_or pair.name a None) → mid.shown ≡ option_or old.shown (shown_or pair.name a None) → OnOk r (new.pairs ≡ mid.pairs ++ pair_told (record { name = pair.name; answer = a }) ∷ []) → OnOk r (new.limit ≡ mid.limit) → OnOk r (new.shown ≡ mid.shown) → OnOk r ((outputs : List OutputPair) → IsTold outputs old → IsTold (outputs ++ pair ∷ []) new)
  told_by (Ok x) p l s pushed same_limit same_shown = λ outputs is. told_more pair old new outputs is
      (pushed ∙ ap (λ (ps : List InductPair). ps ++ pair_told (record { name = pair.name; answer = a }) ∷ []) p ∙ ap (λ (v : OutputAnswer). old.pairs ++ pair_told (record { name = pair.name; answer = v }) ∷ []) (sym known))
      (same_limit ∙ l ∙ ap (λ (v : OutputAnswer). option_or old.limit (limit_or pair.name v None)) (sym known))
      (same_shown ∙ s ∙ ap (λ (v : OutputAnswer). option_or old.shown (shown_or pair.name v None)) (sym known))
  told_by (Err e) p l s pushed same_limit same_shown = tt

-- the variables that are told stay small
abbrev pub IsFew : ℕ → Option (List ℕ × Shown) → Type 0
IsFew count shown = IfSome shown (λ x. All (λ v. count + v < 2 ^ 32) x.1.vars)

small_or : (count : ℕ) (name : List ℕ) (a : OutputAnswer) (rest : Option (List ℕ × Shown)) → AreSmall count a → IsFew count rest → IsFew count (shown_or name a rest)
small_or count name answer.Equal rest small few = few
small_or count name (answer.NotShown s) rest small few = small
small_or count name (answer.Limit proof) rest small few = few

pub first_shown_small : (count : ℕ) (outputs : List OutputPair) → All (λ (pair : OutputPair). AreSmall count pair.answer) outputs → IsFew count (first_shown outputs)
first_shown_small count [] all = tt
first_shown_small count (pair ∷ pairs) all =
    small_or count pair.name pair.answer (first_shown pairs) (All-head (λ (p : OutputPair). AreSmall count p.answer) pair pairs all)
    (first_shown_small count pairs (All-tail (λ (p : OutputPair). AreSmall count p.answer) pair pairs all))
