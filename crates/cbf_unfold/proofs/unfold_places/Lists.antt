-- What was there is there later, and a list that grew by one element at most.
use Rattle.std.proofs.Common.{◌≡◌, ◌∙◌, ◌+◌, ◌≤◌, ℕ, List, [], ◌∷◌, ◌++◌, length, refl, sym, ap, subst, arith, inl, inr, Ok, Err}
use Rattle.std.specs.Prelude.{◌⊎◌}
use Rattle.std.specs.List.{All}
use Rattle.std.proofs.lemmas.List.Elements.{All-contains}
use Rattle.circuit_theory.proofs.Lists.{Contains-head}
use Rattle.aig.specs.Adds.{Adds}
use Rattle.aig.specs.declared.node.Lit.{Lit}
pub use Rattle.aig.proofs.Lists.{adds_none, adds_trans, adds_push, adds_weaker, adds_contains, adds_at, adds_length, adds_take, append_cases, adds_cases, adds_from, pairs_map, pairs_at, sum_by-map}
use Rattle.cbf_unfold.specs.unfold_places.Reach.{IsThere}

-- a result isn't both
pub not_both : {T E : Type 0} {x : T} {e : E} → Ok x ≡ Err e → ⊥
not_both h = cc

-- what was there is there later
pub there_later : (P : ℕ × ℕ → Type 0) (memo : List ((ℕ × ℕ) × Lit)) (xs ys : List (ℕ × ℕ)) (p : ℕ × ℕ) → Adds P xs ys → IsThere memo xs p → IsThere memo ys p
there_later P memo xs ys p a (inl h) = inl (adds_contains P xs ys p a h)
there_later P memo xs ys p a (inr h) = inr h

-- a list that had nothing has this one element at most
pub at_most_one : {X : Type 0} (xs ys : List X) (x : X) → xs ≡ [] → Adds (λ y. y ≡ x) xs ys → length ys ≤ length xs + 1 → (ys ≡ []) ⊎ (ys ≡ x ∷ [])
at_most_one {X} xs ys x none adds few = go ys (subst (All (λ y. y ≡ x)) (sym (adds.is ∙ ap (λ l. l ++ adds.more) none)) adds.each) (omega (arith, few, ap length none))
  where
    go : (zs : List X) → All (λ y. y ≡ x) zs → length zs ≤ 1 → (zs ≡ []) ⊎ (zs ≡ x ∷ [])
    go [] h l = inl refl
    go (z ∷ []) h l = inr (ap (λ y. y ∷ []) (All-contains (λ y. y ≡ x) (z ∷ []) z h (Contains-head z [])))
    go (z ∷ y ∷ zs) h l = absurd (omega arith)
