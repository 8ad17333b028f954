-- The order of variables at event nodes.
use Rattle.std.proofs.Common.{◌≡◌, ℕ, ◌<◌, List, [], ◌∷◌, reverse, sym, ◌∙◌, subst, arith, inl, inr}
use Rattle.std.specs.Prelude.{◌⊎◌}
use Rattle.circuit_theory.specs.Names.{ListBefore}
use Rattle.circuit_theory.specs.Query.{Variable}
use Rattle.circuit_theory.specs.Frame.{NodeBefore}

before_trans : (xs ys zs : List ℕ) → ListBefore xs ys → ListBefore ys zs → ListBefore xs zs
before_trans xs ys [] h k = absurd (at ys k)
  where
    at : (ws : List ℕ) → ListBefore ws [] → ⊥
    at [] e = e
    at (w ∷ ws) e = e
before_trans [] ys (z ∷ zs) h k = tt
before_trans (x ∷ xs) [] (z ∷ zs) h k = absurd h
before_trans (x ∷ xs) (y ∷ ys) (z ∷ zs) h k = go h k (before_trans xs ys zs)
  where
    go : (x < y) ⊎ ((x ≡ y) × ListBefore xs ys) → (y < z) ⊎ ((y ≡ z) × ListBefore ys zs) → (ListBefore xs ys → ListBefore ys zs → ListBefore xs zs) → (x < z) ⊎ ((x ≡ z) × ListBefore xs zs)
    go (inl a) (inl b) later = inl (omega (arith, a, b))
    go (inl a) (inr b) later = inl (omega (arith, a, b.0))
    go (inr a) (inl b) later = inl (omega (arith, a.0, b))
    go (inr a) (inr b) later = inr (a.0 ∙ b.0, later a.1 b.1)

pub node_trans : (x y z : Variable (List ℕ)) → NodeBefore x y → NodeBefore y z → NodeBefore x z
node_trans x y z (inl p) (inl q) = inl (omega arith)
node_trans x y z (inl p) (inr q) = inl (omega (arith, q.0))
node_trans x y z (inr p) (inl q) = inl (omega (arith, p.0))
node_trans x y z (inr p) (inr q) = inr (p.0 ∙ q.0, go p.1 q.1)
  where
    go : ListBefore (reverse x.at) (reverse y.at) ⊎ ((x.at ≡ y.at) × (x.input < y.input)) → ListBefore (reverse y.at) (reverse z.at) ⊎ ((y.at ≡ z.at) × (y.input < z.input)) →
        ListBefore (reverse x.at) (reverse z.at) ⊎ ((x.at ≡ z.at) × (x.input < z.input))
    go (inl a) (inl b) = inl (before_trans (reverse x.at) (reverse y.at) (reverse z.at) a b)
    go (inl a) (inr b) = inl (subst (λ (at : List ℕ). ListBefore (reverse x.at) (reverse at)) b.0 a)
    go (inr a) (inl b) = inl (subst (λ (at : List ℕ). ListBefore (reverse at) (reverse z.at)) (sym a.0) b)
    go (inr a) (inr b) = inr (a.0 ∙ b.0, omega (arith, a.1, b.1))
