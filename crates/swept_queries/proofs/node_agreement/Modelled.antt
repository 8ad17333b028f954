-- One variable more of a model.
use Rattle.std.proofs.Common.{◌≡◌, ℕ, List, [], ◌∷◌, ◌++◌, length, slice_get, Some, sym, ◌∙◌, ap, subst, inl, inr}
use Rattle.std.specs.Prelude.{◌⊎◌}
use Rattle.std.proofs.lemmas.Option.{same_Some}
use Rattle.aig.specs.declared.node.Node.{Node}
use Rattle.aig.specs.declared.node.Node.TheVariants.{Input}
use Rattle.aig.proofs.Insert.{push-cases}
use Rattle.swept_queries.specs.node_agreement.Answers.{AreVariables}

pub variables-step : (g : List Node) (nodes vars more : List ℕ) (i n v : ℕ) → length vars ≡ i → slice_get nodes i ≡ Some n → slice_get g n ≡ Some (Input v) → more ≡ vars ++ v ∷ [] → AreVariables g nodes vars → AreVariables g nodes more
variables-step g nodes vars more i n v each here is new before j m w number at = by (push-cases vars v j w (subst (λ (vs : List ℕ). slice_get vs j ≡ Some w) new at))
  where
    by : (slice_get vars j ≡ Some w) ⊎ ((j ≡ length vars) × (w ≡ v)) → slice_get g m ≡ Some (Input w)
    by (inl old) = before j m w number old
    by (inr (e, f)) =
        let place : j ≡ i = e ∙ each in
        let same : n ≡ m = same_Some n m (sym here ∙ ap (slice_get nodes) (sym place) ∙ number) in
        ap (slice_get g) (sym same) ∙ is ∙ ap (λ (u : ℕ). Some (Input u)) (sym f)
