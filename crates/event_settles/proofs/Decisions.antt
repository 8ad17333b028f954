-- The query of a care is one of the graph, and its answer says what is decided of the care.
use Rattle.std.proofs.Common.{◌≡◌, ◌≢◌, ◌∙◌, ◌+◌, ◌<◌, ℕ, Bool, true, false, List, [], ◌∷◌, ◌++◌, length, take, get_or, slice_get, Some, refl, sym, subst, arith, inl, inr}
use Rattle.std.specs.Prelude.{◌⊎◌}
use Rattle.std.specs.List.{AllZip, Contains}
use Rattle.std.proofs.lemmas.List.{take_more}
use Rattle.std.proofs.lemmas.Option.{slice_get_within}
use Rattle.circuit_theory.proofs.Lists.{Contains-cases, only, zip_push}
use Rattle.aig.specs.declared.node.Node.{Node}
use Rattle.aig.specs.declared.node.Node.TheVariants.{Constant, Input}
use Rattle.aig.specs.Cone.{IsReached}
use Rattle.aig.specs.Graph.{IsGraph}
use Rattle.aig.specs.Values.{value}
use Rattle.aig.proofs.CoverMeaning.{value-zero, value-one}
use Rattle.aig.proofs.Supports.{reached_one, constant_reaches}
use Rattle.obligations.specs.outcome.Query.{Query}
use Rattle.obligations.specs.outcome.Decision.TheVariants as decision
use Rattle.obligations.specs.outcome.Queries.{IsQuery, IsSame, roots_of, assigned_to}
use Rattle.obligations.specs.outcome.Answers.{Decides, IsDifference}
use Rattle.obligations.specs.declared.obligation.Obligation.{Obligation}
use Rattle.pair_decide.specs.declared.query.SameBy.{SameBy}
use Rattle.pair_decide.specs.declared.query.SameBy.TheVariants as same
use Rattle.event_settles.specs.declared.cares.PairCare.{PairCare}
use Rattle.event_settles.specs.Deciding.{IsCareDecided, care_query}

-- what is reached from one root is reached from all
pub reached_among : (g : List Node) (x : ℕ) (roots : List ℕ) → Contains roots x → {k : ℕ} → IsReached g (x ∷ []) k → IsReached g roots k
reached_among g x roots member (IsReached.root y h) = IsReached.root y (subst (Contains roots) (only x y h) member)
reached_among g x roots member (IsReached.operand n y node reached at reads) = IsReached.operand n y node (reached_among g x roots member reached) at reads

module _ (g : List Node) (q : Query) (graph : IsGraph g) (is : IsQuery g q) where
  -- the care is the third root
  third : Contains (roots_of q) q.care.0
  third = (2, omega arith, refl)

  pub is_query : IsQuery g (care_query q)
  is_query = record {
    left = is.care;
    right = omega (arith, slice_get_within g 0 Constant graph.constant);
    care = omega (arith, slice_get_within g 0 Constant graph.constant);
    distinct = is.distinct;
    covers = λ k v reached at. go k v at (reached_one g (roots_of (care_query q)) k reached);
  }
    where
      small : (y : ℕ) → (1 ≡ y) ⊎ Contains [] y → y < 2
      small y (inl e) = omega (arith, e)
      small y (inr k) = absurd (omega (arith, k.1))

      rest : (y : ℕ) → (0 ≡ y) ⊎ Contains (1 ∷ []) y → y < 2
      rest y (inl e) = omega (arith, e)
      rest y (inr k) = small y (Contains-cases 1 y [] k)

      first : (k v y : ℕ) → slice_get g k ≡ Some (Input v) → (q.care.0 ≡ y) ⊎ Contains (0 ∷ 1 ∷ []) y → IsReached g (y ∷ []) k → Contains q.vars v
      first k v y at (inl e) reached = is.covers k v (reached_among g q.care.0 (roots_of q) third (subst (λ z. IsReached g (z ∷ []) k) (sym e) reached)) at
      first k v y at (inr h) reached = absurd (constant_reaches g y graph (rest y (Contains-cases 0 y (1 ∷ []) h)) k v reached at)

      go : (k v : ℕ) → slice_get g k ≡ Some (Input v) → (y : ℕ) × Contains (roots_of (care_query q)) y × IsReached g (y ∷ []) k → Contains q.vars v
      go k v at (y, h, reached) = first k v y at (Contains-cases q.care.0 y (0 ∷ 1 ∷ []) h) reached

  same_of : (conflicts : ℕ) (by : SameBy) → Decides g (care_query q) conflicts (decision.Same by) → IsSame g (care_query q)
  same_of conflicts same.Literal d = d.1
  same_of conflicts same.Table d = d.1
  same_of conflicts (same.Refuted proof) d = d.1

  -- the care is 0 always
  pub never : (conflicts : ℕ) (by : SameBy) → Decides g (care_query q) conflicts (decision.Same by) → (a : ℕ → Bool) → value g a q.care.0 ≡ false
  never conflicts by d a = same_of conflicts by d a (value-one g graph a) ∙ value-zero g graph a

  bit_true : (b : Bool) → b ≢ false → b ≡ true
  bit_true true h = refl
  bit_true false h = absurd (h refl)

  -- or these bits meet it
  pub met : (bits : List Bool) → IsDifference g (care_query q) bits → value g (assigned_to q.vars bits) q.care.0 ≡ true
  met bits d = bit_true (value g (assigned_to q.vars bits) q.care.0) (λ e. d.distinguishes.differ (e ∙ sym (value-zero g graph (assigned_to q.vars bits))))

-- one more is decided
pub decided_next : (g : List Node) (conflicts : ℕ) (asked : List Obligation) (i : ℕ) (o : Obligation) (cares new : List PairCare) (c : PairCare) → i < length asked → get_or asked i o ≡ o → new ≡ cares ++ c ∷ [] → AllZip (IsCareDecided g conflicts) (take i asked) cares → IsCareDecided g conflicts o c →
    AllZip (IsCareDecided g conflicts) (take (i + 1) asked) new
decided_next g conflicts asked i o cares new c inside here is old one =
    subst (AllZip (IsCareDecided g conflicts) (take (i + 1) asked)) (sym is)
    (subst (λ (os : List Obligation). AllZip (IsCareDecided g conflicts) os (cares ++ c ∷ [])) (sym (take_more asked i o inside ∙ (λ j. take i asked ++ here j ∷ [])))
    (zip_push (IsCareDecided g conflicts) (take i asked) cares o c old one))
