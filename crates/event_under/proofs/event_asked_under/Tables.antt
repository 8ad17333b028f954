-- The table of variables by the places of their event nodes.
use Rattle.std.proofs.Common.{◌≡◌, ◌∙◌, ℕ, ◌+◌, ◌≤◌, List, [], ◌∷◌, ◌++◌, length, map, take, get_or, slice_get, Some, sym, ap, subst, arith}
use Rattle.std.specs.List.{Contains}
use Rattle.std.proofs.lemmas.List.{map-append}
use Rattle.std.proofs.lemmas.Option.{get_or_from_slice_get}
use Rattle.circuit_theory.proofs.Lists.{Contains-map_from, at_of}
use Rattle.flat_net.proofs.Places.{All-at}
use Rattle.base_tables.proofs.TableLemmas.{slice_get-take, take-push}
use Rattle.event_nodes.specs.Nodes.{EventGraphView, IsEventGraph}
use Rattle.event_nodes.specs.event_variables.ranked_nodes.Named.{ranked_in}

-- each node has a place
abbrev pub HaveRanks : List ℕ → ℕ → Type 0
HaveRanks ranks bound = (n : ℕ) → n ≤ bound → (i : ℕ) × (slice_get ranks n ≡ Some i)

-- of its own
abbrev pub AreApart : List ℕ → ℕ → Type 0
AreApart ranks bound = (m n i : ℕ) → m ≤ bound → n ≤ bound → slice_get ranks m ≡ Some i → slice_get ranks n ≡ Some i → m ≡ n

module _ (w : EventGraphView) (is : IsEventGraph w) (ranks : List ℕ) (have : HaveRanks ranks (length w.children)) (apart : AreApart ranks (length w.children)) where
  abbrev put : ℕ × ℕ → ℕ × ℕ
  put q = (q.0, get_or ranks q.1 0)

  placed : (v : ℕ) (p : ℕ × ℕ) → slice_get w.places v ≡ Some p → p.1 ≤ length w.children
  placed v p at = All-at (λ (q : ℕ × ℕ). q.1 ≤ length w.children) w.places v p at is.placed

  -- two variables that are put alike are one
  put_one : (u v : ℕ) (p q : ℕ × ℕ) → slice_get w.places u ≡ Some p → slice_get w.places v ≡ Some q → put p ≡ put q → u ≡ v
  put_one u v p q at_p at_q e =
      let i = have p.1 (placed u p at_p) in
      let j = have q.1 (placed v q at_q) in
      let input : p.0 ≡ q.0 = ap (λ (z : ℕ × ℕ). z.0) e in
      let rank : i.0 ≡ j.0 = sym (get_or_from_slice_get ranks p.1 i.0 0 i.1) ∙ (ap (λ (z : ℕ × ℕ). z.1) e ∙ get_or_from_slice_get ranks q.1 j.0 0 j.1) in
      let node : p.1 ≡ q.1 = apart p.1 q.1 j.0 (placed u p at_p) (placed v q at_q) (i.1 ∙ ap Some rank) j.1 in
      let same : p ≡ q = λ k. (input k, node k) in
      is.place_once u v q (at_p ∙ ap Some same) at_q

  -- one variable more
  pub next_ranked : (v : ℕ) (p : ℕ × ℕ) → slice_get w.places v ≡ Some p → (old new : List (ℕ × ℕ)) → old ≡ ranked_in ranks (take v w.places) → ((Contains old (put p) → ⊥) → new ≡ old ++ put p ∷ []) → new ≡ ranked_in ranks (take (v + 1) w.places)
  next_ranked v p at old new before added =
      added none ∙ (ap (λ (l : List (ℕ × ℕ)). l ++ put p ∷ []) before ∙ (sym (map-append put (take v w.places) (p ∷ [])) ∙ ap (map put) (take-push w.places v p at)))
    where
      none : Contains old (put p) → ⊥
      none h =
          let q = Contains-map_from put (take v w.places) (put p) (subst (λ (l : List (ℕ × ℕ)). Contains l (put p)) before h) in
          let k = at_of (take v w.places) q.0 q.1 in
          let low = slice_get-take v w.places k.0 q.0 k.1 in
          let same = put_one k.0 v q.0 p low.1 at q.2 in
          omega (arith, low.0, same)
