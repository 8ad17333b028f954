-- The parts of queries, where they stand, and what is made with them while the graph grows.
use Rattle.std.proofs.Common.{◌≡◌, ℕ, zero, suc, ◌+◌, ◌*◌, ◌<◌, List, [], ◌∷◌, ◌++◌, length, take, drop, get_or, slice_get, Some, sym, ◌∙◌, ap, subst}
use Rattle.std.specs.List.{All, AllZip, Contains, sum_by}
use Rattle.std.proofs.lemmas.List.Elements.{All-contains}
use Rattle.std.proofs.lemmas.List.Sums.{sum_by-cons}
use Rattle.std.proofs.lemmas.Option.{none-some, same_Some, slice_get-get_or}
use Rattle.circuit_theory.proofs.Lists.{Contains-map_from, All-from_each, of_at, zip_push, zip_right, zip_weaker}
use Rattle.aig.specs.declared.node.Lit.{Lit}
use Rattle.aig.specs.declared.node.Node.{Node}
use Rattle.aig.specs.Graph.{IsGraph, Grows}
use Rattle.pair_decide.specs.declared.query.Query.{Query}
use Rattle.cbf_unfold.specs.declared.unfold_places.signal_function.Unfolded.{Unfolded}
use Rattle.obligations.specs.declared.obligation.Obligation.{Obligation}
use Rattle.obligations.specs.Asked.{queries_of}
use Rattle.obligations.proofs.Listed.{query-at, take-next}
use Rattle.assume_queries.specs.assume_functions.assume_places.Gathered.{AreOwn}
use Rattle.assume_queries.specs.declared.map.Parts.{Parts}
use Rattle.assume_queries.specs.declared.assume_answers.order.VariableOrder.{VariableOrder}
use Rattle.assume_queries.specs.Parts.{function_at, literals_at}
use Rattle.assume_queries.specs.Made.{IsMadeOf}
use Rattle.assume_queries.specs.Parted.{HasParts, AreParts, ArePartsFrom, AreOwnFrom, IsQueryMade, IsObligationMade}
use Rattle.assume_queries.proofs.Cares.{conjunction_from, conjunction_later}

-- what is left of a sum
pub sum_left : (xs : List (List ℕ)) (i : ℕ) (x : List ℕ) → slice_get xs i ≡ Some x → sum_by length (drop i xs) ≡ length x + sum_by length (drop (suc i) xs)
sum_left [] i x at = absurd (none-some x at)
sum_left (y ∷ xs) zero x at = sum_by-cons length y xs ∙ ap (λ (z : List ℕ). length z + sum_by length xs) (same_Some y x at)
sum_left (y ∷ xs) (suc i) x at = sum_left xs i x at

-- the literals of some of the functions
pub literals_within : (size : ℕ) (functions : List Unfolded) (own : List ℕ) → All (λ (u : Unfolded). u.lit.0 < size) functions → All (λ n. n < length functions) own → All (λ (l : Lit). l.0 < size) (literals_at functions own)
literals_within size functions own small within = All-from_each (λ (l : Lit). l.0 < size) (literals_at functions own) each
  where
    each : (l : Lit) → Contains (literals_at functions own) l → l.0 < size
    each l h =
        let n = Contains-map_from (λ (j : ℕ). (function_at functions j).lit) own l h in
        let inside = All-contains (λ n. n < length functions) own n.0 within n.1 in
        let here = All-contains (λ (u : Unfolded). u.lit.0 < size) functions (get_or functions n.0 (record { lit = record { 0 = 0 }; vars = [] })) small (of_at functions n.0 (get_or functions n.0 (record { lit = record { 0 = 0 }; vars = [] })) (slice_get-get_or functions n.0 (record { lit = record { 0 = 0 }; vars = [] }) inside)) in
        subst (λ (m : Lit). m.0 < size) n.2 here

module _ (o : VariableOrder) (table : List (ℕ × ℕ)) (parts : Parts) where
  -- those of an obligation stand behind those of the ones before it
  pub parts_from : (asked : List Obligation) (i place : ℕ) (u : Obligation) → AreParts o table parts (queries_of asked) → slice_get asked i ≡ Some u → place ≡ length (queries_of (take i asked)) → ArePartsFrom o table parts place u.queries
  parts_from asked i place u zip at is = λ j q there.
      let here = ap (λ n. slice_get (queries_of asked) (n + j)) is ∙ query-at asked i j u q at there in
      zip_right (HasParts o table parts.functions.items) (queries_of asked) parts.own.items zip (place + j) q here

  pub own_from : (found : List (ℕ × ℕ)) (asked : List Obligation) (i place : ℕ) (u : Obligation) → AllZip (AreOwn table found) (queries_of asked) parts.own.items → slice_get asked i ≡ Some u → place ≡ length (queries_of (take i asked)) →
      AreOwnFrom table found parts place u.queries
  own_from found asked i place u zip at is = λ j q own there mine.
      let here = ap (λ n. slice_get (queries_of asked) (n + j)) is ∙ query-at asked i j u q at there in
      let z = zip_right (AreOwn table found) (queries_of asked) parts.own.items zip (place + j) q here in
      subst (AreOwn table found q) (same_Some z.0 own (sym z.1 ∙ mine)) z.2

  -- over the graph as it was before others were made
  pub made_from : (f g h : List Node) → IsGraph g → Grows f g → All (λ (u : Unfolded). u.lit.0 < 2 * length f) parts.functions.items → (q r : Query) (own : List ℕ) →
      IsMadeOf o table g parts.functions.items q own h r → IsMadeOf o table f parts.functions.items q own h r
  made_from f g h graph grows small q r own made = record {
    within = made.within;
    sides = made.sides;
    left_is = made.left_is;
    right_is = made.right_is;
    care = conjunction_from f g h graph grows (literals_at parts.functions.items own) (literals_within (2 * length f) parts.functions.items own small made.within) r.care.0 made.care;
    variables = made.variables;
  }

  made_later : (f g h : List Node) → IsGraph h → Grows g h → (q r : Query) (own : List ℕ) → IsMadeOf o table f parts.functions.items q own g r → IsMadeOf o table f parts.functions.items q own h r
  made_later f g h graph grows q r own made = record {
    within = made.within;
    sides = made.sides;
    left_is = made.left_is;
    right_is = made.right_is;
    care = conjunction_later f g h graph grows (literals_at parts.functions.items own) r.care.0 made.care;
    variables = made.variables;
  }

  module _ (found : List (ℕ × ℕ)) where
    pub queries_later : (f g h : List Node) → IsGraph h → Grows g h → (qs rs : List Query) → AllZip (IsQueryMade o table f found parts g) qs rs → AllZip (IsQueryMade o table f found parts h) qs rs
    queries_later f g h graph grows qs rs zip =
        zip_weaker (IsQueryMade o table f found parts g) (IsQueryMade o table f found parts h) (λ q r m. (m.0, m.1, made_later f g h graph grows q r m.0 m.2)) qs rs zip

    -- one query more
    pub queries_more : (f g h : List Node) → IsGraph g → IsGraph h → Grows f g → Grows g h → All (λ (u : Unfolded). u.lit.0 < 2 * length f) parts.functions.items → (qs rs more : List Query) (j : ℕ) (q r : Query) (own : List ℕ) →
        slice_get qs j ≡ Some q → AreOwn table found q own → IsMadeOf o table g parts.functions.items q own h r → more ≡ rs ++ r ∷ [] →
        AllZip (IsQueryMade o table f found parts g) (take j qs) rs → AllZip (IsQueryMade o table f found parts h) (take (j + 1) qs) more
    queries_more f g h old graph before grows small qs rs more j q r own at are made pushed zip =
        subst (AllZip (IsQueryMade o table f found parts h) (take (j + 1) qs)) (sym pushed)
        (subst (λ (l : List Query). AllZip (IsQueryMade o table f found parts h) l (rs ++ r ∷ [])) (sym (take-next qs j q at))
        (zip_push (IsQueryMade o table f found parts h) (take j qs) rs q r (queries_later f g h graph grows (take j qs) rs zip) (own, are, made_from f g h old before small q r own made)))

    pub obligation_later : (f g h : List Node) → IsGraph h → Grows g h → (u v : Obligation) → IsObligationMade o table f found parts g u v → IsObligationMade o table f found parts h u v
    obligation_later f g h graph grows u v made = record {
      name_is = made.name_is;
      size_is = made.size_is;
      decisive_is = made.decisive_is;
      queries = queries_later f g h graph grows u.queries v.queries made.queries;
    }

    pub obligation_from : (f g h : List Node) → IsGraph g → Grows f g → All (λ (u : Unfolded). u.lit.0 < 2 * length f) parts.functions.items → (u v : Obligation) →
        IsObligationMade o table g found parts h u v → IsObligationMade o table f found parts h u v
    obligation_from f g h graph grows small u v made = record {
      name_is = made.name_is;
      size_is = made.size_is;
      decisive_is = made.decisive_is;
      queries = zip_weaker (IsQueryMade o table g found parts h) (IsQueryMade o table f found parts h) (λ q r m. (m.0, m.1, made_from f g h graph grows small q r m.0 m.2)) u.queries v.queries made.queries;
    }

    -- one obligation more
    pub obligations_more : (f g h : List Node) → IsGraph g → IsGraph h → Grows f g → Grows g h → (asked made more : List Obligation) (i : ℕ) (u v : Obligation) → slice_get asked i ≡ Some u → IsObligationMade o table f found parts h u v → more ≡ made ++ v ∷ [] →
        AllZip (IsObligationMade o table f found parts g) (take i asked) made → AllZip (IsObligationMade o table f found parts h) (take (i + 1) asked) more
    obligations_more f g h old graph before grows asked made more i u v at is pushed zip =
        subst (AllZip (IsObligationMade o table f found parts h) (take (i + 1) asked)) (sym pushed)
        (subst (λ (l : List Obligation). AllZip (IsObligationMade o table f found parts h) l (made ++ v ∷ [])) (sym (take-next asked i u at))
        (zip_push (IsObligationMade o table f found parts h) (take i asked) made u v
        (zip_weaker (IsObligationMade o table f found parts g) (IsObligationMade o table f found parts h) (λ x y m. obligation_later f g h graph grows x y m) (take i asked) made zip) is))
