-- What is made is under the assumption, and the sums stay small.
use Rattle.std.proofs.Common.{◌≡◌, ℕ, ◌*◌, ◌<◌, ◌≤◌, List, [], ◌∷◌, map, length, get_or, sym, ◌∙◌, ap, subst, arith}
use Rattle.std.specs.List.{All, AllZip, Contains}
use Rattle.std.proofs.lemmas.List.Elements.{All-contains, All-head, All-tail}
use Rattle.std.proofs.lemmas.Option.{slice_get-get_or, get_or_from_slice_get}
use Rattle.circuit_theory.proofs.Lists.{All-from_each, Contains-head, Contains-tail, at_of, of_at, zip_length, zip_weaker}
use Rattle.circuit_theory.specs.Query.{Variable}
use Rattle.circuit_laws.proofs.Weights.{one_weight}
use Rattle.flat_net.specs.View.{NetView, circuit_of}
use Rattle.aig.specs.declared.node.Node.{Node}
use Rattle.pair_decide.specs.declared.query.Query.{Query}
use Rattle.cbf_unfold.specs.unfold_places.Reach.{Adds}
use Rattle.cbf_unfold.specs.declared.unfold_places.signal_function.Unfolded.{Unfolded}
use Rattle.cbf_unfold.proofs.unfold_places.Lists.{adds_at, adds_length}
use Rattle.cbf_unfold.proofs.unfold_places.Zips.{zip_left}
use Rattle.cbf_unfold.specs.shift_variables.Variables.{variable_of}
use Rattle.cbf_unfold.specs.shift_variables.query_places.Places.{place_of, AreGrouped, ComesFirst}
use Rattle.cbf_unfold.proofs.shift_variables.query_places.Grouped.{variables_are_grouped}
use Rattle.obligations.specs.declared.obligation.Obligation.{Obligation}
use Rattle.assume_laws.specs.Assume.{IsAssumption}
use Rattle.assume_laws.specs.assume_shape.Shape.{assumption_of}
use Rattle.assume_queries.specs.declared.assume_functions.own.OwnFunction.{OwnFunction}
use Rattle.assume_queries.specs.assume_functions.Functions.{IsAssumedAt}
use Rattle.assume_queries.specs.assume_functions.assume_places.Gathered.{HasPlaces, AreOwn, place_at}
use Rattle.assume_queries.specs.assume_functions.assume_places.Placed.{ArePut, CanBePut}
use Rattle.assume_queries.specs.declared.map.Parts.{Parts}
use Rattle.assume_queries.specs.declared.assume_answers.order.VariableOrder.{VariableOrder}
use Rattle.assume_queries.specs.declared.assume_answers.order.VariableOrder.TheVariants as order
use Rattle.assume_queries.specs.assume_answers.Order.{GoesFirst, AreOrdered}
use Rattle.assume_queries.specs.Made.{IsMadeOf}
use Rattle.assume_queries.specs.Parted.{HasParts, IsQueryMade, IsObligationMade, Weighs}
use Rattle.assume_queries.specs.assume_answers.Under.{IsUnder, IsObligationUnder}
use Rattle.assume_queries.proofs.Reading.{read_ordered}
use Rattle.assume_queries.proofs.Meaning.{is_under}

-- variables in order stand side by side where they have one place
pub has_places : (o : VariableOrder) (table : List (ℕ × ℕ)) (q : Query) → AreOrdered o table q.vars → HasPlaces table q
has_places o table q are = record { within = are.within; grouped = grouped o are }
  where
    grouped : (o : VariableOrder) → AreOrdered o table q.vars → AreGrouped table q.vars
    grouped order.Shifts h = (variables_are_grouped table q.vars).0 (record { within = h.within; ordered = h.ordered })
    grouped order.Cycles h = (variables_are_grouped table q.vars).1 h.ordered

pub all_have_places : (o : VariableOrder) (table : List (ℕ × ℕ)) (qs : List Query) → All (λ (q : Query). AreOrdered o table q.vars) qs → All (HasPlaces table) qs
all_have_places o table qs all = All-from_each (HasPlaces table) qs (λ q h. has_places o table q (All-contains (λ (q : Query). AreOrdered o table q.vars) qs q all h))

-- the weight is that of the function
pub weight_is : (own : OwnFunction) (weight : ℕ) (w : Weighs own weight) → w.function.weighed.weight ≡ weight
weight_is own weight w = one_weight (circuit_of w.net) w.assumption.net.single (w.output ∷ []) w.function.weighed.weight weight w.function.weighed.weighs w.weighs

pub weight_light : (own : OwnFunction) (weight : ℕ) → Weighs own weight → weight ≤ 2000000
weight_light own weight w = omega (arith, weight_is own weight w, w.function.weighed.light)

pub can_be_put : (own : OwnFunction) (weight count : ℕ) → Weighs own weight → weight * count ≤ 2000000 → CanBePut own count
can_be_put own weight count w light = record {
  net = w.net;
  order = w.inputs;
  output = w.output;
  function = w.function;
  light = subst (λ k. k * count ≤ 2000000) (sym (weight_is own weight w)) light;
}

module _ (table more : List (ℕ × ℕ)) (adds : Adds (λ p. Unit {0}) table more) where
  entry_later : (v : ℕ) → v < length table → get_or more v (0, 0) ≡ get_or table v (0, 0)
  entry_later v h = get_or_from_slice_get more v (get_or table v (0, 0)) (0, 0) (adds_at (λ p. Unit {0}) table more v (get_or table v (0, 0)) adds (slice_get-get_or table v (0, 0) h))

  place_later : (v : ℕ) → v < length table → place_of more v ≡ place_of table v
  place_later v h = ap (λ (p : ℕ × ℕ). p.1) (entry_later v h)

  variable_later : (v : ℕ) → v < length table → variable_of table v ≡ variable_of more v
  variable_later v h = let e = sym (entry_later v h) in λ i. record { input = (e i).0; at = (e i).1 }

  -- variables that are in order stay so while the table grows
  pub ordered_later : (o : VariableOrder) (vars : List ℕ) → AreOrdered o table vars → AreOrdered o more vars
  ordered_later o vars are = record {
    within = λ i d h. let l = are.within i d h in let long = adds_length (λ p. Unit {0}) table more adds in omega (arith, l, long);
    ordered = λ i j d below inside.
        subst (λ (y : Variable ℕ). GoesFirst o (variable_of more (get_or vars i d)) y) (variable_later (get_or vars j d) (are.within j d inside))
        (subst (λ (x : Variable ℕ). GoesFirst o x (variable_of table (get_or vars j d))) (variable_later (get_or vars i d) (are.within i d (omega (arith, below, inside)))) (are.ordered i j d below inside));
  }

  -- and their places stay
  pub own_in_more : (found : List (ℕ × ℕ)) (q : Query) (own : List ℕ) → All (λ v. v < length table) q.vars → AreOwn table found q own → AreOwn more found q own
  own_in_more found q own within are = record {
    within = are.within;
    places = record {
      distinct = are.places.distinct;
      from = λ k h. let v = are.places.from k h in (v.0, v.1, place_later v.0 (inside v.0 v.1) ∙ v.2);
      all = λ v h. subst (Contains (map (place_at found) own)) (sym (place_later v (inside v h))) (are.places.all v h);
    };
    turn = λ i j d below far. later (are.turn i j d below far);
  }
    where
      inside : (v : ℕ) → Contains q.vars v → v < length table
      inside v h = All-contains (λ v. v < length table) q.vars v within h

      later : {j k : ℕ} → ComesFirst table q.vars j k → ComesFirst more q.vars j k
      later first = record {
        early = first.early;
        late = first.late;
        first = first.first;
        second = first.second;
        before = first.before;
        first_at = first.first_at;
        second_at = first.second_at;
        first_place = place_later first.first (inside first.first (of_at q.vars first.early first.first first.first_at)) ∙ first.first_place;
        second_place = place_later first.second (inside first.second (of_at q.vars first.late first.second first.second_at)) ∙ first.second_place;
      }

  -- with an order for each query
  pub all_own : (o : VariableOrder) (found : List (ℕ × ℕ)) (qs : List Query) (own : List (List ℕ)) → All (λ (q : Query). AreOrdered o table q.vars) qs → AllZip (AreOwn table found) qs own → AllZip (AreOwn more found) qs own
  all_own o found [] [] all zip = tt
  all_own o found [] (x ∷ own) all zip = absurd zip
  all_own o found (q ∷ qs) [] all zip = absurd zip
  all_own o found (q ∷ qs) (x ∷ own) all zip =
      (own_in_more found q x (All-head (λ (q : Query). AreOrdered o table q.vars) q qs all).within zip.0, all_own o found qs own (All-tail (λ (q : Query). AreOrdered o table q.vars) q qs all) zip.1)

module _ (n : NetView) (inputs : List ℕ) (s : ℕ) (g : List Node) (table found : List (ℕ × ℕ)) (functions : List Unfolded) (put : ArePut n inputs s g table found functions) where
  -- the functions stand in the graph
  pub put_within : All (λ (u : Unfolded). u.lit.0 < 2 * length g) functions
  put_within = All-from_each (λ (u : Unfolded). u.lit.0 < 2 * length g) functions (λ u h. let i = at_of functions u h in (zip_left (λ (p : ℕ × ℕ) (u : Unfolded). IsAssumedAt n inputs s p.0 g table u) found functions put i.0 u i.1).2.within)

  pub has_parts : (o : VariableOrder) (q : Query) (own : List ℕ) → AreOrdered o table q.vars → AreOwn table found q own → HasParts o table functions q own
  has_parts o q own sides are = record {
    within = let same = zip_length (λ (p : ℕ × ℕ) (u : Unfolded). IsAssumedAt n inputs s p.0 g table u) found functions put in subst (λ k. All (λ m. m < k) own) same are.within;
    sides = sides;
    read = read_ordered n inputs s g table found functions put o q sides own are.within are.places.distinct are.turn;
  }

  pub all_parts : (o : VariableOrder) (qs : List Query) (own : List (List ℕ)) → ((q : Query) → Contains qs q → AreOrdered o table q.vars) → AllZip (AreOwn table found) qs own → AllZip (HasParts o table functions) qs own
  all_parts o [] [] sides zip = tt
  all_parts o [] (x ∷ own) sides zip = absurd zip
  all_parts o (q ∷ qs) [] sides zip = absurd zip
  all_parts o (q ∷ qs) (x ∷ own) sides zip = (has_parts o q x (sides q (Contains-head q qs)) zip.0, all_parts o qs own (λ r h. sides r (Contains-tail q r qs h)) zip.1)

  module _ (size : ℕ) (is : IsAssumption (assumption_of n inputs s) size) (o : VariableOrder) (h : List Node) where
    -- what is made with them is under the assumption
    pub obligation_under : (parts : Parts) → parts.functions.items ≡ functions → (u v : Obligation) → IsObligationMade o table g found parts h u v → IsObligationUnder o (assumption_of n inputs s) h table u v
    obligation_under parts same u v made = record {
      name_is = made.name_is;
      size_is = made.size_is;
      decisive_is = made.decisive_is;
      queries = zip_weaker (IsQueryMade o table g found parts h) (IsUnder o (assumption_of n inputs s) h table)
          (λ q r m. is_under n inputs s size is g h table found functions put o q r m.0 m.1 (subst (λ (us : List Unfolded). IsMadeOf o table g us q m.0 h r) same m.2)) u.queries v.queries made.queries;
    }
