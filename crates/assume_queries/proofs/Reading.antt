-- What an assumption's functions read at a query's places, in order.
use Rattle.std.proofs.Common.{◌≡◌, ◌≢◌, ℕ, ◌<◌, List, [], ◌∷◌, ◌++◌, map, length, get_or, slice_get, Some, sym, ◌∙◌, ap, subst, arith, inl, inr}
use Rattle.std.specs.Prelude.{◌⊎◌}
use Rattle.std.specs.List.{All, AllPairs, Contains}
use Rattle.std.proofs.lemmas.List.Elements.{All-contains, All-head, All-tail, Contains-append_cases, Contains-append_left, Contains-append_right}
use Rattle.std.proofs.lemmas.List.Kept.{AllPairs-cons}
use Rattle.std.proofs.lemmas.Option.{slice_get_within, slice_get-get_or, get_or_from_slice_get}
use Rattle.circuit_theory.specs.Query.{Variable, ShiftBefore, HasLeaf}
use Rattle.circuit_theory.proofs.Lists.{Contains-cases, Contains-head, Contains-map, Contains-tail, All-from_each, at_of, of_at, only, zip_right}
use Rattle.circuit_theory.proofs.Sums.{AllPairs-head, AllPairs-tail}
use Rattle.flat_net.specs.View.{NetView, circuit_of}
use Rattle.aig.specs.declared.node.Node.{Node}
use Rattle.pair_decide.specs.declared.query.Query.{Query}
use Rattle.cbf_unfold.specs.declared.unfold_places.signal_function.Unfolded.{Unfolded}
use Rattle.cbf_unfold.specs.unfold_places.Growing.{IsNumberOf}
use Rattle.cbf_unfold.proofs.unfold_places.Lists.{pairs_at}
use Rattle.signal_graph.proofs.Lists.{AllPairs-from_at}
use Rattle.cbf_unfold.specs.shift_variables.Variables.{variable_of}
use Rattle.cbf_unfold.proofs.shift_variables.Reading.{pair_is}
use Rattle.cbf_unfold.specs.shift_variables.query_places.Places.{place_of, ComesFirst}
use Rattle.assume_laws.proofs.Meeting.{leaf_at}
use Rattle.assume_queries.specs.assume_functions.Functions.{IsAssumedAt}
use Rattle.assume_queries.specs.assume_functions.assume_places.Gathered.{place_at}
use Rattle.assume_queries.specs.assume_functions.assume_places.Placed.{ArePut}
use Rattle.assume_queries.specs.declared.assume_answers.order.VariableOrder.{VariableOrder}
use Rattle.assume_queries.specs.declared.assume_answers.order.VariableOrder.TheVariants as order
use Rattle.assume_queries.specs.assume_answers.Order.{GoesFirst, AreOrdered}
use Rattle.assume_queries.specs.Parts.{function_at, variables_at}

-- a variable of some of the functions is one of one of them
pub variables_from : (functions : List Unfolded) (own : List ℕ) (v : ℕ) → Contains (variables_at functions own) v → (n : ℕ) × Contains own n × Contains (function_at functions n).vars v
variables_from functions [] v h = absurd (omega (arith, h.1))
variables_from functions (n ∷ own) v h = go (Contains-append_cases (function_at functions n).vars (variables_at functions own) v h) (λ k. variables_from functions own v k)
  where
    Found : List ℕ → Type 0
    Found ns = (m : ℕ) × Contains ns m × Contains (function_at functions m).vars v

    go : Contains (function_at functions n).vars v ⊎ Contains (variables_at functions own) v → (Contains (variables_at functions own) v → Found own) → Found (n ∷ own)
    go (inl k) rest = (n, Contains-head n own, k)
    go (inr k) rest = let m = rest k in (m.0, Contains-tail n m.0 own m.1, m.2)

pub variables_to : (functions : List Unfolded) (own : List ℕ) (n v : ℕ) → Contains own n → Contains (function_at functions n).vars v → Contains (variables_at functions own) v
variables_to functions [] n v h k = absurd (omega (arith, h.1))
variables_to functions (m ∷ own) n v h k = go (Contains-cases m n own h) (λ l. variables_to functions own n v l k)
  where
    go : (m ≡ n) ⊎ Contains own n → (Contains own n → Contains (variables_at functions own) v) → Contains (variables_at functions (m ∷ own)) v
    go (inl e) rest = Contains-append_left (function_at functions m).vars (variables_at functions own) v (subst (λ i. Contains (function_at functions i).vars v) (sym e) k)
    go (inr l) rest = Contains-append_right (function_at functions m).vars (variables_at functions own) v (rest l)

pairs_append : {X : Type 0} (R : X → X → Type 0) (xs ys : List X) → AllPairs R xs → AllPairs R ys → ((x y : X) → Contains xs x → Contains ys y → R x y) → AllPairs R (xs ++ ys)
pairs_append R [] ys h k cross = k
pairs_append {X} R (x ∷ xs) ys h k cross =
    AllPairs-cons R x (xs ++ ys)
    (All-from_each (R x) (xs ++ ys) (λ y m. by y (Contains-append_cases xs ys y m)))
    (pairs_append R xs ys (AllPairs-tail R x xs h) k (λ y z m l. cross y z (Contains-tail x y xs m) l))
  where
    by : (y : X) → Contains xs y ⊎ Contains ys y → R x y
    by y (inl m) = AllPairs-head R x xs h y m
    by y (inr m) = cross x y (Contains-head x xs) m

-- what stands at one place goes by the numbers
at_one_place : (o : VariableOrder) (x y : Variable ℕ) → ShiftBefore x y → x.at ≡ y.at → GoesFirst o x y
at_one_place order.Shifts x y h same = h
at_one_place order.Cycles x y (inl below) same = absurd (omega (arith, below, same))
at_one_place order.Cycles x y (inr h) same = inr (same, h.1)

-- and what stands at two by the places
at_two_places : (o : VariableOrder) (x y u v : Variable ℕ) → GoesFirst o x y → (x.at ≡ y.at → ⊥) → u.at ≡ x.at → v.at ≡ y.at → GoesFirst o u v
at_two_places order.Shifts x y u v (inl below) apart e f = inl (omega (arith, below, e, f))
at_two_places order.Shifts x y u v (inr h) apart e f = absurd (apart h.0)
at_two_places order.Cycles x y u v (inl below) apart e f = inl (omega (arith, below, e, f))
at_two_places order.Cycles x y u v (inr h) apart e f = absurd (apart h.0)

module _ (n : NetView) (inputs : List ℕ) (s : ℕ) (g : List Node) (table found : List (ℕ × ℕ)) (functions : List Unfolded) (put : ArePut n inputs s g table found functions) where
  pub put_at : (i : ℕ) → i < length found → IsAssumedAt n inputs s (place_at found i) g table (function_at functions i)
  put_at i h =
      let z = zip_right (λ (p : ℕ × ℕ) (u : Unfolded). IsAssumedAt n inputs s p.0 g table u) found functions put i (get_or found i (0, 0)) (slice_get-get_or found i (0, 0) h) in
      subst (IsAssumedAt n inputs s (place_at found i) g table) (sym (get_or_from_slice_get functions i z.0 (record { lit = record { 0 = 0 }; vars = [] }) z.1)) z.2

  -- each variable of a function is one of the tree's leaves, and stands at the place
  pub variable_is : (i : ℕ) (h : i < length found) (j v : ℕ) → slice_get (function_at functions i).vars j ≡ Some v →
      (x : Variable ℕ) × (slice_get (put_at i h).variables j ≡ Some x) × (v < length table) × (variable_of table v ≡ x) × HasLeaf x (put_at i h).tree × (x.at ≡ place_at found i)
  variable_is i h j v there =
      let at = put_at i h in
      let z = zip_right (IsNumberOf table) (function_at functions i).vars at.variables at.numbered j v there in
      let x = z.0 in
      let leaf = (at.are_variables.exactly x).0 (of_at at.variables j x z.1) in
      let own : HasLeaf x at.tree = subst (HasLeaf x) (sym (only at.tree leaf.0 leaf.1)) leaf.2 in
      (x, z.1, slice_get_within table v (x.input, x.at) z.2, pair_is table v (x.input, x.at) z.2, own, leaf_at (circuit_of n) inputs (place_at found i) x at.unfolds own)

  module _ (o : VariableOrder) where
    abbrev Before : ℕ → ℕ → Type 0
    Before u v = GoesFirst o (variable_of table u) (variable_of table v)

    one_in_order : (i : ℕ) → i < length found → AllPairs Before (function_at functions i).vars
    one_in_order i h = AllPairs-from_at Before (function_at functions i).vars pair
      where
        pair : (j k u v : ℕ) → j < k → slice_get (function_at functions i).vars j ≡ Some u → slice_get (function_at functions i).vars k ≡ Some v → Before u v
        pair j k u v below at_j at_k =
            let x = variable_is i h j u at_j in
            let y = variable_is i h k v at_k in
            let before : ShiftBefore x.0 y.0 = pairs_at ShiftBefore (put_at i h).variables j k x.0 y.0 (put_at i h).are_variables.in_order below x.1 y.1 in
            let first : GoesFirst o x.0 y.0 = at_one_place o x.0 y.0 before (x.5 ∙ sym y.5) in
            subst (λ (w : Variable ℕ). GoesFirst o w (variable_of table v)) (sym x.3) (subst (λ (w : Variable ℕ). GoesFirst o x.0 w) (sym y.3) first)

    pub place_is : (i v : ℕ) → i < length found → Contains (function_at functions i).vars v → (v < length table) × (place_of table v ≡ place_at found i)
    place_is i v h k =
        let j = at_of (function_at functions i).vars v k in
        let x = variable_is i h j.0 v j.1 in
        (x.2, ap (λ (w : Variable ℕ). w.at) x.3 ∙ x.5)

    module _ (q : Query) (sides : AreOrdered o table q.vars) where
      pub read_in_order : (own : List ℕ) → All (λ m. m < length found) own → AllPairs (λ j k. j ≢ k) (map (place_at found) own) → AllPairs (ComesFirst table q.vars) (map (place_at found) own) → AllPairs Before (variables_at functions own)
      read_in_order [] within apart turn = λ i j d l m. absurd (omega arith)
      read_in_order (i ∷ own) within apart turn =
          let inside : i < length found = All-head (λ m. m < length found) i own within in
          let others = All-tail (λ m. m < length found) i own within in
          pairs_append Before (function_at functions i).vars (variables_at functions own) (one_in_order i inside)
          (read_in_order own others (AllPairs-tail (λ j k. j ≢ k) (place_at found i) (map (place_at found) own) apart) (AllPairs-tail (ComesFirst table q.vars) (place_at found i) (map (place_at found) own) turn))
          (λ u v hu hv. cross inside others u v hu hv)
        where
          cross : i < length found → All (λ m. m < length found) own → (u v : ℕ) → Contains (function_at functions i).vars u → Contains (variables_at functions own) v → Before u v
          cross inside others u v hu hv =
              let m = variables_from functions own v hv in
              let pu = place_is i u inside hu in
              let pv = place_is m.0 v (All-contains (λ m. m < length found) own m.0 others m.1) m.2 in
              let there = Contains-map (place_at found) own m.0 m.1 in
              let first = AllPairs-head (ComesFirst table q.vars) (place_at found i) (map (place_at found) own) turn (place_at found m.0) there in
              let differ = AllPairs-head (λ j k. j ≢ k) (place_at found i) (map (place_at found) own) apart (place_at found m.0) there in
              let before = pairs_at Before q.vars first.early first.late first.first first.second sides.ordered first.before first.first_at first.second_at in
              at_two_places o (variable_of table first.first) (variable_of table first.second) (variable_of table u) (variable_of table v) before
              (λ e. differ (sym first.first_place ∙ (e ∙ first.second_place))) (pu.1 ∙ sym first.first_place) (pv.1 ∙ sym first.second_place)

      pub read_ordered : (own : List ℕ) → All (λ m. m < length found) own → AllPairs (λ j k. j ≢ k) (map (place_at found) own) → AllPairs (ComesFirst table q.vars) (map (place_at found) own) → AreOrdered o table (variables_at functions own)
      read_ordered own within apart turn = record {
        within = All-from_each (λ v. v < length table) (variables_at functions own) (λ v h. let m = variables_from functions own v h in (place_is m.0 v (All-contains (λ m. m < length found) own m.0 within m.1) m.2).0);
        ordered = read_in_order own within apart turn;
      }
