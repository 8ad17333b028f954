-- One variable of a query more.
use Rattle.std.proofs.Common.{◌≡◌, ◌∙◌, ℕ, ◌+◌, ◌<◌, List, [], ◌∷◌, ◌++◌, length, take, slice_get, Some, sym, ap, subst, arith, ◌≤◌, length-append}
use Rattle.std.specs.List.{All}
use Rattle.std.proofs.lemmas.List.{map-append}
use Rattle.std.proofs.lemmas.List.Elements.{All-push, All-weaker}
use Rattle.std.proofs.lemmas.Option.{get_or_from_slice_get, slice_get_within}
use Rattle.circuit_theory.specs.Query.{Variable}
use Rattle.circuit_theory.proofs.Numbers.{slice_get-map}
use Rattle.base_tables.proofs.TableLemmas.{take-push}
use Rattle.event_nodes.specs.Nodes.{EventGraphView, IsEventGraph, GrowsEvents, path_of}
use Rattle.event_nodes.specs.event_variables.Variables.{variable_of, variables_of}
use Rattle.event_nodes.proofs.event_variables.NodePaths.{variable_is}
use Rattle.event_form.proofs.event_agreement.event_pairs.Growing.{variables_stay}
use Rattle.event_under.specs.Asked.{variable_in, variables_in}
use Rattle.event_nodes.specs.event_variables.ranked_nodes.Named.{named_ranks, path_at, path_by}

more_places : (w x : EventGraphView) → GrowsEvents w x → length w.places ≤ length x.places
more_places w x grows = let e = ap length grows.places.1 in let f = length-append w.places grows.places.0 in omega (arith, e, f)

-- the variables that are made so far
pub record AreMade (children : List (ℕ × ℕ)) (nodes : List ℕ) (table : List (ℕ × ℕ)) (vars : List ℕ) (w : EventGraphView) (numbers : List ℕ) : Type 0 where
  pub children_are : w.children ≡ children
  pub within : All (λ v. v < length w.places) numbers
  pub variables : variables_of w numbers ≡ variables_in (named_ranks children nodes table) vars

module _ (children : List (ℕ × ℕ)) (nodes : List ℕ) (table : List (ℕ × ℕ)) where
  -- the variable with a number of the table
  named_is : (v : ℕ) (p : ℕ × ℕ) (n : ℕ) → slice_get table v ≡ Some p → slice_get nodes p.1 ≡ Some n → variable_in (named_ranks children nodes table) v ≡ record { input = p.0; at = path_of children n }
  named_is v p n at node =
      let f : ℕ × ℕ → ℕ × List ℕ = λ q. (q.0, path_at children nodes q.1) in
      let e = get_or_from_slice_get (named_ranks children nodes table) v (f p) (0, []) (slice_get-map f table v p at) in
      let path : path_at children nodes p.1 ≡ path_of children n = ap (path_by children p.1) node in
      (λ i. record { input = (e i).0; at = (e i).1 }) ∙ (λ i. record { input = p.0; at = path i })

  pub next_made : (vars : List ℕ) (i v : ℕ) (p : ℕ × ℕ) (n number : ℕ) (w x : EventGraphView) (numbers new : List ℕ) → IsEventGraph w → IsEventGraph x → GrowsEvents w x → x.children ≡ w.children → slice_get vars i ≡ Some v → slice_get table v ≡ Some p →
      slice_get nodes p.1 ≡ Some n → slice_get x.places number ≡ Some (p.0, n) → new ≡ numbers ++ number ∷ [] → AreMade children nodes table (take i vars) w numbers → AreMade children nodes table (take (i + 1) vars) x new
  next_made vars i v p n number w x numbers new is then grows same at_i at node here pushed k =
      let more = more_places w x grows in
      let children_are : x.children ≡ children = same ∙ k.children_are in
      let number_is : variable_of x number ≡ variable_in (named_ranks children nodes table) v =
      variable_is x then number (p.0, n) here ∙ ((λ j. record { input = p.0; at = path_of (children_are j) n }) ∙ sym (named_is v p n at node)) in
      let within : All (λ (u : ℕ). u < length x.places) (numbers ++ number ∷ []) =
      All-push (λ (u : ℕ). u < length x.places) numbers number (All-weaker (λ (u : ℕ). u < length w.places) (λ (u : ℕ). u < length x.places) (λ u low. omega (arith, low, more)) numbers k.within) (slice_get_within x.places number (p.0, n) here) in
      let read = variable_in (named_ranks children nodes table) in
      let variables : variables_of x (numbers ++ number ∷ []) ≡ variables_in (named_ranks children nodes table) (take i vars ++ v ∷ []) =
      map-append (variable_of x) numbers (number ∷ []) ∙ (ap (λ (l : List (Variable (List ℕ))). l ++ variable_of x number ∷ []) (variables_stay w x is then grows numbers k.within ∙ k.variables)
      ∙ (ap (λ (y : Variable (List ℕ)). variables_in (named_ranks children nodes table) (take i vars) ++ y ∷ []) number_is ∙ sym (map-append read (take i vars) (v ∷ [])))) in
      record {
        children_are = children_are;
        within = subst (All (λ (u : ℕ). u < length x.places)) (sym pushed) within;
        variables = ap (variables_of x) pushed ∙ (variables ∙ ap (variables_in (named_ranks children nodes table)) (take-push vars i v at_i));
      }
