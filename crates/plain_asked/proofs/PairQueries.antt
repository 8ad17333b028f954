-- The query of two functions on one graph and table. What its answers say of their trees is said of both orders of variables.
use Rattle.std.proofs.Common.{◌≢◌, ℕ, List}
use Rattle.std.specs.List.{AllPairs}
use Rattle.circuit_theory.specs.Query.{ShiftBefore}
use Rattle.flat_net.specs.View.{NetView}
use Rattle.aig.specs.declared.node.Node.{Node}
use Rattle.cbf_unfold.specs.declared.unfold_places.signal_function.Unfolded.{Unfolded}
use Rattle.cbf_unfold.proofs.Cone.{unfolded_function}
use Rattle.cbf_unfold.proofs.shift_variables.ShiftOrder.{shift_apart}
use Rattle.cbf_unfold.proofs.shift_variables.TwoFunctions.{AsksTwo, asks_query, function_in_order, pairs_apart}
pub use Rattle.cbf_unfold.proofs.shift_variables.TwoFunctions.{merge_in_order, variables_are, left_tree, right_tree, query_in_order, are_variables, each_variable, left_value, right_value, care_holds, takes_bits, left_at_bits, right_at_bits, trees_differ, variables_long, least_is}
use Rattle.pair_decide.specs.declared.query.Query.{Query}
use Rattle.pair_decide.specs.Queries.{IsQuery}
use Rattle.plain_asked.specs.Pairs.{IsFunctionOf}
use Rattle.plain_asked.specs.Variables.{GoesBefore, AreInOrder}

-- the variables of a function are in order
pub in_order : (n : NetView) (order : List ℕ) (g : List Node) (places : List (ℕ × ℕ)) (s : ℕ) (u : Unfolded) → IsFunctionOf n order g places s u → AreInOrder places u.vars
in_order n order g places s u f = function_in_order (unfolded_function f)

pub numbers_apart : (places : List (ℕ × ℕ)) (vars : List ℕ) → AllPairs (GoesBefore places) vars → AllPairs (λ u v. u ≢ v) vars
numbers_apart = pairs_apart ShiftBefore shift_apart

-- a query of two functions on one graph and table
abbrev pub AsksPair : (a b : NetView) (left right : List ℕ) (g : List Node) (places : List (ℕ × ℕ)) (s t : ℕ) (l r : Unfolded) → Query → Type 0
AsksPair a b left right g places s t l r q = AsksTwo ShiftBefore g places l r q (λ (f : IsFunctionOf a left g places s l). unfolded_function f) (λ (f : IsFunctionOf b right g places t r). unfolded_function f)

pub is_query : {a b : NetView} {left right : List ℕ} {g : List Node} {places : List (ℕ × ℕ)} {s t : ℕ} {l r : Unfolded} {q : Query} → AsksPair a b left right g places s t l r q → IsQuery g q
is_query x = asks_query x shift_apart
