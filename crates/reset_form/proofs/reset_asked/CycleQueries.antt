-- The query of two functions in a cycle on one graph and table. What its answers say of their trees is said of both orders of variables.
use Rattle.std.proofs.Common.{◌≢◌, ℕ, List}
use Rattle.std.specs.List.{AllPairs}
use Rattle.circuit_laws.specs.reset_laws.Reset.{CycleBefore}
use Rattle.flat_net.specs.View.{NetView}
use Rattle.aig.specs.declared.node.Node.{Node}
use Rattle.cbf_unfold.specs.declared.unfold_places.signal_function.Unfolded.{Unfolded}
use Rattle.cbf_unfold.specs.shift_variables.cycle_variables.Cycles.{GoesFirst, AreInCycles}
use Rattle.cbf_unfold.proofs.shift_variables.cycle_variables.CycleOrder.{cycle_apart}
use Rattle.cbf_unfold.proofs.shift_variables.TwoFunctions.{AsksTwo, asks_query, function_in_order, pairs_apart}
pub use Rattle.cbf_unfold.proofs.shift_variables.TwoFunctions.{merge_in_order, variables_are, left_tree, right_tree, query_in_order, are_variables, each_variable, left_value, right_value, care_holds, takes_bits, left_at_bits, right_at_bits, trees_differ, variables_long, least_is}
use Rattle.pair_decide.specs.declared.query.Query.{Query}
use Rattle.pair_decide.specs.Queries.{IsQuery}
use Rattle.reset_form.specs.reset_unfold.Unfolded.{IsResetUnfolded}
use Rattle.reset_form.proofs.reset_unfold.CoveredCones.{reset_function}

-- the variables of a function are in order
pub in_order : (n : NetView) (order : List ℕ) (base : ℕ) (g : List Node) (places : List (ℕ × ℕ)) (s cycle : ℕ) (u : Unfolded) → IsResetUnfolded n order base g places s cycle u.lit.0 u.vars → AreInCycles places u.vars
in_order n order base g places s cycle u f = function_in_order (reset_function f)

pub numbers_apart : (places : List (ℕ × ℕ)) (vars : List ℕ) → AllPairs (GoesFirst places) vars → AllPairs (λ u v. u ≢ v) vars
numbers_apart = pairs_apart CycleBefore cycle_apart

-- a query of two functions in a cycle on one graph and table
abbrev pub AsksCycle : (a b : NetView) (left right : List ℕ) (left_base right_base : ℕ) (g : List Node) (places : List (ℕ × ℕ)) (s t cycle : ℕ) (l r : Unfolded) → Query → Type 0
AsksCycle a b left right left_base right_base g places s t cycle l r q =
    AsksTwo CycleBefore g places l r q (λ (f : IsResetUnfolded a left left_base g places s cycle l.lit.0 l.vars). reset_function f) (λ (f : IsResetUnfolded b right right_base g places t cycle r.lit.0 r.vars). reset_function f)

pub is_query : {a b : NetView} {left right : List ℕ} {left_base right_base : ℕ} {g : List Node} {places : List (ℕ × ℕ)} {s t cycle : ℕ} {l r : Unfolded} {q : Query} → AsksCycle a b left right left_base right_base g places s t cycle l r q → IsQuery g q
is_query x = asks_query x cycle_apart
