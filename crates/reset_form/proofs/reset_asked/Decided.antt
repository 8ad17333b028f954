-- What the answer to the query of a cycle says of the pair's functions there.
use Rattle.std.proofs.Common.{ℕ, ◌<◌, List, length, sym, ap, subst}
use Rattle.std.proofs.lemmas.List.Elements.{All-contains}
use Rattle.std.proofs.lemmas.Option.{slice_get-get_or}
use Rattle.circuit_theory.specs.Tree.{Tree}
use Rattle.flat_net.specs.View.{NetView, circuit_of}
use Rattle.circuit_laws.specs.reset_laws.Reset.{reset_pair}
use Rattle.aig.specs.declared.node.Lit.{Lit}
use Rattle.aig.specs.declared.node.Node.{Node}
use Rattle.aig.specs.Builds.{Builds}
use Rattle.aig.proofs.Growth.{Builds-one}
use Rattle.cbf_unfold.specs.declared.unfold_places.signal_function.Unfolded.{Unfolded}
use Rattle.pair_decide.specs.declared.query.Query.{Query}
use Rattle.cbf_unfold.specs.shift_variables.Sequences.{bits_at}
use Rattle.cbf_unfold.specs.shift_variables.Variables.{variable_of}
use Rattle.obligations.proofs.Fits as asking
use Rattle.reset_form.proofs.reset_asked.CycleQueries.{AsksCycle, left_tree, right_tree, query_in_order, are_variables, left_value, right_value, care_holds, takes_bits}

module _ {a b : NetView} {left right : List ℕ} {left_base right_base : ℕ} {g : List Node} {places : List (ℕ × ℕ)} {s t cycle : ℕ} {l r : Unfolded} {q : Query} (x : AsksCycle a b left right left_base right_base g places s t cycle l r q) where
  left_builds : Builds g places (left_tree x) q.left.0
  left_builds = subst (Builds g places (left_tree x)) (sym (ap (λ (y : Lit). y.0) x.asks.left_is)) x.left_is.builds

  right_builds : Builds g places (right_tree x) q.right.0
  right_builds = subst (Builds g places (right_tree x)) (sym (ap (λ (y : Lit). y.0) x.asks.right_is)) x.right_is.builds

  -- the query asks about the pair
  pub asks_pair : asking.AsksPair (reset_pair (circuit_of a) (circuit_of b) left right left_base right_base s t cycle) g places (variable_of places) (bits_at places q.vars) q
  asks_pair = record {
    left_tree = left_tree x;
    right_tree = right_tree x;
    left_unfolds = x.left_is.unfolds;
    right_unfolds = x.right_is.unfolds;
    are_variables = are_variables x;
    distinct = x.distinct;
    named = λ v here. slice_get-get_or places v (0, 0) (All-contains (λ u. u < length places) q.vars v (query_in_order x).within here);
    one_literal = λ e. Builds-one g x.graph places x.distinct (left_tree x) q.left.0 q.right.0 left_builds (subst (λ (t : Tree ℕ). Builds g places t q.right.0) (sym e) right_builds);
    left_value = left_value x;
    right_value = right_value x;
    care_value = λ bits y takes. ((λ e. tt), (λ u. care_holds x y));
    takes = takes_bits x;
  }
