-- What the answers to the query of a pair in a cycle say under an assumption.
use Rattle.std.proofs.Common.{ℕ, List, sym, ap, subst}
use Rattle.flat_net.specs.View.{NetView, circuit_of}
use Rattle.circuit_laws.specs.reset_laws.Reset.{reset_pair}
use Rattle.aig.specs.declared.node.Lit.{Lit}
use Rattle.aig.specs.declared.node.Node.{Node}
use Rattle.aig.specs.Builds.{Builds}
use Rattle.pair_decide.specs.declared.query.Query.{Query}
use Rattle.obligations.proofs.Fits as asking
use Rattle.cbf_unfold.specs.shift_variables.Variables.{variable_of}
use Rattle.cbf_unfold.specs.shift_variables.Sequences.{bits_at}
use Rattle.assume_laws.specs.Assume as assume
use Rattle.assume_laws.specs.Assume.{Assumption}
use Rattle.assume_queries.specs.declared.assume_answers.order.VariableOrder.TheVariants as order
use Rattle.assume_queries.specs.assume_answers.Under.{IsUnder}
use Rattle.assume_queries.specs.assume_answers.Laws.{AsksUnder}
use Rattle.assume_queries.proofs.assume_answers.Pairs.{answers_under}
use Rattle.reset_form.proofs.reset_asked.CycleQueries as cycles
use Rattle.reset_form.proofs.reset_asked.CycleQueries.{left_tree, right_tree, are_variables, left_value, right_value, is_query}
use Rattle.plain_check.specs.asked_under.reset_asked_under.Laws.{AsksCycle, CyclesFitUnder}
use Rattle.plain_check.proofs.asked_under.Undecided.{one_literal, named, left_is, right_is, care_is, takes_bits}

module _ (c : Assumption) (a b : NetView) (left right : List ℕ) (left_base right_base : ℕ) (g : List Node) (places : List (ℕ × ℕ)) (s t cycle : ℕ) (q r : Query) (h : AsksCycle a b left right left_base right_base g places s t cycle q)
    (is : IsUnder order.Cycles c g places q r) where
  asked : cycles.AsksCycle a b left right left_base right_base g places s t cycle h.left_function h.right_function q
  asked = record { graph = h.graph; distinct = h.distinct; values = h.values; left_is = h.left_is; right_is = h.right_is; asks = h.asks }

  asks : AsksUnder order.Cycles c g places (left_tree asked) (right_tree asked) q r
  asks = record { asked = is_query asked; distinct = h.distinct; sides = are_variables asked; left_value = left_value asked; right_value = right_value asked; under = is }

  on_left : Builds g places (left_tree asked) q.left.0
  on_left = subst (Builds g places (left_tree asked)) (sym (ap (λ (y : Lit). y.0) h.asks.left_is)) asked.left_is.builds

  on_right : Builds g places (right_tree asked) q.right.0
  on_right = subst (Builds g places (right_tree asked)) (sym (ap (λ (y : Lit). y.0) h.asks.right_is)) asked.right_is.builds

  -- the query asks about the pair under the assumption
  pub asks_pair : asking.AsksPair (assume.under c (reset_pair (circuit_of a) (circuit_of b) left right left_base right_base s t cycle)) g places (variable_of places) (bits_at places r.vars) r
  asks_pair = record {
    left_tree = left_tree asked;
    right_tree = right_tree asked;
    left_unfolds = asked.left_is.unfolds;
    right_unfolds = asked.right_is.unfolds;
    are_variables = (answers_under order.Cycles c g places (left_tree asked) (right_tree asked) q r asks).3;
    distinct = h.distinct;
    named = named order.Cycles c g places (left_tree asked) (right_tree asked) q r asks;
    one_literal = one_literal order.Cycles c g places (left_tree asked) (right_tree asked) q r asks h.graph on_left on_right;
    left_value = left_is order.Cycles c g places (left_tree asked) (right_tree asked) q r asks;
    right_value = right_is order.Cycles c g places (left_tree asked) (right_tree asked) q r asks;
    care_value = care_is order.Cycles c g places (left_tree asked) (right_tree asked) q r asks;
    takes = takes_bits order.Cycles c g places (left_tree asked) (right_tree asked) q r asks;
  }

pub cycles_fit_under : CyclesFitUnder
cycles_fit_under c a b left right left_base right_base g places s t cycle q r h is =
    let pair = asks_pair c a b left right left_base right_base g places s t cycle q r h is in (
      (answers_under order.Cycles c g places (left_tree (asked c a b left right left_base right_base g places s t cycle q r h is)) (right_tree (asked c a b left right left_base right_base g places s t cycle q r h is)) q r
          (asks c a b left right left_base right_base g places s t cycle q r h is)).0,
      asking.equal pair,
      asking.different pair,
      asking.undecided pair,
    )
