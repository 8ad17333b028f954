-- The variables of a query at event nodes, with what was read of it.
use Rattle.std.proofs.Common.{◌≡◌, ◌∙◌, ◌<◌, ℕ, Bool, List, length, sym, ap, subst}
use Rattle.std.specs.List.{All}
use Rattle.circuit_theory.proofs.Lists.{length-map}
use Rattle.pair_decide.specs.declared.query.Query.{Query}
use Rattle.event_nodes.specs.Nodes.{EventGraphView}
use Rattle.event_nodes.specs.event_variables.Variables.{variable_of, variables_of}
use Rattle.event_nodes.specs.event_variables.ranked_nodes.Named.{named_ranks}
use Rattle.witness_report.specs.declared.witness.PairName.{PairName}
use Rattle.event_under.specs.Asked.{variable_in, variables_in}
use Rattle.event_under.specs.declared.event_asked_under.asked.EventQuestions.{EventQuestions}
use Rattle.event_under.specs.event_asked_under.Questions.{named_at}
use Rattle.event_under.specs.event_under_form.event_witness_under.Ready.{AreSidesOf, IsReadyOf}
use Rattle.event_under.specs.declared.event_under_form.event_witness_under.ready.ReadyDifference.{ReadyDifference}

pub is_ready : (w : EventGraphView) (x : EventQuestions) (q : Query) (bits read : List Bool) (name : PairName) (y : ReadyDifference) (nodes vars : List ℕ) → read ≡ bits → nodes ≡ x.ranked.nodes → vars ≡ q.vars → length bits ≡ length q.vars → y.pair ≡ name → AreSidesOf x.aig q read (y.left, y.right) →
    All (λ v. v < length y.made.events.places) y.made.vars.items → variables_of y.made.events y.made.vars.items ≡ variables_in (named_ranks w.children nodes x.places) vars → IsReadyOf w x q bits name y
is_ready w x q bits read name y nodes vars same_bits same_nodes same_vars each pair_is values within are = record {
  pair_is = pair_is;
  values = subst (λ (bs : List Bool). AreSidesOf x.aig q bs (y.left, y.right)) same_bits values;
  within = within;
  each = each ∙ (sym (length-map (variable_in (named_at w.children x)) q.vars) ∙ (sym (ap length told) ∙ length-map (variable_of y.made.events) y.made.vars.items));
  variables = told;
}
  where
    told : variables_of y.made.events y.made.vars.items ≡ variables_in (named_at w.children x) q.vars
    told = are ∙ (ap (λ (ns : List ℕ). variables_in (named_ranks w.children ns x.places) vars) same_nodes ∙ ap (λ (vs : List ℕ). variables_in (named_at w.children x) vs) same_vars)
