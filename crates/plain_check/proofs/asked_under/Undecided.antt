-- What a query under an assumption asks of two trees.
use Rattle.std.proofs.Common.{◌≡◌, ◌∙◌, ◌<◌, ℕ, Bool, true, List, length, slice_get, Some, sym, ap, subst}
use Rattle.std.specs.Prelude.{◌↔◌}
use Rattle.std.specs.List.{Contains}
use Rattle.std.proofs.lemmas.List.Elements.{All-contains}
use Rattle.std.proofs.lemmas.Option.{slice_get-get_or}
use Rattle.circuit_theory.specs.Tree.{Tree, tree_value}
use Rattle.aig.specs.declared.node.Lit.{Lit}
use Rattle.aig.specs.declared.node.Node.{Node}
use Rattle.aig.specs.Builds.{Builds, TakesBits, HasValueOf}
use Rattle.aig.specs.Graph.{IsGraph}
use Rattle.aig.specs.Values.{value}
use Rattle.aig.proofs.Growth.{Builds-one}
use Rattle.pair_decide.specs.declared.query.Query.{Query}
use Rattle.pair_decide.specs.Queries.{assigned_to}
use Rattle.cbf_unfold.specs.shift_variables.Sequences.{bits_at}
use Rattle.cbf_unfold.specs.shift_variables.Variables.{variable_of}
use Rattle.cbf_unfold.proofs.shift_variables.Assignments.{assigned_alike}
use Rattle.assume_laws.specs.Assume.{Assumption, MeetsAtVariables}
use Rattle.assume_queries.specs.declared.assume_answers.order.VariableOrder.{VariableOrder}
use Rattle.assume_queries.specs.assume_answers.Laws.{AsksUnder}
use Rattle.assume_queries.proofs.assume_answers.Pairs.{answers_under}

module _ (order : VariableOrder) (c : Assumption) (g : List Node) (places : List (ℕ × ℕ)) (left right : Tree ℕ) (q r : Query) (h : AsksUnder order c g places left right q r) where
  -- the functions of both sides are one literal where they are one tree
  pub one_literal : IsGraph g → Builds g places left q.left.0 → Builds g places right q.right.0 → left ≡ right → r.left.0 ≡ r.right.0
  one_literal graph on_left on_right e =
      ap (λ (y : Lit). y.0) h.under.left_is
      ∙ (Builds-one g graph places h.distinct left q.left.0 q.right.0 on_left (subst (λ (t : Tree ℕ). Builds g places t q.right.0) (sym e) on_right) ∙ ap (λ (y : Lit). y.0) (sym h.under.right_is))

  pub named : (v : ℕ) → Contains r.vars v → slice_get places v ≡ Some ((variable_of places v).input, (variable_of places v).at)
  named v here = slice_get-get_or places v (0, 0) (All-contains (λ w. w < length places) r.vars v h.under.in_order.within here)

  pub left_is : HasValueOf g places r.left.0 (λ bits. tree_value bits left)
  left_is bits y takes = ap (value g y) (ap (λ (l : Lit). l.0) h.under.left_is) ∙ h.left_value bits y takes

  pub right_is : HasValueOf g places r.right.0 (λ bits. tree_value bits right)
  right_is bits y takes = ap (value g y) (ap (λ (l : Lit). l.0) h.under.right_is) ∙ h.right_value bits y takes

  -- the care beside one that holds always
  pub care_is : (bits : ℕ → ℕ → Bool) (y : ℕ → Bool) → TakesBits places bits y → (value g y r.care.0 ≡ true) ↔ (Unit {0} × MeetsAtVariables c left right bits)
  care_is bits y takes = let meets = (answers_under order c g places left right q r h).4 bits y takes in (λ e. (tt, meets.0 e), λ m. meets.1 m.1)

  pub takes_bits : (bits : List Bool) → TakesBits places (bits_at places r.vars bits) (assigned_to r.vars bits)
  takes_bits bits v p at = assigned_alike places r.vars bits h.distinct h.under.in_order.within v p at
