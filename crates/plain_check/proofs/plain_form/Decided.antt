-- What the answer to a pair's query says of its result.
use Rattle.std.proofs.Common.{◌≡◌, ℕ, ◌<◌, Bool, true, false, List, [], ◌∷◌, length, refl, sym, ◌∙◌, ap, subst}
use Rattle.std.specs.Prelude.{not}
use Rattle.std.proofs.lemmas.List.Elements.{All-contains}
use Rattle.std.proofs.lemmas.Option.{slice_get-get_or}
use Rattle.circuit_theory.specs.Asked.{plain_pair}
use Rattle.circuit_theory.specs.Fits.{IsPairDepth}
use Rattle.circuit_theory.specs.Tree.{Tree}
use Rattle.flat_net.specs.View.{NetView, circuit_of}
use Rattle.aig.specs.declared.node.Lit.{Lit}
use Rattle.aig.specs.declared.node.Node.{Node}
use Rattle.aig.specs.Builds.{Builds}
use Rattle.aig.proofs.Growth.{Builds-one}
use Rattle.cbf_unfold.specs.declared.unfold_places.signal_function.Unfolded.{Unfolded}
use Rattle.pair_decide.specs.declared.query.Query.{Query}
use Rattle.obligations.specs.declared.obligation.Obligation.{Obligation}
use Rattle.obligations.specs.Decided.{IsAnswered}
use Rattle.witness_report.specs.declared.witness.PairName.{PairName}
use Rattle.obligations.specs.declared.outcome.verdict.PairResult.{PairResult}
use Rattle.obligations.proofs.Fits as asking
use Rattle.plain_asked.specs.outcome_fits.Outcome.{PairFits}
use Rattle.plain_asked.specs.Sequences.{bits_at}
use Rattle.plain_asked.specs.Variables.{variable_of}
use Rattle.plain_asked.proofs.PairQueries.{AsksPair, left_tree, right_tree, query_in_order, are_variables, left_value, right_value, care_holds, takes_bits}

module _ {a b : NetView} {left right : List ℕ} {g : List Node} {places : List (ℕ × ℕ)} {s t : ℕ} {l r : Unfolded} {q : Query} (x : AsksPair a b left right g places s t l r q) where
  left_builds : Builds g places (left_tree x) q.left.0
  left_builds = subst (Builds g places (left_tree x)) (sym (ap (λ (y : Lit). y.0) x.asks.left_is)) x.left_is.builds

  right_builds : Builds g places (right_tree x) q.right.0
  right_builds = subst (Builds g places (right_tree x)) (sym (ap (λ (y : Lit). y.0) x.asks.right_is)) x.right_is.builds

  -- the query asks about the pair
  pub asks_pair : asking.AsksPair (plain_pair (circuit_of a) (circuit_of b) left right s t) g places (variable_of places) (bits_at places q.vars) q
  asks_pair = record {
    left_tree = left_tree x;
    right_tree = right_tree x;
    left_unfolds = (x.left_is.depth, x.left_is.unfolds);
    right_unfolds = (x.right_is.depth, x.right_is.unfolds);
    are_variables = are_variables x;
    distinct = x.distinct;
    named = λ v here. slice_get-get_or places v (0, 0) (All-contains (λ u. u < length places) q.vars v (query_in_order x).within here);
    one_literal = λ e. Builds-one g x.graph places x.distinct (left_tree x) q.left.0 q.right.0 left_builds (subst (λ (t : Tree ℕ). Builds g places t q.right.0) (sym e) right_builds);
    left_value = left_value x;
    right_value = right_value x;
    care_value = λ bits y takes. ((λ e. tt), (λ u. care_holds x y));
    takes = takes_bits x;
  }

  open-cut : (c : Bool) → not c ≡ true → c ≡ false
  open-cut false e = refl
  open-cut true e = let z : false ≡ true = e in cc

  closed-cut : (c : Bool) → not c ≡ false → c ≡ false → ⊥
  closed-cut true e = λ no. let z : true ≡ false = no in cc
  closed-cut false e = λ no. let z : true ≡ false = e in cc

  -- the result has the answer of the obligation
  pub pair_fits : (name : PairName) (cut : Bool) (conflicts : ℕ) (o : Obligation) (result : PairResult) → o.name ≡ name → o.decisive ≡ not cut → o.queries ≡ q ∷ [] → IsPairDepth (circuit_of a) (circuit_of b) s t o.size → IsAnswered g conflicts o result →
      PairFits (circuit_of a) (circuit_of b) left right cut conflicts (record { name = name; left = s; right = t }) result
  pair_fits name cut conflicts o result named decisive queries depth is = record {
    name_is = is.name_is ∙ named;
    size_is = subst (IsPairDepth (circuit_of a) (circuit_of b) s t) (sym is.size_is) depth;
    answer_is = asking.answer_fits asks_pair o queries (cut ≡ false) (λ e. open-cut cut (sym decisive ∙ e)) (λ e. closed-cut cut (sym decisive ∙ e)) conflicts result.answer result.proof is.answer_is;
  }
