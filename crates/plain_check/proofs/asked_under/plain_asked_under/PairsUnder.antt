-- What the answers to a pair's query under an assumption say of its result.
use Rattle.std.proofs.Common.{◌≡◌, Bool, true, false, List, [], ◌∷◌, ℕ, refl, sym, ◌∙◌, ap, subst}
use Rattle.std.specs.Prelude.{not}
use Rattle.std.specs.List.{All, AllZip}
use Rattle.std.proofs.lemmas.List.Elements.{All-cons, All-nil}
use Rattle.circuit_theory.specs.Asked.{plain_pair}
use Rattle.circuit_theory.specs.Fits.{IsPairDepth}
use Rattle.flat_net.specs.View.{circuit_of}
use Rattle.aig.specs.declared.node.Lit.{Lit}
use Rattle.aig.specs.Builds.{Builds}
use Rattle.pair_decide.specs.declared.query.Query.{Query}
use Rattle.pair_decide.specs.Queries.{IsQuery}
use Rattle.obligations.specs.declared.obligation.Obligation.{Obligation}
use Rattle.obligations.specs.Decided.{IsAnswered}
use Rattle.obligations.specs.declared.outcome.verdict.PairResult.{PairResult}
use Rattle.obligations.proofs.Fits as asking
use Rattle.sec_setup.specs.declared.ports.pairs.SignalPair.{SignalPair}
use Rattle.sec_setup.specs.declared.setup.Setup.{Setup}
use Rattle.sec_setup.specs.Cuts.{is_cut}
use Rattle.sec_setup.specs.ports.Pairs.{places_of}
use Rattle.cbf_unfold.specs.shift_variables.Variables.{variable_of}
use Rattle.cbf_unfold.specs.shift_variables.Sequences.{bits_at}
use Rattle.assume_laws.specs.Assume as assume
use Rattle.assume_laws.specs.Assume.{Assumption}
use Rattle.assume_queries.specs.declared.assume_answers.order.VariableOrder.TheVariants as order
use Rattle.assume_queries.specs.assume_answers.Under.{IsUnder, IsObligationUnder}
use Rattle.assume_queries.specs.assume_answers.Laws.{AsksUnder}
use Rattle.assume_queries.proofs.assume_answers.Pairs.{answers_under}
use Rattle.plain_asked.specs.declared.functions.Functions.{Functions}
use Rattle.plain_asked.specs.Asked.{AskedOf}
use Rattle.plain_asked.proofs.PairQueries.{AsksPair, left_tree, right_tree, are_variables, left_value, right_value, is_query}
use Rattle.plain_check.specs.under_base.under_fits.Pairs.{PairFitsUnder}
use Rattle.plain_check.specs.asked_under.plain_asked_under.Laws.{AreBuilt, PairsFitUnder}
use Rattle.plain_check.proofs.asked_under.Undecided.{one_literal, named, left_is, right_is, care_is, takes_bits}

one_of : {X : Type 0} (R : X → X → Type 0) (x : X) (ys : List X) → AllZip R (x ∷ []) ys → (y : X) × (ys ≡ y ∷ []) × R x y
one_of R x [] h = absurd h
one_of R x (y ∷ []) h = (y, refl, h.0)
one_of R x (y ∷ z ∷ zs) h = absurd h.1

open_cut : (c : Bool) → not c ≡ true → c ≡ false
open_cut false e = refl
open_cut true e = let z : false ≡ true = e in cc

closed_cut : (c : Bool) → not c ≡ false → c ≡ false → ⊥
closed_cut true e = λ no. let z : true ≡ false = no in cc
closed_cut false e = λ no. let z : true ≡ false = e in cc

module _ (c : Assumption) (s : Setup) (f : Functions) (p : SignalPair) (o u : Obligation) (h : AreBuilt f) (k : AskedOf s f p o) (under : IsObligationUnder order.Shifts c f.aig f.places o u) where
  pub asked_pair : AsksPair s.left.now s.right.now s.orders.left s.orders.right f.aig f.places p.left.0 p.right.0 k.left_function k.right_function k.queries_are.0
  asked_pair = record { graph = h.graph; distinct = h.distinct; values = h.values; left_is = k.left_is; right_is = k.right_is; asks = k.queries_are.2 }

  pub one : (r : Query) × (u.queries ≡ r ∷ []) × IsUnder order.Shifts c f.aig f.places k.queries_are.0 r
  one = one_of (IsUnder order.Shifts c f.aig f.places) k.queries_are.0 u.queries (subst (λ (qs : List Query). AllZip (IsUnder order.Shifts c f.aig f.places) qs u.queries) k.queries_are.1 under.queries)

  module _ (r : Query) (only : u.queries ≡ r ∷ []) (is : IsUnder order.Shifts c f.aig f.places k.queries_are.0 r) where
    pub asks : AsksUnder order.Shifts c f.aig f.places (left_tree asked_pair) (right_tree asked_pair) k.queries_are.0 r
    asks = record { asked = is_query asked_pair; distinct = h.distinct; sides = are_variables asked_pair; left_value = left_value asked_pair; right_value = right_value asked_pair; under = is }

    on_left : Builds f.aig f.places (left_tree asked_pair) k.queries_are.0.left.0
    on_left = subst (Builds f.aig f.places (left_tree asked_pair)) (sym (ap (λ (y : Lit). y.0) asked_pair.asks.left_is)) asked_pair.left_is.builds

    on_right : Builds f.aig f.places (right_tree asked_pair) k.queries_are.0.right.0
    on_right = subst (Builds f.aig f.places (right_tree asked_pair)) (sym (ap (λ (y : Lit). y.0) asked_pair.asks.right_is)) asked_pair.right_is.builds

    -- the query asks about the pair under the assumption
    pub asks_pair : asking.AsksPair (assume.under c (plain_pair (circuit_of s.left.now) (circuit_of s.right.now) s.orders.left s.orders.right p.left.0 p.right.0)) f.aig f.places (variable_of f.places) (bits_at f.places r.vars) r
    asks_pair = record {
      left_tree = left_tree asked_pair;
      right_tree = right_tree asked_pair;
      left_unfolds = (asked_pair.left_is.depth, asked_pair.left_is.unfolds);
      right_unfolds = (asked_pair.right_is.depth, asked_pair.right_is.unfolds);
      are_variables = (answers_under order.Shifts c f.aig f.places (left_tree asked_pair) (right_tree asked_pair) k.queries_are.0 r asks).3;
      distinct = h.distinct;
      named = named order.Shifts c f.aig f.places (left_tree asked_pair) (right_tree asked_pair) k.queries_are.0 r asks;
      one_literal = one_literal order.Shifts c f.aig f.places (left_tree asked_pair) (right_tree asked_pair) k.queries_are.0 r asks h.graph on_left on_right;
      left_value = left_is order.Shifts c f.aig f.places (left_tree asked_pair) (right_tree asked_pair) k.queries_are.0 r asks;
      right_value = right_is order.Shifts c f.aig f.places (left_tree asked_pair) (right_tree asked_pair) k.queries_are.0 r asks;
      care_value = care_is order.Shifts c f.aig f.places (left_tree asked_pair) (right_tree asked_pair) k.queries_are.0 r asks;
      takes = takes_bits order.Shifts c f.aig f.places (left_tree asked_pair) (right_tree asked_pair) k.queries_are.0 r asks;
    }

    fits : (conflicts : ℕ) (result : PairResult) → IsAnswered f.aig conflicts u result → PairFitsUnder c (circuit_of s.left.now) (circuit_of s.right.now) s.orders.left s.orders.right (is_cut s.exposed) conflicts (places_of p) result
    fits conflicts result found = record {
      name_is = found.name_is ∙ (under.name_is ∙ k.name_is);
      size_is = subst (IsPairDepth (circuit_of s.left.now) (circuit_of s.right.now) p.left.0 p.right.0) (sym (found.size_is ∙ under.size_is)) k.size_is;
      answer_is = asking.answer_fits asks_pair u only (is_cut s.exposed ≡ false) (λ e. open_cut (is_cut s.exposed) (sym decisive ∙ e)) (λ e. closed_cut (is_cut s.exposed) (sym decisive ∙ e)) conflicts result.answer result.proof found.answer_is;
    }
      where
        decisive : u.decisive ≡ not (is_cut s.exposed)
        decisive = under.decisive_is ∙ k.decisive_is

    queries : All (IsQuery f.aig) u.queries
    queries = subst (All (IsQuery f.aig)) (sym only) (All-cons (IsQuery f.aig) r [] (answers_under order.Shifts c f.aig f.places (left_tree asked_pair) (right_tree asked_pair) k.queries_are.0 r asks).0 (All-nil (IsQuery f.aig)))

pub pairs_fit_under : PairsFitUnder
pairs_fit_under c s f p o u h k under =
    let r = one c s f p o u h k under in
    (queries c s f p o u h k under r.0 r.1 r.2, fits c s f p o u h k under r.0 r.1 r.2)
