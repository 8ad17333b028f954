-- What is asked of pairs: its order, and that it stays while the graph and the table grow.
use Rattle.std.proofs.Common.{List, [], ◌∷◌, ◌++◌, sym, subst}
use Rattle.std.specs.List.{All}
use Rattle.std.proofs.lemmas.List.Elements.{All-nil, All-cons}
use Rattle.circuit_theory.proofs.Lists.{zip_weaker}
use Rattle.aig.specs.Graph.{Grows}
use Rattle.cbf_unfold.proofs.Known.{unfolded_later}
use Rattle.cbf_unfold.specs.unfold_places.Reach.{Adds}
use Rattle.pair_decide.specs.declared.query.Query.{Query}
use Rattle.obligations.specs.declared.obligation.Obligation.{Obligation}
use Rattle.obligations.specs.Asked.{queries_of}
use Rattle.sec_setup.specs.declared.ports.pairs.SignalPair.{SignalPair}
use Rattle.sec_setup.specs.declared.setup.Setup.{Setup}
use Rattle.assume_queries.specs.declared.assume_answers.order.VariableOrder.TheVariants as order
use Rattle.assume_queries.specs.assume_answers.Order.{AreOrdered}
use Rattle.assume_queries.proofs.Mapped.{ordered_later}
use Rattle.plain_asked.specs.declared.functions.Functions.{Functions}
use Rattle.plain_asked.specs.Asked.{AskedOf, AreAsked}
use Rattle.plain_asked.proofs.PairQueries.{in_order, merge_in_order}

-- the variables of a pair's query are in order
pub query_ordered : (s : Setup) (f : Functions) (p : SignalPair) (o : Obligation) (k : AskedOf s f p o) → AreOrdered order.Shifts f.places k.queries_are.0.vars
query_ordered s f p o k =
    let l = in_order s.left.now s.orders.left f.aig f.places p.left.0 k.left_function k.left_is in
    let r = in_order s.right.now s.orders.right f.aig f.places p.right.0 k.right_function k.right_is in
    let m = merge_in_order f.places k.left_function.vars k.right_function.vars k.queries_are.0.vars l r k.queries_are.2.variables_are in
    record { within = m.within; ordered = m.ordered }

-- and of all queries
pub queries_ordered : (s : Setup) (f : Functions) (pairs : List SignalPair) (asked : List Obligation) → AreAsked s f pairs asked → All (λ (q : Query). AreOrdered order.Shifts f.places q.vars) (queries_of asked)
queries_ordered s f [] [] are = All-nil (λ (q : Query). AreOrdered order.Shifts f.places q.vars)
queries_ordered s f [] (o ∷ asked) are = absurd are
queries_ordered s f (p ∷ pairs) [] are = absurd are
queries_ordered s f (p ∷ pairs) (o ∷ asked) are =
    subst (λ (qs : List Query). All (λ (q : Query). AreOrdered order.Shifts f.places q.vars) (qs ++ queries_of asked)) (sym are.0.queries_are.1)
    (All-cons (λ (q : Query). AreOrdered order.Shifts f.places q.vars) are.0.queries_are.0 (queries_of asked) (query_ordered s f p o are.0) (queries_ordered s f pairs asked are.1))

module _ (s : Setup) (f h : Functions) (grows : Grows f.aig h.aig) (adds : Adds (λ p. Unit {0}) f.places h.places) where
  -- what is asked of a pair stays so
  asked_later : (p : SignalPair) (o : Obligation) → AskedOf s f p o → AskedOf s h p o
  asked_later p o k = record {
    name_is = k.name_is;
    size_is = k.size_is;
    decisive_is = k.decisive_is;
    left_function = k.left_function;
    right_function = k.right_function;
    left_is = unfolded_later s.left.now s.orders.left f.aig h.aig f.places h.places p.left.0 k.left_function.lit.0 k.left_function.vars grows adds k.left_is;
    right_is = unfolded_later s.right.now s.orders.right f.aig h.aig f.places h.places p.right.0 k.right_function.lit.0 k.right_function.vars grows adds k.right_is;
    queries_are = (
      k.queries_are.0,
      k.queries_are.1,
      record {
        left_is = k.queries_are.2.left_is;
        right_is = k.queries_are.2.right_is;
        care_is = k.queries_are.2.care_is;
        variables_are = record {
          ordered = (ordered_later f.places h.places adds order.Shifts k.queries_are.0.vars (query_ordered s f p o k)).ordered;
          exactly = k.queries_are.2.variables_are.exactly;
        };
      },
    );
  }

  pub all_asked_later : (pairs : List SignalPair) (asked : List Obligation) → AreAsked s f pairs asked → AreAsked s h pairs asked
  all_asked_later pairs asked are = zip_weaker (AskedOf s f) (AskedOf s h) asked_later pairs asked are
