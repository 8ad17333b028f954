-- What is asked of pairs in cycles: its order, and that it stays while the graph and the table grow.
use Rattle.std.proofs.Common.{◌≡◌, ℕ, List, slice_get, Some}
use Rattle.std.specs.List.{All}
use Rattle.circuit_theory.proofs.Lists.{All-from_each, at_of, zip_weaker}
use Rattle.aig.specs.Graph.{Grows}
use Rattle.cbf_unfold.specs.unfold_places.Reach.{Adds}
use Rattle.cbf_unfold.specs.declared.unfold_places.signal_function.Unfolded.{Unfolded}
use Rattle.cbf_unfold.proofs.unfold_places.Zips.{zip_left}
use Rattle.pair_decide.specs.declared.query.Query.{Query}
use Rattle.obligations.specs.declared.obligation.Obligation.{Obligation}
use Rattle.obligations.specs.Asked.{queries_of}
use Rattle.sec_setup.specs.declared.ports.pairs.SignalPair.{SignalPair}
use Rattle.sec_setup.specs.declared.setup.Setup.{Setup}
use Rattle.assume_queries.specs.declared.assume_answers.order.VariableOrder.TheVariants as order
use Rattle.assume_queries.specs.assume_answers.Order.{AreOrdered}
use Rattle.assume_queries.proofs.Mapped.{ordered_later}
use Rattle.reset_form.specs.declared.reset_functions.bases.Bases.{Bases}
use Rattle.reset_form.specs.declared.reset_functions.functions.Functions.{Functions}
use Rattle.reset_form.proofs.reset_functions.Growing.{cycles_later}
use Rattle.reset_form.specs.reset_asked.Asked.{AskedOf, AreAsked, IsCycleQuery}
use Rattle.reset_form.proofs.reset_asked.CycleQueries.{in_order, merge_in_order}
use Rattle.reset_form.proofs.reset_asked.PairCycles.{AreSoundFunctions, AsksIn, asks_at}
use Rattle.plain_check.proofs.asked_under.reset_asked_under.Queries.{query_from}

module _ (s : Setup) (b : Bases) (f : Functions) (sound : AreSoundFunctions f) where
  -- the variables of a query are in order
  asks_ordered : (p : SignalPair) (t : ℕ) (l r : Unfolded) (q : Query) → AsksIn s b f p t l r q → AreOrdered order.Cycles f.places q.vars
  asks_ordered p t l r q k =
      let left = in_order s.left.now s.orders.left b.left f.aig f.places p.left.0 t l k.left_is in
      let right = in_order s.right.now s.orders.right b.right f.aig f.places p.right.0 t r k.right_is in
      let m = merge_in_order f.places l.vars r.vars q.vars left right k.asks.variables_are in
      record { within = m.within; ordered = m.ordered }

  -- and of all queries
  pub queries_ordered : (pairs : List SignalPair) (asked : List Obligation) → AreAsked s b f pairs asked → All (λ (q : Query). AreOrdered order.Cycles f.places q.vars) (queries_of asked)
  queries_ordered pairs asked are =
      All-from_each (λ (q : Query). AreOrdered order.Cycles f.places q.vars) (queries_of asked) (λ q h.
      let o = query_from asked q h in
      let i = at_of asked o.0 o.1 in
      let p = zip_left (AskedOf s b f) pairs asked are i.0 o.0 i.1 in
      let t = at_of o.0.queries q o.2 in
      let k = asks_at s b f sound p.0 o.0 p.2 t.0 q t.1 in
      asks_ordered p.0 t.0 k.0 k.1 q k.2)

module _ (s : Setup) (b : Bases) (f h : Functions) (grows : Grows f.aig h.aig) (adds : Adds (λ p. Unit {0}) f.places h.places) where
  -- what is asked of a pair stays so
  asked_later : (p : SignalPair) (o : Obligation) → AskedOf s b f p o → AskedOf s b h p o
  asked_later p o k = record {
    name_is = k.name_is;
    size_is = k.size_is;
    decisive_is = k.decisive_is;
    left_cycles = k.left_cycles;
    right_cycles = k.right_cycles;
    left_are = cycles_later s.left.now s.orders.left b.left f.aig h.aig f.places h.places grows adds (o.size, p.left.0) k.left_cycles k.left_are;
    right_are = cycles_later s.right.now s.orders.right b.right f.aig h.aig f.places h.places grows adds (o.size, p.right.0) k.right_cycles k.right_are;
    queries_are = record { each = k.queries_are.each; are = later };
  }
    where
      later : (t : ℕ) (l r : Unfolded) (q : Query) → slice_get k.left_cycles t ≡ Some l → slice_get k.right_cycles t ≡ Some r → slice_get o.queries t ≡ Some q → IsCycleQuery h.places l r q
      later t l r q at_l at_r at_q =
          let is = k.queries_are.are t l r q at_l at_r at_q in
          let left = in_order s.left.now s.orders.left b.left f.aig f.places p.left.0 t l (k.left_are.are t l at_l) in
          let right = in_order s.right.now s.orders.right b.right f.aig f.places p.right.0 t r (k.right_are.are t r at_r) in
          let m = merge_in_order f.places l.vars r.vars q.vars left right is.variables_are in
          record {
            left_is = is.left_is;
            right_is = is.right_is;
            care_is = is.care_is;
            variables_are = record {
              ordered = (ordered_later f.places h.places adds order.Cycles q.vars (record { within = m.within; ordered = m.ordered })).ordered;
              exactly = is.variables_are.exactly;
            };
          }

  pub all_asked_later : (pairs : List SignalPair) (asked : List Obligation) → AreAsked s b f pairs asked → AreAsked s b h pairs asked
  all_asked_later pairs asked are = zip_weaker (AskedOf s b f) (AskedOf s b h) asked_later pairs asked are
