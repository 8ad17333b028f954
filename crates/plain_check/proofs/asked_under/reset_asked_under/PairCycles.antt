-- What is found of a pair's queries under an assumption is what is said of the pair.
use Rattle.std.proofs.Common.{◌≡◌, ℕ, ◌≤◌, slice_get, Some, sym, ◌∙◌, subst}
use Rattle.std.specs.List.{All}
use Rattle.circuit_theory.specs.Fits.{IsPairDepth}
use Rattle.circuit_theory.proofs.Lists.{All-from_each, at_of, zip_right}
use Rattle.flat_net.specs.View.{circuit_of}
use Rattle.cbf_unfold.specs.shift_variables.Sequences.{bits_at}
use Rattle.cbf_unfold.specs.shift_variables.Variables.{variable_of}
use Rattle.cbf_unfold.specs.declared.unfold_places.signal_function.Unfolded.{Unfolded}
use Rattle.cbf_unfold.proofs.unfold_places.Zips.{zip_left}
use Rattle.pair_decide.specs.declared.query.Query.{Query}
use Rattle.pair_decide.specs.Queries.{IsQuery}
use Rattle.obligations.specs.declared.outcome.verdict.PairResult.{PairResult}
use Rattle.sec_setup.specs.declared.ports.pairs.SignalPair.{SignalPair}
use Rattle.obligations.specs.declared.obligation.Obligation.{Obligation}
use Rattle.obligations.specs.Found.{IsFirstOpen}
use Rattle.obligations.specs.Decided.{IsAnswered}
use Rattle.sec_setup.specs.declared.setup.Setup.{Setup}
use Rattle.sec_setup.specs.ports.Pairs.{places_of}
use Rattle.obligations.proofs.Fits as fits
use Rattle.obligations.proofs.Fits.{AsksPair, answers_fit}
use Rattle.outcome_fits.specs.ResetOutcome.{pair_at}
use Rattle.assume_laws.specs.Assume as assume
use Rattle.assume_laws.specs.Assume.{Assumption}
use Rattle.assume_queries.specs.declared.assume_answers.order.VariableOrder.TheVariants as order
use Rattle.assume_queries.specs.assume_answers.Under.{IsUnder, IsObligationUnder}
use Rattle.reset_form.specs.declared.reset_functions.bases.Bases.{Bases}
use Rattle.reset_form.specs.declared.reset_functions.functions.Functions.{Functions}
use Rattle.reset_form.specs.reset_asked.Asked.{AskedOf}
use Rattle.reset_form.specs.reset_asked.Numbers.{numbered}
use Rattle.reset_form.proofs.reset_asked.PairCycles.{AreSoundFunctions, AsksIn, asks_at, place_within, query_in}
use Rattle.plain_check.specs.asked_under.reset_asked_under.Laws.{AsksCycle}
use Rattle.plain_check.proofs.asked_under.reset_asked_under.CyclesUnder.{asks_pair, cycles_fit_under}
use Rattle.plain_check.specs.under_base.under_fits.ResetVerdict.{AgreeBeforeUnder, AnswerFitsUnder, PairFitsUnder}

-- the query of a pair in a cycle, without the assumption and under it
pub record IsIn (c : Assumption) (s : Setup) (b : Bases) (f : Functions) (x : SignalPair) (o : Obligation) (t : ℕ) (r : Query) : Type 0 where
  pub sides : Query
  pub sides_at : slice_get o.queries t ≡ Some sides
  pub left : Unfolded
  pub right : Unfolded
  pub asks : AsksIn s b f x t left right sides
  pub is : IsUnder order.Cycles c f.aig f.places sides r
  pub within : t ≤ o.size

-- as the law of a cycle wants it
pub as_asked : (c : Assumption) (s : Setup) (b : Bases) (f : Functions) (x : SignalPair) (o : Obligation) (t : ℕ) (r : Query) (y : IsIn c s b f x o t r) →
    AsksCycle s.left.now s.right.now s.orders.left s.orders.right b.left b.right f.aig f.places x.left.0 x.right.0 t y.sides
as_asked c s b f x o t r y = record {
  graph = y.asks.graph;
  values = y.asks.values;
  distinct = y.asks.distinct;
  left_function = y.left;
  right_function = y.right;
  left_is = y.asks.left_is;
  right_is = y.asks.right_is;
  asks = y.asks.asks;
}

module _ (c : Assumption) (s : Setup) (b : Bases) (f : Functions) (sound : AreSoundFunctions f) (x : SignalPair) (o u : Obligation) (k : AskedOf s b f x o) (under : IsObligationUnder order.Cycles c f.aig f.places o u) where
  -- of each query under the assumption
  pub is_in : (t : ℕ) (r : Query) → slice_get u.queries t ≡ Some r → IsIn c s b f x o t r
  is_in t r at =
      let q = zip_left (IsUnder order.Cycles c f.aig f.places) o.queries u.queries under.queries t r at in
      let a = asks_at s b f sound x o k t q.0 q.1 in
      record { sides = q.0; sides_at = q.1; left = a.0; right = a.1; asks = a.2; is = q.2; within = place_within s b f sound x o k t q.0 q.1 }

  -- there is one in each cycle up to the depth
  at_cycle : (t : ℕ) → t ≤ o.size → (r : Query) × (slice_get u.queries t ≡ Some r)
  at_cycle t le =
      let q = query_in s b f sound x o k t le in
      let r = zip_right (IsUnder order.Cycles c f.aig f.places) o.queries u.queries under.queries t q.query q.at in
      (r.0, r.1)

  pub own_queries : All (IsQuery f.aig) u.queries
  own_queries =
      All-from_each (IsQuery f.aig) u.queries (λ r h.
      let at = at_of u.queries r h in
      let y = is_in at.0 r at.1 in
      (cycles_fit_under c s.left.now s.right.now s.orders.left s.orders.right b.left b.right f.aig f.places x.left.0 x.right.0 at.0 y.sides r (as_asked c s b f x o at.0 r y) y.is).0)

  -- so what is found of the queries is what is said of the pair
  asks : (t : ℕ) (r : Query) → slice_get u.queries t ≡ Some r → (t ≤ o.size) × AsksPair (assume.under c (pair_at (numbered s b) x.left.0 x.right.0 t)) f.aig f.places (variable_of f.places) (bits_at f.places r.vars) r
  asks t r at =
      let y = is_in t r at in
      (y.within, asks_pair c s.left.now s.right.now s.orders.left s.orders.right b.left b.right f.aig f.places x.left.0 x.right.0 t y.sides r (as_asked c s b f x o t r y) y.is)

  pub agree_before : (t : ℕ) (r : Query) → IsFirstOpen f.aig u.queries t r → AgreeBeforeUnder c (numbered s b) x.left.0 x.right.0 t
  agree_before = fits.agree_before (λ t. assume.under c (pair_at (numbered s b) x.left.0 x.right.0 t)) f.aig f.places (variable_of f.places) (λ q. bits_at f.places q.vars) u o.size asks at_cycle

  -- the result has the answer of the obligation
  pub pair_fits : (conflicts : ℕ) (result : PairResult) → IsAnswered f.aig conflicts u result → PairFitsUnder c (numbered s b) conflicts (places_of x) result
  pair_fits conflicts result found = record {
    name_is = found.name_is ∙ (under.name_is ∙ k.name_is);
    size_is = subst (IsPairDepth (circuit_of s.left.now) (circuit_of s.right.now) x.left.0 x.right.0) (sym size) k.size_is;
    answer_is =
        subst (λ (n : ℕ). AnswerFitsUnder c (numbered s b) conflicts x.left.0 x.right.0 n result.answer result.proof) (sym size)
        (answers_fit (λ t. assume.under c (pair_at (numbered s b) x.left.0 x.right.0 t)) f.aig f.places (variable_of f.places) (λ q. bits_at f.places q.vars) u o.size asks at_cycle (under.decisive_is ∙ k.decisive_is) conflicts result.answer result.proof found.answer_is);
  }
    where
      size : result.size ≡ o.size
      size = found.size_is ∙ under.size_is
