-- What is found of a pair's queries is what is said of the pair.
use Rattle.std.proofs.Common.{◌≡◌, ℕ, ◌≤◌, List, slice_get, Some, sym, ◌∙◌, subst, arith}
use Rattle.std.specs.List.{All}
use Rattle.std.proofs.lemmas.Option.{slice_get_within, same_Some}
use Rattle.circuit_theory.specs.Fits.{IsPairDepth}
use Rattle.circuit_theory.proofs.Lists.{All-from_each, at_of}
use Rattle.flat_net.specs.View.{circuit_of}
use Rattle.flat_net.proofs.Nets.{some_at}
use Rattle.base_tables.specs.Table.{AreDistinct}
use Rattle.aig.specs.Graph.{IsGraph}
use Rattle.aig.specs.Builds.{HasTreeValues}
use Rattle.cbf_unfold.specs.shift_variables.Sequences.{bits_at}
use Rattle.cbf_unfold.specs.shift_variables.Variables.{variable_of}
use Rattle.cbf_unfold.specs.declared.unfold_places.signal_function.Unfolded.{Unfolded}
use Rattle.pair_decide.specs.declared.query.Query.{Query}
use Rattle.pair_decide.specs.Queries.{IsQuery}
use Rattle.obligations.specs.declared.outcome.verdict.PairResult.{PairResult}
use Rattle.sec_setup.specs.declared.ports.pairs.SignalPair.{SignalPair}
use Rattle.obligations.specs.declared.obligation.Obligation.{Obligation}
use Rattle.obligations.specs.Found.{IsFirstOpen}
use Rattle.obligations.specs.Decided.{IsAnswered}
use Rattle.sec_setup.specs.declared.setup.Setup.{Setup}
use Rattle.sec_setup.specs.ports.Pairs.{places_of}
use Rattle.reset_form.specs.declared.reset_functions.bases.Bases.{Bases}
use Rattle.reset_form.specs.declared.reset_functions.functions.Functions.{Functions}
use Rattle.reset_form.specs.reset_asked.Asked.{AskedOf}
use Rattle.reset_form.specs.reset_asked.Numbers.{numbered}
use Rattle.outcome_fits.specs.ResetOutcome.{pair_at, AgreeBefore, AnswerFits, PairFits}
use Rattle.reset_form.proofs.reset_asked.CycleQueries.{AsksCycle, is_query}
use Rattle.obligations.proofs.Fits as fits
use Rattle.obligations.proofs.Fits.{AsksPair, answers_fit}
use Rattle.reset_form.proofs.reset_asked.Decided.{asks_pair}

-- the graph and the table of functions are sound
pub record AreSoundFunctions (f : Functions) : Type 0 where
  pub graph : IsGraph f.aig
  pub values : HasTreeValues f.aig
  pub distinct : AreDistinct f.places

-- what is asked of a pair in a cycle
abbrev pub AsksIn : Setup → Bases → Functions → SignalPair → ℕ → Unfolded → Unfolded → Query → Type 0
AsksIn s b f x t l r q = AsksCycle s.left.now s.right.now s.orders.left s.orders.right b.left b.right f.aig f.places x.left.0 x.right.0 t l r q

module _ (s : Setup) (b : Bases) (f : Functions) (sound : AreSoundFunctions f) (x : SignalPair) (o : Obligation) (k : AskedOf s b f x o) where
  -- the query of a cycle, and what it asks
  pub record QueryIn (t : ℕ) : Type 0 where
    pub left : Unfolded
    pub right : Unfolded
    pub query : Query
    pub at : slice_get o.queries t ≡ Some query
    pub asks : AsksIn s b f x t left right query

  pub query_in : (t : ℕ) → t ≤ o.size → QueryIn t
  query_in t le =
      let l = some_at k.left_cycles t (let e = k.left_are.each in omega (arith, e, le)) in
      let r = some_at k.right_cycles t (let e = k.right_are.each in omega (arith, e, le)) in
      let q = some_at o.queries t (let e = k.left_are.each in let z = k.queries_are.each in omega (arith, e, z, le)) in
      record {
        left = l.0;
        right = r.0;
        query = q.0;
        at = q.1;
        asks = record { graph = sound.graph; distinct = sound.distinct; values = sound.values; left_is = k.left_are.are t l.0 l.1; right_is = k.right_are.are t r.0 r.1; asks = k.queries_are.are t l.0 r.0 q.0 l.1 r.1 q.1 };
      }

  -- a query's place is a cycle up to the depth
  pub place_within : (t : ℕ) (q : Query) → slice_get o.queries t ≡ Some q → t ≤ o.size
  place_within t q at = let inside = slice_get_within o.queries t q at in let e = k.left_are.each in let z = k.queries_are.each in omega (arith, inside, e, z)

  -- the same of a query at its place
  pub asks_at : (t : ℕ) (q : Query) → slice_get o.queries t ≡ Some q → (l : Unfolded) × (r : Unfolded) × AsksIn s b f x t l r q
  asks_at t q at =
      let i = query_in t (place_within t q at) in
      (i.left, i.right, subst (AsksIn s b f x t i.left i.right) (same_Some i.query q (sym i.at ∙ at)) i.asks)

  pub own_queries : All (IsQuery f.aig) o.queries
  own_queries = All-from_places o.queries (λ t q at. is_query (asks_at t q at).2)
    where
      All-from_places : (qs : List Query) → ((t : ℕ) (q : Query) → slice_get qs t ≡ Some q → IsQuery f.aig q) → All (IsQuery f.aig) qs
      All-from_places qs each = All-from_each (IsQuery f.aig) qs (λ q h. let at = at_of qs q h in each at.0 q at.1)

  -- so what is found of the queries is what is said of the pair
  asks : (t : ℕ) (q : Query) → slice_get o.queries t ≡ Some q → (t ≤ o.size) × AsksPair (pair_at (numbered s b) x.left.0 x.right.0 t) f.aig f.places (variable_of f.places) (bits_at f.places q.vars) q
  asks t q at = (place_within t q at, asks_pair (asks_at t q at).2)

  each : (t : ℕ) → t ≤ o.size → (q : Query) × (slice_get o.queries t ≡ Some q)
  each t le = let i = query_in t le in (i.query, i.at)

  pub agree_before : (t : ℕ) (q : Query) → IsFirstOpen f.aig o.queries t q → AgreeBefore (numbered s b) x.left.0 x.right.0 t
  agree_before = fits.agree_before (pair_at (numbered s b) x.left.0 x.right.0) f.aig f.places (variable_of f.places) (λ q. bits_at f.places q.vars) o o.size asks each

  -- the result has the answer of the obligation
  pub pair_fits : (conflicts : ℕ) (result : PairResult) → IsAnswered f.aig conflicts o result → PairFits (numbered s b) conflicts (places_of x) result
  pair_fits conflicts result is = record {
    name_is = is.name_is ∙ k.name_is;
    size_is = subst (IsPairDepth (circuit_of s.left.now) (circuit_of s.right.now) x.left.0 x.right.0) (sym is.size_is) k.size_is;
    answer_is =
        subst (λ (size : ℕ). AnswerFits (numbered s b) conflicts x.left.0 x.right.0 size result.answer result.proof) (sym is.size_is)
        (answers_fit (pair_at (numbered s b) x.left.0 x.right.0) f.aig f.places (variable_of f.places) (λ q. bits_at f.places q.vars) o o.size asks each k.decisive_is conflicts result.answer result.proof is.answer_is);
  }
