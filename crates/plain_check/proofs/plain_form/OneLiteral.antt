-- A pair of one literal, of which nothing is asked, is equal.
use Rattle.std.proofs.Common.{◌≡◌, ℕ, Bool, List, [], length, get_or, slice_get, Option, Some, None, sym, ◌∙◌, ap, subst, arith, inl, inr}
use Rattle.std.proofs.lemmas.Option.{get_or_from_slice_get, slice_get_within}
use Rattle.circuit_theory.specs.Fits.{IsPairDepth}
use Rattle.circuit_theory.specs.Asked.{HaveEqualFunctions}
use Rattle.flat_net.specs.View.{circuit_of}
use Rattle.aig.specs.Builds.{HasTreeValues}
use Rattle.pair_decide.specs.declared.query.Query.{Query}
use Rattle.sec_base.specs.declared.basics.PairAnswer.{PairAnswer}
use Rattle.sec_base.specs.declared.basics.PairAnswer.TheVariants as answer
use Rattle.pair_decide.specs.declared.query.Proof.{Proof}
use Rattle.obligations.specs.declared.outcome.verdict.PairResult.{PairResult}
use Rattle.obligations.specs.declared.obligation.Obligation.{Obligation}
use Rattle.obligations.specs.Decided.{AnswerIs, IsAnswered}
use Rattle.sec_setup.specs.declared.ports.pairs.SignalPair.{SignalPair}
use Rattle.sec_setup.specs.declared.setup.Setup.{Setup}
use Rattle.sec_setup.specs.Cuts.{is_cut}
use Rattle.sec_setup.specs.ports.Pairs.{places_of}
use Rattle.plain_asked.specs.outcome_fits.Outcome.{AnswerFits, PairFits}
use Rattle.plain_asked.specs.declared.functions.Functions.{Functions}
use Rattle.plain_asked.specs.Asked.{AskedApart, AskedOf, AsksNothing}

none_at : (queries : List Query) (i : ℕ) (q : Query) → queries ≡ [] → slice_get queries i ≡ Some q → ⊥
none_at queries i q e at = let within = slice_get_within queries i q at in omega (arith, within, ap length e)

-- where there is a query, it is that of both functions
pub asks_something : (s : Setup) (f : Functions) (p : SignalPair) (o : Obligation) (i : ℕ) (q : Query) → slice_get o.queries i ≡ Some q → AskedApart s f p o → AskedOf s f p o
asks_something s f p o i q at (inl k) = k
asks_something s f p o i q at (inr n) = absurd (none_at o.queries i q n.asks.queries_are at)

module _ (s : Setup) (f : Functions) (values : HasTreeValues f.aig) (p : SignalPair) (o : Obligation) (conflicts : ℕ) (r : PairResult) (n : AsksNothing s f p o) (found : IsAnswered f.aig conflicts o r) where
  equal : HaveEqualFunctions (circuit_of s.left.now) (circuit_of s.right.now) s.orders.left s.orders.right p.left.0 p.right.0
  equal = record {
    left_tree = n.one.left_is.tree;
    right_tree = n.one.right_is.tree;
    left_unfolds = (n.one.left_is.depth, n.one.left_is.unfolds);
    right_unfolds = (n.one.right_is.depth, n.one.right_is.unfolds);
    same = λ bits care.
        let y : ℕ → Bool = λ v. bits (get_or f.places v (0, 0)).0 (get_or f.places v (0, 0)).1 in
        let takes : (v : ℕ) (z : ℕ × ℕ) → slice_get f.places v ≡ Some z → y v ≡ bits z.0 z.1 = λ v z at. ap (λ (w : ℕ × ℕ). bits w.0 w.1) (get_or_from_slice_get f.places v z (0, 0) at) in
        sym (values f.places bits y n.one.left_is.tree n.one.literal takes n.one.left_is.builds) ∙ values f.places bits y n.one.right_is.tree n.one.literal takes n.one.right_is.builds;
  }

  -- the result has the answer of the obligation
  pub one_literal_fits : PairFits (circuit_of s.left.now) (circuit_of s.right.now) s.orders.left s.orders.right (is_cut s.exposed) conflicts (places_of p) r
  one_literal_fits = record {
    name_is = found.name_is ∙ n.asks.name_is;
    size_is = subst (IsPairDepth (circuit_of s.left.now) (circuit_of s.right.now) p.left.0 p.right.0) (sym found.size_is) n.asks.size_is;
    answer_is = go r.answer r.proof found.answer_is;
  }
    where
      go : (y : PairAnswer) (proof : Option Proof) → AnswerIs f.aig conflicts o y proof → AnswerFits (circuit_of s.left.now) (circuit_of s.right.now) s.orders.left s.orders.right (is_cut s.exposed) conflicts p.left.0 p.right.0 y proof
      go answer.Equal None h = equal
      go answer.Equal (Some proof) h = absurd h
      go answer.Different None h = absurd (none_at o.queries h.1.place h.1.is.query n.asks.queries_are h.1.is.first.at)
      go answer.Different (Some proof) h = absurd h
      go answer.NotShown None h = absurd (none_at o.queries h.1.place h.1.is.query n.asks.queries_are h.1.is.first.at)
      go answer.NotShown (Some proof) h = absurd h
      go answer.Limit None h = absurd h
      go answer.Limit (Some proof) h = absurd (none_at o.queries h.place h.query n.asks.queries_are h.first.at)
