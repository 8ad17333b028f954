use Rattle.std.proofs.Common.{◌≡◌, ◌<◌, ℕ, List, Option, None, arith, sym, ◌∙◌, subst, below_more}
use Rattle.std.specs.Prelude.{IfNone, IfSome}
use Rattle.net_assembly.specs.Order.{IsOrder, IsRound}
use Rattle.net_assembly.specs.declared.search.Found.TheVariants.{Order, Round}
use Rattle.net_assembly.specs.Searched.{IsMet, IsClosed}
use Rattle.net_assembly.proofs.Searching.{search_ends, search_begins}
use Rattle.net_assembly.proofs.search.order_of.Goals as goal

same_round : (xs ys : List ℕ) → Round xs ≡ Round ys → xs ≡ ys
same_round xs ys e = cc

apart : (xs ys : List ℕ) → Round xs ≡ Order ys → ⊥
apart xs ys e = cc

none_below : (n : ℕ) → n < 0 → ⊥
none_below n l = omega arith

same_order : (xs ys : List ℕ) → Order xs ≡ Order ys → xs ≡ ys
same_order xs ys e = cc

at_none : {P : Type 0} (o : Option ℕ) → o ≡ None → IfNone o P → P
at_none {P} o e h = subst (λ (x : Option ℕ). IfNone x P) e h

pub loop-start-preserved : goal.loop-start-preserved
loop-start-preserved c =
    let h = c.in_ok-read.ensures in
    let met = at_none c.in_ok-read.field-0 c.in_default.is h.met in (
      at_none c.in_ok-read.field-0 c.in_default.is h.search,
      at_none c.in_ok-read.field-0 c.in_default.is h.empty,
      below_more (IsMet c.run.new.self.marks.items) c.loop-start.start (λ n l. met n (c.loop-start.invariant.2 n l)) (at_none c.in_ok-read.field-0 c.in_default.is h.start),
    )

pub returns-clause-order : goal.returns-clause-order
returns-clause-order c = λ order e.
    subst (IsOrder c.args.graph.now) (sym c.from_vec.ensures ∙ same_order c.from_vec.result order e)
    (search_ends c.args.graph.now c.loop-start.search.marks.items c.loop-start.search.way.items c.loop-start.search.order.items c.loop-start.invariant.0 c.loop-start.invariant.1
    (λ n l. c.loop-start.invariant.2 n (let m = c.loop-start-test.false in omega (arith, l, m))))

pub loop-start-init : goal.loop-start-init
loop-start-init c = (
  search_begins c.args.graph.now c.in_ok-search.search.marks.items c.in_ok-search.search.way.items c.in_ok-search.search.order.items c.in_ok-search.ensures.0 c.in_ok-search.ensures.1 c.in_ok-search.ensures.2,
  c.in_ok-search.ensures.1,
  λ n l. absurd (none_below n l),
)

pub returns-in-Some-clause-round : goal.returns-in-Some-clause-round
returns-in-Some-clause-round c = λ numbers e. subst (IsRound c.args.graph.now) (same_round c.in_ok-round.field-0 numbers e) c.in_ok-round.ensures

pub returns-clause-round : goal.returns-clause-round
returns-clause-round c = λ numbers e. absurd (apart numbers c.from_vec.result (sym e))

pub run-requires-clause-within : goal.run-requires-clause-within
run-requires-clause-within c = c.requires.within

pub returns-in-Some-clause-order : goal.returns-in-Some-clause-order
returns-in-Some-clause-order c = λ order e. absurd (apart c.in_ok-round.field-0 order e)

pub round-requires : goal.round-requires
round-requires c = subst (λ (o : Option ℕ). IfSome o (IsClosed c.args.graph.now c.run.new.self.way.items)) c.in-Some.is c.in_ok-read.ensures.closed

pub run-requires-clause-search : goal.run-requires-clause-search
run-requires-clause-search c = c.loop-start.invariant.0

pub run-requires-clause-empty : goal.run-requires-clause-empty
run-requires-clause-empty c = c.loop-start.invariant.1
