use Rattle.std.proofs.Common.{sym, ◌∙◌, true≢false, ℕ, Option, subst}
use Rattle.net_assembly.proofs.Searching.{search_starts, no_last}
use Rattle.std.specs.Prelude.{IfNone, IfSome}
use Rattle.net_assembly.specs.Searched.{IsTurn, IsClosed}
use Rattle.net_assembly.proofs.search.Search.run.Goals as goal

pub loop-last-init : goal.loop-last-init
loop-last-init c =
    let started = search_starts c.args.graph.now c.args.self.now.marks.items c.args.self.now.way.items c.args.self.now.order.items c.requires.search c.requires.empty c.args.start c.requires.start (λ met. true≢false (sym (c.is_met.ensures.1 met) ∙ c.if-is_met.false)) c.enter.new.self.marks.items c.enter.new.self.way.items c.enter.new.self.order.items
    c.in_ok-enter.ensures.marks c.in_ok-enter.ensures.way c.in_ok-enter.ensures.order in
    (started.0.search, started.1, started.0.met)

pub returns-clause-empty : goal.returns-clause-empty
returns-clause-empty c = no_last c.loop-last.self.way.items (sym c.last.ensures ∙ c.in_default.is)

pub loop-last-preserved : goal.loop-last-preserved
loop-last-preserved c =
    let t = subst (λ (o : Option ℕ). IfNone o (IsTurn c.args.graph.now c.loop-last.self.marks.items c.turn.new.self.marks.items c.turn.new.self.way.items c.turn.new.self.order.items)) c.in_default-2.is c.in_ok-read.ensures.goes_on in
    (t.search, t.met c.args.start c.loop-last.invariant.1, λ n h. t.met n (c.loop-last.invariant.2 n h))

pub turn-requires-clause-within : goal.turn-requires-clause-within
turn-requires-clause-within c = c.requires.within

pub returns-in-Some-2-clause-closed : goal.returns-in-Some-2-clause-closed
returns-in-Some-2-clause-closed c = subst (λ (o : Option ℕ). IfSome o (IsClosed c.args.graph.now c.turn.new.self.way.items)) c.in-Some-2.is c.in_ok-read.ensures.closed

pub loop-last-smaller : goal.loop-last-smaller
loop-last-smaller c =
    let t = subst (λ (o : Option ℕ). IfNone o (IsTurn c.args.graph.now c.loop-last.self.marks.items c.turn.new.self.marks.items c.turn.new.self.way.items c.turn.new.self.order.items)) c.in_default-2.is c.in_ok-read.ensures.goes_on in
    t.fewer

pub returns-then-is_met-clause-start : goal.returns-then-is_met-clause-start
returns-then-is_met-clause-start c = c.is_met.ensures.0 c.if-is_met.true

pub turn-requires-clause-last : goal.turn-requires-clause-last
turn-requires-clause-last c = sym c.last.ensures ∙ c.in-Some.is

pub turn-requires-clause-search : goal.turn-requires-clause-search
turn-requires-clause-search c = c.loop-last.invariant.0
