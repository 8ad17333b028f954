-- An operand and one literal, or else the two where the other one is 1.
use Rattle.std.proofs.Common.{ℕ, ap}
use Rattle.aig.proofs.graph_copy.aig_or.Deciding.{short_some, short_none, pair_within, pair_values}
use Rattle.aig.proofs.graph_copy.aig_or.restrict.short_and.Goals as goal

pub returns-in-Some-clause-left : goal.returns-in-Some-clause-left
returns-in-Some-clause-left c = ap (λ (p : ℕ × ℕ). p.0) (short_some c.args.graph.now c.args.l.0 c.args.r.0 c.under-left.result.0 c.under-left.ensures.literal (c.in-Some.c.0, c.in-Some.x.0) c.in-Some.ensures)

pub returns-in-Some-clause-right : goal.returns-in-Some-clause-right
returns-in-Some-clause-right c = ap (λ (p : ℕ × ℕ). p.1) (short_some c.args.graph.now c.args.l.0 c.args.r.0 c.under-left.result.0 c.under-left.ensures.literal (c.in-Some.c.0, c.in-Some.x.0) c.in-Some.ensures)

pub returns-in-Some-clause-within_left : goal.returns-in-Some-clause-within_left
returns-in-Some-clause-within_left c =
    (pair_within c.args.graph.now c.args.l.0 c.args.r.0 c.keeps.ensures.graph (c.in-Some.c.0, c.in-Some.x.0)
    (short_some c.args.graph.now c.args.l.0 c.args.r.0 c.under-left.result.0 c.under-left.ensures.literal (c.in-Some.c.0, c.in-Some.x.0) c.in-Some.ensures) c.requires.l c.requires.r).0

pub returns-in-Some-clause-within_right : goal.returns-in-Some-clause-within_right
returns-in-Some-clause-within_right c =
    (pair_within c.args.graph.now c.args.l.0 c.args.r.0 c.keeps.ensures.graph (c.in-Some.c.0, c.in-Some.x.0)
    (short_some c.args.graph.now c.args.l.0 c.args.r.0 c.under-left.result.0 c.under-left.ensures.literal (c.in-Some.c.0, c.in-Some.x.0) c.in-Some.ensures) c.requires.l c.requires.r).1

pub returns-in-Some-clause-value : goal.returns-in-Some-clause-value
returns-in-Some-clause-value c =
    pair_values c.args.graph.now c.args.l.0 c.args.r.0 c.keeps.ensures.graph (c.in-Some.c.0, c.in-Some.x.0)
    (short_some c.args.graph.now c.args.l.0 c.args.r.0 c.under-left.result.0 c.under-left.ensures.literal (c.in-Some.c.0, c.in-Some.x.0) c.in-Some.ensures)

pub returns-in-None-clause-left : goal.returns-in-None-clause-left
returns-in-None-clause-left c =
    ap (λ (p : ℕ × ℕ). p.0)
    (short_none c.args.graph.now c.args.l.0 c.args.r.0 c.under-left.result.0 c.under-left.ensures.literal c.in-None.ensures c.under-right.result.0 c.under.result.0 c.under-right.ensures.literal c.under.ensures.literal)

pub returns-in-None-clause-right : goal.returns-in-None-clause-right
returns-in-None-clause-right c =
    ap (λ (p : ℕ × ℕ). p.1)
    (short_none c.args.graph.now c.args.l.0 c.args.r.0 c.under-left.result.0 c.under-left.ensures.literal c.in-None.ensures c.under-right.result.0 c.under.result.0 c.under-right.ensures.literal c.under.ensures.literal)

pub returns-in-None-clause-value : goal.returns-in-None-clause-value
returns-in-None-clause-value c =
    pair_values c.args.graph.now c.args.l.0 c.args.r.0 c.keeps.ensures.graph (c.under-right.result.0, c.under.result.0)
    (short_none c.args.graph.now c.args.l.0 c.args.r.0 c.under-left.result.0 c.under-left.ensures.literal c.in-None.ensures c.under-right.result.0 c.under.result.0 c.under-right.ensures.literal c.under.ensures.literal)
