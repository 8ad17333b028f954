use Rattle.std.proofs.Common.{sym, ◌∙◌, true≢false}
use Rattle.flatten.proofs.connectivity.ClockTables.{edge_same}
use Rattle.flatten.proofs.connectivity.Turns.{here_in, past_in, edge_passed, edge_turn, edge_other, edge_all}
use Rattle.flatten.proofs.connectivity.clocks.other_edge.Goals as goal

pub loop-statement-preserved-in_default : goal.loop-statement-preserved-in_default
loop-statement-preserved-in_default c =
    let statements = c.args.flat.now.statements in
    let i = c.loop-statement.statement-index in
    let s = c.statement-item.result in
    edge_passed statements i s (here_in c.as_slice-statement-items.result.now statements i s c.as_slice-statement-items.ensures c.loop-statement-test.true c.statement-item.is)
    c.loop-statement.first c.edge_of.result (c.edge_of.ensures s.out) c.loop-statement.invariant c.in_default.is

pub returns-then-differ-clause-edge : goal.returns-then-differ-clause-edge
returns-then-differ-clause-edge c =
    let statements = c.args.flat.now.statements in
    let i = c.loop-statement.statement-index in
    let s = c.statement-item.result in
    edge_other c.args.flat.now i s (here_in c.as_slice-statement-items.result.now statements i s c.as_slice-statement-items.ensures c.loop-statement-test.true c.statement-item.is)
    c.loop-statement.first c.edge_of.result (c.edge_of.ensures s.out) c.in-Some.edge c.in-Some.is (λ e. c.differ.ensures.0 c.if-differ.true (c.unwrap_or.ensures ∙ e)) c.loop-statement.invariant

pub loop-statement-preserved : goal.loop-statement-preserved
loop-statement-preserved c =
    let statements = c.args.flat.now.statements in
    let i = c.loop-statement.statement-index in
    let s = c.statement-item.result in
    edge_turn statements i s (here_in c.as_slice-statement-items.result.now statements i s c.as_slice-statement-items.ensures c.loop-statement-test.true c.statement-item.is)
    c.loop-statement.first c.edge_of.result (c.edge_of.ensures s.out) c.loop-statement.invariant c.in-Some.edge c.in-Some.is
    (sym c.unwrap_or.ensures ∙ edge_same c.unwrap_or.result c.in-Some.edge (λ ne. true≢false (sym (c.differ.ensures.1 ne) ∙ c.if-differ.false)))

pub returns-clause-edge : goal.returns-clause-edge
returns-clause-edge c =
    edge_all c.args.flat.now c.loop-statement.statement-index c.loop-statement.first
    (past_in c.as_slice-statement-items.result.now c.args.flat.now.statements c.loop-statement.statement-index c.as_slice-statement-items.ensures c.loop-statement-test.false) c.loop-statement.invariant
