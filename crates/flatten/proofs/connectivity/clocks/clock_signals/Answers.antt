use Rattle.std.proofs.Common.{◌∙◌, ◌++◌, ℕ, List, [], take, sym, ap, append_assoc}
use Rattle.elaborate.specs.declared.flat.FlatStatement.{FlatStatement}
use Rattle.elaborate.specs.Flat.{kind_of}
use Rattle.flatten.specs.connectivity.Wiring.{joined, control_by}
use Rattle.flatten.proofs.connectivity.Joined.{joined_more}
use Rattle.flatten.proofs.connectivity.Turns.{here_in, past_in, signals_all}
use Rattle.flatten.proofs.connectivity.clocks.clock_signals.Goals as goal

pub returns : goal.returns
returns c =
    signals_all c.args.flat.now c.loop-statement.signals.items c.loop-statement.statement-index
    (past_in c.as_slice-statement-items.result.now c.args.flat.now.statements c.loop-statement.statement-index c.as_slice-statement-items.ensures c.loop-statement-test.false) c.loop-statement.invariant

pub loop-statement-preserved : goal.loop-statement-preserved
loop-statement-preserved c =
    let flat = c.args.flat.now in
    let i = c.loop-statement.statement-index in
    let s = c.statement-item.result in
    let here = here_in c.as_slice-statement-items.result.now flat.statements i s c.as_slice-statement-items.ensures c.loop-statement-test.true c.statement-item.is in
    c.in_ok-push_control.ensures ∙ ap (λ (zs : List ℕ). zs ++ control_by (kind_of [] s.kind)) c.loop-statement.invariant
    ∙ append_assoc flat.clocks (joined (λ (z : FlatStatement). control_by (kind_of [] z.kind)) (take i flat.statements)) (control_by (kind_of [] s.kind))
    ∙ ap (λ (zs : List ℕ). flat.clocks ++ zs) (sym (joined_more (λ (z : FlatStatement). control_by (kind_of [] z.kind)) flat.statements i s here))
