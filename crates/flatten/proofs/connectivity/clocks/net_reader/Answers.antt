use Rattle.std.proofs.Common.{◌∙◌, ◌<◌, ℕ, length, sym, subst, true≢false}
use Rattle.std.specs.Prelude.{All}
use Rattle.flatten.specs.connectivity.Wiring.{Cell}
use Rattle.flatten.specs.connectivity.Clocks.{ReadsNet}
use Rattle.flatten.proofs.connectivity.Rows.{inputs_are}
use Rattle.flatten.proofs.connectivity.Turns.{here_in, past_in}
use Rattle.flatten.proofs.connectivity.Found.{cells_passed, cells_more, cells_found, cells_last, output_within}
use Rattle.flatten.proofs.connectivity.clocks.net_reader.Goals as goal

pub loop-statement-preserved-then-is_port : goal.loop-statement-preserved-then-is_port
loop-statement-preserved-then-is_port c =
    let flat = c.args.flat.now in
    let i = c.loop-statement.statement-index in
    let s = c.statement-item.result in
    let here = here_in c.as_slice-statement-items.result.now flat.statements i s c.as_slice-statement-items.ensures c.loop-statement-test.true c.statement-item.is in
    cells_passed flat c.args.nets.now c.args.net i s here (c.is_port.ensures.0 c.if-is_port.true) c.loop-statement.invariant

pub returns-then-reads_net-clause-reader : goal.returns-then-reads_net-clause-reader
returns-then-reads_net-clause-reader c =
    let flat = c.args.flat.now in
    let i = c.loop-statement.statement-index in
    let s = c.statement-item.result in
    let here = here_in c.as_slice-statement-items.result.now flat.statements i s c.as_slice-statement-items.ensures c.loop-statement-test.true c.statement-item.is in
    cells_found flat c.args.nets.now c.args.net i s here (λ e. true≢false (sym (c.is_port.ensures.1 e) ∙ c.if-is_port.false))
    (subst (λ zs. ReadsNet c.args.nets.now c.args.net zs) c.as_slice.ensures (c.reads_net.ensures.0 c.if-reads_net.true)) c.loop-statement.invariant

pub loop-statement-preserved : goal.loop-statement-preserved
loop-statement-preserved c =
    let flat = c.args.flat.now in
    let i = c.loop-statement.statement-index in
    let s = c.statement-item.result in
    let here = here_in c.as_slice-statement-items.result.now flat.statements i s c.as_slice-statement-items.ensures c.loop-statement-test.true c.statement-item.is in
    cells_more flat c.args.nets.now c.args.net i s here (λ e. true≢false (sym (c.is_port.ensures.1 e) ∙ c.if-is_port.false))
    (λ reads. true≢false (sym (c.reads_net.ensures.1 (subst (λ zs. ReadsNet c.args.nets.now c.args.net zs) (sym c.as_slice.ensures) reads)) ∙ c.if-reads_net.false)) c.loop-statement.invariant

pub returns-clause-reader : goal.returns-clause-reader
returns-clause-reader c =
    let flat = c.args.flat.now in
    let i = c.loop-statement.statement-index in
    let past = past_in c.as_slice-statement-items.result.now flat.statements i c.as_slice-statement-items.ensures c.loop-statement-test.false in
    cells_last flat c.args.nets.now c.args.net i past c.as_slice-2.result.now (c.as_slice-2.ensures ∙ sym (inputs_are flat).2) c.output_of.result c.output_of.ensures c.loop-statement.invariant

pub returns-clause-within : goal.returns-clause-within
returns-clause-within c =
    let flat = c.args.flat.now in
    output_within (length flat.names) c.as_slice-2.result.now (subst (λ zs. All (λ n. n < length flat.names) zs) (sym c.as_slice-2.ensures) c.keeps.ensures.outputs)
    (λ (z : Cell ℕ). ReadsNet c.args.nets.now c.args.net z.reads) c.output_of.result c.output_of.ensures
