use Rattle.std.proofs.Common.{◌∙◌, ◌<◌, ℕ, List, length, sym, subst}
use Rattle.std.specs.Prelude.{All}
use Rattle.flatten.specs.connectivity.Tables.{IsOpenIn}
use Rattle.flatten.proofs.connectivity.Rows.{inputs_are}
use Rattle.flatten.proofs.connectivity.Turns.{here_in, past_in}
use Rattle.flatten.proofs.connectivity.Found.{reads_found, reads_more, reads_last, signal_within}
use Rattle.flatten.proofs.connectivity.drivers.undriven.Goals as goal

pub returns-then-is_some-clause-told : goal.returns-then-is_some-clause-told
returns-then-is_some-clause-told c =
    let flat = c.args.flat.now in
    let i = c.loop-statement.statement-index in
    let s = c.statement-item.result in
    let here = here_in c.as_slice-statement-items.result.now flat.statements i s c.as_slice-statement-items.ensures c.loop-statement-test.true c.statement-item.is in
    reads_found flat (IsOpenIn c.args.sources.now) i s here c.open_read-found.result (sym c.is_some.ensures ∙ c.if-is_some.true) c.open_read-found.ensures c.loop-statement.invariant

pub loop-statement-preserved : goal.loop-statement-preserved
loop-statement-preserved c =
    let flat = c.args.flat.now in
    let i = c.loop-statement.statement-index in
    let s = c.statement-item.result in
    let here = here_in c.as_slice-statement-items.result.now flat.statements i s c.as_slice-statement-items.ensures c.loop-statement-test.true c.statement-item.is in
    reads_more flat (IsOpenIn c.args.sources.now) i s here c.open_read-found.result (sym c.is_some.ensures ∙ c.if-is_some.false) c.open_read-found.ensures c.loop-statement.invariant

pub returns-clause-told : goal.returns-clause-told
returns-clause-told c =
    let flat = c.args.flat.now in
    let i = c.loop-statement.statement-index in
    let past = past_in c.as_slice-statement-items.result.now flat.statements i c.as_slice-statement-items.ensures c.loop-statement-test.false in
    reads_last flat (IsOpenIn c.args.sources.now) i past c.as_slice.result.now (c.as_slice.ensures ∙ sym (inputs_are flat).2) c.first_open.result c.first_open.ensures c.loop-statement.invariant

pub returns-clause-within : goal.returns-clause-within
returns-clause-within c =
    let flat = c.args.flat.now in
    signal_within (length flat.names) c.as_slice.result.now (subst (λ zs. All (λ n. n < length flat.names) zs) (sym c.as_slice.ensures) c.keeps.ensures.outputs) (IsOpenIn c.args.sources.now) c.first_open.result c.first_open.ensures

pub first_open-requires : goal.first_open-requires
first_open-requires c =
    let flat = c.args.flat.now in
    subst (λ (zs : List ℕ). All (λ n. n < length c.args.sources.now) zs) (sym c.as_slice.ensures) (subst (λ (k : ℕ). All (λ n. n < k) flat.outputs) (sym c.requires.len) c.keeps.ensures.outputs)
