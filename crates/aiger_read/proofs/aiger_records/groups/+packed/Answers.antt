use Rattle.std.proofs.Common.{get_or, ◌-◌, sym, ◌∙◌, Some}
use Rattle.aiger_read.proofs.aiger_records.Words.{group_more, group_fits, group_full}
use Rattle.aiger_read.proofs.aiger_records.groups.+packed.Goals as goal

pub returns-clause-number : goal.returns-clause-number
returns-clause-number t c =
    let text = c.args.text.now in
    let found = c.in_ok-value.field-0 in
    group_more c.args.groups text (Some (record { value = found.value; after = found.after.now })) c.in-len1-up.len_at_least c.if-groups-eq0.false c.if-byte-lt128.false (sym c.in_ok-value.ensures.number)
    ∙ group_fits (get_or text 0 0 - 128) (record { value = found.value; after = found.after.now }) c.from-3.result c.from-2.result c.from-4.result c.from-2.ensures c.from-3.ensures c.from-4.ensures c.if-value-from.false

pub returns-then-value-from-clause-number : goal.returns-then-value-from-clause-number
returns-then-value-from-clause-number t c =
    let text = c.args.text.now in
    let found = c.in_ok-value.field-0 in
    group_more c.args.groups text (Some (record { value = found.value; after = found.after.now })) c.in-len1-up.len_at_least c.if-groups-eq0.false c.if-byte-lt128.false (sym c.in_ok-value.ensures.number)
    ∙ group_full (get_or text 0 0 - 128) (record { value = found.value; after = found.after.now }) c.from-3.result c.from-2.result c.from-4.result c.from-2.ensures c.from-3.ensures c.from-4.ensures c.if-value-from.true
