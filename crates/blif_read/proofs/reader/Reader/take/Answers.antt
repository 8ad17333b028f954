use Rattle.std.proofs.Common.{sym, ◌∙◌, [], drop, take, length, ◌-◌}
use Rattle.blif_read.specs.declared.error.ReadKind.TheVariants as kind
use Rattle.blif_read.proofs.Steps.{take_row_step, take_word_step, take_control, take_unknown, take_unsupported, refused, take_rest, is_word_unless}
use Rattle.blif_read.proofs.reader.Reader.take.Goals as goal

pub returns-then-any_control : goal.returns-then-any_control
returns-then-any_control c = λ before means.
    refused _ kind.ControlByte _ c.fault.result c.fault.ensures (take_control before c.args.number c.args.tokens.now c.requires.some (sym c.any_control.ensures ∙ c.if-any_control.true))

pub returns-in-Row : goal.returns-in-Row
returns-in-Row c = λ before means.
    take_row_step before c.args.number c.args.tokens.now (record { ref_ptr = (0, 0); now = [] }) c.take_row.new.self c.take_row.result c.requires.some
    (sym c.head_of-head.ensures ∙ c.in-Row.is) (sym c.any_control.ensures ∙ c.if-any_control.false) (λ word. c.take_row.ensures before c.args.number word means)

pub returns-in_ok-word_of-in-Unsupported : goal.returns-in_ok-word_of-in-Unsupported
returns-in_ok-word_of-in-Unsupported c = λ before means.
    refused _ (kind.Unsupported c.in_ok-word_of-in-Unsupported.field-0) _ c.fault-in-Unsupported.result c.fault-in-Unsupported.ensures
    (take_unsupported before c.args.number c.args.tokens.now (record { ref_ptr = (0, 0); now = [] }) c.in_ok-word_of-in-Unsupported.field-0 c.requires.some
    (sym c.head_of-head.ensures ∙ c.in-Unsupported.is) (sym c.any_control.ensures ∙ c.if-any_control.false) c.in_ok-word_of-in-Unsupported.ensures)

pub returns-in-Unknown : goal.returns-in-Unknown
returns-in-Unknown c = λ before means.
    refused _ kind.UnknownWord _ c.fault-in-Unknown.result c.fault-in-Unknown.ensures
    (take_unknown before c.args.number c.args.tokens.now (record { ref_ptr = (0, 0); now = [] }) c.requires.some (sym c.head_of-head.ensures ∙ c.in-Unknown.is) (sym c.any_control.ensures ∙ c.if-any_control.false))

pub returns-in_default : goal.returns-in_default
returns-in_default c = λ before means.
    take_word_step before c.args.number c.args.tokens.now (take (length c.args.tokens.now - 1) (drop 1 c.args.tokens.now)) (record { ref_ptr = (0, 0); now = [] }) c.head_of-head.result c.take_word.new.self c.take_word.result c.requires.some
    (sym c.head_of-head.ensures) (is_word_unless c.head_of-head.result c.in_default.not-Row c.in_default.not-Unsupported c.in_default.not-Unknown) (sym c.any_control.ensures ∙ c.if-any_control.false) (take_rest c.args.tokens.now) (λ word. c.take_word.ensures before word means)
