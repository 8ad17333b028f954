use Rattle.lrat_core.proofs.lrat_text.Reading.{malformed_there, deletion_there, no_deletion_there}
use Rattle.lrat_core.proofs.lrat_text.line.Buffers.read_line.Goals as goal

pub returns-then-branch : goal.returns-then-branch
returns-then-branch c =
    deletion_there c.args.limit c.args.line.now c.is_comment.result c.in_ok-read_words.field-0 c.read_words.new.numbers.items c.as_slice.result.now c.in_ok-read_deletion-in-Deletion.field-0 c.read_deletion.new.ids.items
    c.is_comment.ensures c.if-is_comment.false c.in_ok-read_words.ensures c.in-Deletion.is c.as_slice.ensures.value c.in_ok-read_deletion-in-Deletion.ensures c.if-branch.true

pub returns-else-branch : goal.returns-else-branch
returns-else-branch c =
    no_deletion_there c.args.limit c.args.line.now c.is_comment.result c.in_ok-read_words.field-0 c.read_words.new.numbers.items c.as_slice.result.now c.in_ok-read_deletion-in-Deletion.field-0 c.read_deletion.new.ids.items
    c.is_comment.ensures c.if-is_comment.false c.in_ok-read_words.ensures c.in-Deletion.is c.as_slice.ensures.value c.in_ok-read_deletion-in-Deletion.ensures c.if-branch.false

pub returns-in-Malformed : goal.returns-in-Malformed
returns-in-Malformed c =
    malformed_there c.args.limit c.args.line.now c.is_comment.result c.in_ok-read_words.field-0 c.read_words.new.numbers.items c.is_comment.ensures c.if-is_comment.false c.in_ok-read_words.ensures c.in-Malformed.is
