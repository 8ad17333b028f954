use Rattle.std.proofs.Common.{◌≡◌, ◌∙◌, ◌++◌, ◌∷◌, [], ap, append_assoc}
use Rattle.lrat_core.specs.dimacs_text.dimacs_writer.Written.{literal_piece}
use Rattle.lrat_core.proofs.Loops.{pieces_more, pieces_whole}
use Rattle.lrat_core.proofs.dimacs_text.dimacs_writer.writer.put_literals.Goals as goal

pub loop-literal-preserved : goal.loop-literal-preserved
loop-literal-preserved c =
    let x = c.literal-item.result in
    let put : c.put.new.text.items ≡ c.loop-literal.text.items ++ literal_piece x = c.in_ok-put.ensures.ok ∙ (ap (λ t. t ++ 32 ∷ []) c.in_ok-put_literal.ensures ∙ (rw append_assoc)) in
    pieces_more literal_piece c.args.text.now.items c.loop-literal.text.items c.put.new.text.items c.args.literals.now c.loop-literal.literal-index x c.loop-literal.invariant put c.literal-item.is c.loop-literal-test.true

pub returns : goal.returns
returns c = pieces_whole literal_piece c.args.text.now.items c.loop-literal.text.items c.args.literals.now c.loop-literal.literal-index c.loop-literal.invariant c.loop-literal-test.false
