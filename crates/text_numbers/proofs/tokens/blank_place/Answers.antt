use Rattle.std.proofs.Common.{arith, sym, ◌∙◌}
use Rattle.text_numbers.specs.Lines.{is_blank}
use Rattle.text_numbers.proofs.Pieces.{place_found, place_none}
use Rattle.text_numbers.proofs.tokens.blank_place.Goals as goal

pub returns-then-is_blank-clause-place : goal.returns-then-is_blank-clause-place
returns-then-is_blank-clause-place c =
    place_found is_blank c.args.line.now c.loop-place.place (omega arith) c.loop-place.invariant (sym c.is_blank.ensures ∙ c.if-is_blank.true)

pub returns-clause-place : goal.returns-clause-place
returns-clause-place c = place_none is_blank c.args.line.now (λ k h. c.loop-place.invariant k (omega arith))
