-- The next place's number.
use Rattle.std.proofs.Common.{◌∙◌, ℕ, List, [], ◌∷◌, length, ap, subst, sym}
use Rattle.std.proofs.Math.ListN.{length-append}
use Rattle.block_refine.specs.latch_blocks.Numbers.{IsNumberedBy}
use Rattle.block_refine.proofs.latch_blocks.Numbering.{numbered_next}
use Rattle.block_refine.proofs.latch_blocks.numbers.put.Goals as goal

pub returns-clause-numbered : goal.returns-clause-numbered
returns-clause-numbered c = λ key here old.
    subst (λ (l : List ℕ). IsNumberedBy key c.intern.new.self l) (sym c.in_ok-push.ensures.ok)
    (numbered_next key c.args.table.now c.intern.new.self c.args.numbers.now c.in_ok-number.number (c.args.first, c.args.second) here c.in_ok-number.ensures.here c.in_ok-number.ensures.known c.in_ok-number.ensures.added old)

pub returns-clause-one : goal.returns-clause-one
returns-clause-one c = ap length c.in_ok-push.ensures.ok ∙ length-append c.args.numbers.now (c.in_ok-number.number ∷ [])
