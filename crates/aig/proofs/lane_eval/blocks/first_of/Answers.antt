-- No bit of 0 is set; else the bits are tried in order.
use Rattle.std.proofs.Common.{ℕ, ◌/◌, ◌%◌, ◌^◌, ap, sym, ◌∙◌, true≢false, below_more, arith}
use Rattle.std.specs.Prelude.{◌==◌}
use Rattle.std.proofs.lemmas.Bool.Decides.{Decides-eqb}
use Rattle.aig.specs.lane_eval.Blocks.{word_bit}
use Rattle.aig.proofs.lane_eval.Bits.{word_bit-zero}
use Rattle.aig.proofs.lane_eval.blocks.first_of.Goals as goal

pub returns-then-word-eq0 : goal.returns-then-word-eq0
returns-then-word-eq0 c = λ j inside set. true≢false (sym set ∙ ap (λ (w : ℕ). word_bit w j) c.if-word-eq0.true ∙ word_bit-zero j)

pub returns-then-word-j-eq1 : goal.returns-then-word-j-eq1
unfolding word_bit
returns-then-word-j-eq1 c = (omega arith, ap (λ (r : ℕ). r == 1) c.if-word-j-eq1.true, c.loop-j.invariant)

pub loop-j-preserved : goal.loop-j-preserved
unfolding word_bit
loop-j-preserved c = below_more _ _ c.loop-j.invariant (λ h. c.if-word-j-eq1.false ((Decides-eqb (c.args.word / 2 ^ c.loop-j.j % 2) 1).0 h))

pub returns : goal.returns
returns c = λ j inside. c.loop-j.invariant j (omega arith)
