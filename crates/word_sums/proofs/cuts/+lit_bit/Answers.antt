-- The bit is a leaf's, the constant's, or that of the and of both operands.
use Rattle.std.proofs.Common.{ℕ, ◌*◌, ◌∙◌, sym, ap}
use Rattle.aig.specs.Values.{value}
use Rattle.word_sums.proofs.cuts.+lit_bit.Goals as goal

pub returns-in-Some : goal.returns-in-Some
returns-in-Some t c = λ a at.
    let g = c.args.graph.now in
    c.signed.ensures g a (ap (λ (n : ℕ). value g a (2 * n)) (sym c.node.ensures) ∙ c.in-Some.ensures g a at)
