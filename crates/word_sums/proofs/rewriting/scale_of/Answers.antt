-- Two powers of 2 make 2^64.
use Rattle.std.proofs.Common.{◌≡◌, ℕ, ◌+◌, ◌-◌, ◌*◌, ◌^◌, ◌∙◌, sym, ap, arith}
use Rattle.std.proofs.lemmas.Nat.{one_shl, pow-add, pow_pos}
use Rattle.word_sums.proofs.rewriting.scale_of.Goals as goal

pub returns-clause-whole : goal.returns-clause-whole
returns-clause-whole c =
    let n = c.args.bits in
    let all : 64 - n + n ≡ 64 = omega (arith, c.requires.few) in
    ap (λ (z : ℕ). z * 2 ^ n) (one_shl (64 - n) 64 (omega (arith, c.requires.some))) ∙ sym (pow-add 2 (64 - n) n) ∙ ap (λ (z : ℕ). 2 ^ z) all

pub returns-clause-some : goal.returns-clause-some
returns-clause-some c = omega (arith, one_shl (64 - c.args.bits) 64 (omega (arith, c.requires.some)), pow_pos (64 - c.args.bits))
