use Rattle.std.proofs.Common.{◌≡◌, ◌∙◌, ℕ, ◌%◌, ap, sym, arith}
use Rattle.aig.specs.Values.{value}
use Rattle.aig.proofs.Literals.{flip-even, flip-odd}
use Rattle.aig.proofs.Meaning.{value-flip}
use Rattle.aig.proofs.graph.Aig.not.Goals as goal

odd : (x : ℕ) → (x % 2 ≡ 0 → ⊥) → x % 2 ≡ 1
odd x h = omega (arith, h)

pub returns-then-l-eq0-clause-literal : goal.returns-then-l-eq0-clause-literal
returns-then-l-eq0-clause-literal c = sym (flip-even c.args.l.0 c.if-l-eq0.true)

pub returns-then-l-eq0-clause-value : goal.returns-then-l-eq0-clause-value
returns-then-l-eq0-clause-value c = λ g a. ap (value g a) (sym (flip-even c.args.l.0 c.if-l-eq0.true)) ∙ value-flip g a c.args.l.0

pub returns-else-l-eq0-clause-literal : goal.returns-else-l-eq0-clause-literal
returns-else-l-eq0-clause-literal c = sym (flip-odd c.args.l.0 (odd c.args.l.0 c.if-l-eq0.false))

pub returns-else-l-eq0-clause-value : goal.returns-else-l-eq0-clause-value
returns-else-l-eq0-clause-value c = λ g a. ap (value g a) (sym (flip-odd c.args.l.0 (odd c.args.l.0 c.if-l-eq0.false))) ∙ value-flip g a c.args.l.0
