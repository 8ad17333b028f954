use Rattle.std.proofs.Common.{ℕ, map, subst, arith}
use Rattle.flat_net.specs.declared.parts.Port.{Port}
use Rattle.sec_setup.specs.ports.Numbered.{AreNumbers}
use Rattle.sec_setup.proofs.ports.Numbering.{numbered_from}
use Rattle.sec_setup.proofs.ports.numbers.orders_of.Goals as goal

pub numbers_of-requires-2 : goal.numbers_of-requires-2
numbers_of-requires-2 c = record { few = omega (arith, c.requires, c.len.ensures, c.in_ok-left.ensures.few) }

pub returns : goal.returns
returns c =
    numbered_from c.args.a.now c.args.b.now c.keeps.ensures.sound c.keeps-2.ensures.sound c.args.columns.now c.keeps-3.ensures c.in_ok-left.middle _ (record { left = c.in_ok-left.left; right = c.in_ok-right.right })
    (subst (λ (f : ℕ). AreNumbers (map (λ (p : Port). p.name) c.args.a.now.inputs) c.args.columns.now f c.in_ok-left.middle c.in_ok-left.left) c.len.ensures c.in_ok-left.ensures.numbers) c.in_ok-right.ensures.numbers
