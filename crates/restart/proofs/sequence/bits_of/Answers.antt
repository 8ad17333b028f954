-- One bit more for each name.
use Rattle.std.proofs.Common.{◌≡◌, ◌+◌, ℕ, Bool, List, [], ◌∷◌, ◌++◌, Some, length, slice_get, length-append, sym, ap, subst, arith}
use Rattle.std.proofs.lemmas.Option.{slice_get_within}
use Rattle.cycle_sim.proofs.Lists.{item_at}
use Rattle.restart.proofs.Rows.{RowUpTo, bit_more}
use Rattle.restart.proofs.sequence.bits_of.Goals as goal

pub loop-name-init : goal.loop-name-init
loop-name-init c = (ap length c.new-bits.ensures, λ i j name bit h r m low. absurd (omega (arith, low)))

pub loop-name-preserved : goal.loop-name-preserved
loop-name-preserved c =
    let bits = c.loop-name.bits in
    let b = c.bit_of.result in
    let grown : c.push.new.self ≡ bits ++ b ∷ [] = c.in_ok-push.ensures.ok in
    let at = item_at c.args.names.now _ c.loop-name.name-index c.name-item.result c.as_slice-name-items.ensures c.loop-name-test.true c.name-item.is in
    let is = subst (λ (name : List ℕ). (i : ℕ) (bit : Bool) → slice_get c.args.header.now i ≡ Some name → slice_get c.args.row.now i ≡ Some bit → b ≡ bit) c.as_slice.ensures c.bit_of.ensures in
    let size = ap length grown in (
      omega (arith, size, length-append bits (b ∷ []), c.loop-name.invariant.0),
      subst (λ (bs : List Bool). RowUpTo c.args.header.now c.args.row.now c.args.names.now bs (c.loop-name.name-index + 1)) (sym grown)
          (bit_more c.args.header.now c.args.row.now c.args.names.now bits c.loop-name.name-index c.name-item.result b c.loop-name.invariant.0 at is c.loop-name.invariant.1),
    )

pub returns-clause-size : goal.returns-clause-size
returns-clause-size c = omega (arith, c.loop-name.invariant.0, c.loop-name-test.false, c.loop-name.auto.name-index-end, ap length c.as_slice-name-items.ensures)

pub returns-clause-each : goal.returns-clause-each
returns-clause-each c = λ i j name bit h r m.
    let low = slice_get_within c.args.names.now j name m in
    c.loop-name.invariant.1 i j name bit h r m (omega (arith, low, c.loop-name-test.false, ap length c.as_slice-name-items.ensures))
