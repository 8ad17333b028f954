use Rattle.std.proofs.Common.{◌≡◌, List, ℕ, get_or, sym, subst}
use Rattle.elaborate.proofs.Spelled.{keeps_on, numbers_more}
use Rattle.elaborate.proofs.numbers.numbers.Goals as goal

pub loop-name-preserved : goal.loop-name-preserved
loop-name-preserved c =
    let at : c.as_slice.result.now ≡ get_or c.args.names.now c.loop-name.name-index c.as_slice.result.now = subst (λ (w : List ℕ). w ≡ get_or c.args.names.now c.loop-name.name-index w) (sym c.as_slice.ensures) c.name-item.is in
    record {
      keeps = keeps_on c.args.table.now c.loop-name.table c.number.new.table c.loop-name.invariant.keeps c.in_ok-number.ensures.keeps;
      named = numbers_more c.loop-name.table c.number.new.table c.loop-name.ids c.push.new.self c.in_ok-number.field-0 c.args.prefix.now c.args.names.now c.loop-name.name-index c.as_slice.result.now c.loop-name-test.true at
          c.loop-name.invariant.named c.in_ok-number.ensures.keeps c.in_ok-number.ensures.named c.in_ok-push.ensures.ok;
    }
