-- Block after block.
use Rattle.std.proofs.Common.{◌≡◌, ◌∙◌, ℕ, ◌≤◌, ◌^◌, Option, Some, None, length, arith, subst}
use Rattle.std.proofs.lemmas.Nat.{one_shl}
use Rattle.std.proofs.Math.Pow.{pow_mono}
use Rattle.aig.specs.declared.lane_eval.table.Table.{Table}
use Rattle.aig.specs.lane_eval.Renaming.{IsFirstOfBlock}
use Rattle.aig.proofs.lane_eval.Compared.{none-here, none-within, least-here}
use Rattle.aig.proofs.lane_eval.table.least.Goals as goal
use Rattle.aig.proofs.lane_eval.table.least.Goals.{in-Some+else-assignment-total, in_default}

first-at : (t : Table) (count count' number : ℕ) (o : Option ℕ) → count' ≡ count → IsFirstOfBlock t count' number o → IsFirstOfBlock t count number o
first-at t count count' number o e = subst (λ (n : ℕ). IsFirstOfBlock t n number o) e

pub returns-then-assignment-total : goal.returns-then-assignment-total
returns-then-assignment-total c =
    least-here c.args.table.now (length c.args.inputs.now) c.loop-number.number _ c.in-Some.lane (one_shl (length c.args.inputs.now) 32 (omega (arith, c.requires.few))) c.loop-number.invariant.none
    (first-at c.args.table.now (length c.args.inputs.now) (length c.loop-number.inputs) c.loop-number.number (Some c.in-Some.lane) c.loop-number.invariant.inputs (c.in-Some.ensures {u = tt}).first) c.if-assignment-total.true

pub loop-number-preserved : goal.loop-number-preserved
loop-number-preserved c = record {
  inputs = c.first_of_block.ensures.inputs ∙ c.loop-number.invariant.inputs;
  blocks = c.first_of_block.ensures.blocks ∙ c.loop-number.invariant.blocks;
  none = elim c.match-first_of_block.branch [
    | in-Some+else-assignment-total w ↦ none-within c.args.table.now (length c.args.inputs.now) c.loop-number.number _ w.in-Some.lane c.loop-number.invariant.none
        (first-at c.args.table.now (length c.args.inputs.now) (length c.loop-number.inputs) c.loop-number.number (Some w.in-Some.lane) c.loop-number.invariant.inputs (w.in-Some.ensures {u = tt}).first) w.if-assignment-total.false
    | in_default w ↦ none-here c.args.table.now (length c.args.inputs.now) c.loop-number.number _ c.loop-number.invariant.none
        (first-at c.args.table.now (length c.args.inputs.now) (length c.loop-number.inputs) c.loop-number.number None c.loop-number.invariant.inputs (w.in_default.ensures {u = tt}).first)
  ];
}

pub first_of_block-requires-clause-number : goal.first_of_block-requires-clause-number
first_of_block-requires-clause-number c =
    let most : 2 ^ length c.args.inputs.now ≤ 2 ^ 24 = pow_mono c.requires.few in
    omega (arith, one_shl (length c.args.inputs.now) 32 (omega (arith, c.requires.few)), most, c.loop-number-test.true, c.loop-number.auto.number-end)
