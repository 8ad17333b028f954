use Rattle.std.proofs.Common.{◌≡◌, ◌<◌, ℕ, List, length, get_or, arith}
use Rattle.call_rows.specs.declared.circuit_samples.cells.Cell.{Cell}
use Rattle.call_rows.specs.declared.circuit_samples.cells.Cell.TheVariants.{Input, Delay, Nand}
use Rattle.call_rows.specs.circuit_samples.Cells.{ReadEarlier}
use Rattle.call_rows.proofs.circuit_samples.CellLaws.{cell_at, input_tells, delay_tells, none_tells, nand_last_tells, nand_first_tells}
use Rattle.call_rows.proofs.circuit_samples.cells.+is_settled.Goals as goal

-- what the cell at the signal reads stands before it
delay_before : (cells : List Cell) (n from : ℕ) → ReadEarlier cells → n < length cells → get_or cells n Input ≡ Delay from → from < n
delay_before cells n from earlier h e = earlier n (Delay from) (cell_at cells n (Delay from) e h)

nand_before : (cells : List Cell) (n left right : ℕ) → ReadEarlier cells → n < length cells → get_or cells n Input ≡ Nand left right → (left < n) × (right < n)
nand_before cells n left right earlier h e = earlier n (Nand left right) (cell_at cells n (Nand left right) e h)

pub is_settled-requires : goal.is_settled-requires
is_settled-requires t c =
    let before = delay_before c.args.cells.now c.args.signal c.in-Delay.from c.requires.earlier c.requires.in_range c.in-Delay.is in
    (omega (arith, before, c.decreases), (c.requires.earlier, omega (arith, before, c.requires.in_range)))

pub is_settled-requires-in-Nand : goal.is_settled-requires-in-Nand
is_settled-requires-in-Nand t c =
    let before = nand_before c.args.cells.now c.args.signal c.in-Nand.left c.in-Nand.right c.requires.earlier c.requires.in_range c.in-Nand.is in
    (omega (arith, before.0, c.decreases), (c.requires.earlier, omega (arith, before.0, c.requires.in_range)))

pub is_settled-requires-then-is_settled : goal.is_settled-requires-then-is_settled
is_settled-requires-then-is_settled t c =
    let before = nand_before c.args.cells.now c.args.signal c.in-Nand.left c.in-Nand.right c.requires.earlier c.requires.in_range c.in-Nand.is in
    (omega (arith, before.1, c.decreases), (c.requires.earlier, omega (arith, before.1, c.requires.in_range)))

pub returns-in-Input : goal.returns-in-Input
returns-in-Input t c = input_tells c.args.cells.now c.args.signal c.args.cycle (cell_at c.args.cells.now c.args.signal Input c.in-Input.is c.requires.in_range)

pub returns-then-cycle-gt0 : goal.returns-then-cycle-gt0
returns-then-cycle-gt0 t c =
    delay_tells c.args.cells.now c.args.signal c.in-Delay.from c.args.cycle c.is_settled.result
    (cell_at c.args.cells.now c.args.signal (Delay c.in-Delay.from) c.in-Delay.is c.requires.in_range) (omega (arith, c.if-cycle-gt0.true)) c.is_settled.ensures

pub returns-else-cycle-gt0 : goal.returns-else-cycle-gt0
returns-else-cycle-gt0 t c =
    none_tells c.args.cells.now c.args.signal c.in-Delay.from c.args.cycle (cell_at c.args.cells.now c.args.signal (Delay c.in-Delay.from) c.in-Delay.is c.requires.in_range)
    (omega (arith, c.if-cycle-gt0.false))

pub returns-then-is_settled : goal.returns-then-is_settled
returns-then-is_settled t c =
    nand_last_tells c.args.cells.now c.args.signal c.in-Nand.left c.in-Nand.right c.args.cycle c.is_settled-in-Nand.result c.is_settled-then-is_settled.result
    (cell_at c.args.cells.now c.args.signal (Nand c.in-Nand.left c.in-Nand.right) c.in-Nand.is c.requires.in_range) c.if-is_settled.true c.is_settled-in-Nand.ensures c.is_settled-then-is_settled.ensures

pub returns-else-is_settled : goal.returns-else-is_settled
returns-else-is_settled t c =
    nand_first_tells c.args.cells.now c.args.signal c.in-Nand.left c.in-Nand.right c.args.cycle c.is_settled-in-Nand.result
    (cell_at c.args.cells.now c.args.signal (Nand c.in-Nand.left c.in-Nand.right) c.in-Nand.is c.requires.in_range) c.if-is_settled.false c.is_settled-in-Nand.ensures
