use Rattle.std.proofs.Common.{◌≡◌, ◌+◌, ◌<◌, ℕ, max, List, length, get_or, arith}
use Rattle.call_rows.specs.declared.circuit_samples.cells.Cell.{Cell}
use Rattle.call_rows.specs.declared.circuit_samples.cells.Cell.TheVariants.{Input, Delay, Nand}
use Rattle.call_rows.specs.circuit_samples.Cells.{ReadEarlier}
use Rattle.call_rows.proofs.circuit_samples.CellLaws.{cell_at, input_trees, delay_trees, nand_trees, trees_depth, HasTrees}
use Rattle.call_rows.proofs.circuit_samples.cells.+depth.Goals as goal

-- what the cell at the signal reads stands before it
delay_before : (cells : List Cell) (n from : ℕ) → ReadEarlier cells → n < length cells → get_or cells n Input ≡ Delay from → from < n
delay_before cells n from earlier h e = earlier n (Delay from) (cell_at cells n (Delay from) e h)

nand_before : (cells : List Cell) (n left right : ℕ) → ReadEarlier cells → n < length cells → get_or cells n Input ≡ Nand left right → (left < n) × (right < n)
nand_before cells n left right earlier h e = earlier n (Nand left right) (cell_at cells n (Nand left right) e h)

pub depth-requires : goal.depth-requires
depth-requires t c =
    let before = delay_before c.args.cells.now c.args.signal c.in-Delay.from c.requires.earlier c.requires.in_range c.in-Delay.is in
    (omega (arith, before, c.decreases), (c.requires.earlier, omega (arith, before, c.requires.in_range)))

pub overflow_add-result : goal.overflow_add-result
overflow_add-result t c =
    let before = delay_before c.args.cells.now c.args.signal c.in-Delay.from c.requires.earlier c.requires.in_range c.in-Delay.is in
    grind (arith, before, c.depth.ensures.low, c.ranges.signal)

pub depth-left_depth-requires : goal.depth-left_depth-requires
depth-left_depth-requires t c =
    let before = nand_before c.args.cells.now c.args.signal c.in-Nand.left c.in-Nand.right c.requires.earlier c.requires.in_range c.in-Nand.is in
    (omega (arith, before.0, c.decreases), (c.requires.earlier, omega (arith, before.0, c.requires.in_range)))

pub depth-right_depth-requires : goal.depth-right_depth-requires
depth-right_depth-requires t c =
    let before = nand_before c.args.cells.now c.args.signal c.in-Nand.left c.in-Nand.right c.requires.earlier c.requires.in_range c.in-Nand.is in
    (omega (arith, before.1, c.decreases), (c.requires.earlier, omega (arith, before.1, c.requires.in_range)))

pub returns-in-Input-clause-unfolds : goal.returns-in-Input-clause-unfolds
returns-in-Input-clause-unfolds t c = input_trees c.args.cells.now c.args.signal (cell_at c.args.cells.now c.args.signal Input c.in-Input.is c.requires.in_range)

pub returns-in-Input-clause-depth : goal.returns-in-Input-clause-depth
returns-in-Input-clause-depth t c =
    trees_depth c.args.cells.now c.args.signal 0 (input_trees c.args.cells.now c.args.signal (cell_at c.args.cells.now c.args.signal Input c.in-Input.is c.requires.in_range))

pub returns-in-Delay-clause-unfolds : goal.returns-in-Delay-clause-unfolds
returns-in-Delay-clause-unfolds t c =
    delay_trees c.args.cells.now c.args.signal c.in-Delay.from c.depth.result (cell_at c.args.cells.now c.args.signal (Delay c.in-Delay.from) c.in-Delay.is c.requires.in_range) c.depth.ensures.unfolds

pub returns-in-Delay-clause-depth : goal.returns-in-Delay-clause-depth
returns-in-Delay-clause-depth t c =
    trees_depth c.args.cells.now c.args.signal (c.depth.result + 1)
    (delay_trees c.args.cells.now c.args.signal c.in-Delay.from c.depth.result (cell_at c.args.cells.now c.args.signal (Delay c.in-Delay.from) c.in-Delay.is c.requires.in_range) c.depth.ensures.unfolds)

pub returns-in-Delay-clause-low : goal.returns-in-Delay-clause-low
returns-in-Delay-clause-low t c =
    let before = delay_before c.args.cells.now c.args.signal c.in-Delay.from c.requires.earlier c.requires.in_range c.in-Delay.is in
    omega (arith, before, c.depth.ensures.low)

-- the trees of a NAND at the greater depth
greater : (cells : List Cell) (n left right d e m : ℕ) → n < length cells → get_or cells n Input ≡ Nand left right → HasTrees cells left d → HasTrees cells right e → m ≡ max d e → HasTrees cells n m
greater cells n left right d e m h q l r g = nand_trees cells n left right d e m (cell_at cells n (Nand left right) q h) l r g

pub returns-then-left_depth-right_depth-clause-unfolds : goal.returns-then-left_depth-right_depth-clause-unfolds
returns-then-left_depth-right_depth-clause-unfolds t c =
    greater c.args.cells.now c.args.signal c.in-Nand.left c.in-Nand.right c.depth-left_depth.result c.depth-right_depth.result c.depth-right_depth.result c.requires.in_range c.in-Nand.is
    c.depth-left_depth.ensures.unfolds c.depth-right_depth.ensures.unfolds (omega (arith, c.if-left_depth-right_depth.true))

pub returns-then-left_depth-right_depth-clause-depth : goal.returns-then-left_depth-right_depth-clause-depth
returns-then-left_depth-right_depth-clause-depth t c =
    trees_depth c.args.cells.now c.args.signal c.depth-right_depth.result
    (greater c.args.cells.now c.args.signal c.in-Nand.left c.in-Nand.right c.depth-left_depth.result c.depth-right_depth.result c.depth-right_depth.result c.requires.in_range c.in-Nand.is
    c.depth-left_depth.ensures.unfolds c.depth-right_depth.ensures.unfolds (omega (arith, c.if-left_depth-right_depth.true)))

pub returns-then-left_depth-right_depth-clause-low : goal.returns-then-left_depth-right_depth-clause-low
returns-then-left_depth-right_depth-clause-low t c =
    let before = nand_before c.args.cells.now c.args.signal c.in-Nand.left c.in-Nand.right c.requires.earlier c.requires.in_range c.in-Nand.is in
    omega (arith, before.1, c.depth-right_depth.ensures.low)

pub returns-else-left_depth-right_depth-clause-unfolds : goal.returns-else-left_depth-right_depth-clause-unfolds
returns-else-left_depth-right_depth-clause-unfolds t c =
    greater c.args.cells.now c.args.signal c.in-Nand.left c.in-Nand.right c.depth-left_depth.result c.depth-right_depth.result c.depth-left_depth.result c.requires.in_range c.in-Nand.is
    c.depth-left_depth.ensures.unfolds c.depth-right_depth.ensures.unfolds (omega (arith, c.if-left_depth-right_depth.false))

pub returns-else-left_depth-right_depth-clause-depth : goal.returns-else-left_depth-right_depth-clause-depth
returns-else-left_depth-right_depth-clause-depth t c =
    trees_depth c.args.cells.now c.args.signal c.depth-left_depth.result
    (greater c.args.cells.now c.args.signal c.in-Nand.left c.in-Nand.right c.depth-left_depth.result c.depth-right_depth.result c.depth-left_depth.result c.requires.in_range c.in-Nand.is
    c.depth-left_depth.ensures.unfolds c.depth-right_depth.ensures.unfolds (omega (arith, c.if-left_depth-right_depth.false)))

pub returns-else-left_depth-right_depth-clause-low : goal.returns-else-left_depth-right_depth-clause-low
returns-else-left_depth-right_depth-clause-low t c =
    let before = nand_before c.args.cells.now c.args.signal c.in-Nand.left c.in-Nand.right c.requires.earlier c.requires.in_range c.in-Nand.is in
    omega (arith, before.0, c.depth-left_depth.ensures.low)
