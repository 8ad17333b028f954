-- Cells and the numbers of their signals.
use Rattle.std.proofs.Common.{◌≡◌, ◌+◌, ◌-◌, ◌*◌, ◌/◌, ◌%◌, ◌^◌, ◌<◌, ◌≤◌, ◌∙◌, ℕ, zero, suc, Bool, true, false, refl, sym, ap, subst, arith}
use Rattle.std.specs.Prelude.{nat_lt, ◌==◌, if◌then◌else◌}
use Rattle.std.proofs.lemmas.Bool.{ltb-true, ltb-false, lt-ltb, le-ltb}
use Rattle.circuit_theory.specs.declared.Side.{Side}
use Rattle.circuit_theory.specs.declared.Side.TheVariants.{A, B}
use Rattle.job_gen.specs.declared.pair_gen.cells.Cell.{Cell}
use Rattle.job_gen.specs.declared.pair_gen.cells.Cell.TheVariants.{Input, Latch, Gate}
use Rattle.job_gen.specs.pair_gen.Cells.{column_of, data_of, shown_by}
use Rattle.job_gen.specs.pair_gen.Twins.{place_of}
use Rattle.job_gen.specs.pair_gen.Sketch.{latch_cell, gate_cell, cell_at, number_of}

-- the cell stands in a generated circuit
abbrev pub IsPlaced : Cell → Type 0
IsPlaced (Input c) = c < 40
IsPlaced (Latch s c) = (s < 3) × (c < 40)
IsPlaced (Gate s l c) = (s < 3) × (l < 42) × (c < 40)

-- a place in parts, and put together
pub gate_whole : (k : ℕ) → 1680 * (k / 1680) + 40 * (k / 40 % 42) + k % 40 ≡ k
gate_whole k = omega arith

pub latch_whole : (j : ℕ) → 40 * (j / 40) + j % 40 ≡ j
latch_whole j = omega arith

pub stage_of_place : (s l c : ℕ) → l < 42 → c < 40 → place_of s l c / 1680 ≡ s
stage_of_place s l c hl hc = omega arith

pub layer_of_place : (s l c : ℕ) → l < 42 → c < 40 → place_of s l c / 40 % 42 ≡ l
layer_of_place s l c hl hc = omega arith

pub column_of_place : (s l c : ℕ) → l < 42 → c < 40 → place_of s l c % 40 ≡ c
column_of_place s l c hl hc = omega arith

pub place_within : (s l c : ℕ) → s < 3 → l < 42 → c < 40 → place_of s l c < 5040
place_within s l c hs hl hc = omega arith

pub latch_stage : (s c : ℕ) → c < 40 → (40 * s + c) / 40 ≡ s
latch_stage s c hc = omega arith

pub latch_column : (s c : ℕ) → c < 40 → (40 * s + c) % 40 ≡ c
latch_column s c hc = omega arith

pub latch_within : (s c : ℕ) → s < 3 → c < 40 → 40 * s + c < 120
latch_within s c hs hc = omega arith

pub gate_placed : (k : ℕ) → k < 5040 → IsPlaced (gate_cell k)
gate_placed k h = (omega arith, omega arith, omega arith)

pub latch_placed : (j : ℕ) → j < 120 → IsPlaced (latch_cell j)
latch_placed j h = (omega arith, omega arith)

-- the cell at a number, by the kind of cell
pub cell_at-input : (n : ℕ) → n < 40 → cell_at n ≡ Input n
cell_at-input n h = ap (λ (b : Bool). if b then Input n else if nat_lt n 160 then latch_cell (n - 40) else gate_cell (n - 160)) (lt-ltb n 40 h)

pub cell_at-latch : (n j : ℕ) → n ≡ 40 + j → j < 120 → cell_at n ≡ latch_cell j
cell_at-latch n j e h =
    ap (λ (b : Bool). if b then Input n else if nat_lt n 160 then latch_cell (n - 40) else gate_cell (n - 160)) (le-ltb n 40 (omega arith))
    ∙ ap (λ (b : Bool). if b then latch_cell (n - 40) else gate_cell (n - 160)) (lt-ltb n 160 (omega arith))
    ∙ ap latch_cell (let at : n - 40 ≡ j = omega arith in at)

pub cell_at-gate : (n k : ℕ) → n ≡ 160 + k → cell_at n ≡ gate_cell k
cell_at-gate n k e =
    ap (λ (b : Bool). if b then Input n else if nat_lt n 160 then latch_cell (n - 40) else gate_cell (n - 160)) (le-ltb n 40 (omega arith))
    ∙ ap (λ (b : Bool). if b then latch_cell (n - 40) else gate_cell (n - 160)) (le-ltb n 160 (omega arith))
    ∙ ap gate_cell (let at : n - 160 ≡ k = omega arith in at)

-- each number of a signal is that of a cell that stands in the circuit
pub record OfCell (n : ℕ) : Type 0 where
  pub placed : IsPlaced (cell_at n)
  pub number : number_of (cell_at n) ≡ n

pub of_cell : (n : ℕ) → n < 5200 → OfCell n
of_cell n h = first (nat_lt n 40) refl
  where
    along : (cell : Cell) → cell_at n ≡ cell → IsPlaced cell → number_of cell ≡ n → OfCell n
    along cell e placed number = record { placed = subst IsPlaced (sym e) placed; number = ap number_of e ∙ number }

    second : 40 ≤ n → (b : Bool) → nat_lt n 160 ≡ b → OfCell n
    second low true e =
        let under : n < 160 = ltb-true n 160 e in
        along (latch_cell (n - 40)) (cell_at-latch n (n - 40) (omega arith) (omega arith)) (latch_placed (n - 40) (omega arith)) (let whole = latch_whole (n - 40) in omega (arith, whole))
    second low false e =
        let over : 160 ≤ n = ltb-false n 160 e in
        along (gate_cell (n - 160)) (cell_at-gate n (n - 160) (omega arith)) (gate_placed (n - 160) (omega arith)) (let whole = gate_whole (n - 160) in omega (arith, whole))

    first : (b : Bool) → nat_lt n 40 ≡ b → OfCell n
    first true e = let under : n < 40 = ltb-true n 40 e in along (Input n) (cell_at-input n under) under refl
    first false e = second (ltb-false n 40 e) (nat_lt n 160) refl

-- the cell of a cell's number
pub cell_at-number : (cell : Cell) → IsPlaced cell → cell_at (number_of cell) ≡ cell
cell_at-number (Input c) h = cell_at-input c h
cell_at-number (Latch s c) h =
    cell_at-latch (40 + 40 * s + c) (40 * s + c) (omega arith) (latch_within s c h.0 h.1)
    ∙ ap (λ (t : ℕ). Latch t ((40 * s + c) % 40)) (latch_stage s c h.1) ∙ ap (Latch s) (latch_column s c h.1)
cell_at-number (Gate s l c) h =
    cell_at-gate (160 + 1680 * s + 40 * l + c) (place_of s l c) (omega arith)
    ∙ ap (λ (t : ℕ). Gate t (place_of s l c / 40 % 42) (place_of s l c % 40)) (stage_of_place s l c h.1 h.2)
    ∙ ap (λ (t : ℕ). Gate s t (place_of s l c % 40)) (layer_of_place s l c h.1 h.2)
    ∙ ap (Gate s l) (column_of_place s l c h.1 h.2)

pub number_within : (cell : Cell) → IsPlaced cell → number_of cell < 5200
number_within (Input c) h = omega (arith, h)
number_within (Latch s c) h = omega (arith, h.0, h.1)
number_within (Gate s l c) h = omega (arith, h.0, h.1, h.2)

-- what a gate reads has a lower number than its layer, and stands in the circuit
pub column_below : (circuit : Side) (s l c : ℕ) → c < 40 → number_of (column_of circuit s l c) < 160 + 1680 * s + 40 * l
column_below A zero zero c h = omega (arith, h)
column_below B zero zero c h = omega (arith, h)
column_below A (suc s) zero c h = omega (arith, h)
column_below B (suc s) zero c h = omega (arith, h)
column_below A zero (suc l) c h = omega (arith, h)
column_below A (suc s) (suc l) c h = omega (arith, h)
column_below B zero (suc l) c h = by (l == 40)
  where
    by : (b : Bool) → number_of (if b then Latch 0 c else Gate 0 l c) < 160 + 1680 * 0 + 40 * suc l
    by true = omega (arith, h)
    by false = omega (arith, h)
column_below B (suc s) (suc l) c h = by (l == 40)
  where
    by : (b : Bool) → number_of (if b then Latch (suc s) c else Gate (suc s) l c) < 160 + 1680 * suc s + 40 * suc l
    by true = omega (arith, h)
    by false = omega (arith, h)

pub column_placed : (circuit : Side) (s l c : ℕ) → s < 3 → l < 42 → c < 40 → IsPlaced (column_of circuit s l c)
column_placed A zero zero c hs hl h = h
column_placed B zero zero c hs hl h = h
column_placed A (suc s) zero c hs hl h = (omega arith, h)
column_placed B (suc s) zero c hs hl h = (omega arith, omega arith, h)
column_placed A zero (suc l) c hs hl h = (omega arith, omega arith, h)
column_placed A (suc s) (suc l) c hs hl h = (hs, omega arith, h)
column_placed B zero (suc l) c hs hl h = by (l == 40)
  where
    by : (b : Bool) → IsPlaced (if b then Latch 0 c else Gate 0 l c)
    by true = (omega arith, h)
    by false = (omega arith, omega arith, h)
column_placed B (suc s) (suc l) c hs hl h = by (l == 40)
  where
    by : (b : Bool) → IsPlaced (if b then Latch (suc s) c else Gate (suc s) l c)
    by true = (hs, h)
    by false = (hs, omega arith, h)

pub data_placed : (circuit : Side) (s c : ℕ) → s < 3 → c < 40 → IsPlaced (data_of circuit s c)
data_placed A s c hs h = (hs, omega arith, h)
data_placed B s c hs h = (hs, omega arith, h)

pub shown_placed : (circuit : Side) (c : ℕ) → c < 40 → IsPlaced (shown_by circuit c)
shown_placed A c h = (omega arith, h)
shown_placed B c h = (omega arith, omega arith, h)

-- what the gate of a place reads has a small number
pub column_small : (circuit : Side) (k d : ℕ) → k < 5040 → d < 40 → number_of (column_of circuit (k / 1680) (k / 40 % 42) d) < 2 ^ 32
column_small circuit k d h l = let below = column_below circuit (k / 1680) (k / 40 % 42) d l in omega (arith, below, h)
