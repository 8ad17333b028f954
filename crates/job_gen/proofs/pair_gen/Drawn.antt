-- A circuit of a pair that grows by one cell.
use Rattle.std.proofs.Common.{◌≡◌, ◌+◌, ◌*◌, ◌/◌, ◌%◌, ◌^◌, ◌<◌, ◌∙◌, ℕ, Bool, false, List, [], ◌∷◌, ◌++◌, length, slice_get, Option, Some, refl, sym, ap, ap₂, subst, arith, inl, inr}
use Rattle.std.specs.List.{All, Contains}
use Rattle.std.specs.Prelude.{◌⊎◌, IsSomeAnd, slice_index}
use Rattle.std.proofs.lemmas.List.{length-append}
use Rattle.circuit_theory.proofs.Lists.{All-from_each, Contains-cases, only}
use Rattle.circuit_theory.specs.Cover.{Cover}
use Rattle.circuit_theory.specs.declared.Side.{Side}
use Rattle.base_tables.specs.Table.{is_among}
use Rattle.sec_base.specs.declared.basics.Init.TheVariants as init
use Rattle.flat_net.specs.declared.signals.Signal.{Signal}
use Rattle.flat_net.specs.declared.parts.Port.{Port}
use Rattle.flat_net.specs.declared.parts.Gate.{Gate}
use Rattle.flat_net.specs.declared.parts.LatchAt.{LatchAt}
use Rattle.flat_net.specs.declared.parts.Driver.TheVariants as driver
use Rattle.flat_net.specs.Makes.{MakerView, empty_net, with_input, with_latch, with_gate}
use Rattle.job_gen.specs.declared.pair_gen.cells.Cell.{Cell}
use Rattle.job_gen.specs.declared.pair_gen.cells.Cell.TheVariants as cell
use Rattle.job_gen.specs.pair_gen.Kinds.{kind_of, rows_of}
use Rattle.job_gen.specs.pair_gen.Cells.{name_of, column_of, second_of}
use Rattle.job_gen.specs.pair_gen.Twins.{is_regrouped}
use Rattle.job_gen.specs.pair_gen.Sketch.{IsSketch, latch_cell, gate_cell, cell_at, number_of, signal_of, input_at, latch_at, gate_at, covers_of}
use Rattle.job_gen.proofs.pair_gen.Firsts.{first_of-none, push_more}
use Rattle.job_gen.proofs.pair_gen.Numbers.{cell_at-input, cell_at-latch, cell_at-gate, gate_whole, latch_whole, column_below}
use Rattle.job_gen.proofs.pair_gen.Naming.{fresh}
use Rattle.job_gen.proofs.pair_gen.Rows.{rows_at, rows_width}

both_within : (n : ℕ) (x y : Signal) → x.0 < n → y.0 < n → All (λ (f : Signal). f.0 < n) (x ∷ y ∷ [])
both_within n x y hx hy = All-from_each (λ (f : Signal). f.0 < n) (x ∷ y ∷ []) (λ f h. by f (Contains-cases x f (y ∷ []) h))
  where
    by : (f : Signal) → (x ≡ f) ⊎ Contains (y ∷ []) f → f.0 < n
    by f (inl e) = subst (λ (s : Signal). s.0 < n) e hx
    by f (inr k) = subst (λ (s : Signal). s.0 < n) (only y f k) hy

module _ (circuit : Side) (regroup : Bool) (words : List ℕ) where
  -- nothing is made yet
  pub sketch_none : IsSketch circuit regroup words [] (record { net = empty_net; set = [] }) 0 0 0
  sketch_none = record {
    inputs = sym (first_of-none (input_at circuit));
    outputs = refl;
    gates = sym (first_of-none (gate_at circuit regroup words));
    latches = sym (first_of-none (latch_at circuit false));
    covers = refl;
    size = refl;
    names = sym (first_of-none (λ n. name_of circuit (cell_at n)));
    clock = refl;
    set = sym (first_of-none (λ _. false));
  }

  module _ (covers : List Cover) (made : MakerView) where
    -- there is room for a further signal, whose name is new
    pub room_for : (i j k : ℕ) → IsSketch circuit regroup words covers made i j k → i + j + k < 5200 → length made.net.drivers + 1 < 2 ^ 32
    room_for i j k s l = omega (arith, s.size, l)

    pub name_new : (i j k : ℕ) → IsSketch circuit regroup words covers made i j k → i + j + k < 5200 → (name : List ℕ) (cell : Cell) → name ≡ name_of circuit cell → cell_at (i + j + k) ≡ cell →
        is_among made.net.names name ≡ false
    name_new i j k s l name cell named at = fresh circuit made.net.names (i + j + k) name s.names l (named ∙ ap (name_of circuit) (sym at))

    -- one input more
    pub input_more : (i : ℕ) → i < 40 → IsSketch circuit regroup words covers made i 0 0 → (name : List ℕ) → name ≡ name_of circuit (cell.Input i) →
        IsSketch circuit regroup words covers (record made { net = with_input made.net name }) (i + 1) 0 0
    input_more i l s name named = record {
      inputs = push_more (input_at circuit) i (i + 1) made.net.inputs (record { name = name; signal = record { 0 = length made.net.drivers } }) s.inputs
          (ap₂ (λ (n : List ℕ) (d : ℕ). let p : Port = record { name = n; signal = record { 0 = d } } in p) named (let size = s.size in omega (arith, size))) refl;
      outputs = s.outputs;
      gates = s.gates;
      latches = s.latches;
      covers = s.covers;
      size = omega (arith, length-append made.net.drivers (driver.Input (length made.net.inputs) ∷ []), s.size);
      names = push_more (λ n. name_of circuit (cell_at n)) (i + 0 + 0) (i + 1 + 0 + 0) made.net.names name s.names
          (named ∙ ap (name_of circuit) (sym (ap cell_at (let e : i + 0 + 0 ≡ i = omega arith in e) ∙ cell_at-input i l))) (omega arith);
      clock = s.clock;
      set = s.set;
    }

    -- one latch more
    pub latch_more : (j : ℕ) → j < 120 → IsSketch circuit regroup words covers made 40 j 0 → (name : List ℕ) → name ≡ name_of circuit (latch_cell j) →
        IsSketch circuit regroup words covers (record { net = with_latch made.net name init.DontCare; set = made.set ++ false ∷ [] }) 40 (j + 1) 0
    latch_more j l s name named =
        let here : length made.net.drivers ≡ 40 + 40 * (j / 40) + j % 40 = let whole = latch_whole j in let size = s.size in omega (arith, whole, size) in
        record {
          inputs = s.inputs;
          outputs = s.outputs;
          gates = s.gates;
          latches = push_more (latch_at circuit false) j (j + 1) made.net.latches (record { name = name; next = record { 0 = length made.net.drivers }; out = record { 0 = length made.net.drivers }; init = init.DontCare }) s.latches
              (ap₂ (λ (n : List ℕ) (d : ℕ). let l : LatchAt = record { name = n; next = record { 0 = d }; out = record { 0 = d }; init = init.DontCare } in l) named here) refl;
          covers = s.covers;
          size = omega (arith, length-append made.net.drivers (driver.Latch (length made.net.latches) ∷ []), s.size);
          names = push_more (λ n. name_of circuit (cell_at n)) (40 + j + 0) (40 + (j + 1) + 0) made.net.names name s.names
              (named ∙ ap (name_of circuit) (sym (cell_at-latch (40 + j + 0) j (omega arith) l))) (omega arith);
          clock = s.clock;
          set = push_more (λ _. false) j (j + 1) made.set false s.set refl refl;
        }

    -- one gate more
    pub gate_more : (k : ℕ) → k < 5040 → IsSketch circuit regroup words covers made 40 120 k → (name : List ℕ) (fanins : List Signal) (cover : ℕ) →
        name ≡ name_of circuit (gate_cell k) → fanins ≡ (gate_at circuit regroup words k).fanins → cover ≡ (gate_at circuit regroup words k).cover →
        IsSketch circuit regroup words covers (record made { net = with_gate made.net name fanins cover }) 40 120 (k + 1)
    gate_more k l s name fanins cover named reads rows =
        let here : length made.net.drivers ≡ 160 + 1680 * (k / 1680) + 40 * (k / 40 % 42) + k % 40 = let whole = gate_whole k in let size = s.size in omega (arith, whole, size) in
        record {
          inputs = s.inputs;
          outputs = s.outputs;
          gates = push_more (gate_at circuit regroup words) k (k + 1) made.net.gates (record { fanins = fanins; cover = cover; out = record { 0 = length made.net.drivers } }) s.gates
              (ap₂ (λ (f : List Signal) (c : ℕ). let g : Gate = record { fanins = f; cover = c; out = record { 0 = length made.net.drivers } } in g) reads rows
              ∙ ap (λ (d : ℕ). let g : Gate = record { fanins = (gate_at circuit regroup words k).fanins; cover = (gate_at circuit regroup words k).cover; out = record { 0 = d } } in g) here) refl;
          latches = s.latches;
          covers = s.covers;
          size = omega (arith, length-append made.net.drivers (driver.Gate (length made.net.gates) ∷ []), s.size);
          names = push_more (λ n. name_of circuit (cell_at n)) (40 + 120 + k) (40 + 120 + (k + 1)) made.net.names name s.names
              (named ∙ ap (name_of circuit) (sym (cell_at-gate (40 + 120 + k) k (omega arith)))) (omega arith);
          clock = s.clock;
          set = s.set;
        }

    -- what a gate reads is there
    pub reads_within : (k : ℕ) → IsSketch circuit regroup words covers made 40 120 k → (fanins : List Signal) → fanins ≡ (gate_at circuit regroup words k).fanins →
        All (λ (f : Signal). f.0 < length made.net.drivers) fanins
    reads_within k s fanins reads =
        let whole = gate_whole k in
        let size = s.size in
        let first : number_of (column_of circuit (k / 1680) (k / 40 % 42) (k % 40)) < length made.net.drivers =
        let below = column_below circuit (k / 1680) (k / 40 % 42) (k % 40) (omega arith) in omega (arith, below, whole, size) in
        let second : number_of (column_of circuit (k / 1680) (k / 40 % 42) (second_of (slice_index words k) (k % 40))) < length made.net.drivers =
        let below = column_below circuit (k / 1680) (k / 40 % 42) (second_of (slice_index words k) (k % 40)) (omega arith) in omega (arith, below, whole, size) in
        subst (All (λ (f : Signal). f.0 < length made.net.drivers)) (sym reads)
        (both_within (length made.net.drivers) (signal_of (column_of circuit (k / 1680) (k / 40 % 42) (k % 40))) (signal_of (column_of circuit (k / 1680) (k / 40 % 42) (second_of (slice_index words k) (k % 40)))) first second)

  -- the covers of both fan-ins are there
  pub rows_fit : (made : MakerView) (k : ℕ) → IsSketch circuit regroup words (covers_of circuit regroup) made 40 120 k → (fanins : List Signal) (cover : ℕ) →
      fanins ≡ (gate_at circuit regroup words k).fanins → cover ≡ (gate_at circuit regroup words k).cover →
      IsSomeAnd (slice_get made.net.covers cover) (λ (c : Cover). c.width ≡ length fanins)
  rows_fit made k s fanins cover reads rows =
      let kind = kind_of (slice_index words k) in
      let regrouped = is_regrouped regroup (k / 1680) (k / 40 % 42) in
      let there : slice_get made.net.covers cover ≡ Some (rows_of circuit regrouped kind) =
      ap₂ (λ (cs : List Cover) (n : ℕ). slice_get cs n) s.covers rows ∙ rows_at circuit regroup (k / 1680) (k / 40 % 42) kind in
      let two : length fanins ≡ 2 = ap length reads in
      subst (λ (o : Option Cover). IsSomeAnd o (λ (c : Cover). c.width ≡ length fanins)) (sym there) (rows_width circuit regrouped kind ∙ sym two)
