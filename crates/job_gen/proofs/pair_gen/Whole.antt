-- The whole circuit of a pair.
use Rattle.std.proofs.Common.{◌≡◌, ◌+◌, ◌*◌, ◌/◌, ◌%◌, ◌<◌, ◌∙◌, ℕ, Bool, true, List, length, map, slice_get, Some, refl, sym, ap, ap₂, arith}
use Rattle.std.specs.Prelude.{slice_index}
use Rattle.std.proofs.lemmas.Bool.{lt-ltb}
use Rattle.std.proofs.lemmas.Option.{slice_get_within, same_Some}
use Rattle.circuit_theory.specs.Cover.{Cover}
use Rattle.circuit_theory.specs.declared.Side.{Side}
use Rattle.base_tables.specs.Table.{AreDistinct}
use Rattle.base_tables.proofs.TableLemmas.{key_at}
use Rattle.flat_net.specs.declared.parts.Port.{Port}
use Rattle.flat_net.specs.declared.parts.LatchAt.{LatchAt}
use Rattle.flat_net.specs.View.{NetView}
use Rattle.flat_net.specs.Makes.{MakerView}
use Rattle.flat_net.specs.Comparable.{IsComparable}
use Rattle.job_gen.specs.declared.pair_gen.cells.Cell.{Cell}
use Rattle.job_gen.specs.declared.pair_gen.cells.Cell.TheVariants as cell
use Rattle.job_gen.specs.pair_gen.Kinds.{kind_of}
use Rattle.job_gen.specs.pair_gen.Cells.{name_of, output_name, column_of, data_of, shown_by, second_of}
use Rattle.job_gen.specs.pair_gen.Twins.{place_of, IsOf, HasInput, HasOutput, HasLatch, HasGate, IsTwin}
use Rattle.job_gen.specs.pair_gen.Sketch.{IsSketch, IsTied, first_of, cell_at, number_of, signal_of, input_at, output_at, latch_at, gate_of, gate_at, covers_of}
use Rattle.job_gen.proofs.pair_gen.Firsts.{at_first, length-first_of}
use Rattle.job_gen.proofs.pair_gen.Naming.{same_output}
use Rattle.job_gen.proofs.pair_gen.Numbers.{IsPlaced, cell_at-number, number_within, column_placed, data_placed, shown_placed, stage_of_place, layer_of_place, column_of_place, place_within, latch_stage, latch_column, latch_within}
use Rattle.job_gen.proofs.pair_gen.Rows.{rows_at}

module _ (circuit : Side) (regroup : Bool) (words : List ℕ) (before made : MakerView) (net : NetView)
    (s : IsSketch circuit regroup words (covers_of circuit regroup) before 40 120 5040) (t : IsTied circuit before made 120)
    (e : net ≡ record made.net { outputs = first_of (output_at circuit) 40 }) where
  names : net.names ≡ first_of (λ n. name_of circuit (cell_at n)) 5200
  names = ap (λ (m : NetView). m.names) e ∙ ap (λ (m : NetView). m.names) t.net ∙ s.names

  inputs : net.inputs ≡ first_of (input_at circuit) 40
  inputs = ap (λ (m : NetView). m.inputs) e ∙ ap (λ (m : NetView). m.inputs) t.net ∙ s.inputs

  outputs : net.outputs ≡ first_of (output_at circuit) 40
  outputs = ap (λ (m : NetView). m.outputs) e

  gates : net.gates ≡ first_of (gate_at circuit regroup words) 5040
  gates = ap (λ (m : NetView). m.gates) e ∙ ap (λ (m : NetView). m.gates) t.net ∙ s.gates

  covers : net.covers ≡ covers_of circuit regroup
  covers = ap (λ (m : NetView). m.covers) e ∙ ap (λ (m : NetView). m.covers) t.net ∙ s.covers

  latches : net.latches ≡ made.net.latches
  latches = ap (λ (m : NetView). m.latches) e

  -- a cell's signal has its name
  is_of : (c : Cell) → IsPlaced c → IsOf circuit net c (signal_of c)
  is_of c placed =
      at_first (λ n. name_of circuit (cell_at n)) net.names 5200 (number_of c) names (number_within c placed)
      ∙ ap (λ (d : Cell). Some (name_of circuit d)) (cell_at-number c placed)

  input : (c : ℕ) → c < 40 → HasInput circuit net c
  input c l = record { port = input_at circuit c; at = at_first (input_at circuit) net.inputs 40 c inputs l; name = refl }

  output : (c : ℕ) → c < 40 → HasOutput circuit net c
  output c l = record {
    port = output_at circuit c;
    at = at_first (output_at circuit) net.outputs 40 c outputs l;
    name = refl;
    shows = is_of (shown_by circuit c) (shown_placed circuit c l);
  }

  latch : (g c : ℕ) → g < 3 → c < 40 → HasLatch circuit net g c
  latch g c lg lc =
      let stage = latch_stage g c lc in
      let column = latch_column g c lc in
      let place = 40 * g + c in
      record {
        latch = latch_at circuit true place;
        at = ap (λ (ls : List LatchAt). slice_get ls place) latches ∙ t.latches place (latch_within g c lg lc) ∙ ap (λ (b : Bool). Some (latch_at circuit b place)) (lt-ltb place 120 (latch_within g c lg lc));
        name = ap₂ (λ (a b : ℕ). name_of circuit (cell.Latch a b)) stage column;
        takes_over = ap₂ (λ (a b : ℕ). slice_get net.names (number_of (data_of circuit a b))) stage column ∙ is_of (data_of circuit g c) (data_placed circuit g c lg lc);
        starts = refl;
      }

  gate : (g l c : ℕ) → g < 3 → l < 42 → c < 40 → HasGate circuit regroup (slice_index words (place_of g l c)) net g l c
  gate g l c lg ll lc =
      let place = place_of g l c in
      let word = slice_index words place in
      let whole : gate_at circuit regroup words place ≡ gate_of circuit regroup word g l c =
      ap (λ (a : ℕ). gate_of circuit regroup word a (place / 40 % 42) (place % 40)) (stage_of_place g l c ll lc)
      ∙ ap (λ (b : ℕ). gate_of circuit regroup word g b (place % 40)) (layer_of_place g l c ll lc)
      ∙ ap (λ (d : ℕ). gate_of circuit regroup word g l d) (column_of_place g l c ll lc) in
      record {
        gate = gate_of circuit regroup word g l c;
        at = at_first (gate_at circuit regroup words) net.gates 5040 place gates (place_within g l c lg ll lc) ∙ ap Some whole;
        is = is_of (cell.Gate g l c) (lg, ll, lc);
        first = signal_of (column_of circuit g l c);
        second = signal_of (column_of circuit g l (second_of word c));
        reads = refl;
        reads_first = is_of (column_of circuit g l c) (column_placed circuit g l c lg ll lc);
        reads_second = is_of (column_of circuit g l (second_of word c)) (column_placed circuit g l (second_of word c) lg ll (omega arith));
        rows = ap (λ (cs : List Cover). slice_get cs (gate_of circuit regroup word g l c).cover) covers ∙ rows_at circuit regroup g l (kind_of word);
      }

  pub twin : IsTwin circuit regroup words net
  twin = record {
    input_count = ap length inputs ∙ length-first_of (input_at circuit) 40;
    inputs = input;
    output_count = ap length outputs ∙ length-first_of (output_at circuit) 40;
    outputs = output;
    latch_count = ap length latches ∙ t.latch_count;
    latches = latch;
    gate_count = ap length gates ∙ length-first_of (gate_at circuit regroup words) 5040;
    gates = gate;
    signal_count = ap (λ (m : NetView). length m.drivers) e ∙ ap (λ (m : NetView). length m.drivers) t.net ∙ s.size;
    clock = ap (λ (m : NetView). m.clock) e ∙ ap (λ (m : NetView). m.clock) t.net ∙ s.clock;
  }

-- the outputs of such a circuit have distinct names, and its ports and latches are few
pub twin_comparable : (circuit : Side) (regroup : Bool) (words : List ℕ) (net : NetView) → IsTwin circuit regroup words net → IsComparable net
twin_comparable circuit regroup words net t = record {
  distinct = distinct;
  few = omega (arith, t.input_count, t.output_count, t.latch_count);
}
  where
    named : (i : ℕ) (name : List ℕ) → slice_get (map (λ (p : Port). p.name) net.outputs) i ≡ Some name → (i < 40) × (name ≡ output_name i)
    named i name h =
        let there = key_at (λ (p : Port). p.name) net.outputs i name h in
        let low = slice_get_within net.outputs i there.0 there.1 in
        let within : i < 40 = let count = t.output_count in omega (arith, low, count) in
        let has = t.outputs i within in
        (within, sym there.2 ∙ ap (λ (p : Port). p.name) (sym (same_Some has.port there.0 (sym has.at ∙ there.1))) ∙ has.name)

    distinct : AreDistinct (map (λ (p : Port). p.name) net.outputs)
    distinct i j name hi hj =
        let first = named i name hi in
        let second = named j name hj in
        same_output i j first.0 second.0 (sym first.1 ∙ second.1)
