-- Runs of a cut circuit over the rows of a stimulus exist.
use Rattle.std.proofs.Common.{◌≡◌, ℕ, Bool, false, List, map, length, slice_get, slice_index_or, Option, Some, None, sym, ◌∙◌, ap, subst, arith, inl, inr, ◌⊎◌}
use Rattle.std.specs.List.{All, Contains}
use Rattle.std.proofs.lemmas.List.{length-replicate}
use Rattle.std.proofs.lemmas.Option.{slice_get_within, get_or_from_slice_get, same_Some}
use Rattle.circuit_theory.specs.Circuit.{Circuit, Named, Latch as latch_equation, IsLatch}
use Rattle.circuit_theory.specs.Run.{IsRun}
use Rattle.circuit_theory.proofs.Lists.{All-from_each, Contains-map_from, of_at, length-map}
use Rattle.base_tables.specs.Table.{AreDistinct}
use Rattle.flat_net.specs.declared.parts.Port.{Port}
use Rattle.flat_net.specs.declared.parts.LatchAt.{LatchAt}
use Rattle.flat_net.specs.Sound.{IsSound}
use Rattle.flat_net.specs.View.{NetView, circuit_of, named, equation_of_latch}
use Rattle.flat_net.proofs.Nets.{some_at, equation_from, input_from, OfGate, OfLatch, OfInput}
use Rattle.cycle_sim.specs.Runs.{IsRunFrom}
use Rattle.cycle_sim.proofs.Lists.{map_at, replicate_at}
use Rattle.cycle_sim.proofs.Runs.{run_exists}
use Rattle.cycle_sim.specs.pair_runs.Feeding.{IsColumn, AreColumns, bit_of, reordered}
use Rattle.cycle_sim.specs.pair_runs.Feeds.{zeros}
use Rattle.job_circuit.specs.replay.Replay.{IsReplayRun}
use Rattle.job_circuit.proofs.replay.FreeInputs.{no_gate_latch}
use Rattle.job_circuit.proofs.replay.FreeMarks.{AreOne, one_back, one_equation, one_input, one_run}

latch_out : (l : LatchAt) (name : List ℕ) (u next : ℕ) → equation_of_latch l ≡ latch_equation name u next → l.out.0 ≡ u
latch_out l name u next e = cc

module _ (header : List (List ℕ)) (m : NetView) (sound : IsSound m) (c : Circuit ℕ) (one : AreOne c (circuit_of m)) (columns : List (Option ℕ)) (are : AreColumns m header columns) (distinct : AreDistinct header) (rows : List (List Bool)) where
  -- the bits of each row, in the order of the inputs
  wide : All (λ (row : List Bool). length row ≡ length m.inputs) (map (reordered columns) rows)
  wide = All-from_each (λ (row : List Bool). length row ≡ length m.inputs) (map (reordered columns) rows) (λ row h.
      let of = Contains-map_from (reordered columns) rows row h in
      ap length (sym of.2) ∙ (length-map (bit_of of.0) columns ∙ are.each))

  made : (run : ℕ → ℕ → Bool) × IsRunFrom m (zeros m) (map (reordered columns) rows) run
  made = run_exists m sound (zeros m) (map (reordered columns) rows) (length-replicate (length m.latches) false) wide

  -- the bit in the column of the name
  bit_here : (row : List Bool) (bit : Bool) (k : ℕ) (name : List ℕ) (column : Option ℕ) → slice_get row k ≡ Some bit → slice_get header k ≡ Some name → IsColumn header name column → bit_of row column ≡ bit
  bit_here row bit k name None at_bit at_name absent = absurd (absent (of_at header k name at_name))
  bit_here row bit k name (Some place) at_bit at_name here = ap (λ (j : ℕ). slice_index_or row j false) (distinct place k name here at_name) ∙ get_or_from_slice_get row k bit false at_bit

  takes : (run : ℕ → ℕ → Bool) → IsRunFrom m (zeros m) (map (reordered columns) rows) run → (t k : ℕ) (row : List Bool) (bit : Bool) (name : List ℕ) (p : ℕ) → slice_get rows t ≡ Some row → slice_get row k ≡ Some bit → slice_get header k ≡ Some name →
      Contains c.inputs (record { name = name; place = p }) → run t p ≡ bit
  takes run from t k row bit name p at at_bit at_name stands = go (input_from m (record { name = name; place = p }) (one_input c (circuit_of m) one (record { name = name; place = p }) stands))
    where
      go : OfInput m (record { name = name; place = p }) → run t p ≡ bit
      go of =
          let e = are.each in
          let column = some_at columns of.j (let w = slice_get_within m.inputs of.j of.port of.at in omega (arith, w, e)) in
          let is : IsColumn header name column.0 = subst (λ (n : List ℕ). IsColumn header n column.0) (ap (λ (i : Named ℕ). i.name) of.is) (are.named of.j of.port column.0 of.at column.1) in
          let inputs = from.takes t (reordered columns row) (map_at (reordered columns) rows t row at) in
          let value : Some (run t of.port.signal.0) ≡ Some (bit_of row column.0) =
          sym (map_at (λ (q : Port). run t q.signal.0) m.inputs of.j of.port of.at) ∙ (ap (λ (bits : List Bool). slice_get bits of.j) inputs ∙ map_at (bit_of row) columns of.j column.0 column.1) in
          ap (run t) (sym (ap (λ (i : Named ℕ). i.place) of.is)) ∙ (same_Some (run t of.port.signal.0) (bit_of row column.0) value ∙ bit_here row bit k name column.0 at_bit at_name is)

  powers : (run : ℕ → ℕ → Bool) → IsRunFrom m (zeros m) (map (reordered columns) rows) run → (name : List ℕ) (u next : ℕ) → IsLatch c name u next → run 0 u ≡ false
  powers run from name u next latch = go (equation_from m (latch_equation name u next) (one_equation c (circuit_of m) one (latch_equation name u next) latch))
    where
      go : OfGate m (latch_equation name u next) ⊎ OfLatch m (latch_equation name u next) → run 0 u ≡ false
      go (inl g) = absurd (no_gate_latch m.covers g.gate name u next g.is)
      go (inr l) =
          let value : Some (run 0 l.latch.out.0) ≡ Some false =
          sym (map_at (λ (k : LatchAt). run 0 k.out.0) m.latches l.j l.latch l.at) ∙ (ap (λ (bits : List Bool). slice_get bits l.j) from.powers_up ∙ replicate_at (length m.latches) l.j false (slice_get_within m.latches l.j l.latch l.at)) in
          ap (run 0) (sym (latch_out l.latch name u next l.is)) ∙ same_Some (run 0 l.latch.out.0) false value

  pub run_over : (run : ℕ → ℕ → Bool) × IsReplayRun c header rows run
  run_over = (
    made.0,
    record {
      is_run = one_run (circuit_of m) c (one_back c (circuit_of m) one) (length rows) made.0 (subst (λ k. IsRun (circuit_of m) k made.0) (length-map (reordered columns) rows) made.1.is_run);
      takes = takes made.0 made.1;
      powers_up = powers made.0 made.1;
    },
  )
