-- The inputs of a cut net that a header doesn't name are read by nothing, so that a run over the header's rows is, but for them, the
-- run in which they are 0.
use Rattle.std.proofs.Common.{◌≡◌, ℕ, ◌<◌, Bool, true, false, List, map, length, get_or, slice_get, Option, Some, None, refl, sym, ◌∙◌, ap, subst, arith, inl, inr, ◌⊎◌}
use Rattle.std.specs.Prelude.{◌&&◌, ◌==◌, not}
use Rattle.std.specs.List.{All, Contains, list_any}
use Rattle.std.proofs.lemmas.List.{length-replicate}
use Rattle.std.proofs.lemmas.List.Elements.{Contains-append_cases}
use Rattle.std.proofs.lemmas.Option.{slice_get_within, slice_get-get_or}
use Rattle.circuit_theory.specs.Circuit.{Circuit, Gate as gate_equation, Latch as latch_equation, Port as port_equation, IsInput, Reads, out_of}
use Rattle.circuit_theory.specs.Cover.{Cover}
use Rattle.circuit_theory.specs.Run.{IsRun}
use Rattle.circuit_theory.specs.Names.{is_among}
use Rattle.circuit_theory.proofs.Inputs.{test_same, test_refl}
use Rattle.circuit_theory.proofs.Lists.{Contains-filter, Contains-map_from, at_of, of_at, length-map}
use Rattle.circuit_theory.proofs.Numbers.{is_among-sound, is_among-complete}
use Rattle.base_tables.proofs.TableLemmas.{key_at}
use Rattle.flat_net.specs.declared.parts.Port.{Port}
use Rattle.flat_net.specs.declared.parts.Gate.{Gate}
use Rattle.flat_net.specs.declared.parts.LatchAt.{LatchAt}
use Rattle.flat_net.specs.declared.parts.Driver.TheVariants as driver
use Rattle.flat_net.specs.declared.signals.Signal.{Signal}
use Rattle.flat_net.specs.Cut.{IsCut, latch_at, no_latch, exposed_names, as_input, as_output, stays}
use Rattle.flat_net.specs.Sound.{IsSound}
use Rattle.flat_net.specs.View.{NetView, circuit_of, named, is_read, equation_of_gate, equation_of_latch}
use Rattle.flat_net.proofs.Nets.{some_at, equation_from, OfGate, OfLatch, latch_stands, input_stands, sound_is_net}
use Rattle.flat_net.proofs.Places.{All-at, one_at}
use Rattle.cycle_sim.specs.Runs.{IsRunFrom}
use Rattle.cycle_sim.proofs.Lists.{map_is, map_at, replicate_at}
use Rattle.cycle_sim.specs.pair_runs.Feeding.{IsColumn, AreColumns, bit_of, reordered}
use Rattle.cycle_sim.specs.pair_runs.Feeds.{zeros}
use Rattle.job_circuit.specs.replay.Replay.{IsReplayRun}
use Rattle.job_circuit.proofs.replay.FreeMarks.{AreUnread, mixed, mixed_is, mixed_free, run_mixed, AreOne, one_back, one_equation, one_input, one_run}
use Rattle.job_circuit.proofs.replay.replay_header.Tests.{no_true_false, any_is, is_any, and_both, both_and, or_left, or_right, not_true}

-- the place is that of an input that the header doesn't name
abbrev pub is_free : List (List ℕ) → NetView → ℕ → Bool
is_free header m p = list_any (λ (port : Port). (port.signal.0 == p) && not (is_among header port.name)) m.inputs

-- a fan-in of a gate, what a latch takes over and an output are read
pub read_by_gate : (n : NetView) (g : Gate) (q : ℕ) → Contains n.gates g → Contains (map (λ (f : Signal). f.0) g.fanins) q → is_read n (record { 0 = q }) ≡ true
read_by_gate n g q h k =
    let f = Contains-map_from (λ (f : Signal). f.0) g.fanins q k in
    or_left _ _ (or_left _ _ (is_any (λ (g : Gate). list_any (λ (f : Signal). f.0 == q) g.fanins) n.gates g h
    (is_any (λ (f : Signal). f.0 == q) g.fanins f.0 f.1 (ap (λ x. x == q) f.2 ∙ test_refl q))))

pub read_by_latch : (n : NetView) (l : LatchAt) → Contains n.latches l → is_read n (record { 0 = l.next.0 }) ≡ true
read_by_latch n l h = or_left _ _ (or_right _ _ (is_any (λ (m : LatchAt). m.next.0 == l.next.0) n.latches l h (test_refl l.next.0)))

pub read_by_output : (n : NetView) (port : Port) → Contains n.outputs port → is_read n (record { 0 = port.signal.0 }) ≡ true
read_by_output n port h = or_right _ _ (is_any (λ (o : Port). o.signal.0 == port.signal.0) n.outputs port h (test_refl port.signal.0))

gate_fanins : (covers : List Cover) (g : Gate) (out : ℕ) (fanins : List ℕ) (cover : Cover) → equation_of_gate covers g ≡ gate_equation out fanins cover → map (λ (f : Signal). f.0) g.fanins ≡ fanins
gate_fanins covers g out fanins cover e = cc

latch_next : (l : LatchAt) (name : List ℕ) (u next : ℕ) → equation_of_latch l ≡ latch_equation name u next → l.next.0 ≡ next
latch_next l name u next e = cc

no_latch_gate : (l : LatchAt) (out : ℕ) (fanins : List ℕ) (cover : Cover) → equation_of_latch l ≡ gate_equation out fanins cover → ⊥
no_latch_gate l out fanins cover e = cc

pub no_gate_latch : (covers : List Cover) (g : Gate) (name : List ℕ) (u next : ℕ) → equation_of_gate covers g ≡ latch_equation name u next → ⊥
no_gate_latch covers g name u next e = cc

no_gate_port : (covers : List Cover) (g : Gate) (out from : ℕ) → equation_of_gate covers g ≡ port_equation out from → ⊥
no_gate_port covers g out from e = cc

no_latch_port : (l : LatchAt) (out from : ℕ) → equation_of_latch l ≡ port_equation out from → ⊥
no_latch_port l out from e = cc

same_input : {i j : ℕ} → driver.Input i ≡ driver.Input j → i ≡ j
same_input e = cc

module _ (header : List (List ℕ)) (n m : NetView) (sound : IsSound m) (positions : List ℕ) (parts : IsCut n m positions) (within : All (λ j. j < length n.latches) positions)
    (in_header : (name : List ℕ) → Contains (exposed_names n positions) name → Contains header name)
    (unread_inputs : (k : ℕ) (port : Port) → slice_get n.inputs k ≡ Some port → (Contains header port.name → ⊥) → is_read n port.signal ≡ false) where
  free_port : (p : ℕ) → is_free header m p ≡ true → (port : Port) × Contains m.inputs port × (port.signal.0 ≡ p) × (Contains header port.name → ⊥)
  free_port p e =
      let found = any_is (λ (port : Port). (port.signal.0 == p) && not (is_among header port.name)) m.inputs e in
      let both = and_both (found.0.signal.0 == p) (not (is_among header found.0.name)) found.2 in
      (found.0, found.1, test_same found.0.signal.0 p both.0, λ h. no_true_false (sym (is_among-complete header found.0.name h) ∙ not_true (is_among header found.0.name) both.1))

  free_at : (port : Port) → Contains m.inputs port → (Contains header port.name → ⊥) → is_free header m port.signal.0 ≡ true
  free_at port h none =
      is_any (λ (o : Port). (o.signal.0 == port.signal.0) && not (is_among header o.name)) m.inputs port h (both_and (port.signal.0 == port.signal.0) (not (is_among header port.name)) (test_refl port.signal.0) (absent (is_among header port.name) refl))
    where
      absent : (b : Bool) → is_among header port.name ≡ b → not (is_among header port.name) ≡ true
      absent true e = absurd (none (is_among-sound header port.name e))
      absent false e = ap not e

  -- no free place is one of which something else is known
  not_free : (p : ℕ) → (is_free header m p ≡ true → ⊥) → is_free header m p ≡ false
  not_free p never = go (is_free header m p) refl
    where
      go : (b : Bool) → is_free header m p ≡ b → is_free header m p ≡ false
      go true e = absurd (never e)
      go false e = e

  named_not_free : (k : ℕ) (port : Port) → slice_get m.inputs k ≡ Some port → Contains header port.name → is_free header m port.signal.0 ≡ false
  named_not_free k port at there = not_free port.signal.0 (λ e.
      let other = free_port port.signal.0 e in
      let place = at_of m.inputs other.0 other.1 in
      let same : place.0 ≡ k = same_input (one_at m.drivers port.signal.0 (driver.Input place.0) (driver.Input k) (ap (slice_get m.drivers) (sym other.2) ∙ (sound.inputs place.0 other.0 place.1).owner) (sound.inputs k port at).owner) in
      let one : other.0 ≡ port = one_at m.inputs k other.0 port (ap (slice_get m.inputs) (sym same) ∙ place.1) at in
      other.3 (subst (λ (o : Port). Contains header o.name) (sym one) there))

  -- a free input is one of the net's own
  own_input : (port : Port) → Contains m.inputs port → (Contains header port.name → ⊥) → Contains n.inputs port
  own_input port h none = go (Contains-append_cases n.inputs (map (λ j. as_input (latch_at n j)) positions) port (subst (λ (ports : List Port). Contains ports port) parts.inputs h))
    where
      go : Contains n.inputs port ⊎ Contains (map (λ j. as_input (latch_at n j)) positions) port → Contains n.inputs port
      go (inl k) = k
      go (inr k) =
          let j = Contains-map_from (λ j. as_input (latch_at n j)) positions port k in
          let at = at_of positions j.0 j.1 in
          absurd (none (in_header port.name (subst (Contains (exposed_names n positions)) (ap (λ (p : Port). p.name) j.2) (of_at (exposed_names n positions) at.0 _ (map_at (λ i. (latch_at n i).name) positions at.0 j.0 at.1)))))

  pub read_not_free : (q : ℕ) → is_read n (record { 0 = q }) ≡ true → is_free header m q ≡ false
  read_not_free q read = not_free q (λ e.
      let port = free_port q e in
      let at = at_of n.inputs port.0 (own_input port.0 port.1 port.3) in
      no_true_false (sym read ∙ (ap (λ (s : ℕ). is_read n (record { 0 = s })) (sym port.2) ∙ unread_inputs at.0 port.0 at.1 port.3)))

  gate_in : (g : Gate) (j : ℕ) → slice_get m.gates j ≡ Some g → Contains n.gates g
  gate_in g j at = subst (λ (gs : List Gate). Contains gs g) parts.gates (of_at m.gates j g at)

  latch_in : (l : LatchAt) (j : ℕ) → slice_get m.latches j ≡ Some l → Contains n.latches l
  latch_in l j at = Contains-filter (stays (exposed_names n positions)) n.latches l (subst (λ (ls : List LatchAt). Contains ls l) parts.latches (of_at m.latches j l at))

  pub unread : AreUnread (circuit_of m) (is_free header m)
  unread = record {
    outs = λ e h. not_free (out_of e) (λ free.
        let port = free_port (out_of e) free in
        let at = at_of m.inputs port.0 port.1 in
        (sound_is_net m sound).single.no_input e h (subst (IsInput (circuit_of m)) port.2 (port.0.name, input_stands m at.0 port.0 at.1)));
    reads = λ p q r. by r;
    nexts = λ name u next latch. taken name u next (equation_from m (latch_equation name u next) latch);
  }
    where
      by : {p q : ℕ} → Reads (circuit_of m) p q → is_free header m q ≡ false
      by {p} {q} (Reads.by_gate {fanins = fanins} {cover = cover} eq h) = go (equation_from m (gate_equation p fanins cover) eq)
        where
          go : OfGate m (gate_equation p fanins cover) ⊎ OfLatch m (gate_equation p fanins cover) → is_free header m q ≡ false
          go (inl g) = read_not_free q (read_by_gate n g.gate q (gate_in g.gate g.j g.at) (subst (λ (fs : List ℕ). Contains fs q) (sym (gate_fanins m.covers g.gate p fanins cover g.is)) h))
          go (inr l) = absurd (no_latch_gate l.latch p fanins cover l.is)
      by {p} {q} (Reads.by_port eq) = go (equation_from m (port_equation p q) eq)
        where
          go : OfGate m (port_equation p q) ⊎ OfLatch m (port_equation p q) → is_free header m q ≡ false
          go (inl g) = absurd (no_gate_port m.covers g.gate p q g.is)
          go (inr l) = absurd (no_latch_port l.latch p q l.is)

      taken : (name : List ℕ) (u next : ℕ) → OfGate m (latch_equation name u next) ⊎ OfLatch m (latch_equation name u next) → is_free header m next ≡ false
      taken name u next (inl g) = absurd (no_gate_latch m.covers g.gate name u next g.is)
      taken name u next (inr l) =
          subst (λ q. is_free header m q ≡ false) (latch_next l.latch name u next l.is) (read_not_free l.latch.next.0 (read_by_latch n l.latch (latch_in l.latch l.j l.at)))

  -- an output of the cut net is read
  pub output_not_free : (k : ℕ) (port : Port) → slice_get m.outputs k ≡ Some port → is_free header m port.signal.0 ≡ false
  output_not_free k port at = go (Contains-append_cases n.outputs (map (λ j. as_output (latch_at n j)) positions) port (subst (λ (ports : List Port). Contains ports port) parts.outputs (of_at m.outputs k port at)))
    where
      go : Contains n.outputs port ⊎ Contains (map (λ j. as_output (latch_at n j)) positions) port → is_free header m port.signal.0 ≡ false
      go (inl h) = read_not_free port.signal.0 (read_by_output n port h)
      go (inr h) =
          let j = Contains-map_from (λ j. as_output (latch_at n j)) positions port h in
          let place = at_of positions j.0 j.1 in
          let below : j.0 < length n.latches = All-at (λ i. i < length n.latches) positions place.0 j.0 place.1 within in
          let latch = of_at n.latches j.0 (latch_at n j.0) (slice_get-get_or n.latches j.0 no_latch below) in
          subst (λ (o : Port). is_free header m o.signal.0 ≡ false) j.2 (read_not_free (latch_at n j.0).next.0 (read_by_latch n (latch_at n j.0) latch))

  module _ (c : Circuit ℕ) (one : AreOne c (circuit_of m)) (columns : List (Option ℕ)) (are : AreColumns m header columns) (rows : List (List Bool)) (wide : All (λ row. length row ≡ length header) rows)
      (run : ℕ → ℕ → Bool) (over : IsReplayRun c header rows run) where
    -- the run with 0 at the free inputs
    abbrev pub freed : ℕ → ℕ → Bool
    freed t p = mixed (is_free header m) (λ q. false) (run t) p

    value : (t k : ℕ) (row : List Bool) (port : Port) (column : Option ℕ) → slice_get rows t ≡ Some row → slice_get m.inputs k ≡ Some port → IsColumn header port.name column → bit_of row column ≡ freed t port.signal.0
    value t k row port None at at_port absent = sym (mixed_free (circuit_of m) (is_free header m) unread (λ q. false) (run t) port.signal.0 (free_at port (of_at m.inputs k port at_port) absent))
    value t k row port (Some place) at at_port named_at =
        let w = slice_get_within header place port.name named_at in
        let size : length row ≡ length header = All-at (λ (r : List Bool). length r ≡ length header) rows t row at wide in
        let bit : run t port.signal.0 ≡ get_or row place false =
        over.takes t place row (get_or row place false) port.name port.signal.0 at (slice_get-get_or row place false (omega (arith, w, size))) named_at
        (one_input (circuit_of m) c (one_back c (circuit_of m) one) (named port) (input_stands m k port at_port)) in
        sym (mixed_is (circuit_of m) (is_free header m) unread (λ q. false) (run t) port.signal.0 (named_not_free k port at_port (of_at header place port.name named_at)) ∙ bit)

    pub freed_run : IsRunFrom m (zeros m) (map (reordered columns) rows) freed
    freed_run = record {
      is_run = subst (λ k. IsRun (circuit_of m) k freed) (sym (length-map (reordered columns) rows))
          (run_mixed (circuit_of m) (is_free header m) unread (length rows) (λ t q. false) run (one_run c (circuit_of m) one (length rows) run over.is_run));
      powers_up = sym (map_is (λ (l : LatchAt). freed 0 l.out.0) m.latches (zeros m) (length-replicate (length m.latches) false) powered);
      takes = λ t row at.
          let of = key_at (reordered columns) rows t row at in
          sym (map_is (λ (port : Port). freed t port.signal.0) m.inputs (reordered columns of.0) (length-map (bit_of of.0) columns ∙ are.each) (taken t of.0 of.1)) ∙ of.2;
    }
      where
        powered : (k : ℕ) (l : LatchAt) → slice_get m.latches k ≡ Some l → slice_get (zeros m) k ≡ Some (freed 0 l.out.0)
        powered k l at =
            let latch = latch_stands m k l at in
            replicate_at (length m.latches) k false (slice_get_within m.latches k l at)
            ∙ ap Some (sym (mixed_is (circuit_of m) (is_free header m) unread (λ q. false) (run 0) l.out.0 (unread.outs (equation_of_latch l) latch)
            ∙ over.powers_up l.name l.out.0 l.next.0 (one_equation (circuit_of m) c (one_back c (circuit_of m) one) (equation_of_latch l) latch)))

        taken : (t : ℕ) (row : List Bool) → slice_get rows t ≡ Some row → (k : ℕ) (port : Port) → slice_get m.inputs k ≡ Some port → slice_get (reordered columns row) k ≡ Some (freed t port.signal.0)
        taken t row at k port at_port =
            let e = are.each in
            let column = some_at columns k (let w = slice_get_within m.inputs k port at_port in omega (arith, w, e)) in
            map_at (bit_of row) columns k column.0 column.1 ∙ ap Some (value t k row port column.0 at at_port (are.named k port column.0 at_port column.1))
