-- The finished net is the file's circuit.
use Rattle.std.proofs.Common.{◌≡◌, ℕ, zero, suc, ◌<◌, true, List, [], ◌∷◌, ◌++◌, map, length, slice_get, Some, refl, sym, ◌∙◌, ap, ap₂, subst, arith, inl, inr}
use Rattle.std.specs.Prelude.{◌⊎◌}
use Rattle.std.specs.List.{Contains, filter, filter_map}
use Rattle.std.proofs.lemmas.List.Elements.{All-contains, Contains-append_left, Contains-append_right, Contains-append_cases}
use Rattle.std.proofs.lemmas.List.{length-map}
use Rattle.std.proofs.lemmas.Option.{slice_get_within, slice_get-get_or}
use Rattle.circuit_theory.specs.Cover.{Cover}
use Rattle.circuit_theory.specs.Circuit.{Circuit, Equation, Named, Started, IsLatch, out_of, Gate as gate_equation, Latch as latch_equation, Port as port_equation}
use Rattle.circuit_theory.specs.Flattened.{Follows, latch_names}
use Rattle.circuit_theory.specs.Joined.{moved, moved_name, moved_start}
use Rattle.circuit_theory.specs.Places.{IsPlace}
use Rattle.circuit_theory.proofs.Lists.{map-map, map_same, Contains-map, Contains-map_from, Contains-head, Contains-tail, filter_map-from, filter_test, at_of}
use Rattle.circuit_theory.proofs.Numbers.{slice_get-map}
use Rattle.net_assembly.specs.net_alike.Renumbered.{latch_rows}
use Rattle.net_assembly.specs.net_alike.FlatCircuit.{HasSignal, IsFlatCircuit}
use Rattle.net_assembly.proofs.net_alike.Carrying.{map_fixed}
use Rattle.base_tables.specs.Table.{AreDistinct}
use Rattle.aiger_read.proofs.aiger_file.aiger_graph.net_assembly.Rows.{slice_get-take_to}
use Rattle.flat_net.specs.declared.signals.Signal.{Signal}
use Rattle.flat_net.specs.declared.parts.Port.{Port as NetPort}
use Rattle.flat_net.specs.declared.parts.LatchAt.{LatchAt}
use Rattle.flat_net.specs.declared.parts.Gate.{Gate as NetGate}
use Rattle.flat_net.specs.declared.parts.Driver.TheVariants as driver
use Rattle.flat_net.specs.View.{NetView, named, circuit_of, equation_of_gate, equation_of_latch, cover_of, start_of as net_start}
use Rattle.flat_net.specs.Sound.{IsSound}
use Rattle.flat_net.specs.Comparable.{IsComparable}
use Rattle.aiger_read.specs.aiger_file.aiger_graph.net_assembly.Assembled.{IsAssembled}
use Rattle.aiger_read.specs.aiger_file.aiger_graph.net_assembly.Shown.{with_nexts}
use Rattle.aiger_read.proofs.aiger_file.aiger_graph.net_assembly.AssembledRuns.{assembled_is_flattened}
use Rattle.aiger_read.proofs.aiger_file.aiger_graph.net_assembly.DistinctLists.{Contains-kept}
use Rattle.aiger_read.specs.declared.aiger_records.record.Record.TheVariants.{Latch, Output}
use Rattle.aiger_read.specs.declared.aiger_file.file.AigerFile.{AigerFile}
use Rattle.aiger_read.specs.aiger_file.aiger_graph.Circuit.{LatchLine, circuit_of_file, constants, gates_in, latches_from, input_literals, output_literals, latches_in, start_of, zero_cover, one_cover}
use Rattle.aiger_read.specs.aiger_file.aiger_graph.Literals.{reads_in, gate_at, cover_by}
use Rattle.aiger_read.specs.SignalNames.{signal_name}
use Rattle.aiger_read.specs.Signals.{is_gate, all_covers, all_literals, literal_at}
use Rattle.aiger_read.specs.Made.{IsPlan, HasOutputs, signal_at, nexts_of}
use Rattle.aiger_read.specs.Nets.{IsNetOf}
use Rattle.aiger_read.proofs.aiger_file.aiger_graph.ReadLiterals.{IsGateHere, gate_made, gate_here, reads_below}
use Rattle.aiger_read.proofs.LiteralLists.{in_outputs, in_latches, low_gate, reading_gate, gate_reads, gate_in, driven_in, reads_driven, reads_used, input_in, latch_in}
use Rattle.aiger_read.proofs.aiger_file.aiger_graph.NoLoops.{equation_cases, constant_cases, no_latch_gate, no_port}
use Rattle.aiger_read.proofs.FileParts.{names_behind, rows_behind, file_rows, moved_rows, moved_names, latch_line, port_literal, low_reads, latches_are, starts_are, inits_are, start_literal}
use Rattle.aiger_read.proofs.Making.{size, fine, few, each, at_next}
use Rattle.aiger_read.proofs.DrivenOnce.{driven_once}
use Rattle.aiger_read.proofs.Nexts.{full, spot_of, back_of, used_in}

module _ (f : AigerFile) (graph : List (List ℕ)) (order : List ℕ) (plan : IsPlan f graph order) (net : NetView) (signals : List Signal) (sound : IsSound net) (made : HasOutputs f order (output_literals f.records) net signals) where
  abbrev d : Circuit ℕ
  d = circuit_of_file f

  abbrev lits : List ℕ
  lits = all_literals f.records order

  abbrev lit : ℕ → ℕ
  lit s = literal_at (all_literals f.records order) s

  abbrev spot : ℕ → ℕ
  spot l = (signal_at signals l).0

  abbrev done : NetView
  done = record net { latches = with_nexts net.latches (nexts_of signals (latches_in f.records)) }

  -- a literal of the net, its signal, and back
  here : (l : ℕ) → Contains lits l → (spot l < length net.drivers) × (lit (spot l) ≡ l)
  here l h =
      let x = spot_of f graph order plan (output_literals f.records) net signals made l h in (
        subst (λ (k : Signal). k.0 < length net.drivers) (sym x.3) x.2,
        ap (λ (k : Signal). lit k.0) x.3 ∙ at_next f graph order plan x.0 l x.1,
      )

  back : (s : ℕ) → s < length net.drivers → spot (lit s) ≡ s
  back s low = ap (λ (k : Signal). k.0) (back_of f graph order plan (output_literals f.records) net signals made s low)

  gate_literal : (l : ℕ) → l < size f graph order plan → is_gate f.records l ≡ true → Contains lits l
  gate_literal l low gate = gate_in (size f graph order plan) f.records plan.kept.once (fine f graph order plan) order l (λ h. each f graph order plan l low) gate

  -- the gate of an equation of the file
  record GateFor (out : ℕ) (fanins : List ℕ) (cover : Cover) : Type 0 where
    pub literal : ℕ
    pub same : gate_at f.records literal ≡ gate_equation out fanins cover
    pub low : literal < size f graph order plan
    pub gate : is_gate f.records literal ≡ true
    pub reads : reads_in f.records literal ≡ fanins
    pub own : literal ≡ out

  abbrev fans : Equation ℕ → List ℕ
  fans (gate_equation out fanins cover) = fanins
  fans (latch_equation name out next) = []
  fans (port_equation out from) = []

  gate_for : (out : ℕ) (fanins : List ℕ) (cover : Cover) → Contains d.equations (gate_equation out fanins cover) → GateFor out fanins cover
  gate_for out fanins cover h = go (equation_cases f (gate_equation out fanins cover) h)
    where
      made_for : (l : ℕ) → gate_at f.records l ≡ gate_equation out fanins cover → l < size f graph order plan → is_gate f.records l ≡ true → GateFor out fanins cover
      made_for l same low gate = record { literal = l; same = same; low = low; gate = gate; reads = ap fans same; own = ap (λ (e : Equation ℕ). out_of e) same }

      low_at : (l : ℕ) → l < 2 → gate_at f.records l ≡ gate_equation l [] (cover_by l [])
      low_at l low = ap (λ (rs : List ℕ). gate_equation l rs (cover_by l rs)) (low_reads (size f graph order plan) f.records l (fine f graph order plan) low)

      constant : (gate_equation 0 [] zero_cover ≡ gate_equation out fanins cover) ⊎ (gate_equation 1 [] one_cover ≡ gate_equation out fanins cover) → GateFor out fanins cover
      constant (inl e) = made_for 0 (low_at 0 (omega arith) ∙ e) (omega arith) (low_gate f.records 0 (omega arith))
      constant (inr e) = made_for 1 (low_at 1 (omega arith) ∙ e) (omega arith) (low_gate f.records 1 (omega arith))

      later : IsGateHere (size f graph order plan) f.records (gate_equation out fanins cover) → GateFor out fanins cover
      later x = made_for x.literal x.same x.low (reading_gate f.records x.literal x.some)

      go : Contains constants (gate_equation out fanins cover) ⊎ (Contains (gates_in f.records) (gate_equation out fanins cover) ⊎ Contains (latches_from f.symbols 0 (latches_in f.records)) (gate_equation out fanins cover)) → GateFor out fanins cover
      go (inl c) = constant (constant_cases (gate_equation out fanins cover) c)
      go (inr (inl g)) = later (gate_here (size f graph order plan) f.records (gate_equation out fanins cover) plan.kept.once (fine f graph order plan) g)
      go (inr (inr l)) = absurd (no_latch_gate f.symbols 0 (latches_in f.records) out fanins cover l)

  -- the gate that drives a literal is one of the file's
  gate_of_file : (l : ℕ) → is_gate f.records l ≡ true → Contains d.equations (gate_at f.records l)
  gate_of_file l gate = Contains-append_left (constants ++ gates_in f.records) (latches_from f.symbols 0 (latches_in f.records)) (gate_at f.records l) (go (gate_reads f.records l gate))
    where
      low : (k : ℕ) → k ≡ l → l < 2 → Contains constants (gate_at f.records l)
      low zero e h =
          subst (λ (k : ℕ). Contains constants (gate_equation k (reads_in f.records k) (cover_by k (reads_in f.records k)))) e
          (subst (λ (rs : List ℕ). Contains constants (gate_equation 0 rs (cover_by 0 rs))) (sym (low_reads (size f graph order plan) f.records 0 (fine f graph order plan) (omega arith))) (Contains-head (gate_equation 0 [] zero_cover) (gate_equation 1 [] one_cover ∷ [])))
      low (suc zero) e h =
          subst (λ (k : ℕ). Contains constants (gate_equation k (reads_in f.records k) (cover_by k (reads_in f.records k)))) e
          (subst (λ (rs : List ℕ). Contains constants (gate_equation 1 rs (cover_by 1 rs))) (sym (low_reads (size f graph order plan) f.records 1 (fine f graph order plan) (omega arith)))
          (Contains-tail (gate_equation 0 [] zero_cover) (gate_equation 1 [] one_cover) (gate_equation 1 [] one_cover ∷ []) (Contains-head (gate_equation 1 [] one_cover) [])))
      low (suc (suc k)) e h = absurd (omega (arith, e, h))

      some : (reads : List ℕ) → reads_in f.records l ≡ reads → 0 < length reads → Contains (gates_in f.records) (gate_at f.records l)
      some [] e h = absurd (omega (arith, h))
      some (a ∷ more) e h = gate_made f.records l a more e

      go : (l < 2) ⊎ (0 < length (reads_in f.records l)) → Contains (constants ++ gates_in f.records) (gate_at f.records l)
      go (inl h) = Contains-append_left constants (gates_in f.records) (gate_at f.records l) (low l refl h)
      go (inr h) = Contains-append_right constants (gates_in f.records) (gate_at f.records l) (some (reads_in f.records l) refl h)

  -- a latch of the file
  latch_for : (name : List ℕ) (out next : ℕ) → IsLatch d name out next → Contains (latches_from f.symbols 0 (latches_in f.records)) (latch_equation name out next)
  latch_for name out next h = go (equation_cases f (latch_equation name out next) h)
    where
      constant : (gate_equation 0 [] zero_cover ≡ latch_equation name out next) ⊎ (gate_equation 1 [] one_cover ≡ latch_equation name out next) → ⊥
      constant (inl e) = cc
      constant (inr e) = cc

      gate : IsGateHere (size f graph order plan) f.records (latch_equation name out next) → ⊥
      gate x = let e : gate_at f.records x.literal ≡ latch_equation name out next = x.same in cc

      go : Contains constants (latch_equation name out next) ⊎ (Contains (gates_in f.records) (latch_equation name out next) ⊎ Contains (latches_from f.symbols 0 (latches_in f.records)) (latch_equation name out next)) →
          Contains (latches_from f.symbols 0 (latches_in f.records)) (latch_equation name out next)
      go (inl c) = absurd (constant (constant_cases (latch_equation name out next) c))
      go (inr (inl g)) = absurd (gate (gate_here (size f graph order plan) f.records (latch_equation name out next) plan.kept.once (fine f graph order plan) g))
      go (inr (inr l)) = l

  no_early_latch : (name : List ℕ) (out next : ℕ) → Contains (constants ++ gates_in f.records) (latch_equation name out next) → ⊥
  no_early_latch name out next h = go (Contains-append_cases constants (gates_in f.records) (latch_equation name out next) h)
    where
      constant : (gate_equation 0 [] zero_cover ≡ latch_equation name out next) ⊎ (gate_equation 1 [] one_cover ≡ latch_equation name out next) → ⊥
      constant (inl e) = cc
      constant (inr e) = cc

      gate : IsGateHere (size f graph order plan) f.records (latch_equation name out next) → ⊥
      gate x = let e : gate_at f.records x.literal ≡ latch_equation name out next = x.same in cc

      go : Contains constants (latch_equation name out next) ⊎ Contains (gates_in f.records) (latch_equation name out next) → ⊥
      go (inl c) = constant (constant_cases (latch_equation name out next) c)
      go (inr g) = gate (gate_here (size f graph order plan) f.records (latch_equation name out next) plan.kept.once (fine f graph order plan) g)

  -- where the places of the file stand
  out_there : {out : ℕ} {fanins : List ℕ} {cover : Cover} → GateFor out fanins cover → Contains lits out
  out_there x = subst (Contains lits) x.own (gate_literal x.literal x.low x.gate)

  fanin_there : {out : ℕ} {fanins : List ℕ} {cover : Cover} → GateFor out fanins cover → (p : ℕ) → Contains fanins p → Contains lits p
  fanin_there x p h =
      let k = subst (λ (rs : List ℕ). Contains rs p) (sym x.reads) h in
      driven_in (size f graph order plan) f.records plan.kept.once (fine f graph order plan) order p (reads_driven (size f graph order plan) f.records (fine f graph order plan) plan.faultless.driven x.literal p k)
      (reads_used (size f graph order plan) f.records (fine f graph order plan) x.literal p k)
      (λ gate. each f graph order plan p (reads_below (size f graph order plan) f.records (fine f graph order plan) x.literal p k))

  line_there : (l : LatchLine) → Contains (latches_in f.records) l → Contains lits l.literal × Contains lits l.next
  line_there l h =
      let x = in_latches f.records l h in (
        latch_in (size f graph order plan) f.records plan.kept.once (fine f graph order plan) order l.literal (Contains-map (λ (k : LatchLine). k.literal) (latches_in f.records) l h),
        used_in f graph order plan (output_literals f.records) net signals made x.0 l.next (Latch l.literal l.next l.reset) x.1 (Contains-head l.next []),
      )

  latch_out_there : (name : List ℕ) (out next : ℕ) → IsLatch d name out next → Contains lits out × Contains lits next
  latch_out_there name out next h =
      let x = latch_line f.symbols 0 (latches_in f.records) name out next (latch_for name out next h) in
      let y = line_there x.0 x.1 in
      (subst (Contains lits) x.2 y.0, subst (Contains lits) x.3 y.1)

  input_there : (p : Named ℕ) → Contains d.inputs p → Contains lits p.place
  input_there p h = input_in (size f graph order plan) f.records plan.kept.once (fine f graph order plan) order p.place (port_literal f.symbols 105 0 (input_literals f.records) p h)

  output_there : (p : Named ℕ) → Contains d.outputs p → Contains lits p.place
  output_there p h =
      let x = in_outputs f.records p.place (port_literal f.symbols 111 0 (output_literals f.records) p h) in
      used_in f graph order plan (output_literals f.records) net signals made x.0 p.place (Output p.place) x.1 (Contains-head p.place [])

  driven_there : (e : Equation ℕ) → Contains d.equations e → Contains lits (out_of e)
  driven_there (gate_equation out fanins cover) h = out_there (gate_for out fanins cover h)
  driven_there (latch_equation name out next) h = (latch_out_there name out next h).0
  driven_there (port_equation out from) h = absurd (no_port f (size f graph order plan) plan.kept.once (fine f graph order plan) out from h)

  place_there : (p : ℕ) → IsPlace d p → Contains lits p
  place_there p (IsPlace.input h) = input_there (record { name = h.0; place = p }) h.1
  place_there p (IsPlace.output {name = name} h) = output_there (record { name = name; place = p }) h
  place_there p (IsPlace.driven {e = e} h is) = subst (Contains lits) is (driven_there e h)
  place_there p (IsPlace.fanin {out = out} {fanins = fanins} {cover = cover} h k) = fanin_there (gate_for out fanins cover h) p k
  place_there p (IsPlace.next {name = name} {out = out} h) = (latch_out_there name out p h).1
  place_there p (IsPlace.from {out = out} h) = absurd (no_port f (size f graph order plan) plan.kept.once (fine f graph order plan) out p h)

  has_signal : (p : ℕ) → Contains lits p → HasSignal d (length net.drivers) lit p (spot p)
  has_signal p h = let x = here p h in record { within = x.0; follows = subst (λ (q : ℕ). Follows d p q) (sym x.1) Follows.here }

  -- the ports of the net
  input_low : (p : NetPort) → Contains net.inputs p → p.signal.0 < length net.drivers
  input_low p h = let at = at_of net.inputs p h in slice_get_within net.drivers p.signal.0 (driver.Input at.0) (sound.inputs at.0 p at.1).owner

  ports_back : (ps : List NetPort) → ((p : NetPort) → Contains ps p → p.signal.0 < length net.drivers) → (named_ports : List (Named ℕ)) → map (λ (p : NetPort). moved_name lit (named p)) ps ≡ named_ports → map named ps ≡ map (moved_name spot) named_ports
  ports_back ps low named_ports e =
      map_same named (λ (p : NetPort). moved_name spot (moved_name lit (named p))) ps (λ p h. ap (λ (s : ℕ). record { name = p.name; place = s }) (sym (back p.signal.0 (low p h))))
      ∙ sym (map-map (moved_name spot) (λ (p : NetPort). moved_name lit (named p)) ps) ∙ ap (map (moved_name spot)) e

  inputs : map named net.inputs ≡ map (moved_name spot) d.inputs
  inputs = ports_back net.inputs input_low d.inputs made.inputs

  outputs : map named net.outputs ≡ map (moved_name spot) d.outputs
  outputs = ports_back net.outputs (λ p h. All-contains (λ (q : NetPort). q.signal.0 < length net.drivers) net.outputs p sound.outputs h) d.outputs made.outputs

  -- the gates of the net
  gate_back : (g : NetGate) → Contains net.gates g → moved spot (moved lit (equation_of_gate all_covers g)) ≡ equation_of_gate all_covers g
  gate_back g h =
      let at = at_of net.gates g h in
      let own = sound.gates at.0 g at.1 in
      let low = slice_get_within net.drivers g.out.0 (driver.Gate at.0) own.owner in
      ap₂ (λ (o : ℕ) (fs : List ℕ). gate_equation o fs (cover_of all_covers g)) (back g.out.0 low)
      (map-map spot lit (map (λ (s : Signal). s.0) g.fanins)
      ∙ map_fixed (λ (s : ℕ). spot (lit s)) (map (λ (s : Signal). s.0) g.fanins)
      (λ s k. let x = Contains-map_from (λ (y : Signal). y.0) g.fanins s k in back s (subst (λ (y : ℕ). y < length net.drivers) x.2 (let b = All-contains (λ (y : Signal). y.0 < g.out.0) g.fanins x.0 own.above x.1 in omega (arith, b, low)))))

  latch_list : map equation_of_latch (with_nexts net.latches (nexts_of signals (latches_in f.records))) ≡ map (moved spot) (latches_from f.symbols 0 (latches_in f.records))
  latch_list = latches_are f.symbols lits signals 0 net.latches (latches_in f.records) made.latches
      (λ l h. let at = at_of net.latches l h in back l.out.0 (slice_get_within net.drivers l.out.0 (driver.Latch at.0) (sound.latches at.0 l at.1).owner))

  start_list : filter_map (λ (l : LatchAt). net_start l.out.0 l.init) (with_nexts net.latches (nexts_of signals (latches_in f.records))) ≡ map (moved_start spot) d.starts
  start_list = starts_are f.symbols lits signals 0 net.latches (latches_in f.records) made.latches
      (λ l h. let at = at_of net.latches l h in back l.out.0 (slice_get_within net.drivers l.out.0 (driver.Latch at.0) (sound.latches at.0 l at.1).owner))

  gate_list : map (equation_of_gate net.covers) net.gates ≡ map (equation_of_gate all_covers) net.gates
  gate_list = ap (λ (cs : List Cover). map (equation_of_gate cs) net.gates) made.covers

  -- the equations of the net
  net_cases : (e : Equation ℕ) → Contains (circuit_of done).equations e → Contains (map (equation_of_gate all_covers) net.gates) e ⊎ Contains (map (moved spot) (latches_from f.symbols 0 (latches_in f.records))) e
  net_cases e h = go (Contains-append_cases (map (equation_of_gate net.covers) net.gates) (map equation_of_latch (with_nexts net.latches (nexts_of signals (latches_in f.records)))) e h)
    where
      go : Contains (map (equation_of_gate net.covers) net.gates) e ⊎ Contains (map equation_of_latch (with_nexts net.latches (nexts_of signals (latches_in f.records)))) e →
          Contains (map (equation_of_gate all_covers) net.gates) e ⊎ Contains (map (moved spot) (latches_from f.symbols 0 (latches_in f.records))) e
      go (inl k) = inl (subst (λ (es : List (Equation ℕ)). Contains es e) gate_list k)
      go (inr k) = inr (subst (λ (es : List (Equation ℕ)). Contains es e) latch_list k)

  net_gate : (e : Equation ℕ) → Contains (map (equation_of_gate all_covers) net.gates) e → Contains (circuit_of done).equations e
  net_gate e h =
      Contains-append_left (map (equation_of_gate net.covers) net.gates) (map equation_of_latch (with_nexts net.latches (nexts_of signals (latches_in f.records)))) e
      (subst (λ (es : List (Equation ℕ)). Contains es e) (sym gate_list) h)

  net_latch : (e : Equation ℕ) → Contains (map (moved spot) (latches_from f.symbols 0 (latches_in f.records))) e → Contains (circuit_of done).equations e
  net_latch e h =
      Contains-append_right (map (equation_of_gate net.covers) net.gates) (map equation_of_latch (with_nexts net.latches (nexts_of signals (latches_in f.records)))) e
      (subst (λ (es : List (Equation ℕ)). Contains es e) (sym latch_list) h)

  gate : (out : ℕ) (fanins : List ℕ) (cover : Cover) → Contains d.equations (gate_equation out fanins cover) → Contains (circuit_of done).equations (gate_equation (spot out) (map spot fanins) cover)
  gate out fanins cover h =
      let x = gate_for out fanins cover h in
      let there = Contains-map (gate_at f.records) (filter (is_gate f.records) order) x.literal (Contains-kept (is_gate f.records) order x.literal (each f graph order plan x.literal x.low) x.gate) in
      let y = Contains-map_from (λ (g : NetGate). moved lit (equation_of_gate all_covers g)) net.gates (gate_at f.records x.literal) (subst (λ (es : List (Equation ℕ)). Contains es (gate_at f.records x.literal)) (sym made.gates_are) there) in
      let same : equation_of_gate all_covers y.0 ≡ moved spot (gate_equation out fanins cover) = sym (gate_back y.0 y.1) ∙ ap (moved spot) (y.2 ∙ x.same) in
      net_gate (gate_equation (spot out) (map spot fanins) cover) (subst (λ (e : Equation ℕ). Contains (map (equation_of_gate all_covers) net.gates) e) same (Contains-map (equation_of_gate all_covers) net.gates y.0 y.1))

  latch : (name : List ℕ) (out next : ℕ) → IsLatch d name out next → IsLatch (circuit_of done) name (spot out) (spot next)
  latch name out next h = net_latch (latch_equation name (spot out) (spot next)) (Contains-map (moved spot) (latches_from f.symbols 0 (latches_in f.records)) (latch_equation name out next) (latch_for name out next h))

  only_of : (e : Equation ℕ) → Contains (circuit_of done).equations e → (x : Equation ℕ) × Contains d.equations x × (moved spot x ≡ e)
  only_of e h = go (net_cases e h)
    where
      go : Contains (map (equation_of_gate all_covers) net.gates) e ⊎ Contains (map (moved spot) (latches_from f.symbols 0 (latches_in f.records))) e → (x : Equation ℕ) × Contains d.equations x × (moved spot x ≡ e)
      go (inl k) =
          let g = Contains-map_from (equation_of_gate all_covers) net.gates e k in
          let there = subst (λ (es : List (Equation ℕ)). Contains es (moved lit (equation_of_gate all_covers g.0))) made.gates_are (Contains-map (λ (x : NetGate). moved lit (equation_of_gate all_covers x)) net.gates g.0 g.1) in
          let l = Contains-map_from (gate_at f.records) (filter (is_gate f.records) order) (moved lit (equation_of_gate all_covers g.0)) there in
          (moved lit (equation_of_gate all_covers g.0), subst (Contains d.equations) l.2 (gate_of_file l.0 (filter_test (is_gate f.records) order l.0 l.1)), gate_back g.0 g.1 ∙ g.2)
      go (inr k) =
          let x = Contains-map_from (moved spot) (latches_from f.symbols 0 (latches_in f.records)) e k in
          (x.0, Contains-append_right (constants ++ gates_in f.records) (latches_from f.symbols 0 (latches_in f.records)) x.0 x.1, x.2)

  no_net_port : (out from : ℕ) → Contains (circuit_of done).equations (port_equation out from) → ⊥
  no_net_port out from h = let x = only_of (port_equation out from) h in by x.0 x.1 x.2
    where
      by : (x : Equation ℕ) → Contains d.equations x → moved spot x ≡ port_equation out from → ⊥
      by (gate_equation o fanins cover) k e = cc
      by (latch_equation name o next) k e = cc
      by (port_equation o g) k e = no_port f (size f graph order plan) plan.kept.once (fine f graph order plan) o g k

  no_gate_latch : (name : List ℕ) (out next : ℕ) → Contains (map (equation_of_gate net.covers) net.gates) (latch_equation name out next) → ⊥
  no_gate_latch name out next h = let g = Contains-map_from (equation_of_gate net.covers) net.gates (latch_equation name out next) h in let e : equation_of_gate net.covers g.0 ≡ latch_equation name out next = g.2 in cc

  net_rows : latch_rows (circuit_of done).equations ≡ map (moved spot) (latch_rows d.equations)
  net_rows =
      rows_behind (map (equation_of_gate net.covers) net.gates) (map equation_of_latch (with_nexts net.latches (nexts_of signals (latches_in f.records)))) no_gate_latch
      ∙ ap latch_rows latch_list ∙ moved_rows spot f.symbols 0 (latches_in f.records)
      ∙ ap (map (moved spot)) (sym (rows_behind (constants ++ gates_in f.records) (latches_from f.symbols 0 (latches_in f.records)) no_early_latch ∙ file_rows f.symbols 0 (latches_in f.records)))

  net_names : latch_names (circuit_of done).equations ≡ latch_names d.equations
  net_names =
      names_behind (map (equation_of_gate net.covers) net.gates) (map equation_of_latch (with_nexts net.latches (nexts_of signals (latches_in f.records)))) no_gate_latch
      ∙ ap latch_names latch_list ∙ moved_names spot f.symbols 0 (latches_in f.records)
      ∙ sym (names_behind (constants ++ gates_in f.records) (latches_from f.symbols 0 (latches_in f.records)) no_early_latch)

  started : map (moved_start lit) (circuit_of done).starts ≡ d.starts
  started =
      ap (map (moved_start lit)) start_list ∙ map-map (moved_start lit) (moved_start spot) d.starts
      ∙ map_fixed (λ (x : Started ℕ). moved_start lit (moved_start spot x)) d.starts
      (λ x h. let l = filter_map-from start_of (latches_in f.records) x h in
      let there = subst (Contains lits) (start_literal l.0 x l.2) (line_there l.0 l.1).0 in
      ap (λ (p : ℕ). record { place = p; bit = x.bit }) (here x.place there).1)

  read_of : (out : ℕ) (fanins : List ℕ) (cover : Cover) → Contains d.equations (gate_equation out fanins cover) → HasSignal d (length net.drivers) lit out (spot out) × ((p : ℕ) → Contains fanins p → HasSignal d (length net.drivers) lit p (spot p))
  read_of out fanins cover h = let x = gate_for out fanins cover h in (has_signal out (out_there x), λ p k. has_signal p (fanin_there x p k))

  taken_of : (name : List ℕ) (out next : ℕ) → IsLatch d name out next → HasSignal d (length net.drivers) lit out (spot out) × HasSignal d (length net.drivers) lit next (spot next)
  taken_of name out next h = let x = latch_out_there name out next h in (has_signal out x.0, has_signal next x.1)

  flat : IsFlatCircuit d (circuit_of done) (length net.drivers) (λ p. ⊥) lit spot
  flat = record {
    inputs = inputs;
    outputs = outputs;
    latches = net_rows;
    starts = start_list;
    gate = gate;
    only = only_of;
    no_port = no_net_port;
    port = λ out from h. absurd (no_port f (size f graph order plan) plan.kept.once (fine f graph order plan) out from h);
    back = back;
    entered = λ name p h. has_signal p (input_there (record { name = name; place = p }) h);
    shown = λ name p h. has_signal p (output_there (record { name = name; place = p }) h);
    read = read_of;
    taken = taken_of;
    started = started;
    placed = λ p h free. has_signal p (place_there p h);
  }

  assembled : IsAssembled d (circuit_of done) (length net.drivers) (λ p. ⊥) lit spot
  assembled = record {
    inputs = map-map (moved_name lit) named net.inputs ∙ made.inputs;
    outputs = outputs;
    latches = net_names;
    rows = net_rows;
    gate = gate;
    latch = latch;
    port = λ out from h. absurd (no_port f (size f graph order plan) plan.kept.once (fine f graph order plan) out from h);
    only = only_of;
    no_port = no_net_port;
    back = back;
    inputs_within = λ i h. let x = Contains-map_from named net.inputs i h in subst (λ (n : Named ℕ). n.place < length net.drivers) x.2 (input_low x.0 x.1);
    read = read_of;
    taken = taken_of;
    shown = λ o h. has_signal o.place (output_there o h);
    placed = λ p h free. has_signal p (place_there p h);
  }

  names : (s : ℕ) → s < length net.drivers → slice_get net.names s ≡ Some (signal_name f (lit s))
  names s low =
      ap (λ (ns : List (List ℕ)). slice_get ns s) made.names_are
      ∙ slice_get-take_to (length net.drivers) (map (signal_name f) lits) s (signal_name f (lit s)) low
      (slice_get-map (signal_name f) lits s (lit s) (slice_get-get_or lits s 0 (let whole = full f graph order plan (output_literals f.records) net signals made in omega (arith, low, whole))))

  comparable : IsSound done → IsComparable done
  comparable done_sound =
      let shown : map (λ (p : Named ℕ). p.name) d.outputs ≡ map (λ (p : NetPort). p.name) net.outputs = ap (map (λ (p : Named ℕ). p.name)) (sym made.outputs) ∙ map-map (λ (p : Named ℕ). p.name) (λ (p : NetPort). moved_name lit (named p)) net.outputs in
      let count : length d.outputs ≡ length net.outputs = ap length (sym made.outputs) ∙ length-map net.outputs (λ (p : NetPort). moved_name lit (named p)) in
      let most = few f graph order plan in
      let whole = full f graph order plan (output_literals f.records) net signals made in
      let inputs = done_sound.few_inputs in
      let latches = done_sound.few_latches in
      record {
        distinct = subst (λ (ns : List (List ℕ)). AreDistinct ns) shown plan.faultless.shown;
        few = (let a = plan.kept.small.greatest in let b = plan.faultless.few in omega (arith, a, b, most, whole, inputs, latches, count));
      }

  finished : IsSound done → IsNetOf f done
  finished done_sound = record {
    clock = made.clock;
    once = driven_once f (size f graph order plan) plan.kept.once (fine f graph order plan);
    origin = lit;
    signal = spot;
    circuit = flat;
    sound = done_sound;
    flattened = assembled_is_flattened d (circuit_of done) (length net.drivers) (λ p. ⊥) lit spot assembled;
    names = names;
    inits = inits_are f.symbols lits signals 0 net.latches (latches_in f.records) made.latches;
    comparable = comparable done_sound;
  }

  pub is_net_of : (net' : NetView) → net' ≡ record net { latches = with_nexts net.latches (nexts_of signals (latches_in f.records)) } → IsSound net' → IsNetOf f net'
  is_net_of net' e whole = subst (IsNetOf f) (sym e) (finished (subst IsSound e whole))
