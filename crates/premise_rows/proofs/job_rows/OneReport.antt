-- The reports of one text are one: depths, marks and values are carried from one of its nets to the other.
use Rattle.std.proofs.Common.{◌≡◌, ◌∙◌, ℕ, suc, Bool, true, false, List, [], ◌∷◌, ◌++◌, map, length, replicate, slice_get, Option, Some, None, refl, sym, ap, ap₂, subst, arith}
use Rattle.std.specs.Prelude.{Contains, MatchOption, codes, ◌↔◌}
use Rattle.std.specs.Fmt.{decimal}
use Rattle.std.specs.List.{flat_map}
use Rattle.std.proofs.lemmas.List.{length-map}
use Rattle.std.proofs.lemmas.Option.{same_Some}
use Rattle.std.proofs.lemmas.List.Elements.{All-contains, Contains-append_right}
use Rattle.circuit_theory.specs.declared.Mode.TheVariants.{Plain}
use Rattle.circuit_theory.specs.Agree.{IsSettled}
use Rattle.circuit_theory.specs.Circuit.{Equation, Gate, Latch, Port, Named, Started}
use Rattle.circuit_theory.specs.Cover.{Cover}
use Rattle.circuit_theory.specs.Depth.{IsDepth, HasNoDepth}
use Rattle.circuit_theory.specs.Joined.{moved, moved_name, moved_start}
use Rattle.circuit_theory.specs.Places.{IsPlace}
use Rattle.circuit_theory.specs.Run.{NoneEnabled}
use Rattle.circuit_theory.proofs.Lists.{Contains-head, Contains-tail, Contains-map, Contains-map_from, map-map, map_at, of_at}
use Rattle.circuit_theory.proofs.Numbers.{slice_get-map}
use Rattle.flat_net.specs.declared.parts.Gate.{Gate as NetGate}
use Rattle.flat_net.specs.declared.parts.LatchAt.{LatchAt}
use Rattle.flat_net.specs.Sound.{IsSound}
use Rattle.flat_net.specs.View.{NetView, named, equation_of_gate, equation_of_latch, circuit_of, start_of}
use Rattle.sec_base.specs.declared.basics.Init.{Init}
use Rattle.sec_base.specs.declared.basics.Init.TheVariants as init
use Rattle.net_assembly.specs.net_alike.Renumbered.{latch_rows, AreRenumbered}
use Rattle.net_assembly.proofs.net_alike.Carrying.{depth_carried, no_depth_carried, run_carried, mark_carried}
use Rattle.job_base.proofs.sec_files.Texts.{one_text_net, text_sound}
use Rattle.signal_graph.specs.declared.inner_cone.latch_cone.kinds.LatchKind.{LatchKind}
use Rattle.signal_graph.specs.declared.inner_cone.latch_cone.kinds.LatchKind.TheVariants as kind
use Rattle.signal_graph.specs.inner_cone.latch_cone.Kinds.{IsKindIn}
use Rattle.circuit_report.specs.graph_report.Report.{Measured, IsMeasured, MeasuredLatch, IsMeasuredLatch, TellOf, latch_signal, latch_text, latch_line, output_text, output_line, counts_text, cycle_line, IsGraphReport}
use Rattle.cycle_sim.specs.Runs.{initial_or, reset_bits}
use Rattle.cycle_sim.proofs.Starts.{same_reset_bits, has_start, start_there}
use Rattle.circuit_report.specs.sim_report.Checks.{word_bits, power_of}
use Rattle.circuit_report.specs.sim_report.Report.{Shown, sim_text, IsSimulated, IsShown, IsSimReport}
use Rattle.circuit_report.proofs.sim_report.Reports.{one_report, simulation_exists}
use Rattle.premise_rows.specs.job_rows.OneReport.{AreOneGraph, GraphReportsAreOne, SimReportsAreOne}

-- the latches of a net, as its circuit's
no_gate_rows : (covers : List Cover) (gates : List NetGate) (es : List (Equation ℕ)) → latch_rows (map (equation_of_gate covers) gates ++ es) ≡ latch_rows es
no_gate_rows covers [] es = refl
no_gate_rows covers (g ∷ gates) es = no_gate_rows covers gates es

only_rows : (latches : List LatchAt) → latch_rows (map equation_of_latch latches) ≡ map equation_of_latch latches
only_rows [] = refl
only_rows (l ∷ latches) = ap (λ (es : List (Equation ℕ)). equation_of_latch l ∷ es) (only_rows latches)

rows_are : (n : NetView) → latch_rows (circuit_of n).equations ≡ map equation_of_latch n.latches
rows_are n = no_gate_rows n.covers n.gates (map equation_of_latch n.latches) ∙ only_rows n.latches

-- what an equation drives, under its name
abbrev signal_of : Equation ℕ → Named ℕ
signal_of (Gate out fanins cover) = record { name = []; place = out }
signal_of (Latch name out next) = record { name = name; place = out }
signal_of (Port out from) = record { name = []; place = out }

latch_signals : (to : ℕ → ℕ) (ls ms : List LatchAt) → map (moved to) (map equation_of_latch ls) ≡ map equation_of_latch ms → map (moved_name to) (map latch_signal ls) ≡ map latch_signal ms
latch_signals to ls ms h =
    map-map (moved_name to) latch_signal ls
    ∙ sym (map-map signal_of (λ (l : LatchAt). moved to (equation_of_latch l)) ls)
    ∙ ap (map signal_of) (sym (map-map (moved to) equation_of_latch ls) ∙ h)
    ∙ map-map signal_of equation_of_latch ms

latch_place : (n : NetView) (l : LatchAt) → Contains n.latches l → IsPlace (circuit_of n) l.out.0
latch_place n l h =
    IsPlace.driven {e = equation_of_latch l} (Contains-append_right (map (equation_of_gate n.covers) n.gates) (map equation_of_latch n.latches) (equation_of_latch l) (Contains-map equation_of_latch n.latches l h)) refl

module _ (a b : NetView) (to back : ℕ → ℕ) (r : AreRenumbered (circuit_of a) (circuit_of b) to back) where
  same_latches : map (moved_name to) (map latch_signal a.latches) ≡ map latch_signal b.latches
  same_latches = latch_signals to a.latches b.latches (ap (map (moved to)) (sym (rows_are a)) ∙ r.latches ∙ rows_are b)

  -- a place has one depth
  one_depth : (p : ℕ) → IsPlace (circuit_of a) p → (d e : Option ℕ) → MatchOption d (HasNoDepth (circuit_of a) NoneEnabled p) (λ k. IsDepth (circuit_of a) NoneEnabled p k) →
      MatchOption e (HasNoDepth (circuit_of b) NoneEnabled (to p)) (λ k. IsDepth (circuit_of b) NoneEnabled (to p) k) → d ≡ e
  one_depth p at None None h g = refl
  one_depth p at None (Some k) h g = absurd (let own = (depth_carried (circuit_of a) (circuit_of b) to back r p at k).1 g in let le = own.greatest (suc k) (h (suc k)) in omega (arith, le))
  one_depth p at (Some k) None h g = absurd (let none = (no_depth_carried (circuit_of a) (circuit_of b) to back r p at).1 g in let le = h.greatest (suc k) (none (suc k)) in omega (arith, le))
  one_depth p at (Some k) (Some j) h g =
      let own = (depth_carried (circuit_of a) (circuit_of b) to back r p at j).1 g in
      let low = h.greatest j own.reached in
      let high = own.greatest k h.reached in
      ap Some (omega (arith, low, high))

  -- a measured signal has one depth in both
  depth_is : (x y : Measured) → moved_name to x.signal ≡ y.signal → IsPlace (circuit_of a) x.signal.place → IsMeasured Plain (circuit_of a) x → IsMeasured Plain (circuit_of b) y → x.depth ≡ y.depth
  depth_is x y head at left right =
      let place : to x.signal.place ≡ y.signal.place = ap (λ (n : Named ℕ). n.place) head in
      let own : IsMeasured Plain (circuit_of b) (record { signal = record { name = y.signal.name; place = to x.signal.place }; depth = y.depth }) =
      subst (λ (p : ℕ). IsMeasured Plain (circuit_of b) (record { signal = record { name = y.signal.name; place = p }; depth = y.depth })) (sym place) right in
      one_depth x.signal.place at x.depth y.depth left own

  output_lines : (x y : Measured) → moved_name to x.signal ≡ y.signal → IsPlace (circuit_of a) x.signal.place → IsMeasured Plain (circuit_of a) x → IsMeasured Plain (circuit_of b) y → output_line x ≡ output_line y
  output_lines x y head at left right = ap₂ output_text (ap (λ (n : Named ℕ). n.name) head) (depth_is x y head at left right)

  latch_lines : (x y : MeasuredLatch) → moved_name to x.measured.signal ≡ y.measured.signal → IsPlace (circuit_of a) x.measured.signal.place → IsMeasuredLatch Plain (circuit_of a) x → IsMeasuredLatch Plain (circuit_of b) y → latch_line x ≡ latch_line y
  latch_lines x y head at left right =
      ap₂ (λ (name : List ℕ) (depth : Option ℕ). latch_text name depth x.kind) (ap (λ (n : Named ℕ). n.name) head) (depth_is x.measured y.measured head at left.0 right.0)
      ∙ ap (latch_text y.measured.signal.name y.measured.depth) (same_kind x.kind y.kind left.1 right.1)
    where
      same_kind : (k j : LatchKind) → IsKindIn Plain (circuit_of a) x.measured.signal.place k → IsKindIn Plain (circuit_of b) y.measured.signal.place j → k ≡ j
      same_kind kind.Plain kind.Plain h g = refl
      same_kind kind.Plain kind.Enabled h g = absurd g
      same_kind kind.Plain kind.NotUnate h g = absurd g
      same_kind kind.Enabled j h g = absurd h
      same_kind kind.NotUnate j h g = absurd h

  -- so all lines are the same
  same_lines : {X : Type 0} (signal : X → Named ℕ) (line : X → List ℕ) (Left Right : X → Type 0) →
      ((x y : X) → moved_name to (signal x) ≡ signal y → IsPlace (circuit_of a) (signal x).place → Left x → Right y → line x ≡ line y) →
      (xs ys : List X) → map (moved_name to) (map signal xs) ≡ map signal ys →
      ((x : X) → Contains xs x → IsPlace (circuit_of a) (signal x).place) → ((x : X) → Contains xs x → Left x) → ((y : X) → Contains ys y → Right y) →
      flat_map line xs ≡ flat_map line ys
  same_lines signal line Left Right step [] [] same at left right = refl
  same_lines signal line Left Right step [] (y ∷ ys) same at left right = absurd (cc)
  same_lines signal line Left Right step (x ∷ xs) [] same at left right = absurd (cc)
  same_lines signal line Left Right step (x ∷ xs) (y ∷ ys) same at left right =
      let head : moved_name to (signal x) ≡ signal y = cc in
      let rest : map (moved_name to) (map signal xs) ≡ map signal ys = cc in
      ap₂ (λ (l m : List ℕ). l ++ m) (step x y head (at x (Contains-head x xs)) (left x (Contains-head x xs)) (right y (Contains-head y ys)))
      (same_lines signal line Left Right step xs ys rest (λ m h. at m (Contains-tail x m xs h)) (λ m h. left m (Contains-tail x m xs h)) (λ m h. right m (Contains-tail y m ys h)))

  -- the same of signals in their order
  told_lines : {X : Type 0} (signal : X → Named ℕ) (line : X → List ℕ) (Left Right : X → Type 0) →
      ((x y : X) → moved_name to (signal x) ≡ signal y → IsPlace (circuit_of a) (signal x).place → Left x → Right y → line x ≡ line y) →
      (own others : List (Named ℕ)) → map (moved_name to) own ≡ others → ((s : Named ℕ) → Contains own s → IsPlace (circuit_of a) s.place) →
      (xs ys : List X) → TellOf signal Left own xs → TellOf signal Right others ys → flat_map line xs ≡ flat_map line ys
  told_lines signal line Left Right step own others same at xs ys left right =
      same_lines signal line Left Right step xs ys (ap (map (moved_name to)) left.signals_are ∙ same ∙ sym right.signals_are)
      (λ m h. at (signal m) (subst (λ (ss : List (Named ℕ)). Contains ss (signal m)) left.signals_are (Contains-map signal xs m h)))
      (λ m h. All-contains Left xs m left.right h) (λ m h. All-contains Right ys m right.right h)

  signal_place : (s : Named ℕ) → Contains (map latch_signal a.latches) s → IsPlace (circuit_of a) s.place
  signal_place s h =
      let l = Contains-map_from latch_signal a.latches s h in
      subst (IsPlace (circuit_of a)) (ap (λ (n : Named ℕ). n.place) l.2) (latch_place a l.0 l.1)

  count : {X Y : Type 0} (f : X → Named ℕ) (g : Y → Named ℕ) (xs : List X) (ys : List Y) → map (moved_name to) (map f xs) ≡ map g ys → length xs ≡ length ys
  count f g xs ys same = sym (length-map (map f xs) (moved_name to) ∙ length-map xs f) ∙ ap length same ∙ length-map ys g

  same_counts : counts_text a ≡ counts_text b
  same_counts =
      let inputs = count named named a.inputs b.inputs r.inputs in
      let outputs = count named named a.outputs b.outputs r.outputs in
      let latches = count latch_signal latch_signal a.latches b.latches same_latches in
      ap₂ (λ (i o : ℕ). codes "inputs " ++ decimal i ++ codes "\noutputs " ++ decimal o ++ codes "\nlatches " ++ decimal (length a.latches) ++ 10 ∷ []) inputs outputs
      ∙ ap (λ (l : ℕ). codes "inputs " ++ decimal (length b.inputs) ++ codes "\noutputs " ++ decimal (length b.outputs) ++ codes "\nlatches " ++ decimal l ++ 10 ∷ []) latches

  one_graph : (left right : List ℕ) → IsGraphReport Plain a left → IsGraphReport Plain b right → AreOneGraph a b left right
  one_graph left right x y =
      let latches : flat_map latch_line x.latches ≡ flat_map latch_line y.latches =
      told_lines (λ (l : MeasuredLatch). l.measured.signal) latch_line (IsMeasuredLatch Plain (circuit_of a)) (IsMeasuredLatch Plain (circuit_of b)) latch_lines
      (map latch_signal a.latches) (map latch_signal b.latches) same_latches signal_place x.latches y.latches x.latches_are y.latches_are in
      let outputs : flat_map output_line x.outputs ≡ flat_map output_line y.outputs =
      told_lines (λ (m : Measured). m.signal) output_line (IsMeasured Plain (circuit_of a)) (IsMeasured Plain (circuit_of b)) output_lines
      (map named a.outputs) (map named b.outputs) r.outputs (λ s h. IsPlace.output {name = s.name} h) x.outputs y.outputs x.outputs_are y.outputs_are in
      record {
        counts = counts_text b;
        latches = flat_map latch_line y.latches;
        outputs = flat_map output_line y.outputs;
        left_cycle = x.cycle;
        right_cycle = y.cycle;
        left_found = x.cycle_is;
        right_found = y.cycle_is;
        left_is = x.text_is ∙ ap (λ (c : List ℕ). c ++ flat_map latch_line x.latches ++ flat_map output_line x.outputs ++ cycle_line x.cycle) same_counts
            ∙ ap₂ (λ (l o : List ℕ). counts_text b ++ l ++ o ++ cycle_line x.cycle) latches outputs;
        right_is = y.text_is;
      }

  -- an initial value of a latch has the effect of that of the latch where it goes
  module _ (left_sound : IsSound a) (right_sound : IsSound b) where
    same_initial : (j : ℕ) (l m : LatchAt) → slice_get a.latches j ≡ Some l → slice_get b.latches j ≡ Some m → (bit : Bool) → initial_or l.init bit ≡ initial_or m.init bit
    same_initial j l m at at' bit = by l.init m.init refl refl
      where
        goes : to l.out.0 ≡ m.out.0
        goes =
            (let own = slice_get-map (moved_name to) (map latch_signal a.latches) j (latch_signal l) (slice_get-map latch_signal a.latches j l at) in
            let other = slice_get-map latch_signal b.latches j m at' in
            ap (λ (n : Named ℕ). n.place) (same_Some _ _ (sym own ∙ (ap (λ (ns : List (Named ℕ)). slice_get ns j) same_latches ∙ other))))

        comes : back m.out.0 ≡ l.out.0
        comes = ap back (sym goes) ∙ r.there_and_back l.out.0 (latch_place a l (of_at a.latches j l at))

        there : (start : Bool) → start_of l.out.0 l.init ≡ Some (record { place = l.out.0; bit = start }) → initial_or m.init bit ≡ start
        there start e =
            start_there b right_sound j m at' start
            (subst (λ (p : ℕ). Contains (circuit_of b).starts (record { place = p; bit = start })) goes
            (subst (λ (ss : List (Started ℕ)). Contains ss (record { place = to l.out.0; bit = start })) r.starts
            (Contains-map (moved_start to) (circuit_of a).starts (record { place = l.out.0; bit = start }) (has_start a left_sound l (of_at a.latches j l at) (record { place = l.out.0; bit = start }) e)))) bit

        from : (start : Bool) → start_of m.out.0 m.init ≡ Some (record { place = m.out.0; bit = start }) → initial_or l.init bit ≡ start
        from start e =
            start_there a left_sound j l at start
            (subst (λ (p : ℕ). Contains (circuit_of a).starts (record { place = p; bit = start })) comes
            (subst (λ (ss : List (Started ℕ)). Contains ss (record { place = back m.out.0; bit = start })) r.starts_from
            (Contains-map (moved_start back) (circuit_of b).starts (record { place = m.out.0; bit = start }) (has_start b right_sound m (of_at b.latches j m at') (record { place = m.out.0; bit = start }) e)))) bit

        by : (i k : Init) → l.init ≡ i → m.init ≡ k → initial_or l.init bit ≡ initial_or m.init bit
        by init.Zero k e e' = ap (λ (x : Init). initial_or x bit) e ∙ sym (there false (ap (start_of l.out.0) e))
        by init.One k e e' = ap (λ (x : Init). initial_or x bit) e ∙ sym (there true (ap (start_of l.out.0) e))
        by i init.Zero e e' = from false (ap (start_of m.out.0) e') ∙ sym (ap (λ (x : Init). initial_or x bit) e')
        by i init.One e e' = from true (ap (start_of m.out.0) e') ∙ sym (ap (λ (x : Init). initial_or x bit) e')
        by init.DontCare init.DontCare e e' = ap (λ (x : Init). initial_or x bit) (e ∙ sym e')
        by init.DontCare init.Unknown e e' = ap (λ (x : Init). initial_or x bit) e ∙ sym (ap (λ (x : Init). initial_or x bit) e')
        by init.Unknown init.DontCare e e' = ap (λ (x : Init). initial_or x bit) e ∙ sym (ap (λ (x : Init). initial_or x bit) e')
        by init.Unknown init.Unknown e e' = ap (λ (x : Init). initial_or x bit) (e ∙ sym e')

  -- runs over a stimulus
  module _ (left_sound : IsSound a) (right_sound : IsSound b) (names : List (List ℕ)) (rows : List (List Bool)) (power : Option (List ℕ)) (reset : Bool) where
    same_word : word_bits a power ≡ word_bits b power
    same_word = by power
      where
        by : (p : Option (List ℕ)) → word_bits a p ≡ word_bits b p
        by None = ap (λ (n : ℕ). replicate n false) (count latch_signal latch_signal a.latches b.latches same_latches)
        by (Some word) = refl

    same_power : power_of a power reset ≡ power_of b power reset
    same_power = by reset
      where
        by : (x : Bool) → power_of a power x ≡ power_of b power x
        by true =
            same_reset_bits a.latches b.latches (count latch_signal latch_signal a.latches b.latches same_latches) (same_initial left_sound right_sound) (word_bits a power)
            ∙ ap (reset_bits b.latches) same_word
        by false = same_word

    -- the values at signals are those where they go
    values_there : {X Y : Type 0} (f : X → Named ℕ) (g : Y → Named ℕ) (xs : List X) (ys : List Y) → map (moved_name to) (map f xs) ≡ map g ys → (value : ℕ → Bool) →
        map (λ x. value (to (f x).place)) xs ≡ map (λ y. value (g y).place) ys
    values_there f g xs ys same value =
        sym (map-map (λ (n : Named ℕ). value n.place) (moved_name to) (map f xs) ∙ map-map (λ (n : Named ℕ). value (to n.place)) f xs)
        ∙ ap (map (λ (n : Named ℕ). value n.place)) same ∙ map-map (λ (n : Named ℕ). value n.place) g ys

    simulated : (run : ℕ → ℕ → Bool) → IsSimulated b names rows (power_of b power reset) run → IsSimulated a names rows (power_of a power reset) (λ t p. run t (to p))
    simulated run s = record {
      is_run = run_carried (circuit_of a) (circuit_of b) to back r (length rows) run s.is_run;
      powers_up = values_there latch_signal latch_signal a.latches b.latches same_latches (run 0) ∙ s.powers_up ∙ sym same_power;
      takes = λ t k row bit port at at_bit h is_named.
          (let there = Contains-map (moved_name to) (map named a.inputs) (named port) (Contains-map named a.inputs port h) in
          let other = Contains-map_from named b.inputs (moved_name to (named port)) (subst (λ (ns : List (Named ℕ)). Contains ns (moved_name to (named port))) r.inputs there) in
          let name : port.name ≡ other.0.name = sym (ap (λ (n : Named ℕ). n.name) other.2) in
          subst (λ (p : ℕ). run t p ≡ bit) (ap (λ (n : Named ℕ). n.place) other.2) (s.takes t k row bit other.0 at at_bit other.1 (is_named ∙ ap Some name)));
    }

    shown : (t : ℕ) (run : ℕ → ℕ → Bool) (s : Shown) → IsShown a NoneEnabled t (λ t p. run t (to p)) s → IsShown b NoneEnabled t run s
    shown t run s h = record {
      values = h.values ∙ values_there named named a.outputs b.outputs r.outputs (run t);
      each = h.each ∙ count named named a.outputs b.outputs r.outputs;
      marks = λ i port mark at at_mark.
          (let own : slice_get (map (moved_name to) (map named a.outputs)) i ≡ Some (named port) = ap (λ (ns : List (Named ℕ)). slice_get ns i) r.outputs ∙ slice_get-map named b.outputs i port at in
          let moved = map_at (moved_name to) (map named a.outputs) i (named port) own in
          let x = map_at named a.outputs i moved.0 moved.1 in
          let place : to x.0.signal.0 ≡ port.signal.0 = ap (λ (n : Named ℕ). to n.place) x.2 ∙ ap (λ (n : Named ℕ). n.place) moved.2 in
          let there = mark_carried (circuit_of a) (circuit_of b) to back r run t x.0.signal.0 (IsPlace.output {name = x.0.name} (Contains-map named a.outputs x.0 (of_at a.outputs i x.0 x.1))) in
          let same = h.marks i x.0 mark x.1 at_mark in
          subst (λ (p : ℕ). (mark ≡ true) ↔ IsSettled Plain (circuit_of b) run t p) place ((λ e. there.0 (same.0 e)), (λ m. same.1 (there.1 m))));
    }

    report_there : (text : List ℕ) → (run : ℕ → ℕ → Bool) × IsSimulated b names rows (power_of b power reset) run → IsSimReport Plain a names rows power reset text → IsSimReport Plain b names rows power reset text
    report_there text own x = record {
      run = own.0;
      runs = own.1;
      cycles = x.cycles;
      each = x.each;
      text_is = x.text_is ∙ ap (λ (ns : List (List ℕ)). sim_text ns x.cycles)
          (sym (map-map (λ (n : Named ℕ). n.name) (moved_name to) (map named a.outputs) ∙ map-map (λ (n : Named ℕ). n.name) named a.outputs) ∙ ap (map (λ (n : Named ℕ). n.name)) r.outputs ∙ map-map (λ (n : Named ℕ). n.name) named b.outputs);
      shown = λ run s t line at. shown t run line (x.shown (λ t p. run t (to p)) (simulated run s) t line at);
    }

pub graph_reports_are_one : GraphReportsAreOne
graph_reports_are_one text a b la lb left right x y = let one = one_text_net text a b la lb in one_graph a b one.to one.back one.circuits left right x y

pub sim_reports_are_one : SimReportsAreOne
sim_reports_are_one text a b la lb stimulus names rows s power fits reset left right x y =
    let one = one_text_net text a b la lb in
    one_report b (text_sound text b lb) names rows s.form.names_are.distinct s.form.rows_are power reset fits Plain left right (report_there a b one.to one.back one.circuits (text_sound text a la) (text_sound text b lb) names rows power reset left
    (simulation_exists b (text_sound text b lb) names rows s.form.names_are.distinct s.form.rows_are power reset fits) x) y
