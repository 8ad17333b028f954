-- What a net reads has a number among those of the columns; at its other inputs a run may have any values.
use Rattle.std.proofs.Common.{◌≡◌, ◌∙◌, ◌+◌, ◌-◌, ◌<◌, ◌≤◌, ℕ, zero, suc, Bool, true, false, not, cond, List, [], ◌∷◌, length, map, slice_get, Some, refl, sym, ap, subst, arith, inl, inr}
use Rattle.std.specs.Prelude.{◌⊎◌, ◌&&◌, ◌||◌, ◌==◌, slice_index_or}
use Rattle.std.specs.List.{Contains, filter, list_any}
use Rattle.std.proofs.lemmas.List.Elements.{All-contains}
use Rattle.std.proofs.lemmas.List.Folds.{list_any_at}
use Rattle.std.proofs.lemmas.Option.{slice_get_within}
use Rattle.circuit_theory.specs.Cover.{cover_value}
use Rattle.circuit_theory.specs.Circuit.{Circuit, Equation, Gate, Latch, Port as PortEquation, Named, IsLatch, Reads, Holds, Carries, out_of}
use Rattle.circuit_theory.specs.Interface.{AreNumbersOf}
use Rattle.circuit_theory.specs.Names.{is_among}
use Rattle.circuit_theory.specs.Net.{IsNet, IsAbove}
use Rattle.circuit_theory.specs.Run.{IsRun}
use Rattle.circuit_theory.specs.Sequence.{sequence_row, sequence_rows_from, sequence_rows, row_value, TakesInputs}
use Rattle.circuit_theory.specs.Tree.{IsInputNumber}
use Rattle.circuit_theory.proofs.Inputs.{test_refl, test_same}
use Rattle.circuit_theory.proofs.Lists.{All-from_each, at_of, of_at, Contains-head, Contains-map, Contains-map_from, Contains-tail, map-map}
use Rattle.circuit_theory.proofs.Numbers.{beside_at, is_among-complete, is_among-sound, slice_get-map}
use Rattle.circuit_laws.proofs.Windows.{row_value-is}
use Rattle.flat_net.specs.declared.parts.Gate.{Gate as NetGate}
use Rattle.flat_net.specs.declared.parts.LatchAt.{LatchAt}
use Rattle.flat_net.specs.declared.parts.Port.{Port}
use Rattle.flat_net.specs.declared.signals.Signal.{Signal}
use Rattle.flat_net.specs.Sound.{IsSound}
use Rattle.flat_net.specs.View.{NetView, named, circuit_of, is_read}
use Rattle.flat_net.proofs.Nets.{OfGate, OfLatch, equation_from, sound_is_net}
use Rattle.sec_setup.proofs.ports.Shared.{Contains-filter_in}
use Rattle.outcome_fits.proofs.plain_meaning.Sequences.{printed}
use Rattle.sec_setup.specs.Setup.{AreColumns}
use Rattle.witness_report.specs.declared.witness.Witness.{Witness}
use Rattle.witness_report.specs.Shown.{Obeys}
use Rattle.event_setup.proofs.read_inputs.Places.{IsShown, shown_port}

no_both : {b : Bool} → b ≡ true → b ≡ false → ⊥
no_both p q = cc

some_is : {X : Type 0} {x y : X} → Some x ≡ Some y → x ≡ y
some_is q = cc

both : (x y : Bool) → (x && y) ≡ true → (x ≡ true) × (y ≡ true)
both true y h = (refl, h)
both false y h = absurd (cc)

not_true : (x : Bool) → not x ≡ true → x ≡ false
not_true true h = absurd (cc)
not_true false h = refl

first_holds : (x y : Bool) → x ≡ true → (x || y) ≡ true
first_holds true y h = refl
first_holds false y h = absurd (cc)

second_holds : (x y : Bool) → y ≡ true → (x || y) ≡ true
second_holds true y h = refl
second_holds false y h = h

any_found : {X : Type 0} (test : X → Bool) (xs : List X) → list_any test xs ≡ true → (x : X) × Contains xs x × (test x ≡ true)
any_found test [] e = absurd (cc)
any_found {X} test (x ∷ xs) e = go (test x) refl (λ k. any_found test xs k)
  where
    go : (b : Bool) → test x ≡ b → (list_any test xs ≡ true → (y : X) × Contains xs y × (test y ≡ true)) → (y : X) × Contains (x ∷ xs) y × (test y ≡ true)
    go true q later = (x, Contains-head x xs, q)
    go false q later = let f = later (sym (ap (λ b. b || list_any test xs) q) ∙ e) in (f.0, Contains-tail x f.0 xs f.1, f.2)

any_holds : {X : Type 0} (test : X → Bool) (xs : List X) (x : X) → Contains xs x → test x ≡ true → list_any test xs ≡ true
any_holds test xs x h e = list_any_at test xs h.0 x h.1 (ap test h.2 ∙ e)

same_signal : (p q : ℕ) → p ≡ q → (p == q) ≡ true
same_signal p q e = subst (λ z. (p == z) ≡ true) e (test_refl p)

-- a place that an equation reads, a latch takes over or an output shows
abbrev pub IsReadPlace : {P : Type 0} → Circuit P → P → Type 0
IsReadPlace {P} c q = ((p : P) × Reads c p q) ⊎ (((name : List ℕ) × (u : P) × IsLatch c name u q) ⊎ IsShown c q)

abbrev fanins_of : Equation ℕ → List ℕ
fanins_of (Gate out fanins cover) = fanins
fanins_of (Latch name out next) = []
fanins_of (PortEquation out from) = []

abbrev next_of : Equation ℕ → ℕ
next_of (Gate out fanins cover) = out
next_of (Latch name out next) = next
next_of (PortEquation out from) = from

-- rows of a sequence are no longer than so many inputs
past_row : (last : ℕ) (x : ℕ → ℕ → Bool) (cycle input count i : ℕ) → count ≤ i → slice_index_or (sequence_row last x cycle input count) i false ≡ false
past_row last x cycle input zero i h = refl
past_row last x cycle input (suc count) zero h = absurd (omega (arith, h))
past_row last x cycle input (suc count) (suc i) h = past_row last x cycle (suc input) count i (omega (arith, h))

past_rows : (last : ℕ) (x : ℕ → ℕ → Bool) (count cycle cycles t i : ℕ) → count ≤ i → row_value (sequence_rows_from last x count cycle cycles) i t ≡ false
past_rows last x count cycle zero t i h = refl
past_rows last x count cycle (suc cycles) zero i h = past_row last x cycle 0 count i h
past_rows last x count cycle (suc cycles) (suc t) i h = past_rows last x count (suc cycle) cycles t i h

module _ (n : NetView) (sound : IsSound n) where
  net : IsNet (circuit_of n) (length n.drivers)
  net = sound_is_net n sound

  abbrev by_gates : Signal → Bool
  by_gates s = list_any (λ (g : NetGate). list_any (λ (f : Signal). f.0 == s.0) g.fanins) n.gates

  abbrev by_latches : Signal → Bool
  by_latches s = list_any (λ (l : LatchAt). l.next.0 == s.0) n.latches

  abbrev by_outputs : Signal → Bool
  by_outputs s = list_any (λ (port : Port). port.signal.0 == s.0) n.outputs

  gate_reads : (s : Signal) → by_gates s ≡ true → is_read n s ≡ true
  gate_reads s e = first_holds (by_gates s || by_latches s) (by_outputs s) (first_holds (by_gates s) (by_latches s) e)

  latch_reads : (s : Signal) → by_latches s ≡ true → is_read n s ≡ true
  latch_reads s e = first_holds (by_gates s || by_latches s) (by_outputs s) (second_holds (by_gates s) (by_latches s) e)

  output_shows : (s : Signal) → by_outputs s ≡ true → is_read n s ≡ true
  output_shows s e = second_holds (by_gates s || by_latches s) (by_outputs s) e

  -- a fan-in of an equation is read by a gate of the net
  fanin_read : (e : Equation ℕ) → Contains (circuit_of n).equations e → (s : Signal) → Contains (fanins_of e) s.0 → by_gates s ≡ true
  fanin_read e there s h = go (equation_from n e there)
    where
      none : (ps : List ℕ) → ps ≡ [] → Contains ps s.0 → ⊥
      none [] e k = omega (arith, k.1)
      none (p ∷ ps) e k = cc

      go : OfGate n e ⊎ OfLatch n e → by_gates s ≡ true
      go (inl k) =
          let f = Contains-map_from (λ (x : Signal). x.0) k.gate.fanins s.0 (subst (λ (x : Equation ℕ). Contains (fanins_of x) s.0) (sym k.is) h) in
          any_holds (λ (g : NetGate). list_any (λ (x : Signal). x.0 == s.0) g.fanins) n.gates k.gate (of_at n.gates k.j k.gate k.at) (any_holds (λ (x : Signal). x.0 == s.0) k.gate.fanins f.0 f.1 (same_signal f.0.0 s.0 f.2))
      go (inr k) = absurd (none (fanins_of e) (sym (ap fanins_of k.is)) h)

  -- what is read in the circuit is read in the net
  pub read_in_net : (s : Signal) → IsReadPlace (circuit_of n) s.0 → is_read n s ≡ true
  read_in_net s (inl (p, Reads.by_gate {fanins = fanins} {cover = cover} eq h)) = gate_reads s (fanin_read (Gate p fanins cover) eq s h)
  read_in_net s (inl (p, Reads.by_port eq)) = absurd (All-contains IsAbove (circuit_of n).equations (PortEquation p s.0) net.above eq)
  read_in_net s (inr (inl (name, u, latch))) = latch_reads s (go (equation_from n (Latch name u s.0) latch))
    where
      go : OfGate n (Latch name u s.0) ⊎ OfLatch n (Latch name u s.0) → by_latches s ≡ true
      go (inl k) = absurd (let e = k.is in cc)
      go (inr k) = any_holds (λ (l : LatchAt). l.next.0 == s.0) n.latches k.latch (of_at n.latches k.j k.latch k.at) (same_signal k.latch.next.0 s.0 (ap next_of k.is))
  read_in_net s (inr (inr shown)) = output_shows s (let port = shown_port n s.0 shown in any_holds (λ (x : Port). x.signal.0 == s.0) n.outputs port.0 port.1 (same_signal port.0.signal.0 s.0 port.2))

  module _ (columns : List (List ℕ)) (own others : List ℕ) (are : AreColumns n columns own others) where
    -- the numbers by the inputs of the circuit
    numbers : AreNumbersOf (map (λ (i : Named ℕ). i.name) (circuit_of n).inputs) columns own others
    numbers = subst (λ (words : List (List ℕ)). AreNumbersOf words columns own others) (sym (map-map (λ (i : Named ℕ). i.name) named n.inputs)) are.numbers

    -- an input that is read is named by a column
    read_named : (port : Port) → Contains n.inputs port → is_read n port.signal ≡ true → Contains columns port.name
    read_named port there read =
        are.read port.name (Contains-map (λ (x : Port). x.name) (filter (λ (x : Port). is_read n x.signal) n.inputs) port (Contains-filter_in (λ (x : Port). is_read n x.signal) n.inputs port there read))

    -- the number of an input of a name that is a column is that column's place
    number_below : (k i : ℕ) (name : List ℕ) → slice_get (map (λ (m : Named ℕ). m.name) (circuit_of n).inputs) k ≡ Some name → slice_get own k ≡ Some i → Contains columns name → i < length columns
    number_below k i name at number there =
        let j = at_of columns name there in
        let same : j.0 ≡ i = some_is (sym (numbers.common k j.0 name at j.1) ∙ number) in
        subst (λ z. z < length columns) same (slice_get_within columns j.0 name j.1)

    input_port : (k : ℕ) (m : Named ℕ) → slice_get (circuit_of n).inputs k ≡ Some m → (port : Port) × Contains n.inputs port × (named port ≡ m)
    input_port k m at = Contains-map_from named n.inputs m (of_at (circuit_of n).inputs k m at)

    input_name : (k : ℕ) (m : Named ℕ) → slice_get (circuit_of n).inputs k ≡ Some m → slice_get (map (λ (x : Named ℕ). x.name) (circuit_of n).inputs) k ≡ Some m.name
    input_name k m at = slice_get-map (λ (x : Named ℕ). x.name) (circuit_of n).inputs k m at

    -- an input that is read has the number of a column
    pub read_below : (q i : ℕ) → IsReadPlace (circuit_of n) q → IsInputNumber (circuit_of n) own q i → i < length columns
    read_below q i read number =
        let at = beside_at (circuit_of n).inputs own q i number in
        let port = input_port at.0 at.1 at.2 in
        let place : port.0.signal.0 ≡ q = ap (λ (m : Named ℕ). m.place) port.2 ∙ at.3 in
        let there : Contains columns port.0.name = read_named port.0 port.1 (read_in_net port.0.signal (subst (IsReadPlace (circuit_of n)) (sym place) read)) in
        number_below at.0 i at.1.name (input_name at.0 at.1 at.2) at.4 (subst (Contains columns) (ap (λ (m : Named ℕ). m.name) port.2) there)

    -- the signal is that of an input that no column names
    abbrev is_blank : ℕ → Bool
    is_blank s = list_any (λ (port : Port). (port.signal.0 == s) && not (is_among columns port.name)) n.inputs

    blank_port : (s : ℕ) → is_blank s ≡ true → (port : Port) × Contains n.inputs port × (port.signal.0 ≡ s) × (is_among columns port.name ≡ false)
    blank_port s e =
        let f = any_found (λ (port : Port). (port.signal.0 == s) && not (is_among columns port.name)) n.inputs e in
        let parts = both (f.0.signal.0 == s) (not (is_among columns f.0.name)) f.2 in
        (f.0, f.1, test_same f.0.signal.0 s parts.0, not_true (is_among columns f.0.name) parts.1)

    -- nothing reads it
    read_not_blank : (s : ℕ) → IsReadPlace (circuit_of n) s → is_blank s ≡ false
    read_not_blank s read = go (is_blank s) refl
      where
        go : (b : Bool) → is_blank s ≡ b → b ≡ false
        go false e = refl
        go true e =
            let port = blank_port s e in
            absurd (no_both (is_among-complete columns port.0.name (read_named port.0 port.1 (read_in_net port.0.signal (subst (IsReadPlace (circuit_of n)) (sym port.2) read)))) port.3)

    -- no equation drives it
    driven_not_blank : (e : Equation ℕ) → Contains (circuit_of n).equations e → is_blank (out_of e) ≡ false
    driven_not_blank e there = go (is_blank (out_of e)) refl
      where
        go : (b : Bool) → is_blank (out_of e) ≡ b → b ≡ false
        go false q = refl
        go true q =
            let port = blank_port (out_of e) q in
            absurd (net.single.no_input e there (port.0.name, subst (λ p. Contains (circuit_of n).inputs (record { name = port.0.name; place = p })) port.2 (Contains-map named n.inputs port.0 port.1)))

    -- two inputs of one signal have one name
    one_name : (x y : Port) → Contains n.inputs x → Contains n.inputs y → x.signal.0 ≡ y.signal.0 → x.name ≡ y.name
    one_name x y hx hy same =
        let i = at_of n.inputs x hx in
        let j = at_of n.inputs y hy in
        some_is (sym (sound.inputs i.0 x i.1).named ∙ (ap (slice_get n.names) same ∙ (sound.inputs j.0 y j.1).named))

    module _ (run : ℕ → ℕ → Bool) where
      -- the run with 0 at these inputs
      abbrev blanked : ℕ → ℕ → Bool
      blanked t s = cond (is_blank s) false (run t s)

      kept : (t s : ℕ) → is_blank s ≡ false → blanked t s ≡ run t s
      kept t s e = ap (λ b. cond b false (run t s)) e

      all_kept : (t : ℕ) (ps : List ℕ) → ((p : ℕ) → Contains ps p → is_blank p ≡ false) → map (blanked t) ps ≡ map (run t) ps
      all_kept t [] each = refl
      all_kept t (p ∷ ps) each =
          let head = kept t p (each p (Contains-head p ps)) in
          let tail = all_kept t ps (λ q h. each q (Contains-tail p q ps h)) in cc

      blanked_holds : (t : ℕ) (e : Equation ℕ) → Contains (circuit_of n).equations e → Holds (run t) e → Holds (blanked t) e
      blanked_holds t (Gate out fanins cover) there h =
          kept t out (driven_not_blank (Gate out fanins cover) there) ∙ (h ∙ ap (cover_value cover) (sym (all_kept t fanins (λ p m. read_not_blank p (inl (out, Reads.by_gate there m))))))
      blanked_holds t (Latch name out next) there h = tt
      blanked_holds t (PortEquation out from) there h = absurd (All-contains IsAbove (circuit_of n).equations (PortEquation out from) net.above there)

      blanked_carries : (t : ℕ) (e : Equation ℕ) → Contains (circuit_of n).equations e → Carries (run t) (run (t + 1)) e → Carries (blanked t) (blanked (t + 1)) e
      blanked_carries t (Gate out fanins cover) there h = tt
      blanked_carries t (Latch name out next) there h = kept (t + 1) out (driven_not_blank (Latch name out next) there) ∙ (h ∙ sym (kept t next (read_not_blank next (inr (inl (name, out, there))))))
      blanked_carries t (PortEquation out from) there h = tt

      blanked_run : (steps : ℕ) → IsRun (circuit_of n) steps run → IsRun (circuit_of n) steps blanked
      blanked_run steps is = record {
        meets = λ t below. All-from_each (Holds (blanked t)) (circuit_of n).equations (λ e h. blanked_holds t e h (All-contains (Holds (run t)) (circuit_of n).equations e (is.meets t below) h));
        carries = λ t below. All-from_each (Carries (blanked t) (blanked (t + 1))) (circuit_of n).equations
            (λ e h. blanked_carries t e h (All-contains (Carries (run t) (run (t + 1))) (circuit_of n).equations e (is.carries t below) h));
      }

      -- a run that obeys a sequence takes its rows there
      module _ (w : Witness) (names : w.stimulus.names ≡ columns) (x : ℕ → ℕ → Bool) (rows : w.stimulus.rows ≡ sequence_rows w.cycle x (length columns)) (steps : ℕ) (in_run : w.cycle < steps)
          (is_run : IsRun (circuit_of n) steps run) (obeys : Obeys (circuit_of n) w.stimulus steps run) where
        blanked_takes : TakesInputs (circuit_of n) own (row_value w.stimulus.rows) (w.cycle + 1) blanked
        blanked_takes t p i below number = subst (λ (rs : List (List Bool)). blanked t p ≡ row_value rs i t) (sym rows) (go (is_among columns m.name) refl)
          where
            at : (k : ℕ) × (m : Named ℕ) × (slice_get (circuit_of n).inputs k ≡ Some m) × (m.place ≡ p) × (slice_get own k ≡ Some i)
            at = beside_at (circuit_of n).inputs own p i number

            m : Named ℕ
            m = at.1

            port : (port : Port) × Contains n.inputs port × (named port ≡ m)
            port = input_port at.0 m at.2

            place : port.0.signal.0 ≡ p
            place = ap (λ (z : Named ℕ). z.place) port.2 ∙ at.3

            back : w.cycle - (w.cycle - t) ≡ t
            back = omega (arith, below)

            go : (b : Bool) → is_among columns m.name ≡ b → blanked t p ≡ row_value (sequence_rows w.cycle x (length columns)) i t
            go true e = subst (λ z. blanked z p ≡ row_value (sequence_rows w.cycle x (length columns)) i z) back
                (kept (w.cycle - (w.cycle - t)) p none ∙ (sym (printed (circuit_of n) own others columns numbers w names x rows steps run in_run is_run obeys p i (w.cycle - t) number low (omega arith))
                ∙ sym (row_value-is w.cycle x (length columns) i (w.cycle - t) (omega arith) (λ h. absurd (omega (arith, h, low))))))
              where
                low : i < length columns
                low = number_below at.0 i m.name (input_name at.0 m at.2) at.4 (is_among-sound columns m.name e)

                none : is_blank p ≡ false
                none = blank (is_blank p) refl
                  where
                    blank : (b : Bool) → is_blank p ≡ b → b ≡ false
                    blank false q = refl
                    blank true q =
                        let other = blank_port p q in
                        let same : other.0.name ≡ m.name = one_name other.0 port.0 other.1 port.1 (other.2 ∙ sym place) ∙ ap (λ (z : Named ℕ). z.name) port.2 in
                        absurd (no_both e (subst (λ (z : List ℕ). is_among columns z ≡ false) same other.3))
            go false e =
                ap (λ b. cond b false (run t p)) hidden ∙ sym (past_rows w.cycle x (length columns) 0 (suc w.cycle) t i out.0)
              where
                is_out : is_among columns port.0.name ≡ false
                is_out = subst (λ (z : List ℕ). is_among columns z ≡ false) (sym (ap (λ (z : Named ℕ). z.name) port.2)) e

                hidden : is_blank p ≡ true
                hidden = any_holds (λ (y : Port). (y.signal.0 == p) && not (is_among columns y.name)) n.inputs port.0 port.1
                    (let s = same_signal port.0.signal.0 p place in let o = ap not is_out in cc)

                out : (length columns ≤ i) × (Contains others i → ⊥)
                out = numbers.left_out at.0 i m.name (input_name at.0 m at.2) (λ h. no_both (is_among-complete columns m.name h) e) at.4

        -- so it has in the last cycle, at a place that is read, what a run that takes the rows has there
        pub value_shows : (p : ℕ) (value : Bool) → IsReadPlace (circuit_of n) p →
            ((size : ℕ) (other : ℕ → ℕ → Bool) → IsRun (circuit_of n) size other → w.cycle < size → TakesInputs (circuit_of n) own (row_value w.stimulus.rows) (w.cycle + 1) other → other w.cycle p ≡ value) → run w.cycle p ≡ value
        value_shows p value read taking = sym (kept w.cycle p (read_not_blank p read)) ∙ taking steps blanked (blanked_run steps is_run) in_run blanked_takes
