-- Each literal of a file is driven once.
use Rattle.std.proofs.Common.{◌≡◌, ℕ, zero, suc, ◌+◌, ◌*◌, ◌-◌, ◌/◌, ◌%◌, ◌<◌, ◌≤◌, Bool, true, false, cond, List, [], ◌∷◌, ◌++◌, map, length, slice_get, Some, refl, sym, ◌∙◌, ap, subst, arith, inl, inr}
use Rattle.std.specs.Prelude.{◌⊎◌}
use Rattle.std.specs.List.{Contains}
use Rattle.std.proofs.lemmas.List.{map-append}
use Rattle.std.proofs.lemmas.List.Elements.{Contains-append_cases}
use Rattle.circuit_theory.specs.Circuit.{Equation, IsInput, out_of, Gate as gate_equation}
use Rattle.circuit_theory.proofs.Lists.{Contains-cases, Contains-map_from, Contains-map, only}
use Rattle.base_tables.specs.Table.{AreDistinct}
use Rattle.aiger_read.proofs.aiger_file.aiger_graph.net_assembly.DistinctLists.{distinct_nil, distinct_cons, distinct_append}
use Rattle.aiger_read.specs.declared.aiger_records.record.Record.{Record}
use Rattle.aiger_read.specs.declared.aiger_records.record.Record.TheVariants.{Input, Latch, Output, Gate, Packed}
use Rattle.aiger_read.specs.aiger_records.Faults.{defined_by, DefinesOnce}
use Rattle.aiger_read.specs.declared.aiger_file.symbol.Named.{Named as Symbols}
use Rattle.aiger_read.specs.declared.aiger_file.file.AigerFile.{AigerFile}
use Rattle.aiger_read.specs.aiger_file.aiger_graph.Circuit.{LatchLine, circuit_of_file, constants, gate_of, is_used, inverter_of, gates_of, gates_in, latches_from, input_literals, latches_in, and_cover, not_cover, zero_cover, one_cover}
use Rattle.aiger_read.specs.aiger_file.aiger_graph.Literals.{operands, reads_in}
use Rattle.aiger_read.proofs.aiger_file.aiger_graph.ReadLiterals.{AreWell, IsGateHere, gates_from, inverter_from, gate_here}
use Rattle.aiger_read.proofs.aiger_file.aiger_graph.NoLoops.{equation_cases, constant_cases}
use Rattle.aiger_read.specs.SignalNames.{latch_literals}
use Rattle.aiger_read.specs.Nets.{IsDrivenOnce}
use Rattle.aiger_read.proofs.LiteralLists.{in_inputs, in_latch_literals, no_gate, input_not_latch, reading_gate, distinct_latches}
use Rattle.aiger_read.proofs.FileParts.{port_literal, low_reads}

-- the gates that a record of the file makes
abbrev own_gates : List Record → Record → List (Equation ℕ)
own_gates file r = gate_of r ++ inverter_of file (defined_by r)

-- they drive its literal and the next
record IsNear (r : Record) (x : ℕ) : Type 0 where
  pub literal : ℕ
  pub defines : defined_by r ≡ Some literal
  pub either : (x ≡ literal) ⊎ (x ≡ literal + 1)

near_next : (file : List Record) (r : Record) (d : ℕ) (e : Equation ℕ) → defined_by r ≡ Some d → Contains (inverter_of file (Some d)) e → IsNear r (out_of e)
near_next file r d e is h = record { literal = d; defines = is; either = inr (ap (λ (q : Equation ℕ). out_of q) (sym (inverter_from file d e h).1)) }

near : (file : List Record) (r : Record) (e : Equation ℕ) → Contains (own_gates file r) e → IsNear r (out_of e)
near file (Input literal) e h = near_next file (Input literal) literal e refl h
near file (Latch literal next reset) e h = near_next file (Latch literal next reset) literal e refl h
near file (Output literal) e h = absurd (omega (arith, h.1))
near file (Gate literal left right) e h = go (Contains-cases (gate_equation literal (left ∷ right ∷ []) and_cover) e (inverter_of file (defined_by (Gate literal left right))) h)
  where
    go : (gate_equation literal (left ∷ right ∷ []) and_cover ≡ e) ⊎ Contains (inverter_of file (Some literal)) e → IsNear (Gate literal left right) (out_of e)
    go (inl same) = record { literal = literal; defines = refl; either = inl (ap (λ (q : Equation ℕ). out_of q) (sym same)) }
    go (inr k) = near_next file (Gate literal left right) literal e refl k
near file (Packed literal first second) e h = go (Contains-cases (gate_equation literal ((literal - first) ∷ (literal - first - second) ∷ []) and_cover) e (inverter_of file (defined_by (Packed literal first second))) h)
  where
    go : (gate_equation literal ((literal - first) ∷ (literal - first - second) ∷ []) and_cover ≡ e) ⊎ Contains (inverter_of file (Some literal)) e → IsNear (Packed literal first second) (out_of e)
    go (inl same) = record { literal = literal; defines = refl; either = inl (ap (λ (q : Equation ℕ). out_of q) (sym same)) }
    go (inr k) = near_next file (Packed literal first second) literal e refl k

-- each once
abbrev outs_of : List (Equation ℕ) → List ℕ
outs_of es = map (λ (e : Equation ℕ). out_of e) es

single_once : (d : ℕ) → AreDistinct (d ∷ [])
single_once d = distinct_cons d [] distinct_nil (λ h. absurd (omega (arith, h.1)))

pair_once : (d : ℕ) → AreDistinct (d ∷ (d + 1) ∷ [])
pair_once d = distinct_cons d ((d + 1) ∷ []) (single_once (d + 1)) (λ h. let e = only (d + 1) d h in omega (arith, e))

inverter_once : (used : Bool) (d : ℕ) → AreDistinct (outs_of (cond used (gate_equation (d + 1) (d ∷ []) not_cover ∷ []) []))
inverter_once true d = single_once (d + 1)
inverter_once false d = distinct_nil

gate_once : (used : Bool) (d : ℕ) → AreDistinct (d ∷ outs_of (cond used (gate_equation (d + 1) (d ∷ []) not_cover ∷ []) []))
gate_once true d = pair_once d
gate_once false d = single_once d

own_once : (file : List Record) (r : Record) → AreDistinct (outs_of (own_gates file r))
own_once file (Input literal) = inverter_once (is_used file (literal + 1)) literal
own_once file (Latch literal next reset) = inverter_once (is_used file (literal + 1)) literal
own_once file (Output literal) = distinct_nil
own_once file (Gate literal left right) = gate_once (is_used file (literal + 1)) literal
own_once file (Packed literal first second) = gate_once (is_used file (literal + 1)) literal

half : (d x : ℕ) → d % 2 ≡ 0 → (x ≡ d) ⊎ (x ≡ d + 1) → 2 * (x / 2) ≡ d
half d x even (inl e) = omega (arith, even, e)
half d x even (inr e) = omega (arith, even, e)

gates_once : (file : List Record) (size : ℕ) (records : List Record) → DefinesOnce records → AreWell size records → AreDistinct (map (λ (e : Equation ℕ). out_of e) (gates_of file records))
gates_once file size [] once fine = distinct_nil
gates_once file size (q ∷ qs) once fine =
    subst (λ (ls : List ℕ). AreDistinct ls) (sym (map-append (λ (e : Equation ℕ). out_of e) (own_gates file q) (gates_of file qs)))
    (distinct_append (map (λ (e : Equation ℕ). out_of e) (own_gates file q)) (map (λ (e : Equation ℕ). out_of e) (gates_of file qs)) (own_once file q)
    (gates_once file size qs (λ i j literal r s hi hj di dj. let e : suc i ≡ suc j = once (suc i) (suc j) literal r s hi hj di dj in omega (arith, e)) (λ i r at. fine (suc i) r at)) apart)
  where
    apart : (x : ℕ) → Contains (map (λ (e : Equation ℕ). out_of e) (own_gates file q)) x → Contains (map (λ (e : Equation ℕ). out_of e) (gates_of file qs)) x → ⊥
    apart x h k =
        let a = Contains-map_from (λ (e : Equation ℕ). out_of e) (own_gates file q) x h in
        let b = Contains-map_from (λ (e : Equation ℕ). out_of e) (gates_of file qs) x k in
        let n = near file q a.0 a.1 in
        let w = gates_from file qs b.0 b.1 in
        let m = near file w.1 b.0 w.3 in
        let first = half n.literal (out_of a.0) ((fine 0 q refl).even n.literal n.defines) n.either in
        let second = half m.literal (out_of b.0) ((fine (suc w.0) w.1 w.2).even m.literal m.defines) m.either in
        let same : m.literal ≡ n.literal = sym second ∙ ap (λ (y : ℕ). 2 * (y / 2)) (b.2 ∙ sym a.2) ∙ first in
        let e : 0 ≡ suc w.0 = once 0 (suc w.0) n.literal q w.1 refl w.2 n.defines (m.defines ∙ ap Some same) in
        omega (arith, e)

latch_outs : (symbols : Symbols) (k : ℕ) (ls : List LatchLine) → map (λ (e : Equation ℕ). out_of e) (latches_from symbols k ls) ≡ map (λ (l : LatchLine). l.literal) ls
latch_outs symbols k [] = refl
latch_outs symbols k (l ∷ ls) = ap (λ (ms : List ℕ). l.literal ∷ ms) (latch_outs symbols (k + 1) ls)

module _ (f : AigerFile) (size : ℕ) (once : DefinesOnce f.records) (fine : AreWell size f.records) where
  -- a gate's literal reads something, so it is no constant, no input and no latch
  gate_high : (e : Equation ℕ) → IsGateHere size f.records e → 2 ≤ out_of e
  gate_high e x = subst (λ (q : Equation ℕ). 2 ≤ out_of q) x.same (by x.literal x.some)
    where
      by : (l : ℕ) → 0 < length (reads_in f.records l) → 2 ≤ l
      by zero some = let n = ap length (low_reads size f.records 0 fine (omega arith)) in absurd (omega (arith, some, n))
      by (suc zero) some = let n = ap length (low_reads size f.records 1 fine (omega arith)) in absurd (omega (arith, some, n))
      by (suc (suc l)) some = omega arith

  no_source : (e : Equation ℕ) → IsGateHere size f.records e → (j l : ℕ) (r : Record) → slice_get f.records j ≡ Some r → defined_by r ≡ Some l → operands r ≡ [] → l ≡ out_of e → ⊥
  no_source e x j l r at is free same =
      no_gate size f.records once fine j l r at is free
      (reading_gate f.records l (subst (λ (k : ℕ). 0 < length (reads_in f.records k)) (ap (λ (q : Equation ℕ). out_of q) x.same ∙ sym same) x.some))

  gate_for : (e : Equation ℕ) → Contains (gates_in f.records) e → IsGateHere size f.records e
  gate_for e h = gate_here size f.records e once fine h

  latch_high : (l : ℕ) → Contains (latch_literals f.records) l → 2 ≤ l
  latch_high l h = let x = in_latch_literals f.records l h in (fine x.0 (Latch l x.1 x.2) x.3).high l refl

  abbrev gate_outs : List ℕ
  gate_outs = map (λ (e : Equation ℕ). out_of e) (gates_in f.records)

  later_high : (l : ℕ) → Contains (gate_outs ++ latch_literals f.records) l → 2 ≤ l
  later_high l h = go (Contains-append_cases gate_outs (latch_literals f.records) l h)
    where
      go : Contains gate_outs l ⊎ Contains (latch_literals f.records) l → 2 ≤ l
      go (inl g) = let x = Contains-map_from (λ (e : Equation ℕ). out_of e) (gates_in f.records) l g in subst (λ (k : ℕ). 2 ≤ k) x.2 (gate_high x.0 (gate_for x.0 x.1))
      go (inr k) = latch_high l k

  later_once : AreDistinct (gate_outs ++ latch_literals f.records)
  later_once = distinct_append gate_outs (latch_literals f.records) (gates_once f.records size f.records once fine) (distinct_latches f.records once) apart
    where
      apart : (l : ℕ) → Contains gate_outs l → Contains (latch_literals f.records) l → ⊥
      apart l g h =
          let x = Contains-map_from (λ (e : Equation ℕ). out_of e) (gates_in f.records) l g in
          let y = in_latch_literals f.records l h in
          no_source x.0 (gate_for x.0 x.1) y.0 l (Latch l y.1 y.2) y.3 refl refl (sym x.2)

  outs_once : AreDistinct (0 ∷ 1 ∷ gate_outs ++ latch_literals f.records)
  outs_once =
      distinct_cons 0 (1 ∷ gate_outs ++ latch_literals f.records)
      (distinct_cons 1 (gate_outs ++ latch_literals f.records) later_once (λ h. let k = later_high 1 h in omega (arith, k)))
      (λ h. zero_new (Contains-cases 1 0 (gate_outs ++ latch_literals f.records) h))
    where
      zero_new : ◌≡◌ {A = ℕ} 1 0 ⊎ Contains (gate_outs ++ latch_literals f.records) 0 → ⊥
      zero_new (inl e) = omega (arith, e)
      zero_new (inr h) = let k = later_high 0 h in omega (arith, k)

  outs : map (λ (e : Equation ℕ). out_of e) (circuit_of_file f).equations ≡ 0 ∷ 1 ∷ gate_outs ++ latch_literals f.records
  outs =
      map-append (λ (e : Equation ℕ). out_of e) (constants ++ gates_in f.records) (latches_from f.symbols 0 (latches_in f.records))
      ∙ ap (λ (ls : List ℕ). map (λ (e : Equation ℕ). out_of e) (constants ++ gates_in f.records) ++ ls) (latch_outs f.symbols 0 (latches_in f.records))

  input_free : (e : Equation ℕ) → Contains (circuit_of_file f).equations e → IsInput (circuit_of_file f) (out_of e) → ⊥
  input_free e h i = go (equation_cases f e h)
    where
      literal : Contains (input_literals f.records) (out_of e)
      literal = port_literal f.symbols 105 0 (input_literals f.records) (record { name = i.0; place = out_of e }) i.1

      at : (j : ℕ) × (slice_get f.records j ≡ Some (Input (out_of e)))
      at = in_inputs f.records (out_of e) literal

      high : 2 ≤ out_of e
      high = (fine at.0 (Input (out_of e)) at.1).high (out_of e) refl

      constant : (gate_equation 0 [] zero_cover ≡ e) ⊎ (gate_equation 1 [] one_cover ≡ e) → ⊥
      constant (inl same) = let k = ap (λ (q : Equation ℕ). out_of q) same in let l = high in omega (arith, k, l)
      constant (inr same) = let k = ap (λ (q : Equation ℕ). out_of q) same in let l = high in omega (arith, k, l)

      latch : Contains (latches_from f.symbols 0 (latches_in f.records)) e → ⊥
      latch k =
          let there = Contains-map (λ (q : Equation ℕ). out_of q) (latches_from f.symbols 0 (latches_in f.records)) e k in
          input_not_latch size f.records once fine (out_of e) literal (subst (λ (ls : List ℕ). Contains ls (out_of e)) (latch_outs f.symbols 0 (latches_in f.records)) there)

      go : Contains constants e ⊎ (Contains (gates_in f.records) e ⊎ Contains (latches_from f.symbols 0 (latches_in f.records)) e) → ⊥
      go (inl c) = constant (constant_cases e c)
      go (inr (inl g)) = no_source e (gate_for e g) at.0 (out_of e) (Input (out_of e)) at.1 refl refl refl
      go (inr (inr l)) = latch l

  pub driven_once : IsDrivenOnce (circuit_of_file f)
  driven_once = record { once = subst (λ (ls : List ℕ). AreDistinct ls) (sym outs) outs_once; no_input = input_free }
