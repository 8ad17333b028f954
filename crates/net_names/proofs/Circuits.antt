-- The circuit of a copy.
use Rattle.std.proofs.Common.{◌≡◌, ◌∙◌, ◌+◌, ℕ, zero, suc, Bool, true, false, List, [], ◌∷◌, ◌++◌, map, take, length, slice_get, Some, refl, sym, ap, arith, append_assoc}
use Rattle.std.proofs.lemmas.List.{take_all}
use Rattle.std.specs.Prelude.{unwrap_or, Option}
use Rattle.std.specs.List.{filter}
use Rattle.circuit_theory.specs.Circuit.{Circuit, Equation, Named}
use Rattle.circuit_theory.specs.Cover.{Cover}
use Rattle.flat_net.specs.declared.parts.Port.{Port}
use Rattle.flat_net.specs.declared.parts.Gate.{Gate}
use Rattle.flat_net.specs.View.{NetView, circuit_of, cover_of, equation_of_gate, equation_of_latch, named, no_cover}
use Rattle.net_names.specs.Alone.{IsShowing}
use Rattle.net_names.specs.Fronts.{numbered, with_gates}

at_seam : (front rest : List Cover) (c : Cover) (k : ℕ) → k ≡ length front → slice_get (front ++ c ∷ rest) k ≡ Some c
at_seam [] rest c zero e = refl
at_seam [] rest c (suc k) e = absurd (omega (arith, e))
at_seam (f ∷ front) rest c zero e = absurd (omega (arith, e))
at_seam (f ∷ front) rest c (suc k) e = at_seam front rest c k (omega (arith, e))

-- gates with covers of their own have the equations that they had
pub equations_kept : (covers front : List Cover) (k : ℕ) (gs : List Gate) → k ≡ length front →
    map (equation_of_gate (front ++ map (cover_of covers) gs)) (numbered k gs) ≡ map (equation_of_gate covers) gs
equations_kept covers front k [] e = refl
equations_kept covers front k (g ∷ gs) e =
    let c = cover_of covers g in
    let first : equation_of_gate (front ++ c ∷ map (cover_of covers) gs) (record g { cover = k }) ≡ equation_of_gate covers g =
    ap (λ (o : Option Cover). Equation.Gate g.out.0 (map (λ f. f.0) g.fanins) (unwrap_or o no_cover)) (at_seam front (map (cover_of covers) gs) c k e) in
    let moved : front ++ c ∷ map (cover_of covers) gs ≡ (front ++ c ∷ []) ++ map (cover_of covers) gs = sym (append_assoc front (c ∷ []) (map (cover_of covers) gs)) in
    let more : k + 1 ≡ length (front ++ c ∷ []) = longer front c k e in
    let rest = ap (λ (cs : List Cover). map (equation_of_gate cs) (numbered (k + 1) gs)) moved ∙ equations_kept covers (front ++ c ∷ []) (k + 1) gs more in
    ap (λ (x : Equation ℕ). x ∷ map (equation_of_gate (front ++ c ∷ map (cover_of covers) gs)) (numbered (k + 1) gs)) first ∙ ap (λ (xs : List (Equation ℕ)). equation_of_gate covers g ∷ xs) rest
  where
    longer : (front : List Cover) (c : Cover) (k : ℕ) → k ≡ length front → k + 1 ≡ length (front ++ c ∷ [])
    longer [] c k e = omega (arith, e)
    longer (f ∷ front) c zero e = absurd (omega (arith, e))
    longer (f ∷ front) c (suc k) e = let h = longer front c k (omega (arith, e)) in omega (arith, h)

-- the outputs that pass as a circuit's
pub outputs_named : (test : List ℕ → Bool) (ports : List Port) → map named (filter (λ port. test port.name) ports) ≡ filter (λ (o : Named ℕ). test o.name) (map named ports)
outputs_named test [] = refl
outputs_named test (p ∷ ports) = by (test p.name) refl (outputs_named test ports)
  where
    by : (b : Bool) → test p.name ≡ b → map named (filter (λ (port : Port). test port.name) ports) ≡ filter (λ (o : Named ℕ). test o.name) (map named ports) →
        map named (filter (λ (port : Port). test port.name) (p ∷ ports)) ≡ filter (λ (o : Named ℕ). test o.name) (map named (p ∷ ports))
    by true e rest = rw e (ap (λ (os : List (Named ℕ)). named p ∷ os) rest)
    by false e rest = rw e rest

-- the net of the copied signals, with the latches, the outputs that pass and the clock
abbrev pub copied : (List ℕ → Bool) → NetView → NetView
copied test n = record (with_gates n (length n.gates)) { latches = n.latches; outputs = filter (λ port. test port.name) n.outputs; clock = n.clock }

pub copy_is_showing : (test : List ℕ → Bool) (n : NetView) → length n.drivers ≡ length n.inputs + length n.latches + length n.gates → length n.names ≡ length n.drivers → IsShowing test n (copied test n)
copy_is_showing test n whole named_each =
    let all_inputs = take_all (length n.inputs) n.inputs (omega arith) in
    let all_gates = take_all (length n.gates) n.gates (omega arith) in
    record {
      inputs = all_inputs;
      outputs = refl;
      latches = refl;
      drivers = take_all (length n.inputs + length n.latches + length n.gates) n.drivers (omega (arith, whole));
      names = take_all (length n.inputs + length n.latches + length n.gates) n.names (omega (arith, whole, named_each));
      clock = refl;
      circuit = circuit_is (ap (map named) all_inputs) (outputs_named test n.outputs) (equations_kept n.covers [] 0 (take (length n.gates) n.gates) refl ∙ ap (map (equation_of_gate n.covers)) all_gates);
    }
  where
    circuit_is : {is js os ps : List (Named ℕ)} {es fs : List (Equation ℕ)} → is ≡ js → os ≡ ps → es ≡ fs →
        ◌≡◌ {A = Circuit ℕ} (record { inputs = is; outputs = os; equations = es ++ map equation_of_latch n.latches; starts = (circuit_of n).starts })
        (record { inputs = js; outputs = ps; equations = fs ++ map equation_of_latch n.latches; starts = (circuit_of n).starts })
    circuit_is {is = is} {js = js} {os = os} {ps = ps} {es = es} {fs = fs} p q r =
        ap (λ (xs : List (Named ℕ)). let d : Circuit ℕ = record { inputs = xs; outputs = os; equations = es ++ map equation_of_latch n.latches; starts = (circuit_of n).starts } in d) p
        ∙ ap (λ (xs : List (Named ℕ)). let d : Circuit ℕ = record { inputs = js; outputs = xs; equations = es ++ map equation_of_latch n.latches; starts = (circuit_of n).starts } in d) q
        ∙ ap (λ (xs : List (Equation ℕ)). let d : Circuit ℕ = record { inputs = js; outputs = ps; equations = xs ++ map equation_of_latch n.latches; starts = (circuit_of n).starts } in d) r
