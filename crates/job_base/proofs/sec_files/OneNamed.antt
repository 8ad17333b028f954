-- A circuit without ports, whose signals have names, has one net.
use Rattle.std.proofs.Common.{◌≡◌, ◌∙◌, ℕ, ◌<◌, List, map, length, Option, Some, sym, ap, ap₂, inl, inr}
use Rattle.std.specs.List.{Contains}
use Rattle.circuit_theory.specs.Circuit.{Circuit, Named}
use Rattle.circuit_theory.specs.Joined.{moved_name}
use Rattle.circuit_theory.specs.Net.{IsDriven}
use Rattle.circuit_theory.specs.Places.{IsPlace}
use Rattle.circuit_theory.proofs.Lists.{Contains-map, map-map}
use Rattle.flat_net.specs.declared.parts.LatchAt.{LatchAt}
use Rattle.flat_net.specs.declared.parts.Port.{Port}
use Rattle.flat_net.specs.Sound.{IsSound}
use Rattle.flat_net.specs.View.{NetView, named, circuit_of, is_read, ports_of}
use Rattle.flat_net.proofs.Nets.{sound_is_net}
use Rattle.elaborate.proofs.Tabled.{bool_same}
use Rattle.net_assembly.specs.net_alike.FlatCircuit.{IsFlatCircuit}
use Rattle.net_assembly.specs.net_alike.Renumbered.{AreRenumbered}
use Rattle.net_assembly.proofs.net_alike.Alike.{nets_are_renumbered, place_of, low}
use Rattle.net_assembly.proofs.net_alike.Carrying.{place, forth, turned, read_carried}
use Rattle.flatten.proofs.net_assembly.ReadBy.{read_from, read_to, same_names}
use Rattle.flatten.specs.OneNet.{AreOneNet}
use Rattle.net_assembly.specs.net_alike.Moved.{IsPortless}
use Rattle.job_base.specs.sec_files.Named.{HasNames}
use Rattle.net_assembly.proofs.net_alike.Moving.{stays}

driven_place : (c : Circuit ℕ) (s : ℕ) → IsDriven c s → IsPlace c s
driven_place c s (inl h) = IsPlace.input h
driven_place c s (inr h) = IsPlace.driven h.1 h.2

-- the interfaces of renumbered nets
same_ports : (a b : NetView) (to back : ℕ → ℕ) → AreRenumbered (circuit_of a) (circuit_of b) to back → a.clock ≡ b.clock → ports_of a ≡ ports_of b
same_ports a b to back r clock =
    ap₂ (λ (is os : List (List ℕ)). record { inputs = is; outputs = os; clock = a.clock; read = (ports_of a).read }) (names a.inputs b.inputs r.inputs) (names a.outputs b.outputs r.outputs)
    ∙ ap₂ (λ (c : Option (List ℕ)) (rs : List (List ℕ)). record { inputs = (ports_of b).inputs; outputs = (ports_of b).outputs; clock = c; read = rs }) clock read
  where
    names : (xs ys : List Port) → map (moved_name to) (map named xs) ≡ map named ys → map (λ (p : Port). p.name) xs ≡ map (λ (p : Port). p.name) ys
    names xs ys h =
        sym (map-map (λ (i : Named ℕ). i.name) (λ x. moved_name to (named x)) xs) ∙ ap (map (λ (i : Named ℕ). i.name)) (sym (map-map (moved_name to) named xs) ∙ h) ∙ map-map (λ (i : Named ℕ). i.name) named ys

    one_test : (x : Port) → Contains a.inputs x → is_read a (record { 0 = x.signal.0 }) ≡ is_read b (record { 0 = to x.signal.0 })
    one_test x h =
        let both = read_carried (circuit_of a) (circuit_of b) to back r x.signal.0 (IsPlace.input (x.name, Contains-map named a.inputs x h)) in
        bool_same (is_read a (record { 0 = x.signal.0 })) (is_read b (record { 0 = to x.signal.0 })) (λ e. read_to b (to x.signal.0) (both.0 (read_from a x.signal.0 e))) (λ e. read_to a x.signal.0 (both.1 (read_from b (to x.signal.0) e)))

    read : (ports_of a).read ≡ (ports_of b).read
    read = same_names to (λ k. is_read a (record { 0 = k })) (λ k. is_read b (record { 0 = k })) a.inputs b.inputs (sym (map-map (moved_name to) named a.inputs) ∙ r.inputs) one_test

-- a net of the circuit, whose signals have these names
pub record IsNamedNet (d : Circuit ℕ) (name : ℕ → List ℕ) (n : NetView) : Type 0 where
  pub origin : ℕ → ℕ
  pub signal : ℕ → ℕ
  pub sound : IsSound n
  pub flat : IsFlatCircuit d (circuit_of n) (length n.drivers) (λ p. ⊥) origin signal
  pub names : HasNames n origin name

module _ (d : Circuit ℕ) (name : ℕ → List ℕ) (portless : IsPortless d) (a b : NetView) (f : IsNamedNet d name a) (g : IsNamedNet d name b) (clock : a.clock ≡ b.clock)
    (inits : map (λ (l : LatchAt). l.init) a.latches ≡ map (λ (l : LatchAt). l.init) b.latches) where
  abbrev to : ℕ → ℕ
  to s = g.signal (f.origin s)

  abbrev back : ℕ → ℕ
  back s = f.signal (g.origin s)

  r : AreRenumbered (circuit_of a) (circuit_of b) (λ s. g.signal (f.origin s)) (λ s. f.signal (g.origin s))
  r = nets_are_renumbered d (circuit_of a) (circuit_of b) (length a.drivers) (length b.drivers) (λ p. ⊥) f.origin g.origin f.signal g.signal f.flat g.flat

  at_a : (s : ℕ) → s < length a.drivers → IsPlace (circuit_of a) s
  at_a s h = driven_place (circuit_of a) s ((sound_is_net a f.sound).driven s h)

  at_b : (s : ℕ) → s < length b.drivers → IsPlace (circuit_of b) s
  at_b s h = driven_place (circuit_of b) s ((sound_is_net b g.sound).driven s h)

  there_low : (s : ℕ) → s < length a.drivers → to s < length b.drivers
  there_low s h = low d (circuit_of b) (length b.drivers) (λ p. ⊥) g.origin g.signal g.flat (to s) (place (circuit_of a) (circuit_of b) to (forth (circuit_of a) (circuit_of b) to back r) (at_a s h))

  back_low : (s : ℕ) → s < length b.drivers → back s < length a.drivers
  back_low s h =
      low d (circuit_of a) (length a.drivers) (λ p. ⊥) f.origin f.signal f.flat (back s)
      (place (circuit_of b) (circuit_of a) back (forth (circuit_of b) (circuit_of a) back to (turned (circuit_of a) (circuit_of b) to back r)) (at_b s h))

  -- a signal of both nets is driven at one place
  one_place : (s : ℕ) → s < length a.drivers → g.origin (g.signal (f.origin s)) ≡ f.origin s
  one_place s h =
      let x = place_of d (circuit_of a) (circuit_of b) (length a.drivers) (length b.drivers) (λ p. ⊥) f.origin g.origin f.signal g.signal f.flat g.flat s (at_a s h) in
      let here : f.origin s ≡ x.0 = ap f.origin (sym x.3) ∙ stays d portless x.1.follows in
      ap (λ (p : ℕ). g.origin (g.signal p)) here ∙ stays d portless x.2.follows ∙ sym here

  pub one_named : AreOneNet a b
  one_named = record {
    to = to;
    back = back;
    circuits = r;
    within = λ s h. (there_low s h, r.there_and_back s (at_a s h));
    back_within = λ s h. (back_low s h, r.back_and_there s (at_b s h));
    names = λ s h. g.names (to s) (there_low s h) ∙ ap (λ (p : ℕ). Some (name p)) (one_place s h) ∙ sym (f.names s h);
    inits = inits;
    ports = same_ports a b to back r clock;
  }
