-- A net whose signals have new names.
use Rattle.std.specs.Prelude.{unwrap_or, Option}
use Rattle.std.proofs.Common.{◌≡◌, ◌∙◌, ℕ, zero, suc, ◌+◌, ◌<◌, List, [], ◌∷◌, ◌++◌, map, take, length, slice_get, Some, refl, sym, ap, subst, arith, length-append}
use Rattle.std.proofs.lemmas.List.{length-map, length-take-le, take_all}
use Rattle.std.proofs.lemmas.Option.{none-some, slice_get_within}
use Rattle.std.specs.List.{filter_map}
use Rattle.circuit_theory.specs.Circuit.{Circuit, Equation, Named, Started}
use Rattle.circuit_theory.proofs.Lists.{at_of, map_at, map_same}
use Rattle.circuit_theory.proofs.Numbers.{slice_get-map}
use Rattle.flat_net.specs.declared.parts.LatchAt.{LatchAt}
use Rattle.flat_net.specs.declared.parts.Port.{Port}
use Rattle.flat_net.specs.declared.parts.Driver.{Driver}
use Rattle.flat_net.specs.declared.parts.Driver.TheVariants as driver
use Rattle.flat_net.specs.Sound.{Drives, IsLatchOf, IsSound}
use Rattle.flat_net.specs.View.{NetView, equation_of_gate, equation_of_latch, named, start_of}
use Rattle.flat_net.proofs.CutNets.{slice_get-append_right}
use Rattle.flat_net.proofs.Growth.{slice_get-append}
use Rattle.net_names.specs.Fronts.{latch_by, named_by, with_gates}
use Rattle.net_names.specs.Laid.{IsLaid}
use Rattle.net_names.specs.NewNames.{AreNewNames}
use Rattle.net_names.specs.Renamed.{IsRenamed, new_name, renamed_latch}
use Rattle.net_names.specs.declared.latch_pairs.LatchPair.{LatchPair}
use Rattle.net_names.proofs.Circuits.{equations_kept}
use Rattle.net_names.proofs.Renamings.{equations_renamed, starts_stay}

take_at : {X : Type 0} (k : ℕ) (xs : List X) (i : ℕ) (x : X) → i < k → slice_get xs i ≡ Some x → slice_get (take k xs) i ≡ Some x
take_at zero xs i x low at = absurd (omega (arith, low))
take_at (suc k) [] i x low at = absurd (none-some x at)
take_at (suc k) (y ∷ xs) zero x low at = at
take_at (suc k) (y ∷ xs) (suc i) x low at = take_at k xs i x (omega (arith, low)) at

module _ (n : NetView) (sound : IsSound n) (laid : IsLaid n) (ps : List LatchPair) (names : List (List ℕ)) (new : AreNewNames ps n names) where
  first_long : length (take (length n.inputs) n.names) ≡ length n.inputs
  first_long = length-take-le (length n.inputs) n.names (omega (arith, sound.few_inputs, sound.named))

  names_long : length names ≡ length n.drivers
  names_long =
      let all = ap length new.are ∙ length-append (take (length n.inputs) n.names ++ map (λ (l : LatchAt). new_name ps l.name) n.latches) new.gates in
      let front = length-append (take (length n.inputs) n.names) (map (λ (l : LatchAt). new_name ps l.name) n.latches) in
      let latches = length-map n.latches (λ (l : LatchAt). new_name ps l.name) in
      omega (arith, all, front, latches, first_long, new.long, laid.whole)

  input_name : (i : ℕ) (p : Port) → slice_get n.inputs i ≡ Some p → slice_get names p.signal.0 ≡ Some p.name
  input_name i p at =
      let low = slice_get_within n.inputs i p at in
      let place = laid.inputs i p at in
      let own = subst (λ (s : ℕ). slice_get n.names s ≡ Some p.name) place (sound.inputs i p at).named in
      ap (slice_get names) place ∙ ap (λ (ns : List (List ℕ)). slice_get ns i) new.are
      ∙ slice_get-append (take (length n.inputs) n.names ++ map (λ (l : LatchAt). new_name ps l.name) n.latches) new.gates i p.name
      (slice_get-append (take (length n.inputs) n.names) (map (λ (l : LatchAt). new_name ps l.name) n.latches) i p.name (take_at (length n.inputs) n.names i p.name low own))

  latch_name : (j : ℕ) (l : LatchAt) → slice_get n.latches j ≡ Some l → slice_get names l.out.0 ≡ Some (new_name ps l.name)
  latch_name j l at =
      let place = laid.latches j l at in
      let first = take (length n.inputs) n.names in
      let later = map (λ (x : LatchAt). new_name ps x.name) n.latches in
      let here : slice_get (first ++ later) (length n.inputs + j) ≡ Some (new_name ps l.name) =
      ap (λ (k : ℕ). slice_get (first ++ later) (k + j)) (sym first_long) ∙ slice_get-append_right first later j ∙ slice_get-map (λ (x : LatchAt). new_name ps x.name) n.latches j l at in
      ap (slice_get names) place ∙ ap (λ (ns : List (List ℕ)). slice_get ns (length n.inputs + j)) new.are ∙ slice_get-append (first ++ later) new.gates (length n.inputs + j) (new_name ps l.name) here

  name_is : (j : ℕ) (l : LatchAt) → slice_get n.latches j ≡ Some l → unwrap_or (slice_get names l.out.0) [] ≡ new_name ps l.name
  name_is j l at = ap (λ (o : Option (List ℕ)). unwrap_or o []) (latch_name j l at)

  pub named_sound : IsSound (named_by (Some names) n)
  named_sound = record {
    inputs = λ i p at. record { owner = (sound.inputs i p at).owner; named = input_name i p at };
    gates = λ j g at. (let own = sound.gates j g at in record { owner = own.owner; above = own.above; cover = own.cover; covered = own.covered; width = own.width });
    ordered = sound.ordered;
    latches = λ j l at. (let x = map_at (latch_by names) n.latches j l at in
        let own = sound.latches j x.0 x.1 in
        subst (IsLatchOf (named_by (Some names) n) j) x.2
        (record { owner = own.owner; named = latch_name j x.0 x.1 ∙ ap Some (sym (name_is j x.0 x.1)); within = own.within }));
    drivers = driven;
    outputs = sound.outputs;
    covers = sound.covers;
    named = names_long;
    distinct = new.distinct;
    few = sound.few;
    few_inputs = sound.few_inputs;
    few_gates = sound.few_gates;
    few_latches = (let long = length-map n.latches (latch_by names) in omega (arith, long, sound.few_latches));
    few_covers = sound.few_covers;
  }
    where
      driven : (s : ℕ) (d : Driver) → slice_get n.drivers s ≡ Some d → Drives (named_by (Some names) n) s d
      driven s (driver.Input i) at = sound.drivers s (driver.Input i) at
      driven s (driver.Gate k) at = sound.drivers s (driver.Gate k) at
      driven s (driver.Latch j) at = let h = sound.drivers s (driver.Latch j) at in (latch_by names h.0, slice_get-map (latch_by names) n.latches j h.0 h.1, h.2)

  pub named_laid : IsLaid (named_by (Some names) n)
  named_laid = let long = length-map n.latches (latch_by names) in record {
    whole = omega (arith, long, laid.whole);
    inputs = laid.inputs;
    latches = λ j l at. (let x = map_at (latch_by names) n.latches j l at in ap (λ (y : LatchAt). y.out.0) (sym x.2) ∙ laid.latches j x.0 x.1);
    gates = λ k g at. (let e = laid.gates k g at in omega (arith, e, long));
  }

  latches_are : map (latch_by names) n.latches ≡ map (renamed_latch ps) n.latches
  latches_are = map_same (latch_by names) (renamed_latch ps) n.latches (λ l c. (let x = at_of n.latches l c in ap (λ (name : List ℕ). let y : LatchAt = record l { name = name } in y) (name_is x.0 l x.1)))

  abbrev pub copied : NetView
  copied = record (with_gates (named_by (Some names) n) (length n.gates)) { latches = map (latch_by names) n.latches; outputs = n.outputs; clock = n.clock }

  pub copy_is_renamed : IsRenamed ps n copied
  copy_is_renamed =
      let all_inputs = take_all (length n.inputs) n.inputs (omega arith) in
      let all_gates = take_all (length n.gates) n.gates (omega arith) in
      let long = length-map n.latches (latch_by names) in
      let gates = equations_kept n.covers [] 0 (take (length n.gates) n.gates) refl ∙ ap (map (equation_of_gate n.covers)) all_gates in
      let equations = ap (λ (es : List (Equation ℕ)). es ++ map equation_of_latch (map (latch_by names) n.latches)) gates
      ∙ ap (λ (ls : List LatchAt). map (equation_of_gate n.covers) n.gates ++ map equation_of_latch ls) latches_are ∙ equations_renamed ps n in
      let starts = ap (filter_map (λ (l : LatchAt). start_of l.out.0 l.init)) latches_are ∙ starts_stay ps n.latches in
      record {
        inputs = all_inputs;
        outputs = refl;
        latches = latches_are;
        drivers = take_all (length n.inputs + length (map (latch_by names) n.latches) + length n.gates) n.drivers (omega (arith, laid.whole, long));
        clock = refl;
        circuit = circuit_is (ap (map named) all_inputs) equations starts;
      }
    where
      circuit_is : {is js : List (Named ℕ)} {es fs : List (Equation ℕ)} {ss ts : List (Started ℕ)} → is ≡ js → es ≡ fs → ss ≡ ts →
          ◌≡◌ {A = Circuit ℕ} (record { inputs = is; outputs = map named n.outputs; equations = es; starts = ss }) (record { inputs = js; outputs = map named n.outputs; equations = fs; starts = ts })
      circuit_is {is = is} {js = js} {es = es} {fs = fs} {ss = ss} {ts = ts} p q r =
          ap (λ (xs : List (Named ℕ)). let d : Circuit ℕ = record { inputs = xs; outputs = map named n.outputs; equations = es; starts = ss } in d) p
          ∙ ap (λ (xs : List (Equation ℕ)). let d : Circuit ℕ = record { inputs = js; outputs = map named n.outputs; equations = xs; starts = ss } in d) q
          ∙ ap (λ (xs : List (Started ℕ)). let d : Circuit ℕ = record { inputs = js; outputs = map named n.outputs; equations = fs; starts = xs } in d) r
