-- Circuits with latches under other names: of a design and its net, and of comparable nets.
use Rattle.std.specs.Prelude.{◌⊎◌}
use Rattle.std.proofs.Common.{◌≡◌, ◌∙◌, ℕ, List, [], ◌∷◌, map, length, refl, sym, ap, subst, arith}
use Rattle.std.specs.List.{Contains}
use Rattle.std.proofs.lemmas.List.{length-map}
use Rattle.base_tables.specs.Table.{AreDistinct}
use Rattle.circuit_theory.specs.Circuit.{Circuit, Equation, Gate, Latch, Port, IsSingleDriven, out_of}
use Rattle.circuit_theory.specs.Cover.{Cover}
use Rattle.circuit_theory.specs.Flattened.{Follows}
use Rattle.circuit_theory.specs.Joined.{moved}
use Rattle.circuit_theory.specs.Places.{IsPlace}
use Rattle.circuit_theory.proofs.Lists.{Contains-map, Contains-map_from}
use Rattle.flat_net.specs.declared.parts.Port.{Port as NetPort}
use Rattle.flat_net.specs.Comparable.{IsComparable}
use Rattle.flat_net.specs.View.{NetView}
use Rattle.net_assembly.specs.net_alike.FlatCircuit.{HasSignal}
use Rattle.net_assembly.specs.net_alike.Renumbered.{latch_rows}
use Rattle.net_names.specs.Renamed.{IsRenamed, new_name, renamed, renamed_equation, renamed_latch}
use Rattle.net_names.specs.declared.latch_pairs.LatchPair.{LatchPair}
use Rattle.job_base.proofs.design_laws.FlatParts.{FlatDesign}

-- the latches under their new names, in their order
renamed_rows : {P : Type 0} (ps : List LatchPair) (es : List (Equation P)) → latch_rows (map (renamed_equation ps) es) ≡ map (renamed_equation ps) (latch_rows es)
renamed_rows ps [] = refl
renamed_rows ps (Gate out fanins cover ∷ es) = renamed_rows ps es
renamed_rows {P} ps (Latch name out next ∷ es) = ap (λ (rows : List (Equation P)). Latch (new_name ps name) out next ∷ rows) (renamed_rows ps es)
renamed_rows ps (Port out from ∷ es) = renamed_rows ps es

-- moving an equation and renaming it are one after the other, either way
moved_renamed : {P Q : Type 0} (ps : List LatchPair) (f : P → Q) (e : Equation P) → renamed_equation ps (moved f e) ≡ moved f (renamed_equation ps e)
moved_renamed ps f (Gate out fanins cover) = refl
moved_renamed ps f (Latch name out next) = refl
moved_renamed ps f (Port out from) = refl

all_moved : {P Q : Type 0} (ps : List LatchPair) (f : P → Q) (es : List (Equation P)) → map (renamed_equation ps) (map (moved f) es) ≡ map (moved f) (map (renamed_equation ps) es)
all_moved ps f [] = refl
all_moved {P} {Q} ps f (e ∷ es) = ap (λ (x : Equation Q). x ∷ map (renamed_equation ps) (map (moved f) es)) (moved_renamed ps f e) ∙ ap (λ (xs : List (Equation Q)). moved f (renamed_equation ps e) ∷ xs) (all_moved ps f es)

out_same : {P : Type 0} (ps : List LatchPair) (e : Equation P) → out_of (renamed_equation ps e) ≡ out_of e
out_same ps (Gate out fanins cover) = refl
out_same ps (Latch name out next) = refl
out_same ps (Port out from) = refl

module _ {P : Type 0} (ps : List LatchPair) (es : List (Equation P)) where
  gate_to : (out : P) (fanins : List P) (cover : Cover) → Contains es (Gate out fanins cover) → Contains (map (renamed_equation ps) es) (Gate out fanins cover)
  gate_to out fanins cover h = Contains-map (renamed_equation ps) es (Gate out fanins cover) h

  port_to : (out from : P) → Contains es (Port out from) → Contains (map (renamed_equation ps) es) (Port out from)
  port_to out from h = Contains-map (renamed_equation ps) es (Port out from) h

  gate_from : (out : P) (fanins : List P) (cover : Cover) → Contains (map (renamed_equation ps) es) (Gate out fanins cover) → Contains es (Gate out fanins cover)
  gate_from out fanins cover h = let x = Contains-map_from (renamed_equation ps) es (Gate out fanins cover) h in by x.0 x.1 x.2
    where
      by : (x : Equation P) → Contains es x → renamed_equation ps x ≡ Gate out fanins cover → Contains es (Gate out fanins cover)
      by (Gate o fs c) k is = subst (Contains es) is k
      by (Latch name o n) k is = absurd (cc)
      by (Port o from) k is = absurd (cc)

  port_from : (out from : P) → Contains (map (renamed_equation ps) es) (Port out from) → Contains es (Port out from)
  port_from out from h = let x = Contains-map_from (renamed_equation ps) es (Port out from) h in by x.0 x.1 x.2
    where
      by : (x : Equation P) → Contains es x → renamed_equation ps x ≡ Port out from → Contains es (Port out from)
      by (Gate o fs c) k is = absurd (cc)
      by (Latch name o n) k is = absurd (cc)
      by (Port o f) k is = subst (Contains es) is k

  latch_from : (name : List ℕ) (out next : P) → Contains (map (renamed_equation ps) es) (Latch name out next) → (own : List ℕ) × Contains es (Latch own out next)
  latch_from name out next h = let x = Contains-map_from (renamed_equation ps) es (Latch name out next) h in by x.0 x.1 x.2
    where
      by : (x : Equation P) → Contains es x → renamed_equation ps x ≡ Latch name out next → (own : List ℕ) × Contains es (Latch own out next)
      by (Gate o fs c) k is = absurd (cc)
      by (Latch own o n) k is = let outs : o ≡ out = cc in let nexts : n ≡ next = cc in (own, subst (λ (p : P). Contains es (Latch own p next)) outs (subst (λ (p : P). Contains es (Latch own o p)) nexts k))
      by (Port o from) k is = absurd (cc)

module _ {P : Type 0} (ps : List LatchPair) (d : Circuit P) where
  single_renamed : IsSingleDriven d → IsSingleDriven (renamed ps d)
  single_renamed single = record {
    one = λ e f he hf same. (let x = Contains-map_from (renamed_equation ps) d.equations e he in
        let y = Contains-map_from (renamed_equation ps) d.equations f hf in
        let outs : out_of x.0 ≡ out_of y.0 = sym (out_same ps x.0) ∙ ap out_of x.2 ∙ same ∙ sym (ap out_of y.2) ∙ out_same ps y.0 in
        sym x.2 ∙ ap (renamed_equation ps) (single.one x.0 y.0 x.1 y.1 outs) ∙ y.2);
    no_input = λ e he input. (let x = Contains-map_from (renamed_equation ps) d.equations e he in
        let own : out_of e ≡ out_of x.0 = ap out_of (sym x.2) ∙ out_same ps x.0 in
        single.no_input x.0 x.1 (input.0, subst (λ (p : P). Contains d.inputs (record { name = input.0; place = p })) own input.1));
  }

  follows_renamed : {p q : P} → Follows d p q → Follows (renamed ps d) p q
  follows_renamed Follows.here = Follows.here
  follows_renamed (Follows.there {p = p} {from = from} h rest) = Follows.there {p = p} {from = from} (port_to ps d.equations p from h) (follows_renamed rest)

  signal_renamed : (size : ℕ) (origin : ℕ → P) (p : P) (s : ℕ) → HasSignal d size origin p s → HasSignal (renamed ps d) size origin p s
  signal_renamed size origin p s h = record { within = h.within; follows = follows_renamed h.follows }

  place_of : (p : P) → IsPlace (renamed ps d) p → IsPlace d p
  place_of p (IsPlace.input h) = IsPlace.input h
  place_of p (IsPlace.output {name = own} h) = IsPlace.output {name = own} h
  place_of p (IsPlace.driven {e = e} h is) = let x = Contains-map_from (renamed_equation ps) d.equations e h in IsPlace.driven {e = x.0} x.1 (sym (out_same ps x.0) ∙ ap out_of x.2 ∙ is)
  place_of p (IsPlace.fanin {out = out} {fanins = fanins} {cover = cover} h k) = IsPlace.fanin {out = out} {fanins = fanins} {cover = cover} (gate_from ps d.equations out fanins cover h) k
  place_of p (IsPlace.next {name = own} {out = out} h) = let l = latch_from ps d.equations own out p h in IsPlace.next {name = l.0} {out = out} l.1
  place_of p (IsPlace.from {out = out} h) = IsPlace.from {out = out} (port_from ps d.equations out p h)

-- the flat circuit of a design with its latches under these names
pub renamed_design : {P : Type 0} {d : Circuit P} {net : Circuit ℕ} {clocked : P → Type 0} (ps : List LatchPair) → FlatDesign d net clocked → FlatDesign (renamed ps d) (renamed ps net) clocked
renamed_design {P} {d} {net} {clocked} ps f =
    let keep : (p : P) (s : ℕ) → HasSignal d f.size f.origin p s → HasSignal (renamed ps d) f.size f.origin p s = signal_renamed ps d f.size f.origin in
    record {
      size = f.size;
      origin = f.origin;
      signal = f.signal;
      single = single_renamed ps d f.single;
      circuit = record {
        inputs = f.circuit.inputs;
        outputs = f.circuit.outputs;
        latches = renamed_rows ps net.equations ∙ ap (map (renamed_equation ps)) f.circuit.latches ∙ all_moved ps f.signal (latch_rows d.equations) ∙ ap (map (moved f.signal)) (sym (renamed_rows ps d.equations));
        starts = f.circuit.starts;
        gate = λ out fanins cover h. gate_to ps net.equations (f.signal out) (map f.signal fanins) cover (f.circuit.gate out fanins cover (gate_from ps d.equations out fanins cover h));
        only = λ e h. (let y = Contains-map_from (renamed_equation ps) net.equations e h in
            let x = f.circuit.only y.0 y.1 in
            (renamed_equation ps x.0, Contains-map (renamed_equation ps) d.equations x.0 x.1, sym (moved_renamed ps f.signal x.0) ∙ ap (renamed_equation ps) x.2 ∙ y.2));
        no_port = λ out from h. f.circuit.no_port out from (port_from ps net.equations out from h);
        port = λ out from h. f.circuit.port out from (port_from ps d.equations out from h);
        back = f.circuit.back;
        entered = λ own p h. keep p (f.signal p) (f.circuit.entered own p h);
        shown = λ own p h. keep p (f.signal p) (f.circuit.shown own p h);
        read = λ out fanins cover h. (let r = f.circuit.read out fanins cover (gate_from ps d.equations out fanins cover h) in (keep out (f.signal out) r.0, λ p k. keep p (f.signal p) (r.1 p k)));
        taken = λ own out next h. (let l = latch_from ps d.equations own out next h in let r = f.circuit.taken l.0 out next l.1 in (keep out (f.signal out) r.0, keep next (f.signal next) r.1));
        started = f.circuit.started;
        placed = λ p h free. keep p (f.signal p) (f.circuit.placed p (place_of ps d p h) free);
      };
    }

-- a comparable net is so with its latches under other names
pub renamed_comparable : (ps : List LatchPair) (n m : NetView) → IsRenamed ps n m → IsComparable n → IsComparable m
renamed_comparable ps n m is own = record {
  distinct = subst AreDistinct (ap (map (λ (p : NetPort). p.name)) (sym is.outputs)) own.distinct;
  few = (let inputs = ap length is.inputs in
      let outputs = ap length is.outputs in
      let latches = ap length is.latches in
      let long = length-map n.latches (renamed_latch ps) in
      omega (arith, own.few, inputs, outputs, latches, long));
}
