-- Circuits with the outputs of one name alone: of a design and its net.
use Rattle.std.proofs.Common.{◌≡◌, ◌∙◌, ℕ, Bool, true, false, List, [], ◌∷◌, map, refl, ap}
use Rattle.std.specs.List.{filter}
use Rattle.std.specs.Str.{bytes_eq}
use Rattle.circuit_theory.specs.Circuit.{Circuit, Named}
use Rattle.circuit_theory.specs.Flattened.{Follows}
use Rattle.circuit_theory.specs.Joined.{moved_name}
use Rattle.circuit_theory.specs.Places.{IsPlace}
use Rattle.circuit_theory.proofs.Lists.{Contains-filter}
use Rattle.net_assembly.specs.net_alike.FlatCircuit.{HasSignal}
use Rattle.net_names.specs.Alone.{only_output}
use Rattle.job_base.proofs.design_laws.FlatParts.{FlatDesign}

-- what is moved keeps its name
moved_alone : {P Q : Type 0} (f : P → Q) (name : List ℕ) (os : List (Named P)) → filter (λ (o : Named Q). bytes_eq o.name name) (map (moved_name f) os) ≡ map (moved_name f) (filter (λ (o : Named P). bytes_eq o.name name) os)
moved_alone f name [] = refl
moved_alone {P} {Q} f name (o ∷ os) = by (bytes_eq o.name name) refl (moved_alone f name os)
  where
    by : (b : Bool) → bytes_eq o.name name ≡ b → filter (λ (x : Named Q). bytes_eq x.name name) (map (moved_name f) os) ≡ map (moved_name f) (filter (λ (x : Named P). bytes_eq x.name name) os) →
        filter (λ (x : Named Q). bytes_eq x.name name) (map (moved_name f) (o ∷ os)) ≡ map (moved_name f) (filter (λ (x : Named P). bytes_eq x.name name) (o ∷ os))
    by true e rest = rw e (ap (λ (xs : List (Named Q)). moved_name f o ∷ xs) rest)
    by false e rest = rw e rest

place_of : {P : Type 0} (name : List ℕ) (d : Circuit P) (p : P) → IsPlace (only_output name d) p → IsPlace d p
place_of name d p (IsPlace.input h) = IsPlace.input h
place_of name d p (IsPlace.output {name = own} h) = IsPlace.output {name = own} (Contains-filter (λ o. bytes_eq o.name name) d.outputs (record { name = own; place = p }) h)
place_of name d p (IsPlace.driven {e = e} h is) = IsPlace.driven {e = e} h is
place_of name d p (IsPlace.fanin {out = out} {fanins = fanins} {cover = cover} h k) = IsPlace.fanin {out = out} {fanins = fanins} {cover = cover} h k
place_of name d p (IsPlace.next {name = own} {out = out} h) = IsPlace.next {name = own} {out = out} h
place_of name d p (IsPlace.from {out = out} h) = IsPlace.from {out = out} h

-- ports lead where they did
follows_alone : {P : Type 0} (name : List ℕ) (d : Circuit P) {p q : P} → Follows d p q → Follows (only_output name d) p q
follows_alone name d Follows.here = Follows.here
follows_alone name d (Follows.there {p = p} {from = from} h rest) = Follows.there {p = p} {from = from} h (follows_alone name d rest)

signal_alone : {P : Type 0} (name : List ℕ) (d : Circuit P) (size : ℕ) (origin : ℕ → P) (p : P) (s : ℕ) → HasSignal d size origin p s → HasSignal (only_output name d) size origin p s
signal_alone name d size origin p s h = record { within = h.within; follows = follows_alone name d h.follows }

-- the flat circuit of a design with these outputs alone
pub alone_design : {P : Type 0} {d : Circuit P} {net : Circuit ℕ} {clocked : P → Type 0} (name : List ℕ) → FlatDesign d net clocked → FlatDesign (only_output name d) (only_output name net) clocked
alone_design {P} {d} {net} {clocked} name f =
    let keep : (p : P) (s : ℕ) → HasSignal d f.size f.origin p s → HasSignal (only_output name d) f.size f.origin p s = signal_alone name d f.size f.origin in
    record {
      size = f.size;
      origin = f.origin;
      signal = f.signal;
      single = record { one = f.single.one; no_input = f.single.no_input };
      circuit = record {
        inputs = f.circuit.inputs;
        outputs = ap (filter (λ (o : Named ℕ). bytes_eq o.name name)) f.circuit.outputs ∙ moved_alone f.signal name d.outputs;
        latches = f.circuit.latches;
        starts = f.circuit.starts;
        gate = f.circuit.gate;
        only = f.circuit.only;
        no_port = f.circuit.no_port;
        port = f.circuit.port;
        back = f.circuit.back;
        entered = λ own p h. keep p (f.signal p) (f.circuit.entered own p h);
        shown = λ own p h. keep p (f.signal p) (f.circuit.shown own p (Contains-filter (λ o. bytes_eq o.name name) d.outputs (record { name = own; place = p }) h));
        read = λ out fanins cover h. (let r = f.circuit.read out fanins cover h in (keep out (f.signal out) r.0, λ p k. keep p (f.signal p) (r.1 p k)));
        taken = λ own out next h. (let r = f.circuit.taken own out next h in (keep out (f.signal out) r.0, keep next (f.signal next) r.1));
        started = f.circuit.started;
        placed = λ p h free. keep p (f.signal p) (f.circuit.placed p (place_of name d p h) free);
      };
    }
