-- What stands in a flat circuit for the parts of its design, and the other way round.
use Rattle.std.proofs.Common.{◌≡◌, ◌∙◌, ◌<◌, ℕ, ◌+◌, Bool, List, [], ◌∷◌, map, refl, sym, ap, subst, arith, inl, inr}
use Rattle.std.specs.Prelude.{◌⊎◌}
use Rattle.std.specs.List.{All, Contains}
use Rattle.std.proofs.lemmas.List.Elements.{All-contains}
use Rattle.circuit_theory.specs.Cover.{Cover, cover_value}
use Rattle.circuit_theory.specs.Circuit.{Circuit, Equation, Gate, Latch, Port, Named, IsLatch, IsSingleDriven, Holds, Carries, Meets}
use Rattle.circuit_theory.specs.Joined.{moved, moved_name}
use Rattle.circuit_theory.specs.Flattened.{Follows}
use Rattle.circuit_theory.specs.Run.{IsRun}
use Rattle.circuit_theory.proofs.Lists.{Contains-head, Contains-tail, Contains-cases, Contains-map, Contains-map_from, All-from_each, map-map, map_same}
use Rattle.net_assembly.specs.net_alike.Renumbered.{latch_rows}
use Rattle.net_assembly.specs.net_alike.FlatCircuit.{IsFlatCircuit}
use Rattle.net_assembly.proofs.net_alike.Carrying.{latch_row_from}
use Rattle.net_assembly.proofs.net_alike.Ends.{gate_home, latch_home, input_home}

-- a latch stands among the latches
latch_row_there : {P : Type 0} (es : List (Equation P)) (name : List ℕ) (out next : P) → Contains es (Latch name out next) → Contains (latch_rows es) (Latch name out next)
latch_row_there [] name out next h = h
latch_row_there {P} (e ∷ es) name out next h = by e (latch_row_there es name out next) (Contains-cases e (Latch name out next) es h)
  where
    by : (f : Equation P) → (Contains es (Latch name out next) → Contains (latch_rows es) (Latch name out next)) → (f ≡ Latch name out next) ⊎ Contains es (Latch name out next) → Contains (latch_rows (f ∷ es)) (Latch name out next)
    by (Gate o fanins cover) rest (inl same) = absurd (cc)
    by (Gate o fanins cover) rest (inr k) = rest k
    by (Port o from) rest (inl same) = absurd (cc)
    by (Port o from) rest (inr k) = rest k
    by (Latch own o x) rest (inl same) = subst (Contains (Latch own o x ∷ latch_rows es)) same (Contains-head (Latch own o x) (latch_rows es))
    by (Latch own o x) rest (inr k) = Contains-tail (Latch own o x) (Latch name out next) (latch_rows es) (rest k)

-- a run has one value along ports
pub along : {P : Type 0} (d : Circuit P) (v : P → Bool) → Meets d v → {p q : P} → Follows d p q → v p ≡ v q
along d v meets Follows.here = refl
along d v meets (Follows.there {p = p} {from = from} h rest) = All-contains (Holds v) d.equations (Port p from) meets h ∙ along d v meets rest

-- the flat circuit of a design, whose places are single-driven
pub record FlatDesign {P : Type 0} (d : Circuit P) (net : Circuit ℕ) (clocked : P → Type 0) : Type 0 where
  pub size : ℕ
  pub origin : ℕ → P
  pub signal : P → ℕ
  pub single : IsSingleDriven d
  pub circuit : IsFlatCircuit d net size clocked origin signal

module _ {P : Type 0} {d : Circuit P} {net : Circuit ℕ} {clocked : P → Type 0} (f : FlatDesign d net clocked) where
  -- a latch of the design is one of the net
  pub latch_down : (name : List ℕ) (u next : P) → IsLatch d name u next → IsLatch net name (f.signal u) (f.signal next)
  latch_down name u next h =
      latch_row_from net.equations (Latch name (f.signal u) (f.signal next)) (subst (λ (es : List (Equation ℕ)). Contains es (Latch name (f.signal u) (f.signal next))) (sym f.circuit.latches)
      (Contains-map (moved f.signal) (latch_rows d.equations) (Latch name u next) (latch_row_there d.equations name u next h)))

  -- it stands where its signal is driven
  pub latch_stays : (name : List ℕ) (u next : P) → IsLatch d name u next → f.origin (f.signal u) ≡ u
  latch_stays name u next h = latch_home d net f.size clocked f.origin f.signal f.single f.circuit name u next h

  -- the latch of the design for one of the net: it stands where that is driven
  pub record LatchFor (name : List ℕ) (i next : ℕ) : Type 0 where
    pub takes : P
    pub latch : IsLatch d name (f.origin i) takes
    pub signal : f.signal (f.origin i) ≡ i
    pub takes_is : f.signal takes ≡ next
    pub follows : Follows d takes (f.origin next)

  pub latch_up : (name : List ℕ) (i next : ℕ) → IsLatch net name i next → LatchFor name i next
  latch_up name i next h = let x = f.circuit.only (Latch name i next) h in by x.0 x.1 x.2
    where
      by : (x : Equation P) → Contains d.equations x → moved f.signal x ≡ Latch name i next → LatchFor name i next
      by (Latch own out to) c is =
          let name_is : own ≡ name = cc in
          let out_is : f.signal out ≡ i = cc in
          let next_is : f.signal to ≡ next = cc in
          let home : f.origin i ≡ out = ap f.origin (sym out_is) ∙ latch_home d net f.size clocked f.origin f.signal f.single f.circuit own out to c in
          record {
            takes = to;
            latch = subst (λ (p : P). IsLatch d name p to) (sym home) (subst (λ (n : List ℕ). IsLatch d n out to) name_is c);
            signal = ap f.signal home ∙ out_is;
            takes_is = next_is;
            follows = subst (λ (k : ℕ). Follows d to (f.origin k)) next_is (f.circuit.taken own out to c).1.follows;
          }
      by (Gate out fans own) c is = absurd (cc)
      by (Port out from) c is = absurd (cc)

  -- an input of the net is one of the design, where it is driven
  pub input_up : (name : List ℕ) (i : ℕ) → Contains net.inputs (record { name = name; place = i }) → Contains d.inputs (record { name = name; place = f.origin i })
  input_up name i h =
      let x = Contains-map_from (moved_name f.signal) d.inputs (record { name = name; place = i }) (subst (λ (is : List (Named ℕ)). Contains is (record { name = name; place = i })) f.circuit.inputs h) in
      let name_is : x.0.name ≡ name = ap (λ (n : Named ℕ). n.name) x.2 in
      let place_is : f.signal x.0.place ≡ i = ap (λ (n : Named ℕ). n.place) x.2 in
      let home : f.origin i ≡ x.0.place = ap f.origin (sym place_is) ∙ input_home d net f.size clocked f.origin f.signal f.single f.circuit x.0.name x.0.place x.1 in
      subst (λ (p : P). Contains d.inputs (record { name = name; place = p })) (sym home) (subst (λ (n : List ℕ). Contains d.inputs (record { name = n; place = x.0.place })) name_is x.1)

  pub input_down : (name : List ℕ) (p : P) → Contains d.inputs (record { name = name; place = p }) → Contains net.inputs (record { name = name; place = f.signal p })
  input_down name p h =
      subst (λ (is : List (Named ℕ)). Contains is (record { name = name; place = f.signal p })) (sym f.circuit.inputs) (Contains-map (moved_name f.signal) d.inputs (record { name = name; place = p }) h)

  pub output_down : (name : List ℕ) (p : P) → Contains d.outputs (record { name = name; place = p }) → Contains net.outputs (record { name = name; place = f.signal p })
  output_down name p h =
      subst (λ (os : List (Named ℕ)). Contains os (record { name = name; place = f.signal p })) (sym f.circuit.outputs) (Contains-map (moved_name f.signal) d.outputs (record { name = name; place = p }) h)

  -- the output of the design for one of the net
  pub output_up : (name : List ℕ) (i : ℕ) → Contains net.outputs (record { name = name; place = i }) → (p : P) × Contains d.outputs (record { name = name; place = p }) × (f.signal p ≡ i)
  output_up name i h =
      let x = Contains-map_from (moved_name f.signal) d.outputs (record { name = name; place = i }) (subst (λ (os : List (Named ℕ)). Contains os (record { name = name; place = i })) f.circuit.outputs h) in
      let name_is : x.0.name ≡ name = ap (λ (n : Named ℕ). n.name) x.2 in
      (x.0.place, subst (λ (n : List ℕ). Contains d.outputs (record { name = n; place = x.0.place })) name_is x.1, ap (λ (n : Named ℕ). n.place) x.2)

  -- a run of the design is one of the net
  holds_down : (v : P → Bool) → Meets d v → (e : Equation ℕ) → Contains net.equations e → Holds (λ i. v (f.origin i)) e
  holds_down v meets e h = let x = f.circuit.only e h in subst (Holds (λ i. v (f.origin i))) x.2 (by x.0 x.1 (subst (Contains net.equations) (sym x.2) h))
    where
      by : (x : Equation P) → Contains d.equations x → Contains net.equations (moved f.signal x) → Holds (λ i. v (f.origin i)) (moved f.signal x)
      by (Gate out fans cover) c own =
          ap v (gate_home d net f.size clocked f.origin f.signal f.single f.circuit out fans cover c)
          ∙ All-contains (Holds v) d.equations (Gate out fans cover) meets c
          ∙ ap (cover_value cover) (map_same v (λ p. v (f.origin (f.signal p))) fans (λ p k. along d v meets ((f.circuit.read out fans cover c).1 p k).follows) ∙ sym (map-map (λ i. v (f.origin i)) f.signal fans))
      by (Latch name out next) c own = tt
      by (Port out from) c own = absurd (f.circuit.no_port (f.signal out) (f.signal from) own)

  carries_down : (now later : P → Bool) → Meets d now → All (Carries now later) d.equations → (e : Equation ℕ) → Contains net.equations e → Carries (λ i. now (f.origin i)) (λ i. later (f.origin i)) e
  carries_down now later meets carries e h = let x = f.circuit.only e h in subst (Carries (λ i. now (f.origin i)) (λ i. later (f.origin i))) x.2 (by x.0 x.1)
    where
      by : (x : Equation P) → Contains d.equations x → Carries (λ i. now (f.origin i)) (λ i. later (f.origin i)) (moved f.signal x)
      by (Gate out fans cover) c = tt
      by (Port out from) c = tt
      by (Latch name out next) c =
          ap later (latch_home d net f.size clocked f.origin f.signal f.single f.circuit name out next c)
          ∙ All-contains (Carries now later) d.equations (Latch name out next) carries c
          ∙ along d now meets (f.circuit.taken name out next c).1.follows

  pub run_down : (n : ℕ) (run : ℕ → P → Bool) → IsRun d n run → IsRun net n (λ t i. run t (f.origin i))
  run_down n run is = record {
    meets = λ t h. All-from_each (Holds (λ i. run t (f.origin i))) net.equations (holds_down (run t) (is.meets t h));
    carries = λ t h. All-from_each (Carries (λ i. run t (f.origin i)) (λ i. run (t + 1) (f.origin i))) net.equations (carries_down (run t) (run (t + 1)) (is.meets t (omega (arith, h))) (is.carries t h));
  }

  -- and a run of the net is one of the design, each place with the value of its signal
  holds_up : (v : ℕ → Bool) → Meets net v → (e : Equation P) → Contains d.equations e → Holds (λ p. v (f.signal p)) e
  holds_up v meets (Gate out fans cover) h =
      All-contains (Holds v) net.equations (Gate (f.signal out) (map f.signal fans) cover) meets (f.circuit.gate out fans cover h) ∙ ap (cover_value cover) (map-map v f.signal fans)
  holds_up v meets (Latch name out next) h = tt
  holds_up v meets (Port out from) h = ap v (f.circuit.port out from h)

  carries_up : (now later : ℕ → Bool) → All (Carries now later) net.equations → (e : Equation P) → Contains d.equations e → Carries (λ p. now (f.signal p)) (λ p. later (f.signal p)) e
  carries_up now later carries (Gate out fans cover) h = tt
  carries_up now later carries (Latch name out next) h = All-contains (Carries now later) net.equations (Latch name (f.signal out) (f.signal next)) carries (latch_down name out next h)
  carries_up now later carries (Port out from) h = tt

  pub run_up : (n : ℕ) (run : ℕ → ℕ → Bool) → IsRun net n run → IsRun d n (λ t p. run t (f.signal p))
  run_up n run is = record {
    meets = λ t h. All-from_each (Holds (λ p. run t (f.signal p))) d.equations (holds_up (run t) (is.meets t h));
    carries = λ t h. All-from_each (Carries (λ p. run t (f.signal p)) (λ p. run (t + 1) (f.signal p))) d.equations (carries_up (run t) (run (t + 1)) (is.carries t h));
  }
