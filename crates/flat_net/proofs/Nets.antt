-- What each net keeps makes its circuit a flat net with distinct names.
use Rattle.std.proofs.Common.{◌≡◌, ◌≢◌, ◌<◌, ◌∙◌, ℕ, zero, suc, List, [], ◌∷◌, length, map, get_or, slice_get, Some, refl, sym, ap, subst, arith, inl, inr}
use Rattle.std.specs.Prelude.{◌⊎◌}
use Rattle.std.specs.List.{AllPairs, Contains}
use Rattle.std.proofs.lemmas.List.Elements.{All-map, Contains-append_cases, Contains-append_left, Contains-append_right}
use Rattle.std.proofs.lemmas.Option.{slice_get_within, slice_get-get_or}
use Rattle.circuit_theory.specs.Circuit.{Equation, Latch as latch_equation, Named, IsLatch, IsSingleDriven, out_of}
use Rattle.circuit_theory.specs.Net.{IsAbove, IsWithin, IsDriven, IsNet, HasDistinctNames}
use Rattle.circuit_theory.proofs.Lists.{Contains-map, Contains-map_from, All-from_each, at_of, of_at}
use Rattle.base_tables.proofs.TableLemmas.{key_at}
use Rattle.flat_net.specs.declared.parts.Port.{Port}
use Rattle.flat_net.specs.declared.parts.Gate.{Gate}
use Rattle.flat_net.specs.declared.parts.LatchAt.{LatchAt}
use Rattle.flat_net.specs.declared.parts.Driver.{Driver}
use Rattle.flat_net.specs.declared.parts.Driver.TheVariants as driver
use Rattle.flat_net.specs.View.{NetView, named, equation_of_gate, equation_of_latch, circuit_of}
use Rattle.flat_net.specs.Sound.{IsSound, Drives}
use Rattle.flat_net.proofs.Places.{one_at, out_within}

-- what stands in range
pub some_at : {X : Type 0} (xs : List X) (i : ℕ) → i < length xs → (x : X) × (slice_get xs i ≡ Some x)
some_at [] i h = absurd (omega (arith, h))
some_at (x ∷ xs) zero h = (x, refl)
some_at (x ∷ xs) (suc i) h = some_at xs i (omega (arith, h))

-- different drivers
same_input : {i j : ℕ} → driver.Input i ≡ driver.Input j → i ≡ j
same_input e = cc

same_gate : {i j : ℕ} → driver.Gate i ≡ driver.Gate j → i ≡ j
same_gate e = cc

same_latch : {i j : ℕ} → driver.Latch i ≡ driver.Latch j → i ≡ j
same_latch e = cc

no_input_gate : {i j : ℕ} → driver.Input i ≡ driver.Gate j → ⊥
no_input_gate e = cc

no_input_latch : {i j : ℕ} → driver.Input i ≡ driver.Latch j → ⊥
no_input_latch e = cc

no_gate_latch : {i j : ℕ} → driver.Gate i ≡ driver.Latch j → ⊥
no_gate_latch e = cc

-- an equation of the net is a gate's or a latch's
pub record OfGate (n : NetView) (e : Equation ℕ) : Type 0 where
  pub j : ℕ
  pub gate : Gate
  pub at : slice_get n.gates j ≡ Some gate
  pub is : equation_of_gate n.covers gate ≡ e

pub record OfLatch (n : NetView) (e : Equation ℕ) : Type 0 where
  pub j : ℕ
  pub latch : LatchAt
  pub at : slice_get n.latches j ≡ Some latch
  pub is : equation_of_latch latch ≡ e

pub record OfInput (n : NetView) (i : Named ℕ) : Type 0 where
  pub j : ℕ
  pub port : Port
  pub at : slice_get n.inputs j ≡ Some port
  pub is : named port ≡ i

pub equation_from : (n : NetView) (e : Equation ℕ) → Contains (circuit_of n).equations e → OfGate n e ⊎ OfLatch n e
equation_from n e h = pick (Contains-append_cases (map (equation_of_gate n.covers) n.gates) (map equation_of_latch n.latches) e h)
  where
    pick : Contains (map (equation_of_gate n.covers) n.gates) e ⊎ Contains (map equation_of_latch n.latches) e → OfGate n e ⊎ OfLatch n e
    pick (inl of_gate) =
        let g = Contains-map_from (equation_of_gate n.covers) n.gates e of_gate in
        let at = at_of n.gates g.0 g.1 in
        inl (record { j = at.0; gate = g.0; at = at.1; is = g.2 })
    pick (inr of_latch) =
        let l = Contains-map_from equation_of_latch n.latches e of_latch in
        let at = at_of n.latches l.0 l.1 in
        inr (record { j = at.0; latch = l.0; at = at.1; is = l.2 })

pub input_from : (n : NetView) (i : Named ℕ) → Contains (circuit_of n).inputs i → OfInput n i
input_from n i h =
    let p = Contains-map_from named n.inputs i h in
    let at = at_of n.inputs p.0 p.1 in
    record { j = at.0; port = p.0; at = at.1; is = p.2 }

-- a gate's, a latch's and an input's place in the circuit
pub gate_stands : (n : NetView) (j : ℕ) (g : Gate) → slice_get n.gates j ≡ Some g → Contains (circuit_of n).equations (equation_of_gate n.covers g)
gate_stands n j g at =
    Contains-append_left (map (equation_of_gate n.covers) n.gates) (map equation_of_latch n.latches) _ (Contains-map (equation_of_gate n.covers) n.gates g (of_at n.gates j g at))

pub latch_stands : (n : NetView) (j : ℕ) (l : LatchAt) → slice_get n.latches j ≡ Some l → Contains (circuit_of n).equations (equation_of_latch l)
latch_stands n j l at =
    Contains-append_right (map (equation_of_gate n.covers) n.gates) (map equation_of_latch n.latches) _ (Contains-map equation_of_latch n.latches l (of_at n.latches j l at))

pub input_stands : (n : NetView) (i : ℕ) (port : Port) → slice_get n.inputs i ≡ Some port → Contains (circuit_of n).inputs (named port)
input_stands n i port at = Contains-map named n.inputs port (of_at n.inputs i port at)

module _ (n : NetView) (sound : IsSound n) where
  -- what drives the signal of an equation
  gate_owner : (e : Equation ℕ) (g : OfGate n e) → slice_get n.drivers (out_of e) ≡ Some (driver.Gate g.j)
  gate_owner e g = subst (λ s. slice_get n.drivers s ≡ Some (driver.Gate g.j)) (ap out_of g.is) (sound.gates g.j g.gate g.at).owner

  latch_owner : (e : Equation ℕ) (l : OfLatch n e) → slice_get n.drivers (out_of e) ≡ Some (driver.Latch l.j)
  latch_owner e l = subst (λ s. slice_get n.drivers s ≡ Some (driver.Latch l.j)) (ap out_of l.is) (sound.latches l.j l.latch l.at).owner

  input_owner : (i : Named ℕ) (p : OfInput n i) → slice_get n.drivers i.place ≡ Some (driver.Input p.j)
  input_owner i p = subst (λ s. slice_get n.drivers s ≡ Some (driver.Input p.j)) (ap (λ k. k.place) p.is) (sound.inputs p.j p.port p.at).owner

  -- two drivers of one signal are one
  one_driver : (s t : ℕ) (d e : Driver) → s ≡ t → slice_get n.drivers s ≡ Some d → slice_get n.drivers t ≡ Some e → d ≡ e
  one_driver s t d e same hd he = one_at n.drivers s d e hd (ap (slice_get n.drivers) same ∙ he)

  one_equation : (e f : Equation ℕ) → out_of e ≡ out_of f → OfGate n e ⊎ OfLatch n e → OfGate n f ⊎ OfLatch n f → e ≡ f
  one_equation e f same (inl g) (inl h) =
      let j : g.j ≡ h.j = same_gate (one_driver _ _ _ _ same (gate_owner e g) (gate_owner f h)) in
      let gate : g.gate ≡ h.gate = one_at n.gates g.j g.gate h.gate g.at (ap (slice_get n.gates) j ∙ h.at) in
      sym g.is ∙ ap (equation_of_gate n.covers) gate ∙ h.is
  one_equation e f same (inl g) (inr l) = absurd (no_gate_latch (one_driver _ _ _ _ same (gate_owner e g) (latch_owner f l)))
  one_equation e f same (inr l) (inl g) = absurd (no_gate_latch (sym (one_driver _ _ _ _ same (latch_owner e l) (gate_owner f g))))
  one_equation e f same (inr l) (inr m) =
      let j : l.j ≡ m.j = same_latch (one_driver _ _ _ _ same (latch_owner e l) (latch_owner f m)) in
      let latch : l.latch ≡ m.latch = one_at n.latches l.j l.latch m.latch l.at (ap (slice_get n.latches) j ∙ m.at) in
      sym l.is ∙ ap equation_of_latch latch ∙ m.is

  no_driven_input : (e : Equation ℕ) (i : Named ℕ) → i.place ≡ out_of e → OfInput n i → OfGate n e ⊎ OfLatch n e → ⊥
  no_driven_input e i same p (inl g) = no_input_gate (one_driver _ _ _ _ same (input_owner i p) (gate_owner e g))
  no_driven_input e i same p (inr l) = no_input_latch (one_driver _ _ _ _ same (input_owner i p) (latch_owner e l))

  net_single : IsSingleDriven (circuit_of n)
  net_single = record {
    one = λ e f he hf same. one_equation e f same (equation_from n e he) (equation_from n f hf);
    no_input = λ e he i. no_driven_input e (record { name = i.0; place = out_of e }) refl (input_from n _ i.1) (equation_from n e he);
  }

  net_inputs : AllPairs (λ i j. i.place ≢ j.place) (circuit_of n).inputs
  net_inputs i j d below within same =
      let before : i < length (map named n.inputs) = omega (arith, below, within) in
      let p = key_at named n.inputs i _ (slice_get-get_or (map named n.inputs) i d before) in
      let q = key_at named n.inputs j _ (slice_get-get_or (map named n.inputs) j d within) in
      let first : slice_get n.drivers (get_or (map named n.inputs) i d).place ≡ Some (driver.Input i) = input_owner _ (record { j = i; port = p.0; at = p.1; is = p.2 }) in
      let second : slice_get n.drivers (get_or (map named n.inputs) j d).place ≡ Some (driver.Input j) = input_owner _ (record { j = j; port = q.0; at = q.1; is = q.2 }) in
      let one : i ≡ j = same_input (one_driver _ _ _ _ same first second) in
      absurd (omega (arith, below, one))

  above_each : (e : Equation ℕ) → OfGate n e ⊎ OfLatch n e → IsAbove e
  above_each e (inl g) =
      subst IsAbove g.is (All-map (λ f. f < g.gate.out.0) (λ s. s.0) g.gate.fanins (sound.gates g.j g.gate g.at).above)
  above_each e (inr l) = subst IsAbove l.is tt

  within_each : (e : Equation ℕ) → OfGate n e ⊎ OfLatch n e → IsWithin (length n.drivers) e
  within_each e (inl g) = subst (IsWithin (length n.drivers)) g.is (out_within n sound g.j g.gate g.at)
  within_each e (inr l) =
      let own = sound.latches l.j l.latch l.at in
      subst (IsWithin (length n.drivers)) l.is (slice_get_within n.drivers l.latch.out.0 _ own.owner, own.within)

  driven_by : (s : ℕ) (d : Driver) → Drives n s d → IsDriven (circuit_of n) s
  driven_by s (driver.Input i) h =
      inl (h.0.name, subst (λ p. Contains (circuit_of n).inputs (record { name = h.0.name; place = p })) h.2 (input_stands n i h.0 h.1))
  driven_by s (driver.Gate j) h = inr (equation_of_gate n.covers h.0, gate_stands n j h.0 h.1, h.2)
  driven_by s (driver.Latch j) h = inr (equation_of_latch h.0, latch_stands n j h.0 h.1, h.2)

  -- the circuit of a net is a flat net
  pub sound_is_net : IsNet (circuit_of n) (length n.drivers)
  sound_is_net = record {
    single = net_single;
    inputs = net_inputs;
    above = All-from_each IsAbove (circuit_of n).equations (λ e h. above_each e (equation_from n e h));
    within = All-from_each (IsWithin (length n.drivers)) (circuit_of n).equations (λ e h. within_each e (equation_from n e h));
    driven = λ s h. let d = some_at n.drivers s h in driven_by s d.0 (sound.drivers s d.0 d.1);
  }

  input_name : (name : List ℕ) (p : ℕ) → Contains (circuit_of n).inputs (record { name = name; place = p }) → slice_get n.names p ≡ Some name
  input_name name p h =
      let i = input_from n _ h in
      subst (λ (k : Named ℕ). slice_get n.names k.place ≡ Some k.name) i.is (sound.inputs i.j i.port i.at).named

  latch_of : (name : List ℕ) (u next : ℕ) → IsLatch (circuit_of n) name u next → OfLatch n (latch_equation name u next)
  latch_of name u next h = pick (equation_from n (latch_equation name u next) h)
    where
      no : (g : Gate) → equation_of_gate n.covers g ≡ latch_equation name u next → ⊥
      no g e = cc

      pick : OfGate n (latch_equation name u next) ⊎ OfLatch n (latch_equation name u next) → OfLatch n (latch_equation name u next)
      pick (inl g) = absurd (no g.gate g.is)
      pick (inr l) = l

  latch_name : (name : List ℕ) (u next : ℕ) → IsLatch (circuit_of n) name u next → slice_get n.names u ≡ Some name
  latch_name name u next h =
      let l = latch_of name u next h in
      let parts = same_parts l.latch l.is in
      subst (λ s. slice_get n.names s ≡ Some name) parts.1 (subst (λ w. slice_get n.names l.latch.out.0 ≡ Some w) parts.0 (sound.latches l.j l.latch l.at).named)
    where
      same_parts : (l : LatchAt) → equation_of_latch l ≡ latch_equation name u next → (l.name ≡ name) × (l.out.0 ≡ u)
      same_parts l e = (cc, cc)

  -- names tell inputs and latches apart
  pub sound_names : HasDistinctNames (circuit_of n)
  sound_names = record {
    inputs = λ name p q hp hq. sound.distinct p q name (input_name name p hp) (input_name name q hq);
    latches = λ name u next v next' hu hv. sound.distinct u v name (latch_name name u next hu) (latch_name name v next' hv);
    apart = λ name p u next hp hu.
        let same : p ≡ u = sound.distinct p u name (input_name name p hp) (latch_name name u next hu) in
        let i = input_from n _ hp in
        let l = latch_of name u next hu in
        no_input_latch (one_driver _ _ _ _ same (input_owner _ i) (latch_owner _ l));
  }
