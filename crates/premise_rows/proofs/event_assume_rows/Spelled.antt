-- The designs with a load enable: what they spell, and that no cycle is left.
use Rattle.std.proofs.Common.{◌≡◌, ◌∙◌, ℕ, ◌≤◌, Bool, true, false, List, [], ◌∷◌, length, None, refl, sym, ap, subst, arith, inl, inr}
use Rattle.std.specs.Prelude.{codes, if◌then◌else◌, ◌≢◌}
use Rattle.std.proofs.lemmas.List.Elements.{All-contains}
use Rattle.circuit_theory.specs.Circuit.{Circuit, Equation, Gate, Latch, Named, IsLatch, Holds, Reads, Reaches}
use Rattle.circuit_theory.specs.Cover.{Cover, cover_value}
use Rattle.circuit_theory.specs.Depth.{HasCycle}
use Rattle.circuit_theory.specs.Names.{is_among}
use Rattle.circuit_theory.specs.Run.{ExtendsWith, IsEnabled}
use Rattle.circuit_theory.proofs.Lists.{Contains-cases, length-map}
use Rattle.blif_read.specs.blif_lines.Lines.{cut_line, going_on}
use Rattle.blif_read.specs.Design.{Place, top, walk, circuit_of_design}
use Rattle.blif_read.specs.Fault.{fault_of}
use Rattle.blif_read.specs.Heads.{head_of}
use Rattle.flat_net.specs.declared.parts.Port.{Port}
use Rattle.flat_net.specs.View.{NetView, circuit_of, named}
use Rattle.flatten.specs.DesignFaults.{IsClocked, IsFlatOf}
use Rattle.job_base.proofs.design_laws.FlatParts.{FlatDesign, latch_up}
use Rattle.job_base.proofs.design_laws.Kept.{flat_design}
use Rattle.job_base.proofs.design_laws.KeptNames.{names_are_kept}
use Rattle.pair_texts.proofs.design_rows.Places.{is_one_place, is_one_place-itself}
use Rattle.pair_texts.specs.design_rows.NoFault.{has_no_fault}
use Rattle.pair_texts.proofs.design_rows.NoFaults.{tested_is_sound}
use Rattle.job_base.proofs.design_laws.event_designs.FlatEnabled.{enabled_down}
use Rattle.premise_rows.proofs.event_premises.Flat.{PassesShallow}
use Rattle.premise_rows.proofs.event_premises.Nets.{HasPorts, PassesCounts, SpellsDesign, ports_kept, shallow_net}
use Rattle.circuit_laws.proofs.Shallow.{no_cycle}
use Rattle.premise_rows.proofs.event_premises.Within.{IsShallowNet}
use Rattle.premise_rows.specs.event_assume_rows.Loads.{loading, first_load, and_load, loads_first, loads_and}

abbrev E : Place
E = top (codes "e")

abbrev X : Place
X = top (codes "a")

abbrev Y : Place
Y = top (codes "b")

abbrev Q : Place
Q = top (codes "q")

abbrev N : Place
N = top (codes "n")

-- which latches each place reads
abbrev load_cone : Place → List Place
load_cone p = if is_among (codes "q" ∷ codes "n" ∷ []) p.name then Q ∷ [] else []

abbrev input_named : List ℕ → Named Place
input_named name = record { name = name; place = top name }

module _ (load : Cover) where
  abbrev equations : List (Equation Place)
  equations = Gate N (E ∷ X ∷ Y ∷ Q ∷ []) load ∷ Latch (codes "q") Q N ∷ []

  abbrev d : Circuit Place
  d = record { inputs = input_named (codes "e") ∷ input_named (codes "a") ∷ input_named (codes "b") ∷ []; outputs = input_named (codes "q") ∷ []; equations = equations; starts = [] }

  circuit_is : circuit_of_design (loading load) None ≡ d
  unfolding circuit_of_design walk
  circuit_is = refl

  counts : PassesCounts (loading load) 5
  unfolding circuit_of_design walk
  counts = record { no_clock = refl; counted = refl }

  pub loads_ports : (net : NetView) → IsFlatOf (loading load) net → HasPorts (codes "e" ∷ codes "a" ∷ codes "b" ∷ []) (codes "q" ∷ []) net
  unfolding circuit_of_design walk
  loads_ports net f = ports_kept (loading load) refl net f

  module _ (passes : PassesShallow is_one_place load_cone (circuit_of_design (loading load) None) 11) where
    pub loads_shallow : (net : NetView) → IsFlatOf (loading load) net → IsShallowNet net
    loads_shallow net f = shallow_net (loading load) load_cone 11 5 passes counts (omega arith) (omega arith) net f

    -- where the latch keeps a 1 it holds it with more
    module _ (rising : (e a b : Bool) → cover_value load (e ∷ a ∷ b ∷ false ∷ []) ≡ true → cover_value load (e ∷ a ∷ b ∷ true ∷ []) ≡ true) where
      apart : (p q : Place) → is_one_place p q ≡ false → p ≢ q
      apart p q differ same = let one : is_one_place p q ≡ true = subst (λ (z : Place). is_one_place p z ≡ true) same (is_one_place-itself p) in cc

      taken : (bit : Bool) (x v : Place → Bool) → ExtendsWith d Q bit x v → v N ≡ cover_value load (x E ∷ x X ∷ x Y ∷ bit ∷ [])
      taken bit x v ex =
          let here : v N ≡ cover_value load (v E ∷ v X ∷ v Y ∷ v Q ∷ []) = All-contains (Holds v) equations (Gate N (E ∷ X ∷ Y ∷ Q ∷ []) load) ex.meets (0, omega arith, refl) in
          let first : v E ≡ x E = ex.sources E (inl (codes "e", (0, omega arith, refl))) (apart E Q refl) in
          let second : v X ≡ x X = ex.sources X (inl (codes "a", (1, omega arith, refl))) (apart X Q refl) in
          let third : v Y ≡ x Y = ex.sources Y (inl (codes "b", (2, omega arith, refl))) (apart Y Q refl) in
          let fourth : v Q ≡ bit = ex.put in
          let bits : v E ∷ v X ∷ v Y ∷ v Q ∷ [] ≡ x E ∷ x X ∷ x Y ∷ bit ∷ [] = cc in
          here ∙ ap (cover_value load) bits

      enabled : IsEnabled d Q
      enabled = record {
        name = codes "q";
        next = N;
        latch = (1, omega arith, refl);
        self_edge = (inr (codes "q", N, (1, omega arith, refl)), Reaches.there (Reads.by_gate {fanins = E ∷ X ∷ Y ∷ Q ∷ []} {cover = load} (0, omega arith, refl) (3, omega arith, refl)) Reaches.here);
        rises = λ x low high at_low at_high one. taken true x high at_high ∙ rising (x E) (x X) (x Y) (sym (taken false x low at_low) ∙ one);
      }

      all_enabled : (name : List ℕ) (u next : Place) → IsLatch d name u next → IsEnabled d u
      all_enabled name u next h = elim (Contains-cases (Gate N (E ∷ X ∷ Y ∷ Q ∷ []) load) (Latch name u next) (Latch (codes "q") Q N ∷ []) h) [
        | inl a ↦ absurd (cc)
        | inr h1 ↦ elim (Contains-cases (Latch (codes "q") Q N) (Latch name u next) [] h1) [
          | inl a ↦ (let same : Q ≡ u = cc in subst (IsEnabled d) same enabled)
          | inr none ↦ absurd (let l = none.1 in omega (arith, l))
        ]
      ]

      pub loads_acyclic : (net : NetView) → IsFlatOf (loading load) net → (removed : List (List ℕ)) → HasCycle (circuit_of net) (IsEnabled (circuit_of net)) removed → ⊥
      loads_acyclic net f removed = no_cycle (circuit_of net) shallow.latches shallow.shallow (λ name u next latch self. on name u next latch) removed
        where
          shallow : IsShallowNet net
          shallow = loads_shallow net f

          none : net.clock ≡ None
          none = (names_are_kept (loading load) net f).unclocked counts.no_clock

          same : circuit_of_design (loading load) net.clock ≡ d
          same = ap (circuit_of_design (loading load)) none ∙ circuit_is

          flat : FlatDesign (circuit_of_design (loading load) net.clock) (circuit_of net) (IsClocked (circuit_of_design (loading load) net.clock) net.clock)
          flat = flat_design (loading load) net f

          on : (name : List ℕ) (u next : ℕ) → IsLatch (circuit_of net) name u next → IsEnabled (circuit_of net) u
          on name u next latch =
              let x = latch_up flat name u next latch in
              let there : IsEnabled d (flat.origin u) = all_enabled name (flat.origin u) x.takes (subst (λ (c : Circuit Place). IsLatch c name (flat.origin u) x.takes) same x.latch) in
              subst (IsEnabled (circuit_of net)) x.signal (enabled_down flat (flat.origin u) (subst (λ (c : Circuit Place). IsEnabled c (flat.origin u)) (sym same) there))

-- a net with these ports has one output
pub one_output : (net : NetView) → HasPorts (codes "e" ∷ codes "a" ∷ codes "b" ∷ []) (codes "q" ∷ []) net → length (circuit_of net).outputs ≤ 1
one_output net ports =
    let count : length (circuit_of net).outputs ≡ 1 = length-map named net.outputs ∙ sym (length-map (λ (p : Port). p.name) net.outputs) ∙ ap length ports.outputs_are in
    omega (arith, count)

pub first_rising : (e a b : Bool) → cover_value first_load (e ∷ a ∷ b ∷ false ∷ []) ≡ true → cover_value first_load (e ∷ a ∷ b ∷ true ∷ []) ≡ true
unfolding cover_value
first_rising true true b h = refl
first_rising true false b h = h
first_rising false a b h = refl

pub and_rising : (e a b : Bool) → cover_value and_load (e ∷ a ∷ b ∷ false ∷ []) ≡ true → cover_value and_load (e ∷ a ∷ b ∷ true ∷ []) ≡ true
unfolding cover_value
and_rising true true true h = refl
and_rising true true false h = h
and_rising true false b h = h
and_rising false a b h = refl

pub first_passes : PassesShallow is_one_place load_cone (circuit_of_design (loading first_load) None) 11
unfolding circuit_of_design walk
first_passes = record { alone = refl; light = refl; positive = omega arith }

pub and_passes : PassesShallow is_one_place load_cone (circuit_of_design (loading and_load) None) 11
unfolding circuit_of_design walk
and_passes = record { alone = refl; light = refl; positive = omega arith }

first_sound : has_no_fault (codes "n" ∷ []) (loading first_load) ≡ true
unfolding walk
first_sound = refl

and_sound : has_no_fault (codes "n" ∷ []) (loading and_load) ≡ true
unfolding walk
and_sound = refl

pub first_spells : SpellsDesign loads_first (loading first_load)
unfolding fault_of head_of cut_line going_on
first_spells = record { short = omega arith; format = refl; faultless = refl; models_are = refl; sound = tested_is_sound (codes "n" ∷ []) (loading first_load) first_sound }

pub and_spells : SpellsDesign loads_and (loading and_load)
unfolding fault_of head_of cut_line going_on
and_spells = record { short = omega arith; format = refl; faultless = refl; models_are = refl; sound = tested_is_sound (codes "n" ∷ []) (loading and_load) and_sound }
