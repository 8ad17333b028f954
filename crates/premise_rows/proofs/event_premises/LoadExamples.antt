-- The design with two load enables.
use Rattle.std.proofs.Common.{◌≡◌, ◌∙◌, ℕ, Bool, true, false, List, [], ◌∷◌, None, refl, sym, ap, subst, arith, inl, inr}
use Rattle.std.specs.Prelude.{codes, if◌then◌else◌, ◌≢◌}
use Rattle.std.specs.List.{Contains}
use Rattle.std.proofs.lemmas.List.Elements.{All-contains}
use Rattle.circuit_theory.specs.Circuit.{Circuit, Equation, Gate, Latch, Named, IsInput, IsLatch, Holds, Reads, Reaches}
use Rattle.circuit_theory.specs.Cover.{Cover, cover_value}
use Rattle.circuit_theory.specs.Depth.{HasCycle}
use Rattle.circuit_theory.specs.Names.{is_among}
use Rattle.circuit_theory.specs.Run.{ExtendsWith, IsEnabled}
use Rattle.circuit_theory.proofs.Lists.{Contains-cases}
use Rattle.blif_read.specs.Design.{Place, top, walk, circuit_of_design}
use Rattle.flat_net.specs.View.{NetView, circuit_of}
use Rattle.flatten.specs.DesignFaults.{IsClocked, IsFlatOf}
use Rattle.job_base.proofs.design_laws.FlatParts.{FlatDesign, latch_up}
use Rattle.job_base.proofs.design_laws.Kept.{flat_design}
use Rattle.job_base.proofs.design_laws.KeptNames.{names_are_kept}
use Rattle.pair_texts.proofs.design_rows.Places.{is_one_place, is_one_place-itself}
use Rattle.job_base.proofs.design_laws.event_designs.FlatEnabled.{enabled_down}
use Rattle.blif_read.specs.blif_lines.Lines.{cut_line, going_on}
use Rattle.blif_read.specs.Fault.{fault_of}
use Rattle.blif_read.specs.Heads.{head_of}
use Rattle.sec_setup.specs.cut_points.Common.{common_names}
use Rattle.pair_texts.specs.design_rows.Designs.{and_cover}
use Rattle.pair_texts.specs.design_rows.NoFault.{has_no_fault}
use Rattle.pair_texts.proofs.design_rows.NoFaults.{tested_is_sound}
use Rattle.job_base.specs.sec_files.Loading.{Loads}
use Rattle.event_setup.specs.Choosing.{HaveNoCycles}
use Rattle.premise_rows.specs.event_premises.Loads.{loading, on_load, off_load, off_and_cover, on_loads, off_loads}
use Rattle.premise_rows.specs.event_premises.Premises.{LoadsAreComparable}
use Rattle.premise_rows.proofs.event_premises.Comparing.{comparable_events}
use Rattle.premise_rows.proofs.event_premises.Flat.{PassesShallow}
use Rattle.premise_rows.proofs.event_premises.Nets.{accepted_text, flat_of, HasPorts, PassesCounts, ports_kept, ports_match, shallow_net, SpellsDesign}
use Rattle.circuit_laws.proofs.Shallow.{no_cycle}
use Rattle.premise_rows.proofs.event_premises.Within.{IsShallowNet}

abbrev E : Place
E = top (codes "e")

abbrev F : Place
F = top (codes "f")

abbrev X : Place
X = top (codes "x")

abbrev Q : Place
Q = top (codes "q")

abbrev N : Place
N = top (codes "n")

abbrev R : Place
R = top (codes "r")

abbrev K : Place
K = top (codes "k")

abbrev Y : Place
Y = top (codes "y")

-- which latches each place reads
abbrev pub load_cone : Place → List Place
load_cone p =
    if is_among (codes "q" ∷ codes "n" ∷ []) p.name then Q ∷ []
    else if is_among (codes "r" ∷ codes "k" ∷ []) p.name then R ∷ []
    else if is_among (codes "y" ∷ []) p.name then Q ∷ R ∷ []
    else []

abbrev named : List ℕ → Named Place
named name = record { name = name; place = top name }

module _ (load both : Cover) where
  abbrev equations : List (Equation Place)
  equations = Gate N (E ∷ X ∷ Q ∷ []) load ∷ Latch (codes "q") Q N ∷ Gate K (F ∷ X ∷ R ∷ []) load ∷ Latch (codes "r") R K ∷ Gate Y (Q ∷ R ∷ []) both ∷ []

  abbrev d : Circuit Place
  d = record { inputs = named (codes "e") ∷ named (codes "f") ∷ named (codes "x") ∷ []; outputs = named (codes "y") ∷ []; equations = equations; starts = [] }

  circuit_is : circuit_of_design (loading load both) None ≡ d
  unfolding circuit_of_design walk
  circuit_is = refl

  counts : PassesCounts (loading load both) 8
  unfolding circuit_of_design walk
  counts = record { no_clock = refl; counted = refl }

  module _ (passes : PassesShallow is_one_place load_cone (circuit_of_design (loading load both) None) 10) where
    pub loads_shallow : (net : NetView) → IsFlatOf (loading load both) net → IsShallowNet net
    loads_shallow net f = shallow_net (loading load both) load_cone 10 8 passes counts (omega arith) (omega arith) net f

    -- where a latch keeps a 1 it holds it with more
    module _ (rising : (e x : Bool) → cover_value load (e ∷ x ∷ false ∷ []) ≡ true → cover_value load (e ∷ x ∷ true ∷ []) ≡ true) where
      module _ (name : List ℕ) (e u next : Place) (latch : IsLatch d name u next) (gate : Contains equations (Gate next (e ∷ X ∷ u ∷ []) load)) (e_in : IsInput d e) (x_in : IsInput d X) (e_apart : e ≢ u) (x_apart : X ≢ u) where
        taken : (bit : Bool) (x v : Place → Bool) → ExtendsWith d u bit x v → v next ≡ cover_value load (x e ∷ x X ∷ bit ∷ [])
        taken bit x v ex =
            let here : v next ≡ cover_value load (v e ∷ v X ∷ v u ∷ []) = All-contains (Holds v) equations (Gate next (e ∷ X ∷ u ∷ []) load) ex.meets gate in
            let first : v e ≡ x e = ex.sources e (inl e_in) e_apart in
            let second : v X ≡ x X = ex.sources X (inl x_in) x_apart in
            let third : v u ≡ bit = ex.put in
            let bits : v e ∷ v X ∷ v u ∷ [] ≡ x e ∷ x X ∷ bit ∷ [] = cc in
            here ∙ ap (cover_value load) bits

        enabled : IsEnabled d u
        enabled = record {
          name = name;
          next = next;
          latch = latch;
          self_edge = (inr (name, next, latch), Reaches.there (Reads.by_gate {fanins = e ∷ X ∷ u ∷ []} {cover = load} gate (2, omega arith, refl)) Reaches.here);
          rises = λ x low high at_low at_high one. taken true x high at_high ∙ rising (x e) (x X) (sym (taken false x low at_low) ∙ one);
        }

      apart : (p q : Place) → is_one_place p q ≡ false → p ≢ q
      apart p q differ same = let one : is_one_place p q ≡ true = subst (λ (z : Place). is_one_place p z ≡ true) same (is_one_place-itself p) in cc

      q_enabled : IsEnabled d Q
      q_enabled = enabled (codes "q") E Q N (1, omega arith, refl) (0, omega arith, refl) (codes "e", (0, omega arith, refl)) (codes "x", (2, omega arith, refl)) (apart E Q refl) (apart X Q refl)

      r_enabled : IsEnabled d R
      r_enabled = enabled (codes "r") F R K (3, omega arith, refl) (2, omega arith, refl) (codes "f", (1, omega arith, refl)) (codes "x", (2, omega arith, refl)) (apart F R refl) (apart X R refl)

      all_enabled : (name : List ℕ) (u next : Place) → IsLatch d name u next → IsEnabled d u
      all_enabled name u next h =
          elim (Contains-cases (Gate N (E ∷ X ∷ Q ∷ []) load) (Latch name u next) (Latch (codes "q") Q N ∷ Gate K (F ∷ X ∷ R ∷ []) load ∷ Latch (codes "r") R K ∷ Gate Y (Q ∷ R ∷ []) both ∷ []) h) [
            | inl a ↦ absurd (cc)
            | inr h1 ↦ elim (Contains-cases (Latch (codes "q") Q N) (Latch name u next) (Gate K (F ∷ X ∷ R ∷ []) load ∷ Latch (codes "r") R K ∷ Gate Y (Q ∷ R ∷ []) both ∷ []) h1) [
              | inl a ↦ (let same : Q ≡ u = cc in subst (IsEnabled d) same q_enabled)
              | inr h2 ↦ elim (Contains-cases (Gate K (F ∷ X ∷ R ∷ []) load) (Latch name u next) (Latch (codes "r") R K ∷ Gate Y (Q ∷ R ∷ []) both ∷ []) h2) [
                | inl a ↦ absurd (cc)
                | inr h3 ↦ elim (Contains-cases (Latch (codes "r") R K) (Latch name u next) (Gate Y (Q ∷ R ∷ []) both ∷ []) h3) [
                  | inl a ↦ (let same : R ≡ u = cc in subst (IsEnabled d) same r_enabled)
                  | inr h4 ↦ elim (Contains-cases (Gate Y (Q ∷ R ∷ []) both) (Latch name u next) [] h4) [ inl a ↦ absurd (cc) | inr none ↦ absurd (let l = none.1 in omega (arith, l)) ]
                ]
              ]
            ]
          ]

      pub loads_acyclic : (net : NetView) → IsFlatOf (loading load both) net → (removed : List (List ℕ)) → HasCycle (circuit_of net) (IsEnabled (circuit_of net)) removed → ⊥
      loads_acyclic net f removed = no_cycle (circuit_of net) shallow.latches shallow.shallow (λ name u next latch self. on name u next latch) removed
        where
          shallow : IsShallowNet net
          shallow = loads_shallow net f

          none : net.clock ≡ None
          none = (names_are_kept (loading load both) net f).unclocked counts.no_clock

          same : circuit_of_design (loading load both) net.clock ≡ d
          same = ap (circuit_of_design (loading load both)) none ∙ circuit_is

          flat : FlatDesign (circuit_of_design (loading load both) net.clock) (circuit_of net) (IsClocked (circuit_of_design (loading load both) net.clock) net.clock)
          flat = flat_design (loading load both) net f

          on : (name : List ℕ) (u next : ℕ) → IsLatch (circuit_of net) name u next → IsEnabled (circuit_of net) u
          on name u next latch =
              let x = latch_up flat name u next latch in
              let there : IsEnabled d (flat.origin u) = all_enabled name (flat.origin u) x.takes (subst (λ (c : Circuit Place). IsLatch c name (flat.origin u) x.takes) same x.latch) in
              subst (IsEnabled (circuit_of net)) x.signal (enabled_down flat (flat.origin u) (subst (λ (c : Circuit Place). IsEnabled c (flat.origin u)) (sym same) there))

-- by the rows where the load is 1, and by those where it is 0
on_rising : (e x : Bool) → cover_value on_load (e ∷ x ∷ false ∷ []) ≡ true → cover_value on_load (e ∷ x ∷ true ∷ []) ≡ true
unfolding cover_value
on_rising true true h = refl
on_rising true false h = h
on_rising false true h = refl
on_rising false false h = refl

off_rising : (e x : Bool) → cover_value off_load (e ∷ x ∷ false ∷ []) ≡ true → cover_value off_load (e ∷ x ∷ true ∷ []) ≡ true
unfolding cover_value
off_rising true true h = refl
off_rising true false h = h
off_rising false true h = refl
off_rising false false h = refl

on_passes : PassesShallow is_one_place load_cone (circuit_of_design (loading on_load and_cover) None) 10
unfolding circuit_of_design walk
on_passes = record { alone = refl; light = refl; positive = omega arith }

off_passes : PassesShallow is_one_place load_cone (circuit_of_design (loading off_load off_and_cover) None) 10
unfolding circuit_of_design walk
off_passes = record { alone = refl; light = refl; positive = omega arith }

on_sound : has_no_fault (codes "n" ∷ codes "k" ∷ codes "y" ∷ []) (loading on_load and_cover) ≡ true
unfolding walk
on_sound = refl

off_sound : has_no_fault (codes "n" ∷ codes "k" ∷ codes "y" ∷ []) (loading off_load off_and_cover) ≡ true
unfolding walk
off_sound = refl

on_spells : SpellsDesign on_loads (loading on_load and_cover)
unfolding fault_of head_of cut_line going_on
on_spells = record { short = omega arith; format = refl; faultless = refl; models_are = refl; sound = tested_is_sound (codes "n" ∷ codes "k" ∷ codes "y" ∷ []) (loading on_load and_cover) on_sound }

off_spells : SpellsDesign off_loads (loading off_load off_and_cover)
unfolding fault_of head_of cut_line going_on
off_spells = record { short = omega arith; format = refl; faultless = refl; models_are = refl; sound = tested_is_sound (codes "n" ∷ codes "k" ∷ codes "y" ∷ []) (loading off_load off_and_cover) off_sound }

module _ (load both : Cover) where
  loads_ports : (net : NetView) → IsFlatOf (loading load both) net → HasPorts (codes "e" ∷ codes "f" ∷ codes "x" ∷ []) (codes "y" ∷ []) net
  unfolding circuit_of_design walk
  loads_ports net f = ports_kept (loading load both) refl net f

pub no_cycles : (expose : Bool) (a b : NetView) → ((removed : List (List ℕ)) → HasCycle (circuit_of a) (IsEnabled (circuit_of a)) removed → ⊥) → ((removed : List (List ℕ)) → HasCycle (circuit_of b) (IsEnabled (circuit_of b)) removed → ⊥) → HaveNoCycles a b expose
no_cycles false a b left right = (left [], right [])
no_cycles true a b left right = (left (common_names (circuit_of a) (circuit_of b)), right (common_names (circuit_of a) (circuit_of b)))

on_flat : (net : NetView) → Loads on_loads net → IsFlatOf (loading on_load and_cover) net
on_flat net l = flat_of on_loads (loading on_load and_cover) on_spells.format on_spells.models_are net l

off_flat : (net : NetView) → Loads off_loads net → IsFlatOf (loading off_load off_and_cover) net
off_flat net l = flat_of off_loads (loading off_load off_and_cover) off_spells.format off_spells.models_are net l

pub loads_are_comparable : LoadsAreComparable
loads_are_comparable s =
    comparable_events on_loads off_loads s (accepted_text on_loads (loading on_load and_cover) on_spells) (accepted_text off_loads (loading off_load off_and_cover) off_spells)
    (λ a la. loads_shallow on_load and_cover on_passes a (on_flat a la))
    (λ b lb. loads_shallow off_load off_and_cover off_passes b (off_flat b lb))
    (λ a b la lb.
    ports_match (codes "e" ∷ codes "f" ∷ codes "x" ∷ []) (codes "y" ∷ []) (λ own others. refl) a b (loads_ports on_load and_cover a (on_flat a la)) (loads_ports off_load off_and_cover b (off_flat b lb)))
    (λ a b la lb. no_cycles s.expose a b (loads_acyclic on_load and_cover on_passes on_rising a (on_flat a la)) (loads_acyclic off_load off_and_cover off_passes off_rising b (off_flat b lb)))
