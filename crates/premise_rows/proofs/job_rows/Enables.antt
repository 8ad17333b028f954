-- What is said in the event mode of a latch behind an enable, and of one that toggles.
use Rattle.std.proofs.Common.{◌≡◌, ◌∙◌, ◌≢◌, ℕ, Bool, true, false, List, [], ◌∷◌, length, Option, Some, None, refl, sym, ap, ap₂, subst, arith, inl, inr}
use Rattle.std.specs.Prelude.{◌⊎◌, ◌==◌, ◌&&◌, ◌||◌, not, if◌then◌else◌, codes}
use Rattle.std.specs.List.{Contains, list_all}
use Rattle.std.proofs.lemmas.List.{length-map}
use Rattle.std.proofs.lemmas.List.Elements.{All-cons, All-nil}
use Rattle.circuit_theory.specs.declared.Mode.TheVariants.{Event}
use Rattle.circuit_theory.specs.Agree.{cut}
use Rattle.circuit_theory.specs.Cover.{Cover, cover_value}
use Rattle.circuit_theory.specs.Circuit.{Circuit, Equation, Gate, Latch, Port, IsInput, IsLatch, IsSource, Reads, Holds, Meets}
use Rattle.circuit_theory.specs.Interface.{first_missing, ◌or_else◌}
use Rattle.circuit_theory.specs.Places.{IsPlace}
use Rattle.circuit_theory.specs.Run.{IsRun, IsEnabled}
use Rattle.circuit_theory.specs.Sizes.{WeighsAt, Weighed}
use Rattle.circuit_theory.proofs.Lists.{Contains-head, Contains-tail, Contains-cases}
use Rattle.blif_read.specs.blif_lines.Lines.{cut_line, going_on}
use Rattle.blif_read.specs.Design.{Place, top, walk, clock_places, circuit_of_design}
use Rattle.blif_read.specs.Fault.{fault_of}
use Rattle.blif_read.specs.Heads.{head_of}
use Rattle.blif_read.specs.declared.design.BlifModel.{BlifModel}
use Rattle.flat_net.specs.declared.parts.LatchAt.{LatchAt}
use Rattle.flat_net.specs.View.{NetView, circuit_of}
use Rattle.net_assembly.specs.net_alike.Renumbered.{AreRenumbered}
use Rattle.net_assembly.proofs.net_alike.Carrying.{forth, turned, run_back}
use Rattle.net_assembly.proofs.net_alike.Testing.{all_in}
use Rattle.flatten.specs.DesignFaults.{IsFlatOf}
use Rattle.net_assembly.proofs.DistinctLists.{distinct_nil, distinct_cons}
use Rattle.pair_texts.specs.design_rows.NoFault.{has_no_fault}
use Rattle.pair_texts.proofs.design_rows.NoFaults.{tested_is_sound}
use Rattle.signal_graph.specs.declared.inner_cone.latch_cone.kinds.LatchKind.{LatchKind}
use Rattle.signal_graph.specs.declared.inner_cone.latch_cone.kinds.LatchKind.TheVariants as kind
use Rattle.signal_graph.specs.inner_cone.latch_cone.Kinds.{IsKindIn}
use Rattle.latch_kinds.specs.Found.{AreLight}
use Rattle.witness_report.specs.Form.{IsName, IsForm}
use Rattle.witness_report.specs.Text.{stimulus_text}
use Rattle.circuit_report.specs.declared.sim_report.refusal.Misfit.{Misfit}
use Rattle.circuit_report.specs.declared.sim_report.refusal.Misfit.TheVariants as misfit
use Rattle.circuit_report.specs.sim_report.Checks.{is_power, named_misfit, first_misfit}
use Rattle.job_base.specs.sec_files.Formats.{Blif}
use Rattle.job_base.specs.sec_files.Loading.{Loads}
use Rattle.job_base.proofs.sec_files.Texts.{text_net}
use Rattle.job_base.specs.sec_files.Stimuli.{IsStimulus}
use Rattle.pair_texts.specs.design_rows.Designs as design
use Rattle.pair_texts.specs.design_rows.Designs.{same_cover, not_cover}
use Rattle.pair_texts.specs.design_rows.Small.{Small, IsSmall, small_toggle}
use Rattle.pair_texts.proofs.design_rows.Examples.{at_top, flat_rank}
use Rattle.pair_texts.proofs.design_rows.Places.{is_one_place}
use Rattle.pair_texts.proofs.design_rows.Tested.{PassesTests, tested_is_small}
use Rattle.pair_texts.proofs.design_rows.Toggle.{toggle_is_small}
use Rattle.pair_texts.specs.design_rows.Texts.{toggle}
use Rattle.premise_rows.specs.job_rows.Enables.{held, mux_cover, held_design, two_cycles, HasKinds, EnablesMeetPremises}
use Rattle.pair_texts.proofs.design_rows.Spelling.{Spells, accepted, net_is_small}
use Rattle.premise_rows.proofs.job_rows.OneLatch.{apart, are_apart-sound, reader, IsOneLatch, renumbered, latch_of, latch_there, gate_there, is_light, own_cone, kinds_are}
use Rattle.premise_rows.proofs.job_rows.Unate.{mux_is_enabled, HasBoth, inverter_is_not_enabled}

abbrev Q : Place
Q = top (codes "q")

abbrev N : Place
N = top (codes "n")

abbrev D : Place
D = top (codes "d")

abbrev EN : Place
EN = top (codes "en")

abbrev Y : Place
Y = top (codes "y")

-- the latch behind its enable, written out
abbrev choosing : Equation Place
choosing = Gate N (Q ∷ D ∷ EN ∷ []) mux_cover

abbrev holding : Equation Place
holding = Latch (codes "q") Q N

abbrev held_circuit : Circuit Place
held_circuit = record {
  inputs = record { name = codes "d"; place = D } ∷ record { name = codes "en"; place = EN } ∷ [];
  outputs = record { name = codes "q"; place = Q } ∷ [];
  equations = choosing ∷ holding ∷ [];
  starts = [];
}

held_circuit_is : circuit_of_design held_design None ≡ held_circuit
unfolding circuit_of_design walk
held_circuit_is = refl

held_no_clock : clock_places held_design ≡ []
unfolding walk
held_no_clock = refl

abbrev pub small_held : Small
small_held = record { inputs = codes "d" ∷ codes "en" ∷ []; outputs = codes "q" ∷ []; latches = codes "q" ∷ []; removed = codes "q" ∷ []; weight = 12 }

-- with the latch cut open: it, the gate and both inputs, now
abbrev held_spots : List (Weighed Place)
held_spots = at_top (codes "q") 0 1 ∷ at_top (codes "n") 0 9 ∷ at_top (codes "d") 0 1 ∷ at_top (codes "en") 0 1 ∷ []

held_passes : PassesTests held_design small_held flat_rank held_spots
unfolding circuit_of_design walk cut
held_passes = record { no_clock = refl; inputs = refl; outputs = refl; latches = refl; ranked = refl; closed = refl; weight = refl }

held_sound : has_no_fault (codes "n" ∷ []) held_design ≡ true
unfolding walk
held_sound = refl

pub held_spells : Spells held held_design small_held
unfolding fault_of head_of cut_line going_on
held_spells = record {
  short = omega arith;
  format = refl;
  faultless = refl;
  models_are = refl;
  small = (tested_is_sound (codes "n" ∷ []) held_design held_sound, tested_is_small held_design small_held flat_rank held_spots held_passes);
}

held_equation : (e : Equation Place) → Contains held_circuit.equations e → (choosing ≡ e) ⊎ (holding ≡ e)
held_equation e h =
    elim (Contains-cases choosing e (holding ∷ []) h) [
      | inl is ↦ inl is
      | inr k ↦ elim (Contains-cases holding e [] k) [ inl is ↦ inr is | inr none ↦ absurd (let m = none.1 in omega (arith, m)) ]
    ]

held_no_port : (out from : Place) → Contains held_circuit.equations (Port out from) → ⊥
held_no_port out from h = elim (held_equation (Port out from) h) [ inl e ↦ absurd (cc) | inr e ↦ absurd (cc) ]

held_only_latch : (other : List ℕ) (u next : Place) → IsLatch held_circuit other u next → (u ≡ Q) × (next ≡ N)
held_only_latch other u next h = by (held_equation (Latch other u next) h)
  where
    by : (choosing ≡ Latch other u next) ⊎ (holding ≡ Latch other u next) → (u ≡ Q) × (next ≡ N)
    by (inl e) = absurd (cc)
    by (inr e) = (cc, cc)

held_latch : IsLatch held_circuit (codes "q") Q N
held_latch = Contains-tail choosing holding (holding ∷ []) (Contains-head holding [])

held_reads : (p r : Place) → Reads held_circuit p r → (p ≡ N) × Contains (Q ∷ D ∷ EN ∷ []) r
held_reads p r h = from (reader held_circuit h)
  where
    by : (fanins : List Place) (cover : Cover) → Contains fanins r → (choosing ≡ Gate p fanins cover) ⊎ (holding ≡ Gate p fanins cover) → (p ≡ N) × Contains (Q ∷ D ∷ EN ∷ []) r
    by fanins cover k (inl e) = let fans : fanins ≡ Q ∷ D ∷ EN ∷ [] = cc in (cc, subst (λ (ps : List Place). Contains ps r) fans k)
    by fanins cover k (inr e) = absurd (cc)

    from : ((fanins : List Place) × (cover : Cover) × Contains held_circuit.equations (Gate p fanins cover) × Contains fanins r) ⊎ Contains held_circuit.equations (Port p r) → (p ≡ N) × Contains (Q ∷ D ∷ EN ∷ []) r
    from (inl x) = by x.0 x.1 x.3 (held_equation (Gate p x.0 x.1) x.2)
    from (inr k) = absurd (held_no_port p r k)

data_in : IsInput held_circuit D
data_in = (codes "d", Contains-head (record { name = codes "d"; place = D }) (record { name = codes "en"; place = EN } ∷ []))

enable_in : IsInput held_circuit EN
enable_in = (codes "en", Contains-tail (record { name = codes "d"; place = D }) (record { name = codes "en"; place = EN }) (record { name = codes "en"; place = EN } ∷ []) (Contains-head (record { name = codes "en"; place = EN }) []))

held_leaf : (p : Place) → Contains (Q ∷ D ∷ EN ∷ []) p → WeighsAt held_circuit p 1
held_leaf p h =
    elim (Contains-cases Q p (D ∷ EN ∷ []) h) [
      | inl e ↦ subst (λ (z : Place). WeighsAt held_circuit z 1) e (WeighsAt.latch {name = codes "q"} held_latch)
      | inr k ↦ elim (Contains-cases D p (EN ∷ []) k) [
        | inl e ↦ subst (λ (z : Place). WeighsAt held_circuit z 1) e (WeighsAt.input data_in)
        | inr m ↦ elim (Contains-cases EN p [] m) [ inl e ↦ subst (λ (z : Place). WeighsAt held_circuit z 1) e (WeighsAt.input enable_in) | inr none ↦ absurd (let x = none.1 in omega (arith, x)) ]
      ]
    ]

held_is_one : IsOneLatch held_design held_circuit (codes "q") Q N (Q ∷ D ∷ EN ∷ []) mux_cover
held_is_one = record {
  no_clock = held_no_clock;
  circuit_is = held_circuit_is;
  no_port = held_no_port;
  latch = held_latch;
  only_latch = held_only_latch;
  cone = record { gate = Contains-head choosing (holding ∷ []); distinct = are_apart-sound (N ∷ Q ∷ D ∷ EN ∷ []) refl; leaf = held_leaf; only = λ p r h reads. held_reads p r reads };
  itself = Contains-head Q (D ∷ EN ∷ []);
  few = omega arith;
}

-- the nets of a text that spells a design
flat_of : (text : List ℕ) (models : List BlifModel) (s : Small) → Spells text models s → (net : NetView) → Loads text net → IsFlatOf models net
flat_of text models s spells net l = subst (λ (ms : List BlifModel). IsFlatOf ms net) spells.models_are (text_net text net l Blif spells.format)

-- one latch where the names of one are counted
one_counted : (s : Small) (net : NetView) → IsSmall s net → length s.latches ≡ 1 → length net.latches ≡ 1
one_counted s net own one = sym (length-map net.latches (λ (l : LatchAt). l.name)) ∙ ap length own.counted ∙ one

module _ (net : NetView) (f : IsFlatOf held_design net) where
  held_to : AreRenumbered held_circuit (circuit_of net) f.signal f.origin
  held_to = renumbered held_design held_circuit (codes "q") Q N (Q ∷ D ∷ EN ∷ []) mux_cover held_is_one net f

  other_signal : (p : Place) → IsInput held_circuit p → is_one_place p Q ≡ false → f.signal p ≢ f.signal Q
  other_signal p i differ e = apart p Q differ (sym (held_to.there_and_back p (IsPlace.input i)) ∙ ap f.origin e ∙ held_to.there_and_back Q (IsPlace.driven held_latch refl))

  input_there : (p : Place) → IsInput held_circuit p → IsSource (circuit_of net) (f.signal p)
  input_there p i = inl (i.0, (forth held_circuit (circuit_of net) f.signal f.origin held_to).input i.0 p i.1)

  held_enabled : IsEnabled (circuit_of net) (f.signal Q)
  held_enabled =
      mux_is_enabled (circuit_of net) (codes "q") (f.signal Q) (f.signal N) (f.signal D) (f.signal EN)
      (gate_there held_design held_circuit (codes "q") Q N (Q ∷ D ∷ EN ∷ []) mux_cover held_is_one net f)
      (latch_there held_design held_circuit (codes "q") Q N (Q ∷ D ∷ EN ∷ []) mux_cover held_is_one net f)
      (input_there D data_in) (input_there EN enable_in) (other_signal D data_in refl) (other_signal EN enable_in refl)

  held_kind : (k : LatchKind) → IsKindIn Event (circuit_of net) (f.signal Q) k → k ≡ kind.Enabled
  held_kind kind.Plain h = absurd (h (own_cone held_design held_circuit (codes "q") Q N (Q ∷ D ∷ EN ∷ []) mux_cover held_is_one net f))
  held_kind kind.Enabled h = refl
  held_kind kind.NotUnate h = absurd (h.1 held_enabled)

held_is_enabled : HasKinds held (kind.Enabled ∷ [])
held_is_enabled net l =
    let f = flat_of held held_design small_held held_spells net l in
    kinds_are held_design held_circuit (codes "q") Q N (Q ∷ D ∷ EN ∷ []) mux_cover held_is_one net f
    (one_counted small_held net (net_is_small held held_design small_held held_spells net l) refl) kind.Enabled (held_kind net f)

pub held_is_light : (net : NetView) → Loads held net → AreLight net
held_is_light net l = is_light held_design held_circuit (codes "q") Q N (Q ∷ D ∷ EN ∷ []) mux_cover held_is_one net (flat_of held held_design small_held held_spells net l)

-- the latch that toggles, written out
abbrev turning : Equation Place
turning = Gate N (Q ∷ []) not_cover

abbrev showing : Equation Place
showing = Gate Y (Q ∷ []) same_cover

abbrev toggle_circuit : Circuit Place
toggle_circuit = record { inputs = []; outputs = record { name = codes "y"; place = Y } ∷ []; equations = turning ∷ holding ∷ showing ∷ []; starts = [] }

toggle_circuit_is : circuit_of_design design.toggle None ≡ toggle_circuit
unfolding circuit_of_design walk
toggle_circuit_is = refl

toggle_no_clock : clock_places design.toggle ≡ []
unfolding walk
toggle_no_clock = refl

toggle_spells : Spells toggle design.toggle small_toggle
unfolding fault_of head_of cut_line going_on
toggle_spells = record { short = omega arith; format = refl; faultless = refl; models_are = refl; small = toggle_is_small.0 }

-- one of the three
data IsOfToggle (e : Equation Place) : Type 0 where
  turns : turning ≡ e → IsOfToggle e
  holds : holding ≡ e → IsOfToggle e
  shows : showing ≡ e → IsOfToggle e

toggle_equation : (e : Equation Place) → Contains toggle_circuit.equations e → IsOfToggle e
toggle_equation e h =
    elim (Contains-cases turning e (holding ∷ showing ∷ []) h) [
      | inl is ↦ IsOfToggle.turns is
      | inr k ↦ elim (Contains-cases holding e (showing ∷ []) k) [
        | inl is ↦ IsOfToggle.holds is
        | inr m ↦ elim (Contains-cases showing e [] m) [ inl is ↦ IsOfToggle.shows is | inr none ↦ absurd (let x = none.1 in omega (arith, x)) ]
      ]
    ]

toggle_no_port : (out from : Place) → Contains toggle_circuit.equations (Port out from) → ⊥
toggle_no_port out from h = by (toggle_equation (Port out from) h)
  where
    by : IsOfToggle (Port out from) → ⊥
    by (IsOfToggle.turns e) = absurd (cc)
    by (IsOfToggle.holds e) = absurd (cc)
    by (IsOfToggle.shows e) = absurd (cc)

toggle_only_latch : (other : List ℕ) (u next : Place) → IsLatch toggle_circuit other u next → (u ≡ Q) × (next ≡ N)
toggle_only_latch other u next h = by (toggle_equation (Latch other u next) h)
  where
    by : IsOfToggle (Latch other u next) → (u ≡ Q) × (next ≡ N)
    by (IsOfToggle.turns e) = absurd (cc)
    by (IsOfToggle.holds e) = (cc, cc)
    by (IsOfToggle.shows e) = absurd (cc)

toggle_latch : IsLatch toggle_circuit (codes "q") Q N
toggle_latch = Contains-tail turning holding (holding ∷ showing ∷ []) (Contains-head holding (showing ∷ []))

-- the output's gate is read by nothing in the cone
toggle_reads : (p r : Place) → (p ≡ N) ⊎ Contains (Q ∷ []) p → Reads toggle_circuit p r → (p ≡ N) × Contains (Q ∷ []) r
toggle_reads p r within h = from (reader toggle_circuit h)
  where
    no_output : Y ≡ p → ⊥
    no_output y = outside within
      where
        outside : (p ≡ N) ⊎ Contains (Q ∷ []) p → ⊥
        outside (inl e) = apart Y N refl (y ∙ e)
        outside (inr k) = elim (Contains-cases Q p [] k) [ inl e ↦ apart Y Q refl (y ∙ sym e) | inr none ↦ (let x = none.1 in omega (arith, x)) ]

    by : (fanins : List Place) (cover : Cover) → Contains fanins r → IsOfToggle (Gate p fanins cover) → (p ≡ N) × Contains (Q ∷ []) r
    by fanins cover k (IsOfToggle.turns e) = let fans : fanins ≡ Q ∷ [] = cc in (cc, subst (λ (ps : List Place). Contains ps r) fans k)
    by fanins cover k (IsOfToggle.holds e) = absurd (cc)
    by fanins cover k (IsOfToggle.shows e) = let y : Y ≡ p = cc in absurd (no_output y)

    from : ((fanins : List Place) × (cover : Cover) × Contains toggle_circuit.equations (Gate p fanins cover) × Contains fanins r) ⊎ Contains toggle_circuit.equations (Port p r) → (p ≡ N) × Contains (Q ∷ []) r
    from (inl x) = by x.0 x.1 x.3 (toggle_equation (Gate p x.0 x.1) x.2)
    from (inr k) = absurd (toggle_no_port p r k)

toggle_leaf : (p : Place) → Contains (Q ∷ []) p → WeighsAt toggle_circuit p 1
toggle_leaf p h = elim (Contains-cases Q p [] h) [ inl e ↦ subst (λ (z : Place). WeighsAt toggle_circuit z 1) e (WeighsAt.latch {name = codes "q"} toggle_latch) | inr none ↦ absurd (let x = none.1 in omega (arith, x)) ]

toggle_is_one : IsOneLatch design.toggle toggle_circuit (codes "q") Q N (Q ∷ []) not_cover
toggle_is_one = record {
  no_clock = toggle_no_clock;
  circuit_is = toggle_circuit_is;
  no_port = toggle_no_port;
  latch = toggle_latch;
  only_latch = toggle_only_latch;
  cone = record { gate = Contains-head turning (holding ∷ showing ∷ []); distinct = are_apart-sound (N ∷ Q ∷ []) refl; leaf = toggle_leaf; only = toggle_reads };
  itself = Contains-head Q [];
  few = omega arith;
}

-- the values with the latch at a bit
abbrev valued : Bool → Place → Bool
valued bit p = if is_one_place p N then not bit else bit

valued_meets : (bit : Bool) → Meets toggle_circuit (valued bit)
unfolding cover_value
valued_meets false =
    All-cons (Holds (valued false)) turning (holding ∷ showing ∷ []) refl (All-cons (Holds (valued false)) holding (showing ∷ []) tt (All-cons (Holds (valued false)) showing [] refl (All-nil (Holds (valued false)))))
valued_meets true =
    All-cons (Holds (valued true)) turning (holding ∷ showing ∷ []) refl (All-cons (Holds (valued true)) holding (showing ∷ []) tt (All-cons (Holds (valued true)) showing [] refl (All-nil (Holds (valued true)))))

valued_run : (bit : Bool) → IsRun toggle_circuit 1 (λ t. valued bit)
valued_run bit = record { meets = λ t h. valued_meets bit; carries = λ t h. absurd (omega arith) }

module _ (net : NetView) (f : IsFlatOf design.toggle net) where
  toggle_to : AreRenumbered toggle_circuit (circuit_of net) f.signal f.origin
  toggle_to = renumbered design.toggle toggle_circuit (codes "q") Q N (Q ∷ []) not_cover toggle_is_one net f

  net_meets : (bit : Bool) → Meets (circuit_of net) (λ s. valued bit (f.origin s))
  net_meets bit =
      (run_back (circuit_of net) toggle_circuit f.origin (forth (circuit_of net) toggle_circuit f.origin f.signal (turned toggle_circuit (circuit_of net) f.signal f.origin toggle_to)) 1 (λ t. valued bit) (valued_run bit)).meets 0 (omega arith)

  at_latch : (bit : Bool) → valued bit (f.origin (f.signal Q)) ≡ bit
  at_latch bit = ap (valued bit) (toggle_to.there_and_back Q (IsPlace.driven toggle_latch refl))

  alone : (s : ℕ) → IsSource (circuit_of net) s → s ≡ f.signal Q
  alone s (inl i) = absurd (let h = (forth (circuit_of net) toggle_circuit f.origin f.signal (turned toggle_circuit (circuit_of net) f.signal f.origin toggle_to)).input i.0 s i.1 in let x = h.1 in omega (arith, x))
  alone s (inr l) = (latch_of design.toggle toggle_circuit (codes "q") Q N (Q ∷ []) not_cover toggle_is_one net f l.0 s l.1 l.2).0

  both : HasBoth (circuit_of net) (f.signal Q)
  both = record {
    low = λ s. valued false (f.origin s);
    high = λ s. valued true (f.origin s);
    low_meets = net_meets false;
    high_meets = net_meets true;
    low_is = at_latch false;
    high_is = at_latch true;
    alone = alone;
  }

  toggle_not_enabled : IsEnabled (circuit_of net) (f.signal Q) → ⊥
  toggle_not_enabled =
      inverter_is_not_enabled (circuit_of net) (f.signal Q) (f.signal N) (gate_there design.toggle toggle_circuit (codes "q") Q N (Q ∷ []) not_cover toggle_is_one net f)
      (λ name next h. (latch_of design.toggle toggle_circuit (codes "q") Q N (Q ∷ []) not_cover toggle_is_one net f name (f.signal Q) next h).1) both

  toggle_kind : (k : LatchKind) → IsKindIn Event (circuit_of net) (f.signal Q) k → k ≡ kind.NotUnate
  toggle_kind kind.Plain h = absurd (h (own_cone design.toggle toggle_circuit (codes "q") Q N (Q ∷ []) not_cover toggle_is_one net f))
  toggle_kind kind.Enabled h = absurd (toggle_not_enabled h)
  toggle_kind kind.NotUnate h = refl

toggle_is_not_unate : HasKinds toggle (kind.NotUnate ∷ [])
toggle_is_not_unate net l =
    let f = flat_of toggle design.toggle small_toggle toggle_spells net l in
    kinds_are design.toggle toggle_circuit (codes "q") Q N (Q ∷ []) not_cover toggle_is_one net f
    (one_counted small_toggle net (net_is_small toggle design.toggle small_toggle toggle_spells net l) refl) kind.NotUnate (toggle_kind net f)

pub toggle_is_light : (net : NetView) → Loads toggle net → AreLight net
toggle_is_light net l = is_light design.toggle toggle_circuit (codes "q") Q N (Q ∷ []) not_cover toggle_is_one net (flat_of toggle design.toggle small_toggle toggle_spells net l)

-- the stimulus
abbrev pub names : List (List ℕ)
names = codes "d" ∷ codes "en" ∷ []

abbrev pub rows : List (List Bool)
rows = (true ∷ true ∷ []) ∷ (false ∷ false ∷ []) ∷ []

abbrev is_plain_byte : ℕ → Bool
is_plain_byte k = not (k == 32) && not (k == 10)

is_name : (name : List ℕ) → (length name ≡ 0 → ⊥) → list_all is_plain_byte name ≡ true → IsName name
is_name name some plain = record {
  some = omega arith;
  no_blank = λ h. (let e : false ≡ true = all_in is_plain_byte name 32 plain h in absurd (cc));
  no_line_feed = λ h. (let e : false ≡ true = all_in is_plain_byte name 10 plain h in absurd (cc));
}

data_apart : Contains (codes "en" ∷ []) (codes "d") → ⊥
data_apart h = by (Contains-cases (codes "en") (codes "d") [] h)
  where
    by : (codes "en" ≡ codes "d") ⊎ Contains {X = List ℕ} [] (codes "d") → ⊥
    by (inl same) = let e : 2 ≡ 1 = ap (λ (k : List ℕ). length k) same in omega (arith, e)
    by (inr none) = let l = none.1 in omega (arith, l)

form : IsForm two_cycles names rows
unfolding stimulus_text
form = record {
  names_are = record {
    each = All-cons IsName (codes "d") (codes "en" ∷ []) (is_name (codes "d") (λ e. omega arith) refl) (All-cons IsName (codes "en") [] (is_name (codes "en") (λ e. omega arith) refl) (All-nil IsName));
    distinct = distinct_cons (codes "d") (codes "en" ∷ []) (distinct_cons (codes "en") [] distinct_nil (λ h. (let l = h.1 in omega (arith, l)))) data_apart;
  };
  rows_are = All-cons (λ (row : List Bool). length row ≡ 2) (true ∷ true ∷ []) ((false ∷ false ∷ []) ∷ []) refl
      (All-cons (λ (row : List Bool). length row ≡ 2) (false ∷ false ∷ []) [] refl (All-nil (λ (row : List Bool). length row ≡ 2)));
  spelled = inl refl;
}

pub stimulus : IsStimulus two_cycles names rows
stimulus = record { short = omega arith; form = form }

-- the first misfit, by what it looks at
abbrev misfit_of : List (List ℕ) → Bool → Option Misfit
misfit_of inputs good =
    named_misfit misfit.Unknown (first_missing names inputs) or_else named_misfit misfit.Missing (first_missing inputs names) or_else (if good then None else Some misfit.Power)

module _ (net : NetView) (own : IsSmall small_held net) where
  fits : first_misfit net names None ≡ None
  fits = ap (λ (inputs : List (List ℕ)). misfit_of inputs true) own.inputs

  good_power : is_power net (Some (codes "1")) ≡ true
  good_power = ap (λ (k : ℕ). (1 == k) && list_all (λ digit. (digit == 48) || (digit == 49)) (codes "1")) (one_counted small_held net own refl)

  fits_power : first_misfit net names (Some (codes "1")) ≡ None
  fits_power = ap₂ misfit_of own.inputs good_power

pub enables_meet_premises : EnablesMeetPremises
enables_meet_premises = record {
  held_is_enabled = held_is_enabled;
  toggle_is_not_unate = toggle_is_not_unate;
  held_can_be_told = record { circuit = accepted held held_design small_held held_spells; light = held_is_light };
  toggle_can_be_told = record { circuit = accepted toggle design.toggle small_toggle toggle_spells; light = toggle_is_light };
  held_can_be_run = record {
    circuit = accepted held held_design small_held held_spells;
    names = names;
    rows = rows;
    stimulus = stimulus;
    fits = λ net l. fits net (net_is_small held held_design small_held held_spells net l);
    light = held_is_light;
  };
  held_can_be_powered = record {
    circuit = accepted held held_design small_held held_spells;
    names = names;
    rows = rows;
    stimulus = stimulus;
    fits = λ net l. fits_power net (net_is_small held held_design small_held held_spells net l);
    light = held_is_light;
  };
}
