-- A plain latch is settled by itself though it is exposed, since it toggles in the other circuit.
use Rattle.std.proofs.Common.{◌≡◌, ℕ, zero, suc, ◌<◌, Bool, true, false, List, [], ◌∷◌, refl, sym, ◌∙◌, ap, subst, arith, inr}
use Rattle.std.specs.Prelude.{◌⊎◌, codes}
use Rattle.std.specs.List.{Contains}
use Rattle.std.proofs.lemmas.List.Elements.{All-contains}
use Rattle.circuit_theory.specs.declared.Mode.TheVariants.{Event}
use Rattle.circuit_theory.specs.Cover.{cover_value}
use Rattle.circuit_theory.specs.Circuit.{Circuit, Gate, Latch, Port, Named, IsLatch, Reads, Reaches, Holds}
use Rattle.circuit_theory.specs.Run.{ExtendsWith, IsEnabled, Marked}
use Rattle.circuit_theory.specs.Net.{IsNet, HasDistinctNames}
use Rattle.circuit_theory.specs.Depth.{LatchReads, LatchPath, HasCycle, without}
use Rattle.circuit_theory.specs.Agree.{EnabledIn, IsMinimalCut}
use Rattle.circuit_theory.specs.EventSizes.{EventVisits}
use Rattle.circuit_theory.proofs.Lists.{only}
use Rattle.circuit_laws.proofs.LawProofs.{runs_exist}
use Rattle.circuit_laws.proofs.NetLaws.{net_value, net_value-extends, net_can_put}
use Rattle.call_rows.specs.circuit_samples.Circuits.{and_cover, inverter, toggled}
use Rattle.call_rows.proofs.circuit_samples.NetTest.{net_test-sound}
use Rattle.call_rows.proofs.circuit_samples.Each.{each_latch}
use Rattle.call_rows.proofs.circuit_samples.UnderExamples.{toggle_names, toggle_latch, one_letter}
use Rattle.call_rows.specs.circuit_samples.event_samples.Reader.{delayed, toggling, HasSettledReader}

left_net : IsNet delayed 2
left_net = net_test-sound delayed 2 refl

right_net : IsNet toggling 4
right_net = net_test-sound toggling 4 refl

q_of : (name : List ℕ) (u next : ℕ) → IsLatch delayed name u next → (codes "q" ≡ name) × (1 ≡ u) × (0 ≡ next)
q_of name u next latch = each_latch (λ m v to. (codes "q" ≡ m) × (1 ≡ v) × (0 ≡ to)) delayed.equations ((refl, refl, refl), tt) name u next latch

left_names : HasDistinctNames delayed
left_names = record {
  inputs = λ name p q h k. sym (ap (λ (n : Named ℕ). n.place) (input name p h)) ∙ ap (λ (n : Named ℕ). n.place) (input name q k);
  latches = λ name u next v next' l r. sym (q_of name u next l).1 ∙ (q_of name v next' r).1;
  apart = λ name p u next h l. letter (ap (λ (n : Named ℕ). n.name) (input name p h) ∙ sym (q_of name u next l).0);
}
  where
    input : (name : List ℕ) (p : ℕ) → Contains delayed.inputs (record { name = name; place = p }) → ◌≡◌ {A = Named ℕ} (record { name = codes "a"; place = 0 }) (record { name = name; place = p })
    input name p h = only (record { name = codes "a"; place = 0 }) (record { name = name; place = p }) h

    letter : codes "a" ≡ codes "q" → ⊥
    letter e = let k = one_letter 97 113 e in omega (arith, k)

-- no latch is left without q
free : (c : Circuit ℕ) → ((name : List ℕ) (u next : ℕ) → IsLatch c name u next → codes "q" ≡ name) → HasCycle c (EnabledIn Event c) toggled → ⊥
free c names (u, path) = go path
  where
    none : {u v : ℕ} → LatchReads c (IsEnabled c) toggled u v → ⊥
    none {u} e = e.kept (0, omega arith, names e.name u e.next e.latch)

    go : {u v : ℕ} → LatchPath c (IsEnabled c) toggled u v → ⊥
    go (LatchPath.edge e) = none e
    go (LatchPath.step e rest) = none e

toggle_value : (bit : Bool) (x v : ℕ → Bool) → ExtendsWith toggling 1 bit x v → v 2 ≡ cover_value inverter (bit ∷ [])
toggle_value bit x v ex =
    let gate : v 2 ≡ cover_value inverter (v 1 ∷ []) = All-contains (Holds v) toggling.equations (Gate 2 (1 ∷ []) inverter) ex.meets (0, omega arith, refl) in
    gate ∙ ap (λ b. cover_value inverter (b ∷ [])) ex.put

not_enabled : IsEnabled toggling 1 → ⊥
unfolding cover_value
not_enabled en =
    let next_is : 2 ≡ en.next = (toggle_latch and_cover en.name 1 en.next en.latch).2 in
    let rises : low.0 2 ≡ true → high.0 2 ≡ true = λ e. ap high.0 next_is ∙ en.rises x low.0 high.0 low.1 high.1 (sym (ap low.0 next_is) ∙ e) in
    wrong (sym (toggle_value true x high.0 high.1) ∙ rises (toggle_value false x low.0 low.1))
  where
    x : ℕ → Bool
    x = net_value toggling (λ p. false)

    low : (y : ℕ → Bool) × ExtendsWith toggling 1 false x y
    low = net_can_put toggling 4 right_net x (codes "q") 1 2 false (2, omega arith, refl) (net_value-extends toggling 4 right_net (λ p. false)).meets

    high : (y : ℕ → Bool) × ExtendsWith toggling 1 true x y
    high = net_can_put toggling 4 right_net x (codes "q") 1 2 true (2, omega arith, refl) (net_value-extends toggling 4 right_net (λ p. false)).meets

    wrong : false ≡ true → ⊥
    wrong e = cc

cycle : HasCycle toggling (EnabledIn Event toggling) []
cycle = (
  1,
  LatchPath.edge (record {
    name = codes "q";
    next = 2;
    latch = (2, omega arith, refl);
    kept = λ h. omega (arith, h.1);
    other_name = codes "q";
    other_next = 2;
    other = (2, omega arith, refl);
    other_kept = λ h. omega (arith, h.1);
    cone = (inr (codes "q", 2, (2, omega arith, refl)), Reaches.there (Reads.by_gate {fanins = 1 ∷ []} (0, omega arith, refl) (0, omega arith, refl)) Reaches.here);
    no_self_edge = λ en e. not_enabled en;
  }),
)

minimal : IsMinimalCut Event delayed toggling toggled
minimal = record {
  common = λ name h.
      let e = only (codes "q") name h in
      (1, 0, 1, 2, subst (λ m. IsLatch delayed m 1 0) e (0, omega arith, refl), subst (λ m. IsLatch toggling m 1 2) e (2, omega arith, refl));
  left_free = free delayed (λ name u next l. (q_of name u next l).0);
  right_free = free toggling (λ name u next l. (toggle_latch and_cover name u next l).0);
  needed = needed;
}
  where
    needed : (i : ℕ) → i < 1 → HasCycle delayed (EnabledIn Event delayed) (without toggled i) ⊎ HasCycle toggling (EnabledIn Event toggling) (without toggled i)
    needed zero h = inr cycle
    needed (suc i) h = absurd (omega arith)

-- q of the first circuit reads an input alone, so it isn't enabled
no_reading : {p q : ℕ} → Reads delayed p q → ⊥
no_reading {p} (Reads.by_gate {fanins = fanins} {cover = cover} eq h) = wrong (only (Latch (codes "q") 1 0) (Gate p fanins cover) eq)
  where
    wrong : Latch (codes "q") 1 0 ≡ Gate p fanins cover → ⊥
    wrong e = cc
no_reading {p} (Reads.by_port {from = from} eq) = wrong (only (Latch (codes "q") 1 0) (Port p from) eq)
  where
    wrong : Latch (codes "q") 1 0 ≡ Port p from → ⊥
    wrong e = cc

nothing_between : {p q : ℕ} → Reaches delayed p q → p ≡ q
nothing_between Reaches.here = refl
nothing_between (Reaches.there reads rest) = absurd (no_reading reads)

plain : IsEnabled delayed 1 → ⊥
plain en =
    let next_is : 0 ≡ en.next = (q_of en.name 1 en.next en.latch).2 in
    let same : en.next ≡ 1 = nothing_between en.self_edge.1 in
    omega arith

pub settled_reader : HasSettledReader
settled_reader =
    let l = runs_exist delayed 2 2 (λ p. false) (λ t p. true) left_net in
    let r = runs_exist toggling 4 2 (λ p. false) (λ t p. true) right_net in
    record {
      left_net = left_net;
      right_net = right_net;
      left_names = left_names;
      right_names = toggle_names and_cover;
      minimal = minimal;
      left = l.0;
      right = r.0;
      left_run = l.1;
      right_run = r.1;
      left_settled = Marked.plain {name = codes "q"} {next = 0} (0, omega arith, refl) plain (Marked.input (codes "a", (0, omega arith, refl)));
      right_settled = Marked.input (codes "a", (0, omega arith, refl));
      reads = EventVisits.start (0, omega arith, refl);
    }
