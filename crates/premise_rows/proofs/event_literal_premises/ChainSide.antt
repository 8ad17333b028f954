-- The circuit with two latches: both are enabled, and what the enable of p reaches and unfolds to.
use Rattle.std.proofs.Common.{◌≡◌, ◌∙◌, ℕ, ◌<◌, Bool, true, false, List, [], ◌∷◌, slice_get, Some, refl, sym, ap, subst, arith, inl, inr}
use Rattle.std.specs.Prelude.{◌⊎◌, codes}
use Rattle.std.proofs.lemmas.List.Elements.{All-contains}
use Rattle.circuit_theory.specs.Circuit.{Circuit, Gate, Holds, IsLatch, IsSingleDriven, Reads, Reaches}
use Rattle.circuit_theory.specs.Cover.{Cover, cover_value}
use Rattle.circuit_theory.specs.Frame.{ConeOthers, EventSide, EventUnfolds, EventUnfoldsAll, ReachedAt}
use Rattle.circuit_theory.specs.Net.{IsNet}
use Rattle.circuit_theory.specs.Run.{ExtendsWith, IsEnabled}
use Rattle.circuit_theory.specs.Tree.{Tree, Branch, Cons, Nil, Leaf, Fixed, IsInputNumber}
use Rattle.circuit_theory.proofs.Lists.{Contains-head, only}
use Rattle.circuit_theory.proofs.Sums.{same_or_not}
use Rattle.sec_base.specs.Cover.{IsCoverSound}
use Rattle.flat_net.specs.declared.parts.LatchAt.{LatchAt}
use Rattle.flat_net.specs.Sound.{IsSound}
use Rattle.flat_net.specs.View.{circuit_of}
use Rattle.flat_net.proofs.Nets.{sound_is_net}
use Rattle.event_nodes.specs.aig.Builds.{Builds}
use Rattle.event_nodes.specs.aig.Graph.{flip}
use Rattle.event_nodes.specs.aig.Rules.{simple_and}
use Rattle.event_nodes.specs.Nodes.{named_places}
use Rattle.event_nodes.specs.Reach.{IsBegun}
use Rattle.event_nodes.specs.View.{EventCircuitView, IsEventCircuit, Enabled, side_of}
use Rattle.edbf_unfold.specs.Care.{IsCareLit, IsEnableOnward}
use Rattle.edbf_unfold.specs.event_literals.Known.{IsEnableLit}
use Rattle.edbf_unfold.specs.event_literals.ShortOr.{IsShortOr}
use Rattle.call_rows.specs.circuit_samples.event_samples.Samples.{load_cover}
use Rattle.call_rows.proofs.circuit_samples.Each.{each_latch}
use Rattle.call_rows.proofs.circuit_samples.event_samples.HoldCells.{IsHold, hold_tree, hold_enabled, hold_next, hold_reads}
use Rattle.call_rows.proofs.circuit_samples.event_samples.Opened.{holds_load, loads_load}
use Rattle.premise_rows.specs.event_literal_premises.Chained.{chained, at_chain, chain_nodes, p_enable, latch_q, latch_p}
use Rattle.premise_rows.proofs.block_premises.TurningNets.{each}
use Rattle.premise_rows.proofs.event_literal_premises.ChainNet as net

-- what q takes over at a node, with itself read as a bit; g at the root; and what p takes over there
abbrev pub q_tree : Cover → Bool → List ℕ → Tree (List ℕ)
q_tree load bit node = hold_tree load 0 1 bit node

abbrev pub g_tree : Cover → Cover → Tree (List ℕ)
g_tree load out = Branch out (Cons (q_tree load false (1 ∷ [])) Nil)

abbrev pub p_tree : Cover → Cover → Bool → Tree (List ℕ)
p_tree load out bit = Branch load_cover (Cons (g_tree load out) (Cons (Leaf 1 []) (Cons (Fixed bit) Nil)))

abbrev pub IsBuilt : Tree (List ℕ) → ℕ → Type 0
IsBuilt tree lit = Builds chain_nodes (named_places at_chain) tree lit

-- what q loads, what g makes of q, and the class of p
pub record Chain : Type 0 where
  pub load : Cover
  pub out : Cover
  pub class : ℕ
  pub load_sound : IsCoverSound load
  pub out_sound : IsCoverSound out
  pub load_wide : load.width ≡ 3
  pub out_wide : out.width ≡ 1
  pub holds : (b bit : Bool) → cover_value load (false ∷ b ∷ bit ∷ []) ≡ bit
  pub loads : (b : Bool) → cover_value load (true ∷ b ∷ false ∷ []) ≡ cover_value load (true ∷ b ∷ true ∷ [])

module _ (given : Chain) where
  abbrev load : Cover
  load = given.load

  abbrev out : Cover
  out = given.out

  abbrev pub e : EventCircuitView
  e = chained load out given.class

  abbrev pub c : Circuit ℕ
  c = circuit_of e.net

  abbrev pub s : EventSide ℕ
  s = side_of e

  pub is_sound : IsSound e.net
  is_sound = net.sound load out given.load_sound given.out_sound given.load_wide given.out_wide

  is_net : IsNet c 7
  is_net = sound_is_net e.net is_sound

  single : IsSingleDriven c
  single = is_net.single

  -- each input has its place as its number
  pub own_number : (p i : ℕ) → IsInputNumber c e.order p i → (p ≡ i) × (i < 2)
  own_number p i (inl h) = (sym h.0 ∙ h.1, omega (arith, h.1))
  own_number p i (inr (inl h)) = (sym h.0 ∙ h.1, omega (arith, h.1))
  own_number p i (inr (inr h)) = absurd h

  once : (p i j : ℕ) → IsInputNumber c e.order p i → IsInputNumber c e.order p j → i ≡ j
  once p i j h k = sym (own_number p i h).0 ∙ (own_number p j k).0

  abbrev hold : IsHold s 2 4
  hold = record { e = 0; a = 1; i = 0; j = 1; load = load; gate = (0, omega arith, refl); e_is = inl (refl, refl); a_is = inr (inl (refl, refl)); holds = given.holds; loads = given.loads }

  pub q_is : IsLatch c (codes "q") 2 4
  q_is = (3, omega arith, refl)

  pub p_is : IsLatch c (codes "p") 3 6
  p_is = (4, omega arith, refl)

  abbrev pub IsOne : ℕ → ℕ → Type 0
  IsOne u next = ((2 ≡ u) × (4 ≡ next)) ⊎ ((3 ≡ u) × (6 ≡ next))

  pub latch_is : (name : List ℕ) (u next : ℕ) → IsLatch c name u next → IsOne u next
  latch_is name u next is = each_latch (λ m v to. IsOne v to) c.equations (inl (refl, refl), (inr (refl, refl), tt)) name u next is

  pub q_enabled : Enabled e 2
  q_enabled = hold_enabled s same_or_not single once (codes "q") 2 4 q_is hold

  -- what p takes over, with it put to a bit
  p_value : (bit : Bool) (x v : ℕ → Bool) → ExtendsWith c 3 bit x v → v 6 ≡ cover_value load_cover (cover_value out (x 2 ∷ []) ∷ x 1 ∷ bit ∷ [])
  p_value bit x v ex =
      let gate : v 6 ≡ cover_value load_cover (v 5 ∷ v 1 ∷ v 3 ∷ []) = All-contains (Holds v) c.equations (Gate 6 (5 ∷ 1 ∷ 3 ∷ []) load_cover) ex.meets (2, omega arith, refl) in
      let made : v 5 ≡ cover_value out (v 2 ∷ []) = All-contains (Holds v) c.equations (Gate 5 (2 ∷ []) out) ex.meets (1, omega arith, refl) in
      let a : v 1 ≡ x 1 = ex.sources 1 (inl (codes "a", (1, omega arith, refl))) (λ d. omega (arith, d)) in
      let q : v 2 ≡ x 2 = ex.sources 2 (inr (codes "q", 4, q_is)) (λ d. omega (arith, d)) in
      let g : v 5 ≡ cover_value out (x 2 ∷ []) = made ∙ ap (λ b. cover_value out (b ∷ [])) q in
      let own = ex.put in
      let bits : v 5 ∷ v 1 ∷ v 3 ∷ [] ≡ cover_value out (x 2 ∷ []) ∷ x 1 ∷ bit ∷ [] = cc in
      gate ∙ ap (cover_value load_cover) bits

  rises : (g a : Bool) → cover_value load_cover (g ∷ a ∷ false ∷ []) ≡ true → cover_value load_cover (g ∷ a ∷ true ∷ []) ≡ true
  rises true a k = sym (loads_load a) ∙ k
  rises false a k = holds_load a true

  pub p_enabled : Enabled e 3
  p_enabled = record {
    name = codes "p";
    next = 6;
    latch = p_is;
    self_edge = (inr (codes "p", 6, p_is), Reaches.there (Reads.by_gate {fanins = 5 ∷ 1 ∷ 3 ∷ []} (2, omega arith, refl) (2, omega arith, refl)) Reaches.here);
    rises = λ x low high l h k. p_value true x high h ∙ rises (cover_value out (x 2 ∷ [])) (x 1) (sym (p_value false x low l) ∙ k);
  }

  pub is_circuit : IsEventCircuit e
  is_circuit = record {
    marks = record {
      each = refl;
      exactly = λ j l bit h k. (λ on. each (λ i (x : LatchAt). IsEnabled c x.out.0) e.net.latches (q_enabled, (p_enabled, tt)) j l h, λ on. each (λ i (b : Bool). b ≡ true) (true ∷ true ∷ []) (refl, (refl, tt)) j bit k);
    };
    each_order = refl;
    order_once = λ i j x h k. sym (place i x h) ∙ place j x k;
    each_class = refl;
  }
    where
      place : (i x : ℕ) → slice_get (0 ∷ 1 ∷ []) i ≡ Some x → x ≡ i
      place = each (λ i x. x ≡ i) (0 ∷ 1 ∷ []) (refl, (refl, tt))

  -- the enable of p reaches q, at the root alone
  begun_is : (v : ℕ) → IsBegun c p_enable v → 2 ≡ v
  begun_is v h = go (latch_is h.0.0 v h.0.1 h.0.2)
    where
      go : IsOne v h.0.1 → 2 ≡ v
      go (inl d) = d.0
      go (inr d) = absurd (h.1 (sym d.0))

  no_others : (v w : ℕ) → 2 ≡ v → ConeOthers c (Enabled e) v w → ⊥
  no_others v w same others = go (latch_is others.0 v others.1 others.2)
    where
      go : IsOne v others.1 → ⊥
      go (inl d) =
          others.4 (subst (Enabled e) same q_enabled)
          (hold_reads s same_or_not single once others.0 v others.1 others.2 (subst (λ z. IsHold s v z) d.1 (subst (λ z. IsHold s z 4) d.0 hold)) w others.3.0 others.3.1 others.3.2 others.3.3)
      go (inr d) = omega (arith, same, d.0)

  reached_is : (path : List ℕ) (v : ℕ) → ReachedAt s (Enabled e) (IsBegun c p_enable) path v → (path ≡ []) × (2 ≡ v)
  reached_is [] v h = (refl, begun_is v h)
  reached_is (k ∷ path) v h = absurd (no_others h.0 v (reached_is path h.0 h.1).1 h.3)

  q_begun : IsBegun c p_enable 2
  q_begun = (
    (
      codes "q",
      4,
      q_is,
      Reaches.there (Reads.by_gate {fanins = 5 ∷ 1 ∷ 3 ∷ []} (2, omega arith, refl) (0, omega arith, refl)) (Reaches.there (Reads.by_gate {fanins = 2 ∷ []} (1, omega arith, refl) (0, omega arith, refl)) Reaches.here),
    ),
    λ d. omega (arith, d),
  )

  -- what both latches take over
  pub q_next : (bit : Bool) (node : List ℕ) → EventUnfolds s (Enabled e) (Some (2, bit)) 4 node (q_tree load bit node)
  q_next bit node = hold_next s same_or_not single once (codes "q") 2 4 q_is hold bit node

  pub p_next : (bit : Bool) → EventUnfolds s (Enabled e) (Some (3, bit)) 6 [] (p_tree load out bit)
  p_next bit =
      EventUnfolds.gate {fanins = 5 ∷ 1 ∷ 3 ∷ []} {cover = load_cover} (2, omega arith, refl)
      (EventUnfoldsAll.more (EventUnfolds.gate {fanins = 2 ∷ []} {cover = out} (1, omega arith, refl) (EventUnfoldsAll.more (EventUnfolds.held {name = codes "q"} {next = 4} q_is (λ d. omega (arith, d)) q_enabled (q_next false (1 ∷ []))) EventUnfoldsAll.none))
      (EventUnfoldsAll.more (EventUnfolds.input (inr (inl (refl, refl)))) (EventUnfoldsAll.more EventUnfolds.fixed EventUnfoldsAll.none)))

  -- the literals of both functions of q at the child give that of its enable there, and so the care
  module _ (f0 f1 : ℕ) (low : IsBuilt (q_tree load false (1 ∷ [])) f0) (high : IsBuilt (q_tree load true (1 ∷ [])) f1) (low_in : f0 < 34) (high_in : f1 < 34) (or_is : IsShortOr chain_nodes f0 (flip f1) 6) where
    abbrev pub q_lit : IsEnableLit e at_chain (1 ∷ []) latch_q 6
    q_lit = record {
      f0 = f0;
      f1 = f1;
      low = record { tree = q_tree load false (1 ∷ []); unfolds = q_next false (1 ∷ []); builds = low; within = low_in };
      high = record { tree = q_tree load true (1 ∷ []); unfolds = q_next true (1 ∷ []); builds = high; within = high_in };
      or_is = or_is;
      within = omega arith;
    }

    q_onward : IsEnableOnward e at_chain [] 2 6
    q_onward = record { position = 0; latch = latch_q; at = refl; out = refl; enabled = q_enabled; enable = q_lit }

    pub p_care : IsCareLit e at_chain p_enable 6
    unfolding simple_and
    p_care = record {
      enables = 6 ∷ [];
      each = λ z h. ([], 2, q_begun, subst (λ m. IsEnableOnward e at_chain [] 2 m) (only 6 z h) q_onward);
      all = λ path v reached on.
          let at = reached_is path v reached in
          (6, Contains-head 6 [], subst (λ node. IsEnableOnward e at_chain node v 6) (sym at.0) (subst (λ u. IsEnableOnward e at_chain [] u 6) at.1 q_onward));
      is = (1, refl, refl);
      within = omega arith;
    }

  -- and those of both functions of p give that of its enable
  module _ (m0 m1 y : ℕ) (low : IsBuilt (p_tree load out false) m0) (high : IsBuilt (p_tree load out true) m1) (low_in : m0 < 34) (high_in : m1 < 34) (y_in : y < 34) (or_is : IsShortOr chain_nodes m0 (flip m1) y) where
    pub p_lit : IsEnableLit e at_chain [] latch_p y
    p_lit = record {
      f0 = m0;
      f1 = m1;
      low = record { tree = p_tree load out false; unfolds = p_next false; builds = low; within = low_in };
      high = record { tree = p_tree load out true; unfolds = p_next true; builds = high; within = high_in };
      or_is = or_is;
      within = y_in;
    }
