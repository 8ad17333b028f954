-- With t cut open all that the law with exposed latches asks is met, by circuits with two classes besides.
use Rattle.std.proofs.Common.{◌≡◌, ◌≢◌, ℕ, zero, suc, ◌<◌, Bool, true, false, List, [], ◌∷◌, refl, sym, ◌∙◌, ap, subst, arith, inl, inr}
use Rattle.std.specs.Prelude.{◌⊎◌, ◌↔◌, codes, if◌then◌else◌}
use Rattle.std.specs.List.{Contains}
use Rattle.std.proofs.lemmas.List.Elements.{All-contains}
use Rattle.circuit_theory.specs.declared.Mode.TheVariants.{Event}
use Rattle.circuit_theory.specs.Names.{same_name}
use Rattle.circuit_theory.specs.Cover.{Cover, cover_value}
use Rattle.circuit_theory.specs.Circuit.{Circuit, Gate, Named, IsLatch, Reads, Reaches, Holds}
use Rattle.circuit_theory.specs.Run.{IsRun, ExtendsWith, IsEnabled, Marked}
use Rattle.circuit_theory.specs.Net.{IsNet, HasDistinctNames}
use Rattle.circuit_theory.specs.Depth.{LatchReads, LatchPath, HasCycle, without}
use Rattle.circuit_theory.specs.Tree.{IsInputNumber}
use Rattle.circuit_theory.specs.Joined.{Left, Right, joined}
use Rattle.circuit_theory.specs.Agree.{cut, Agree, AgreeOnward, EnabledIn, IsPair, IsMinimalCut}
use Rattle.circuit_theory.specs.Frame.{EventSide}
use Rattle.circuit_theory.specs.EventFits.{HaveEqualEvents}
use Rattle.circuit_theory.proofs.Lists.{only}
use Rattle.circuit_theory.proofs.Numbers.{one_number}
use Rattle.circuit_theory.proofs.Sums.{same_or_not}
use Rattle.circuit_laws.proofs.NetLaws.{net_value, net_value-extends, net_can_put}
use Rattle.circuit_laws.proofs.event_laws.ExposedEvents.{exposed_event_functions_agree_in_nets}
use Rattle.call_rows.proofs.circuit_samples.NetTest.{net_test-sound}
use Rattle.call_rows.specs.circuit_samples.event_samples.Samples.{held, opened, before, behind, exposed, load_cover, not_cover, numbers, class_at, class_of}
use Rattle.call_rows.specs.circuit_samples.event_samples.Places.{loading}
use Rattle.call_rows.specs.circuit_samples.event_samples.Premises.{AreEventSides, AreExposedSides, PairsAreEqual}
use Rattle.call_rows.proofs.circuit_samples.Each.{each_at, each_latch}
use Rattle.call_rows.proofs.circuit_samples.event_samples.HoldCells.{IsHold, hold_enabled, hold_reads, hold_marked}
use Rattle.call_rows.proofs.circuit_samples.event_samples.Opened.{LoadPair, event_sides, holds_load, loads_load}
use Rattle.call_rows.proofs.circuit_samples.event_samples.TwoClasses.{pair, side, joined_q_enabled, z_equal, y_equal, t_equal}

-- the place of a latch, and of an input, of a name
abbrev latch_of_name : List ℕ → ℕ
latch_of_name name = if same_name name (codes "q") then 3 else if same_name name (codes "r") then 5 else 7

abbrev input_of_name : List ℕ → ℕ
input_of_name name = if same_name name (codes "e") then 0 else if same_name name (codes "f") then 1 else 2

abbrev is_input_name : List ℕ → Bool
is_input_name name = if same_name name (codes "e") then true else if same_name name (codes "f") then true else same_name name (codes "a")

module _ (load out : Cover) (holds : (b bit : Bool) → cover_value load (false ∷ b ∷ bit ∷ []) ≡ bit)
    (loads : (b : Bool) → cover_value load (true ∷ b ∷ false ∷ []) ≡ cover_value load (true ∷ b ∷ true ∷ [])) where
  abbrev c : Circuit ℕ
  c = held load out

  pub held_net : IsNet (held load out) 11
  held_net = net_test-sound (held load out) 11 refl

  abbrev pub own : EventSide ℕ
  own = record { circuit = c; order = 0 ∷ 1 ∷ 2 ∷ []; class = class_at }

  once : (p i j : ℕ) → IsInputNumber c own.order p i → IsInputNumber c own.order p j → i ≡ j
  once p i j h k = one_number c.inputs own.order held_net.inputs p i j h k

  abbrev pub held_q : IsHold own 3 4
  held_q = record { e = 0; a = 2; i = 0; j = 2; load = load; gate = (0, omega arith, refl); e_is = inl (refl, refl); a_is = inr (inr (inl (refl, refl))); holds = holds; loads = loads }

  abbrev held_r : IsHold own 5 6
  held_r = record { e = 1; a = 2; i = 1; j = 2; load = load_cover; gate = (1, omega arith, refl); e_is = inr (inl (refl, refl)); a_is = inr (inr (inl (refl, refl))); holds = holds_load; loads = loads_load }

  -- each latch but t loads under an enable
  Kind : List ℕ → ℕ → ℕ → Type 0
  Kind name u next = (name ≡ codes "t") ⊎ IsHold own u next

  kind : (name : List ℕ) (u next : ℕ) → IsLatch c name u next → Kind name u next
  unfolding Kind
  kind name u next latch = each_latch Kind c.equations (inr held_q, (inr held_r, (inl refl, tt))) name u next latch

  -- without t no latch reads another
  no_reading : (u v : ℕ) → LatchReads c (EnabledIn Event c) exposed u v → ⊥
  unfolding Kind
  no_reading u v e = go (kind e.name u e.next e.latch)
    where
      go : Kind e.name u e.next → ⊥
      go (inl n) = e.kept (subst (Contains exposed) (sym n) (0, omega arith, refl))
      go (inr h) =
          e.no_self_edge (hold_enabled own same_or_not held_net.single once e.name u e.next e.latch h)
          (sym (hold_reads own same_or_not held_net.single once e.name u e.next e.latch h v e.other_name e.other_next e.other e.cone.1))

  pub held_free : HasCycle (held load out) (EnabledIn Event (held load out)) exposed → ⊥
  held_free (u, LatchPath.edge e) = no_reading u u e
  held_free (u, LatchPath.step {v = v} e rest) = no_reading u v e

  -- where e is 1 in a run, z is settled in the next cycle
  pub held_z_marked : (n : ℕ) (run : ℕ → ℕ → Bool) → IsRun (held load out) n run → (t : ℕ) → t < n → run t 0 ≡ true → Marked (held load out) (IsEnabled (held load out)) run (suc t) 9
  held_z_marked n run is_run t l e =
      Marked.gate {fanins = 3 ∷ []} {cover = out} (3, omega arith, refl)
      (λ p k. subst (Marked c (IsEnabled c) run (suc t)) (only 3 p k) (hold_marked own same_or_not held_net.single once (codes "q") 3 4 (5, omega arith, refl) held_q (net_can_put c 11 held_net) n run is_run t l e))

  t_latch : IsLatch c (codes "t") 7 8
  t_latch = (7, omega arith, refl)

  -- t isn't enabled: it takes over its complement
  t_value : (bit : Bool) (x v : ℕ → Bool) → ExtendsWith c 7 bit x v → v 8 ≡ cover_value not_cover (bit ∷ [])
  t_value bit x v ex =
      let gate : v 8 ≡ cover_value not_cover (v 7 ∷ []) = All-contains (Holds v) c.equations (Gate 8 (7 ∷ []) not_cover) ex.meets (2, omega arith, refl) in
      gate ∙ ap (λ b. cover_value not_cover (b ∷ [])) ex.put

  not_enabled : IsEnabled c 7 → ⊥
  unfolding cover_value
  not_enabled en =
      let next_is : en.next ≡ 8 = each_latch (λ name u next. u ≡ 7 → next ≡ 8) c.equations ((λ e. absurd (omega arith)), ((λ e. absurd (omega arith)), ((λ e. refl), tt))) en.name 7 en.next en.latch refl in
      let rises : low.0 8 ≡ true → high.0 8 ≡ true = λ e. sym (ap high.0 next_is) ∙ en.rises x low.0 high.0 low.1 high.1 (ap low.0 next_is ∙ e) in
      wrong (sym (t_value true x high.0 high.1) ∙ rises (t_value false x low.0 low.1))
    where
      x : ℕ → Bool
      x = net_value c (λ p. false)

      low : (y : ℕ → Bool) × ExtendsWith c 7 false x y
      low = net_can_put c 11 held_net x (codes "t") 7 8 false t_latch (net_value-extends c 11 held_net (λ p. false)).meets

      high : (y : ℕ → Bool) × ExtendsWith c 7 true x y
      high = net_can_put c 11 held_net x (codes "t") 7 8 true t_latch (net_value-extends c 11 held_net (λ p. false)).meets

      wrong : false ≡ true → ⊥
      wrong e = cc

  IsListed : List ℕ → ℕ → ℕ → Type 0
  IsListed name u next = IsEnabled c u ↔ Contains loading u

  -- of the latches exactly q and r are enabled
  pub held_enabled : (name : List ℕ) (u next : ℕ) → IsLatch (held load out) name u next → IsEnabled (held load out) u ↔ Contains loading u
  unfolding IsListed
  held_enabled name u next latch =
      each_latch IsListed c.equations (
        ((λ en. (0, omega arith, refl)), (λ h. hold_enabled own same_or_not held_net.single once (codes "q") 3 4 (5, omega arith, refl) held_q)),
        (((λ en. (1, omega arith, refl)), (λ h. hold_enabled own same_or_not held_net.single once (codes "r") 5 6 (6, omega arith, refl) held_r)), (((λ en. absurd (not_enabled en)), (λ h. absurd (other h))), tt)),
      )
      name u next latch
    where
      other : Contains loading 7 → ⊥
      other h = each_at (λ p. p ≡ 7 → ⊥) loading ((λ e. omega (arith, e)), ((λ e. omega (arith, e)), tt)) 7 h refl

  pub held_cycle : HasCycle (held load out) (EnabledIn Event (held load out)) []
  unfolding t_latch
  held_cycle = (
    7,
    LatchPath.edge (record {
      name = codes "t";
      next = 8;
      latch = t_latch;
      kept = λ h. omega (arith, h.1);
      other_name = codes "t";
      other_next = 8;
      other = t_latch;
      other_kept = λ h. omega (arith, h.1);
      cone = (inr (codes "t", 8, t_latch), Reaches.there (Reads.by_gate {fanins = 7 ∷ []} (2, omega arith, refl) (0, omega arith, refl)) Reaches.here);
      no_self_edge = λ en e. not_enabled en;
    }),
  )

  pub held_names : HasDistinctNames (held load out)
  held_names = record {
    inputs = λ name p q h k. input name p h ∙ sym (input name q k);
    latches = λ name u next v next' l r. latch name u next l ∙ sym (latch name v next' r);
    apart = λ name p u next h l. wrong (sym (input_name name p h) ∙ latch_name name u next l);
  }
    where
      input : (name : List ℕ) (p : ℕ) → Contains c.inputs (record { name = name; place = p }) → p ≡ input_of_name name
      input name p h = each_at (λ (n : Named ℕ). n.place ≡ input_of_name n.name) c.inputs (refl, (refl, (refl, tt))) (record { name = name; place = p }) h

      latch : (name : List ℕ) (u next : ℕ) → IsLatch c name u next → u ≡ latch_of_name name
      latch name u next l = each_latch (λ m v to. v ≡ latch_of_name m) c.equations (refl, (refl, (refl, tt))) name u next l

      input_name : (name : List ℕ) (p : ℕ) → Contains c.inputs (record { name = name; place = p }) → is_input_name name ≡ true
      input_name name p h = each_at (λ (n : Named ℕ). is_input_name n.name ≡ true) c.inputs (refl, (refl, (refl, tt))) (record { name = name; place = p }) h

      latch_name : (name : List ℕ) (u next : ℕ) → IsLatch c name u next → is_input_name name ≡ false
      latch_name name u next l = each_latch (λ m v to. is_input_name m ≡ false) c.equations (refl, (refl, (refl, tt))) name u next l

      wrong : true ≡ false → ⊥
      wrong e = cc

module _ (x : LoadPair) where
  abbrev pub left_held : Circuit ℕ
  left_held = held x.la x.oa

  abbrev pub right_held : Circuit ℕ
  right_held = held x.lb x.ob

  pub left_held_net : IsNet left_held 11
  left_held_net = held_net x.la x.oa x.holds_a x.loads_a

  pub right_held_net : IsNet right_held 11
  right_held_net = held_net x.lb x.ob x.holds_b x.loads_b

  pub left_names : HasDistinctNames left_held
  left_names = held_names x.la x.oa x.holds_a x.loads_a

  pub right_names : HasDistinctNames right_held
  right_names = held_names x.lb x.ob x.holds_b x.loads_b

  pub minimal : IsMinimalCut Event left_held right_held exposed
  minimal = record {
    common = λ name h.
        let e = only (codes "t") name h in
        (7, 8, 7, 8, subst (λ m. IsLatch left_held m 7 8) e (7, omega arith, refl), subst (λ m. IsLatch right_held m 7 8) e (7, omega arith, refl));
    left_free = held_free x.la x.oa x.holds_a x.loads_a;
    right_free = held_free x.lb x.ob x.holds_b x.loads_b;
    needed = needed;
  }
    where
      needed : (i : ℕ) → i < 1 → HasCycle left_held (EnabledIn Event left_held) (without exposed i) ⊎ HasCycle right_held (EnabledIn Event right_held) (without exposed i)
      needed zero h = inl (held_cycle x.la x.oa x.holds_a x.loads_a)
      needed (suc i) h = absurd (omega arith)

  pub cut_left : cut exposed left_held ≡ opened x.la x.oa
  unfolding cut
  cut_left = refl

  pub cut_right : cut exposed right_held ≡ opened x.lb x.ob
  unfolding cut
  cut_right = refl

  -- what holds of the opened circuits holds of the cut ones
  pub at_cut : (F : Circuit ℕ → Circuit ℕ → Type 0) → F (opened x.la x.oa) (opened x.lb x.ob) → F (cut exposed left_held) (cut exposed right_held)
  at_cut F h = subst (λ a. F a (cut exposed right_held)) (sym cut_left) (subst (F (opened x.la x.oa)) (sym cut_right) h)

  pub cut_sides : AreEventSides (cut exposed left_held) (cut exposed right_held) 11 11 numbers numbers class_of
  cut_sides = at_cut (λ a b. AreEventSides a b 11 11 numbers numbers class_of) (event_sides x)

  pub exposed_sides : AreExposedSides left_held right_held 11 11 exposed numbers numbers class_of
  exposed_sides = record { left_net = left_held_net; right_net = right_held_net; left_names = left_names; right_names = right_names; minimal = minimal; sides = cut_sides }

  Output : List ℕ → ℕ → Type 0
  Output name s = ((name ≡ codes "y") × (s ≡ 10)) ⊎ ((name ≡ codes "z") × (s ≡ 9))

  output : (load out : Cover) (name : List ℕ) (s : ℕ) → Contains (held load out).outputs (record { name = name; place = s }) → Output name s
  unfolding Output
  output load out name s h = each_at (λ (n : Named ℕ). Output n.name n.place) (held load out).outputs (inl (refl, refl), (inr (refl, refl), tt)) (record { name = name; place = s }) h

  other : (name : List ℕ) (i j : ℕ) → i ≢ j → name ≡ i ∷ [] → name ≡ j ∷ [] → ⊥
  other name i j n e d = n (first (sym e ∙ d))
    where
      first : i ∷ [] ≡ j ∷ [] → i ≡ j
      first k = cc

  -- what the latch of a name takes over
  next_of : (load out : Cover) (name : List ℕ) (u next : ℕ) → IsLatch (held load out) name u next → name ≡ codes "t" → next ≡ 8
  next_of load out name u next l =
      each_latch (λ m v to. m ≡ codes "t" → to ≡ 8) (held load out).equations
      ((λ e. absurd (other (codes "q") 113 116 (λ d. omega arith) refl e)), ((λ e. absurd (other (codes "r") 114 116 (λ d. omega arith) refl e)), ((λ e. refl), tt))) name u next l

  -- the pairs are those of y and z, and what t takes over
  pub at_pairs : (F : ℕ → ℕ → Type 0) → F 10 10 → F 9 9 → F 8 8 → (p q : ℕ) → IsPair exposed left_held right_held p q → F p q
  unfolding Output
  at_pairs F y z t p q (IsPair.outputs {name = name} l r) = go (output x.la x.oa name p l) (output x.lb x.ob name q r)
    where
      at : (i j : ℕ) → F i j → p ≡ i → q ≡ j → F p q
      at i j h e d = subst (λ k. F k q) (sym e) (subst (F i) (sym d) h)

      go : Output name p → Output name q → F p q
      go (inl a) (inl b) = at 10 10 y a.1 b.1
      go (inl a) (inr b) = absurd (other name 121 122 (λ e. omega arith) a.0 b.0)
      go (inr a) (inl b) = absurd (other name 122 121 (λ e. omega arith) a.0 b.0)
      go (inr a) (inr b) = at 9 9 z a.1 b.1
  at_pairs F y z t p q (IsPair.nexts {name = name} {u = u} {v = v} h l r) =
      let e = sym (only (codes "t") name h) in
      subst (λ k. F k q) (sym (next_of x.la x.oa name u p l e)) (subst (F 8) (sym (next_of x.lb x.ob name v q r e)) t)

abbrev Met : Circuit ℕ → Circuit ℕ → Type 0
Met a b = PairsAreEqual exposed before behind a b numbers numbers class_of × IsEnabled (joined a b) (Left 3)

pub cut_met : PairsAreEqual exposed before behind (cut exposed before) (cut exposed behind) numbers numbers class_of × IsEnabled (joined (cut exposed before) (cut exposed behind)) (Left 3)
cut_met = at_cut pair Met ((λ p q h. at_pairs pair (λ i j. HaveEqualEvents side (Left i) (Right j)) y_equal z_equal t_equal p q h), joined_q_enabled)

pub before_and_behind_agree : Agree Event before behind × AgreeOnward Event exposed before behind
before_and_behind_agree =
    let x = exposed_sides pair in
    let s = x.sides in
    exposed_event_functions_agree_in_nets before behind 11 11 exposed numbers numbers class_of x.left_net x.right_net x.left_names x.right_names x.minimal s.numbered s.left_long s.right_long s.classes s.depths cut_met.0
