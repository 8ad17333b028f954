-- What the unfolding of an output visits is read, so its inputs are columns.
use Rattle.std.proofs.Common.{◌≡◌, ℕ, ◌<◌, Bool, true, false, cond, List, [], ◌∷◌, map, length, refl, sym, ◌∙◌, ap, subst, arith, inl, inr, ◌⊎◌, Some, slice_get}
use Rattle.std.specs.Prelude.{◌||◌, ◌==◌}
use Rattle.std.specs.List.{Contains, filter, list_any}
use Rattle.std.proofs.lemmas.Option.{slice_get_within}
use Rattle.circuit_theory.specs.Circuit.{Gate as gate_equation, Latch as latch_equation, Port as port_equation, Named, IsLatch, Reads}
use Rattle.circuit_theory.specs.Tree.{IsInputNumber}
use Rattle.circuit_theory.specs.Sizes.{Visits}
use Rattle.circuit_theory.proofs.Lists.{Contains-cases, Contains-head, Contains-map, Contains-tail, at_of, of_at}
use Rattle.circuit_theory.proofs.Inputs.{test_refl}
use Rattle.circuit_theory.proofs.Numbers.{beside_at, slice_get-map}
use Rattle.sec_setup.specs.ports.flat_net.Signal.{Signal}
use Rattle.sec_setup.specs.ports.flat_net.Port.{Port}
use Rattle.sec_setup.specs.ports.flat_net.Gate.{Gate}
use Rattle.sec_setup.specs.ports.flat_net.LatchAt.{LatchAt}
use Rattle.sec_setup.specs.ports.flat_net.View.{NetView, named, equation_of_gate, equation_of_latch, circuit_of, is_read, ports_of}
use Rattle.sec_setup.proofs.ports.flat_net.Nets.{OfGate, OfLatch, equation_from}
use Rattle.sec_setup.proofs.ports.flat_net.Places.{one_at}
use Rattle.base_tables.proofs.TableLemmas.{key_at}
use Rattle.sec_setup.specs.ports.Pairs.{outputs_of}
use Rattle.sec_setup.specs.Setup.{AreColumns}

or_left : (b c : Bool) → b ≡ true → (b || c) ≡ true
or_left b c e = ap (λ t. t || c) e

or_right : (b c : Bool) → c ≡ true → (b || c) ≡ true
or_right true c e = refl
or_right false c e = e

-- an element passes the test
any_passes : {X : Type 0} (test : X → Bool) (xs : List X) (x : X) → Contains xs x → test x ≡ true → list_any test xs ≡ true
any_passes test [] x h e = absurd (omega (arith, h.1))
any_passes {X} test (y ∷ xs) x h e = go (Contains-cases y x xs h) (λ k. any_passes test xs x k e)
  where
    go : (y ≡ x) ⊎ Contains xs x → (Contains xs x → list_any test xs ≡ true) → list_any test (y ∷ xs) ≡ true
    go (inl same) later = or_left (test y) (list_any test xs) (ap test same ∙ e)
    go (inr k) later = or_right (test y) (list_any test xs) (later k)

no_true_false : true ≡ false → ⊥
no_true_false e = cc

-- a test that an element passes keeps it
Contains-filter_in : {X : Type 0} (test : X → Bool) (xs : List X) (x : X) → Contains xs x → test x ≡ true → Contains (filter test xs) x
Contains-filter_in test [] x h e = absurd (omega (arith, h.1))
Contains-filter_in {X} test (y ∷ xs) x h e = go (test y) refl (Contains-cases y x xs h) (λ k. Contains-filter_in test xs x k e)
  where
    In : Bool → Type 0
    In b = Contains (cond b (y ∷ filter test xs) (filter test xs)) x

    go : (b : Bool) → test y ≡ b → (y ≡ x) ⊎ Contains xs x → (Contains xs x → Contains (filter test xs) x) → Contains (filter test (y ∷ xs)) x
    go true q (inl same) later = subst In (sym q) (subst (λ z. Contains (y ∷ filter test xs) z) same (Contains-head y (filter test xs)))
    go true q (inr k) later = subst In (sym q) (Contains-tail y x (filter test xs) (later k))
    go false q (inl same) later = absurd (no_true_false (sym e ∙ (ap test (sym same) ∙ q)))
    go false q (inr k) later = subst In (sym q) (later k)

no_port : (n : NetView) (out from : ℕ) → Contains (circuit_of n).equations (port_equation out from) → ⊥
no_port n out from h = go (equation_from n (port_equation out from) h)
  where
    no_gate : (g : Gate) → equation_of_gate n.covers g ≡ port_equation out from → ⊥
    no_gate g e = cc

    no_latch_here : (l : LatchAt) → equation_of_latch l ≡ port_equation out from → ⊥
    no_latch_here l e = cc

    go : OfGate n (port_equation out from) ⊎ OfLatch n (port_equation out from) → ⊥
    go (inl g) = no_gate g.gate g.is
    go (inr l) = no_latch_here l.latch l.is

-- an input by its number
record InputAt (n : NetView) (order : List ℕ) (p i : ℕ) : Type 0 where
  k : ℕ
  port : Port
  at : slice_get n.inputs k ≡ Some port
  place : port.signal.0 ≡ p
  number : slice_get order k ≡ Some i

input_at : (n : NetView) (order : List ℕ) (p i : ℕ) → IsInputNumber (circuit_of n) order p i → InputAt n order p i
input_at n order p i h =
    let b = beside_at (circuit_of n).inputs order p i h in
    let key = key_at named n.inputs b.0 b.1 b.2 in
    record { k = b.0; port = key.0; at = key.1; place = ap (λ (m : Named ℕ). m.place) key.2 ∙ b.3; number = b.4 }

module _ (n : NetView) where
  -- what an output's unfolding visits is read
  visited_is_read : (s j : ℕ) (q : Signal) → Contains (map (λ (o : Port). o.signal.0) n.outputs) s → Visits (circuit_of n) s 0 q.0 j → is_read n q ≡ true
  visited_is_read s j q shown visits = by_visit q.0 j visits refl
    where
      gates : Bool
      gates = list_any (λ (g : Gate). list_any (λ (f : Signal). f.0 == q.0) g.fanins) n.gates

      latches : Bool
      latches = list_any (λ (l : LatchAt). l.next.0 == q.0) n.latches

      outputs : Bool
      outputs = list_any (λ (port : Port). port.signal.0 == q.0) n.outputs

      by_output : s ≡ q.0 → is_read n q ≡ true
      by_output e =
          let o = key_at (λ (port : Port). port.signal.0) n.outputs (at_of (map (λ (port : Port). port.signal.0) n.outputs) s shown).0 s (at_of (map (λ (port : Port). port.signal.0) n.outputs) s shown).1 in
          or_right (gates || latches) outputs (any_passes (λ (port : Port). port.signal.0 == q.0) n.outputs o.0 (of_at n.outputs _ o.0 o.1) (ap (λ k. k == q.0) (o.2 ∙ e) ∙ test_refl q.0))

      by_gate : (out : ℕ) (fanins : List ℕ) (f : ℕ) (cover : _) → Contains (circuit_of n).equations (gate_equation out fanins cover) → Contains fanins f → f ≡ q.0 → is_read n q ≡ true
      by_gate out fanins f cover eq h e = go (equation_from n (gate_equation out fanins cover) eq)
        where
          fanins_are : (g : Gate) → equation_of_gate n.covers g ≡ gate_equation out fanins cover → map (λ (x : Signal). x.0) g.fanins ≡ fanins
          fanins_are g same = cc

          no_latch_here : (l : LatchAt) → equation_of_latch l ≡ gate_equation out fanins cover → ⊥
          no_latch_here l same = cc

          go : OfGate n (gate_equation out fanins cover) ⊎ OfLatch n (gate_equation out fanins cover) → is_read n q ≡ true
          go (inl g) =
              let there : Contains (map (λ (x : Signal). x.0) g.gate.fanins) f = subst (λ (fs : List ℕ). Contains fs f) (sym (fanins_are g.gate g.is)) h in
              let at = at_of (map (λ (x : Signal). x.0) g.gate.fanins) f there in
              let x = key_at (λ (y : Signal). y.0) g.gate.fanins at.0 f at.1 in
              or_left (gates || latches) outputs (or_left gates latches
              (any_passes (λ (z : Gate). list_any (λ (y : Signal). y.0 == q.0) z.fanins) n.gates g.gate (of_at n.gates g.j g.gate g.at)
              (any_passes (λ (y : Signal). y.0 == q.0) g.gate.fanins x.0 (of_at g.gate.fanins at.0 x.0 x.1) (ap (λ k. k == q.0) (x.2 ∙ e) ∙ test_refl q.0))))
          go (inr l) = absurd (no_latch_here l.latch l.is)

      by_latch : (name : List ℕ) (out next : ℕ) → IsLatch (circuit_of n) name out next → next ≡ q.0 → is_read n q ≡ true
      by_latch name out next eq e = go (equation_from n (latch_equation name out next) eq)
        where
          no_gate_here : (g : Gate) → equation_of_gate n.covers g ≡ latch_equation name out next → ⊥
          no_gate_here g same = cc

          next_is : (l : LatchAt) → equation_of_latch l ≡ latch_equation name out next → l.next.0 ≡ next
          next_is l same = cc

          go : OfGate n (latch_equation name out next) ⊎ OfLatch n (latch_equation name out next) → is_read n q ≡ true
          go (inl g) = absurd (no_gate_here g.gate g.is)
          go (inr l) =
              or_left (gates || latches) outputs (or_right gates latches
              (any_passes (λ (y : LatchAt). y.next.0 == q.0) n.latches l.latch (of_at n.latches l.j l.latch l.at) (ap (λ k. k == q.0) (next_is l.latch l.is ∙ e) ∙ test_refl q.0)))

      by_visit : (r i : ℕ) → Visits (circuit_of n) s 0 r i → r ≡ q.0 → is_read n q ≡ true
      by_visit r i Visits.itself e = by_output e
      by_visit r i (Visits.reads before (Reads.by_gate {out = out} {fanins = fanins} {cover = cover} eq h)) e = by_gate out fanins r cover eq h e
      by_visit r i (Visits.reads before (Reads.by_port eq)) e = absurd (no_port n _ _ eq)
      by_visit r i (Visits.back {name = name} before latch) e = by_latch name _ r latch e

  -- an input that is read has its name among those that are read
  read_by_name : (k : ℕ) (port : Port) → slice_get n.inputs k ≡ Some port → is_read n port.signal ≡ true → Contains (ports_of n).read port.name
  read_by_name k port at read =
      let test = λ (p : Port). is_read n p.signal in
      Contains-map (λ (p : Port). p.name) (filter test n.inputs) port (Contains-filter_in test n.inputs port (of_at n.inputs k port at) read)

  -- so an input that an output's unfolding visits is a column
  pub visited_is_column : (columns : List (List ℕ)) (order others : List ℕ) → AreColumns n columns order others → (s j p i : ℕ) → Contains (outputs_of n) s → Visits (circuit_of n) s 0 p j → IsInputNumber (circuit_of n) order p i → i < length columns
  visited_is_column columns order others are s j p i shown visits is =
      let input = input_at n order p i is in
      let read = visited_is_read s j input.port.signal shown (subst (λ q. Visits (circuit_of n) s 0 q j) (sym input.place) visits) in
      let at = at_of columns input.port.name (are.read input.port.name (read_by_name input.k input.port input.at read)) in
      let own : slice_get (ports_of n).inputs input.k ≡ Some input.port.name = slice_get-map (λ (p : Port). p.name) n.inputs input.k input.port input.at in
      let common : slice_get order input.k ≡ Some at.0 = are.numbers.common input.k at.0 input.port.name own at.1 in
      let same : at.0 ≡ i = one_at order input.k at.0 i common input.number in
      subst (λ k. k < length columns) same (slice_get_within columns at.0 input.port.name at.1)
