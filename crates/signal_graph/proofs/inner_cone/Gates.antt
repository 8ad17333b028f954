-- The gates among the signals that lead back.
use Rattle.std.proofs.Common.{◌≡◌, ◌∙◌, ◌+◌, ◌++◌, [], ◌∷◌, ℕ, List, take, slice_get, get_or, Option, Some, None, refl, sym, ap, subst, inl, inr, ◌⊎◌}
use Rattle.std.specs.Prelude.{option_and_then}
use Rattle.std.specs.Option.{option_to_list}
use Rattle.std.specs.List.{Contains, filter_map}
use Rattle.std.proofs.lemmas.List.Elements.{filter_map-append}
use Rattle.std.specs.List.Sorted.{IsNonDecreasing, IsPermutation}
use Rattle.std.proofs.lemmas.List.Sorted.{Contains-permutation, IsPermutation-sym}
use Rattle.std.proofs.lemmas.Option.{slice_get_within}
use Rattle.signal_graph.proofs.inner_cone.latch_cone.circuit_theory.Lists.{at_of, of_at, filter_map-from}
use Rattle.signal_graph.proofs.inner_cone.latch_cone.flat_net.TableLemmas.{take-push}
use Rattle.signal_graph.specs.inner_cone.latch_cone.flat_net.Gate.{Gate}
use Rattle.signal_graph.specs.inner_cone.latch_cone.flat_net.LatchAt.{LatchAt}
use Rattle.signal_graph.specs.inner_cone.latch_cone.flat_net.Driver.{Driver}
use Rattle.signal_graph.specs.inner_cone.latch_cone.flat_net.Driver.TheVariants as driver
use Rattle.signal_graph.specs.inner_cone.latch_cone.flat_net.View.{NetView}
use Rattle.signal_graph.specs.inner_cone.latch_cone.flat_net.Sound.{IsSound}
use Rattle.signal_graph.specs.inner_cone.latch_cone.Parts.{gate_of, gate_at}
use Rattle.signal_graph.proofs.inner_cone.latch_cone.Walks.{gate_fanins}
use Rattle.signal_graph.proofs.inner_cone.latch_cone.ConeGates.{filter_map-into, driven_by_gate, made_of_one}
use Rattle.signal_graph.specs.inner_cone.Inner.{AreRanked, AreHigh, LeadsAside, IsLow}
use Rattle.signal_graph.specs.inner_cone.Gates.{AreInnerGates}
use Rattle.signal_graph.proofs.inner_cone.Inner.{low_aside}

-- one signal more, of which a gate comes or none
made_more : (n : NetView) (seen : List ℕ) (i s : ℕ) → slice_get seen i ≡ Some s → (found : List ℕ) → found ≡ filter_map (gate_at n) (take i seen) → found ++ option_to_list (gate_at n s) ≡ filter_map (gate_at n) (take (i + 1) seen)
made_more n seen i s at found is =
    let f = gate_at n in
    ap (λ (xs : List ℕ). xs ++ option_to_list (f s)) is
    ∙ (ap (λ (xs : List ℕ). filter_map f (take i seen) ++ xs) (sym (made_of_one f s))
    ∙ (sym (filter_map-append f (take i seen) (s ∷ [])) ∙ ap (filter_map f) (take-push seen i s at)))

pub gate_more : (n : NetView) (seen : List ℕ) (i s : ℕ) → slice_get seen i ≡ Some s → (found : List ℕ) → found ≡ filter_map (gate_at n) (take i seen) → (j : ℕ) → slice_get n.drivers s ≡ Some (driver.Gate j) → found ++ j ∷ [] ≡ filter_map (gate_at n) (take (i + 1) seen)
gate_more n seen i s at found is j drives =
    ap (λ (o : Option ℕ). found ++ option_to_list o) (sym (ap (option_and_then gate_of) drives)) ∙ made_more n seen i s at found is

append_none : (xs : List ℕ) → xs ≡ xs ++ []
append_none [] = refl
append_none (x ∷ xs) = ap (λ (ys : List ℕ). x ∷ ys) (append_none xs)

no_gate : (d : Driver) → ((j : ℕ) → d ≡ driver.Gate j → ⊥) → None ≡ gate_of d
no_gate (driver.Input i) other = refl
no_gate (driver.Gate j) other = absurd (other j refl)
no_gate (driver.Latch j) other = refl

pub none_more : (n : NetView) (seen : List ℕ) (i s : ℕ) → slice_get seen i ≡ Some s → (found : List ℕ) → found ≡ filter_map (gate_at n) (take i seen) → (d : Driver) → slice_get n.drivers s ≡ Some d → ((j : ℕ) → d ≡ driver.Gate j → ⊥) → found ≡ filter_map (gate_at n) (take (i + 1) seen)
none_more n seen i s at found is d drives other =
    append_none found
    ∙ (ap (λ (o : Option ℕ). found ++ option_to_list o) (no_gate d other ∙ sym (ap (option_and_then gate_of) drives)) ∙ made_more n seen i s at found is)

module _ (n : NetView) (sound : IsSound n) (l : LatchAt) (ranks : List ℕ) (ranked : AreRanked n ranks) (seen gates : List ℕ) (high : AreHigh n ranks (get_or ranks l.out.0 0) l.next.0 seen) (order : IsNonDecreasing gates) (are : IsPermutation (filter_map (gate_at n) seen) gates) where
  -- the gate of a signal that is there is among them
  into : (s j : ℕ) → gate_at n s ≡ Some j → Contains seen s ⊎ IsLow ranks (get_or ranks l.out.0 0) s → Contains gates j ⊎ LeadsAside n l.out.0 s
  into s j e (inl h) = inl (Contains-permutation _ gates j are (filter_map-into (gate_at n) seen s j h e))
  into s j e (inr low) = inr (low_aside n ranks ranked l.out.0 s low)

  -- a gate that is among them drives a signal that is there
  from : (j : ℕ) → Contains gates j → (s : ℕ) × Contains seen s × (slice_get n.drivers s ≡ Some (driver.Gate j))
  from j h =
      let x = filter_map-from (gate_at n) seen j (Contains-permutation gates _ j (IsPermutation-sym _ gates are) h) in
      (x.0, x.1, driven_by_gate n x.0 j x.2)

  pub inner_gates : AreInnerGates n l gates
  inner_gates = record {
    in_order = order;
    within = λ k j h. let x = from j (of_at gates k j h) in let d = sound.drivers x.0 (driver.Gate j) x.2 in slice_get_within n.gates j d.0 d.1;
    taken = λ j e. into l.next.0 j e high.begins;
    closed = λ i j g f h at read e.
        let x = from i h in
        let d = sound.drivers x.0 (driver.Gate i) x.2 in
        let k = at_of g.fanins f read in
        let same : g.out.0 ≡ x.0 = ap (λ (o : Option Gate). out o) (sym at ∙ d.1) ∙ d.2 in
        into f.0 j e (high.closed g.out.0 f.0 (subst (λ z. Contains seen z) (sym same) x.1) (gate_fanins n sound i g at k.0 f k.1));
  }
    where
      out : Option Gate → ℕ
      out None = 0
      out (Some g) = g.out.0
