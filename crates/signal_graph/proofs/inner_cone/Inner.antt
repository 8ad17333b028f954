-- Numbers of signals, and what leads back.
use Rattle.std.proofs.Common.{◌≡◌, ◌≢◌, ◌∙◌, ◌+◌, ◌≤◌, ◌<◌, ◌==◌, ℕ, Bool, true, false, true≢false, List, [], length, get_or, slice_get, Some, Contains, refl, sym, ap, subst, arith, inl, inr}
use Rattle.std.specs.Prelude.{◌⊎◌}
use Rattle.std.specs.List.{All, IsDistinct}
use Rattle.std.specs.List.Sorted.{IsPermutation, IsNonDecreasing}
use Rattle.std.proofs.lemmas.Bool.Decides.{Decides-eqb}
use Rattle.std.proofs.lemmas.Option.{same_Some}
use Rattle.std.proofs.lemmas.List.Sorted.{Contains-permutation, IsPermutation-sym}
use Rattle.std.proofs.lemmas.List.Elements.{All-contains}
use Rattle.std.proofs.lemmas.Map.Made.{IsDistinct-from_AllPairs}
use Rattle.std.proofs.lemmas.Map.Keys.{IsStrictlyIncreasing-from_distinct, IsDistinct-IsPermutation}
use Rattle.base_tables.proofs.unique_table.Keys.{all-differ}
use Rattle.signal_graph.specs.inner_cone.latch_cone.circuit_theory.Circuit.{Reaches}
use Rattle.signal_graph.proofs.inner_cone.latch_cone.circuit_theory.Lists.{All-from_each, at_of, of_at}
use Rattle.signal_graph.specs.inner_cone.latch_cone.flat_net.Signal.{Signal}
use Rattle.signal_graph.specs.inner_cone.latch_cone.flat_net.Gate.{Gate}
use Rattle.signal_graph.specs.inner_cone.latch_cone.flat_net.View.{NetView, circuit_of}
use Rattle.signal_graph.specs.inner_cone.latch_cone.flat_net.Sound.{IsSound}
use Rattle.signal_graph.specs.inner_cone.latch_cone.Cones.{AreSome, Stay}
use Rattle.signal_graph.proofs.inner_cone.latch_cone.Walks.{IsPut, put_stay, put_there, put_some, stay_there, gate_reads}
use Rattle.signal_graph.specs.inner_cone.Inner.{AreRanked, AreInside, LeadsAside, IsLow, AreHigh, IsHighPut}

-- what is reached has no greater number
pub reached_low : (n : NetView) (ranks : List ℕ) → AreRanked n ranks → {s u : ℕ} → Reaches (circuit_of n) s u → get_or ranks u 0 ≤ get_or ranks s 0
reached_low n ranks ranked Reaches.here = omega arith
reached_low n ranks ranked {s} {u} (Reaches.there {q = q} reads rest) = omega (arith, ranked s q reads, reached_low n ranks ranked rest)

-- from a signal with a lesser number no way leads back
pub low_aside : (n : NetView) (ranks : List ℕ) → AreRanked n ranks → (own s : ℕ) → IsLow ranks (get_or ranks own 0) s → LeadsAside n own s
low_aside n ranks ranked own s low way = let l = reached_low n ranks ranked way in absurd (omega (arith, low, l))

-- no signal of the first gates reads one with a greater number
abbrev pub AreRankedTo : List Gate → List ℕ → ℕ → Type 0
AreRankedTo gates ranks count = (j : ℕ) (g : Gate) → j < count → slice_get gates j ≡ Some g → All (λ (f : Signal). get_or ranks f.0 0 ≤ get_or ranks g.out.0 0) g.fanins

pub ranked_more : (gates : List Gate) (ranks : List ℕ) (i : ℕ) (g : Gate) → slice_get gates i ≡ Some g → All (λ (f : Signal). get_or ranks f.0 0 ≤ get_or ranks g.out.0 0) g.fanins → AreRankedTo gates ranks i → AreRankedTo gates ranks (i + 1)
ranked_more gates ranks i g at all before j h below here = by (order j i below)
  where
    order : (j i : ℕ) → j < i + 1 → (j < i) ⊎ (j ≡ i)
    order j i l = grind arith

    by : (j < i) ⊎ (j ≡ i) → All (λ (f : Signal). get_or ranks f.0 0 ≤ get_or ranks h.out.0 0) h.fanins
    by (inl less) = before j h less here
    by (inr e) =
        let same : g ≡ h = same_Some g h (sym at ∙ ap (slice_get gates) (sym e) ∙ here) in
        subst (λ (k : Gate). All (λ (f : Signal). get_or ranks f.0 0 ≤ get_or ranks k.out.0 0) k.fanins) same all

pub ranked_all : (n : NetView) → IsSound n → (ranks : List ℕ) (count : ℕ) → ((j : ℕ) (g : Gate) → slice_get n.gates j ≡ Some g → j < count) → AreRankedTo n.gates ranks count → AreRanked n ranks
ranked_all n sound ranks count whole ranked s q reads =
    let r = gate_reads n sound reads in
    let all = ranked r.position r.gate (whole r.position r.gate r.here) r.here in
    let one : get_or ranks r.read.1.0 0 ≤ get_or ranks r.gate.out.0 0 = All-contains (λ (f : Signal). get_or ranks f.0 0 ≤ get_or ranks r.gate.out.0 0) r.gate.fanins r.read.1 all (of_at r.gate.fanins r.read.0 r.read.1 r.read.2) in
    subst (λ (k : ℕ). get_or ranks q 0 ≤ get_or ranks k 0) r.out (subst (λ (k : ℕ). get_or ranks k 0 ≤ get_or ranks r.gate.out.0 0) r.read.3 one)

-- without numbers none is greater
pub none_ranked : (n : NetView) → AreRanked n []
none_ranked n s q reads = omega arith

-- a signal that is put, if it isn't low
module _ (ranks : List ℕ) (least : ℕ) (old new : List ℕ) (s : ℕ) where
  pub high_put : IsPut old new s → IsHighPut ranks least old new s
  high_put put = inr put

  pub high_stay : IsHighPut ranks least old new s → Stay old new
  high_stay (inl low) i r h = subst (λ z. slice_get z i ≡ Some r) (sym low.0) h
  high_stay (inr put) i r h = put_stay old new s put i r h

  pub high_there : IsHighPut ranks least old new s → Contains new s ⊎ IsLow ranks least s
  high_there (inl low) = inr low.1
  high_there (inr put) = inl (put_there old new s put)

  pub high_some : IsHighPut ranks least old new s → (n : NetView) (from : ℕ) → s < length n.drivers → Reaches (circuit_of n) from s → AreSome n from old → AreSome n from new
  high_some (inl low) n from within reach some = subst (λ z. AreSome n from z) (sym low.0) some
  high_some (inr put) n from within reach some = put_some n from old new s put within reach some

pub stay_or : (ranks : List ℕ) (least : ℕ) (old new : List ℕ) (s : ℕ) → Stay old new → Contains old s ⊎ IsLow ranks least s → Contains new s ⊎ IsLow ranks least s
stay_or ranks least old new s stay (inl h) = inl (stay_there old new s stay h)
stay_or ranks least old new s stay (inr low) = inr low

-- no signal stands twice
pub some_distinct : (n : NetView) (from : ℕ) (seen : List ℕ) → AreSome n from seen → IsDistinct (λ x y. x == y) seen
some_distinct n from seen some = IsDistinct-from_AllPairs Decides-eqb seen (all-differ seen some.distinct)

-- equality of numbers is one both ways
pub eqb-swap : (x y : ℕ) → (x == y) ≡ (y == x)
eqb-swap x y = by (x == y) (y == x) refl refl
  where
    by : (b c : Bool) → (x == y) ≡ b → (y == x) ≡ c → b ≡ c
    by true true p q = refl
    by false false p q = refl
    by true false p q = absurd (true≢false (sym ((Decides-eqb y x).1 (sym ((Decides-eqb x y).0 p))) ∙ q))
    by false true p q = absurd (true≢false (sym ((Decides-eqb x y).1 (sym ((Decides-eqb y x).0 q))) ∙ p))

-- what leads back is among the sorted signals
pub inside_sorted : (n : NetView) (ranks : List ℕ) → AreRanked n ranks → (from own least : ℕ) → least ≡ get_or ranks own 0 → (seen items sorted : List ℕ) → AreHigh n ranks least from seen → items ≡ seen →
    IsPermutation items sorted → IsNonDecreasing sorted → AreInside n from own sorted
inside_sorted n ranks ranked from own least is_least seen items sorted high is same order =
    let moved : IsPermutation seen sorted = subst (λ (xs : List ℕ). IsPermutation xs sorted) is same in
    let apart : IsDistinct (λ x y. x == y) sorted = IsDistinct-IsPermutation (λ x y. x == y) eqb-swap seen sorted moved (some_distinct n from seen high.some) in
    record {
      increasing = IsStrictlyIncreasing-from_distinct sorted order apart;
      within = All-from_each (λ s. s < length n.drivers) sorted (λ s h. within s (back s moved h));
      reached = λ s h. reached s (back s moved h);
      begins = there from moved high.begins;
      closed = λ s q h reads. there q moved (high.closed s q (back s moved h) reads);
    }
  where
    back : (s : ℕ) → IsPermutation seen sorted → Contains sorted s → Contains seen s
    back s moved h = Contains-permutation sorted seen s (IsPermutation-sym seen sorted moved) h

    there : (s : ℕ) → IsPermutation seen sorted → Contains seen s ⊎ IsLow ranks least s → Contains sorted s ⊎ LeadsAside n own s
    there s moved (inl h) = inl (Contains-permutation seen sorted s moved h)
    there s moved (inr low) = inr (low_aside n ranks ranked own s (subst (λ (k : ℕ). get_or ranks s 0 < k) is_least low))

    within : (s : ℕ) → Contains seen s → s < length n.drivers
    within s h = let at = at_of seen s h in high.some.within at.0 s at.1

    reached : (s : ℕ) → Contains seen s → Reaches (circuit_of n) from s
    reached s h = let at = at_of seen s h in high.some.each at.0 s at.1
