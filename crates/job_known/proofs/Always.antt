-- Each difference is one in all runs that are meant.
use Rattle.std.proofs.Common.{◌≡◌, ◌≢◌, ℕ, zero, suc, ◌+◌, ◌-◌, ◌<◌, Bool, true, false, cond, List, [], ◌∷◌, length, map, refl, sym, ◌∙◌, ap, subst, arith, inl, inr, Option, Some, None}
use Rattle.std.specs.Prelude.{◌⊎◌}
use Rattle.std.specs.List.{All, Contains}
use Rattle.std.proofs.lemmas.List.Elements.{All-contains, Contains-append_cases}
use Rattle.circuit_theory.specs.Circuit.{Circuit}
use Rattle.circuit_theory.specs.Run.{IsResetRun}
use Rattle.circuit_theory.proofs.Lists.{Contains-head, Contains-tail, Contains-map_from, only}
use Rattle.circuit_laws.proofs.start_laws.Knowing.{tail_run}
use Rattle.witness_report.specs.declared.witness.PairName.{PairName}
use Rattle.flat_net.specs.Sound.{IsSound}
use Rattle.flat_net.specs.View.{NetView, circuit_of}
use Rattle.sec_setup.specs.declared.ports.pairs.SignalPair.{SignalPair}
use Rattle.sec_setup.specs.ports.Pairs.{NamedPair, places_of}
use Rattle.cycle_sim.specs.declared.pair_runs.differences.Difference.{Difference}
use Rattle.cycle_sim.specs.pair_runs.Listing.{differ}
use Rattle.restart.specs.Behind.{IsBegun}
use Rattle.restart.proofs.Begun.{begun_starts, begun_circuit, begun_known, begins_with}
use Rattle.job_known.specs.declared.known_pairs.KnownReplay.{KnownReplay}
use Rattle.job_known.specs.Cycle.{AreWithin}
use Rattle.job_known.specs.Pairs.{difference_of, differences_in, differences_of, ShowsKnown, ReadsFromReset, ReadsBehind, HasAlways, DifferAlways}
use Rattle.job_known.proofs.Holds.{always_so}

-- a difference of a pair
pub record IsOf (t : ℕ) (name : PairName) (x y : Option Bool) (d : Difference) : Type 0 where
  pub cycle : d.cycle ≡ t
  pub pair : name ≡ d.pair
  pub left : x ≡ Some d.left
  pub right : y ≡ Some d.right
  pub apart : d.left ≢ d.right

differ_apart : (l r : Bool) → differ l r ≡ true → l ≢ r
differ_apart true true e same = cc
differ_apart true false e same = cc
differ_apart false true e same = cc
differ_apart false false e same = cc

none_of : {X : Type 0} (x : X) → Contains [] x → ⊥
none_of x h = omega (arith, h.1)

of_pair : (t : ℕ) (name : PairName) (x y : Option Bool) (d : Difference) → Contains (difference_of t name x y) d → IsOf t name x y d
of_pair t name None y d h = absurd (none_of d h)
of_pair t name (Some l) None d h = absurd (none_of d h)
of_pair t name (Some l) (Some r) d h = go (differ l r) refl h
  where
    here : Difference
    here = record { cycle = t; pair = name; left = l; right = r }

    go : (b : Bool) → differ l r ≡ b → Contains (cond b (here ∷ []) []) d → IsOf t name (Some l) (Some r) d
    go false e k = absurd (none_of d k)
    go true e k = subst (IsOf t name (Some l) (Some r)) (only here d k) (record { cycle = refl; pair = refl; left = refl; right = refl; apart = differ_apart l r e })

-- of a cycle
of_cycle : (t : ℕ) (x y : ℕ → Option Bool) (pairs : List (NamedPair ℕ ℕ)) (d : Difference) → Contains (differences_in t x y pairs) d → (p : NamedPair ℕ ℕ) × Contains pairs p × IsOf t p.name (x p.left) (y p.right) d
of_cycle t x y [] d h = absurd (none_of d h)
of_cycle t x y (p ∷ pairs) d h = go (Contains-append_cases (difference_of t p.name (x p.left) (y p.right)) (differences_in t x y pairs) d h) (λ k. of_cycle t x y pairs d k)
  where
    go : Contains (difference_of t p.name (x p.left) (y p.right)) d ⊎ Contains (differences_in t x y pairs) d →
        (Contains (differences_in t x y pairs) d → (q : NamedPair ℕ ℕ) × Contains pairs q × IsOf t q.name (x q.left) (y q.right) d) → (q : NamedPair ℕ ℕ) × Contains (p ∷ pairs) q × IsOf t q.name (x q.left) (y q.right) d
    go (inl k) later = (p, Contains-head p pairs, of_pair t p.name (x p.left) (y p.right) d k)
    go (inr k) later = let r = later k in (r.0, Contains-tail p r.0 pairs r.1, r.2)

-- of the first cycles
of_cycles : (v w : ℕ → ℕ → Option Bool) (pairs : List (NamedPair ℕ ℕ)) (n : ℕ) (d : Difference) → Contains (differences_of v w pairs n) d →
    (t : ℕ) × (t < n) × (p : NamedPair ℕ ℕ) × Contains pairs p × IsOf t p.name (v t p.left) (w t p.right) d
of_cycles v w pairs zero d h = absurd (none_of d h)
of_cycles v w pairs (suc n) d h = go (Contains-append_cases (differences_of v w pairs n) (differences_in n (v n) (w n) pairs) d h) (λ k. of_cycles v w pairs n d k)
  where
    go : Contains (differences_of v w pairs n) d ⊎ Contains (differences_in n (v n) (w n) pairs) d →
        (Contains (differences_of v w pairs n) d → (t : ℕ) × (t < n) × (p : NamedPair ℕ ℕ) × Contains pairs p × IsOf t p.name (v t p.left) (w t p.right) d) →
        (t : ℕ) × (t < suc n) × (p : NamedPair ℕ ℕ) × Contains pairs p × IsOf t p.name (v t p.left) (w t p.right) d
    go (inl k) later = let r = later k in (r.0, omega (arith, r.1), r.2, r.3, r.4)
    go (inr k) later = let r = of_cycle n (v n) (w n) pairs d k in (n, omega arith, r.0, r.1, r.2)

-- what holds always, one way or the other to count
moved : (Runs : ℕ → (ℕ → ℕ → Bool) → Type 0) (t s p : ℕ) (bit : Bool) → t ≡ s → HasAlways Runs t p bit → HasAlways Runs s p bit
moved Runs t s p bit e h = subst (λ k. HasAlways Runs k p bit) e h

module _ (names : List (List ℕ)) (rows : List (List Bool)) (wide : All (λ (row : List Bool). length row ≡ length names) rows) where
  -- from initial values
  pub differ_from_reset : (a b : NetView) → IsSound a → IsSound b → (pairs : List (NamedPair ℕ ℕ)) → ((p : NamedPair ℕ ℕ) → Contains pairs p → (p.left < length a.drivers) × (p.right < length b.drivers)) → (found : KnownReplay) →
      ShowsKnown a b pairs names rows found → DifferAlways (ReadsFromReset a names rows) (ReadsFromReset b names rows) 0 pairs found.differences
  differ_from_reset a b sound_a sound_b pairs within found shows d h =
      let o = of_cycles shows.left.run shows.right.run pairs (length rows) d (subst (λ (ds : List Difference). Contains ds d) shows.shown.differences h) in
      let is : d.cycle ≡ o.0 = o.4.cycle in
      let low = within o.2 o.3 in
      let at : o.0 ≡ d.cycle + 0 = omega (arith, is) in (
        o.2,
        o.3,
        o.4.pair,
        o.4.apart,
        moved (ReadsFromReset a names rows) o.0 (d.cycle + 0) o.2.left d.left at (always_so a sound_a names rows wide shows.left o.0 o.2.left d.left o.1 low.0 o.4.left),
        moved (ReadsFromReset b names rows) o.0 (d.cycle + 0) o.2.right d.right at (always_so b sound_b names rows wide shows.right o.0 o.2.right d.right o.1 low.1 o.4.right),
      )

  module _ (first : List (List ℕ)) (before : List (List Bool)) (first_wide : All (λ (row : List Bool). length row ≡ length first) before) where
    -- what comes behind the first rows is a run of the net that begins there from its initial values
    tail_reads : (n m : NetView) (known : List (Option Bool)) → IsBegun n first before known m → (count : ℕ) (run : ℕ → ℕ → Bool) → ReadsBehind n first before names rows count run → length before < count →
        ReadsFromReset m names rows (count - length before) (λ s. run (s + length before))
    tail_reads n m known is count run reads some =
        let starts = begun_known n is.are_known.columns before known is.each is.are_known.each in
        let begins = begins_with first before first_wide n is.are_known.columns is.are_known.are_columns run (λ t i row name bit p low. reads.1 t i row name bit p) in
        let tail = tail_run (circuit_of n) is.are_known.columns before (begun_starts n known) starts count (count - length before) run reads.0 begins some (omega (arith, some)) in
        subst (λ (k : NetView). ReadsFromReset k names rows (count - length before) (λ s. run (s + length before))) (sym is.is) (
          subst (λ (e : Circuit ℕ). IsResetRun e (count - length before) (λ s. run (s + length before))) (sym (begun_circuit n known)) tail,
          reads.2,
        )

    always_behind : (n m : NetView) (known : List (Option Bool)) → IsBegun n first before known m → (t p : ℕ) (bit : Bool) → HasAlways (ReadsFromReset m names rows) (t + 0) p bit → HasAlways (ReadsBehind n first before names rows) (t + length before) p bit
    always_behind n m known is t p bit always count run reads lt =
        let e : t + 0 + length before ≡ t + length before = omega arith in
        ap (λ k. run k p) (sym e) ∙ always (count - length before) (λ s. run (s + length before)) (tail_reads n m known is count run reads (omega (arith, lt))) (omega (arith, lt))

    -- behind the rows
    pub differ_behind : (a b l r : NetView) (left_known right_known : List (Option Bool)) → IsBegun a first before left_known l → IsBegun b first before right_known r → (pairs : List (NamedPair ℕ ℕ)) (differences : List Difference) →
        DifferAlways (ReadsFromReset l names rows) (ReadsFromReset r names rows) 0 pairs differences → DifferAlways (ReadsBehind a first before names rows) (ReadsBehind b first before names rows) (length before) pairs differences
    differ_behind a b l r left_known right_known left right pairs differences always d h =
        let k = always d h in
        (k.0, k.1, k.2, k.3, always_behind a l left_known left d.cycle k.0.left d.left k.4, always_behind b r right_known right d.cycle k.0.right d.right k.5)

-- pairs whose signals are within are so by their places
pub places_within : (m k : ℕ) (pairs : List SignalPair) → AreWithin m k pairs → (p : NamedPair ℕ ℕ) → Contains (map places_of pairs) p → (p.left < m) × (p.right < k)
places_within m k pairs within p h =
    let q = Contains-map_from places_of pairs p h in
    let low = All-contains (λ (s : SignalPair). (s.left.0 < m) × (s.right.0 < k)) pairs q.0 within q.1 in
    subst (λ (s : NamedPair ℕ ℕ). (s.left < m) × (s.right < k)) q.2 low
