-- What the depths of signals tell of readings within the cycle.
use Rattle.std.proofs.Common.{◌≡◌, ◌≢◌, ℕ, suc, ◌<◌, ◌≤◌, List, [], length, refl, sym, subst, arith, inl, inr}
use Rattle.std.specs.Prelude.{◌⊎◌, slice_index_or}
use Rattle.std.proofs.lemmas.Option.{slice_get_within}
use Rattle.circuit_theory.specs.Circuit.{IsLatch, IsSource, Reads, Reaches}
use Rattle.circuit_theory.specs.Depth.{IsDepth, LatchReads, LatchChain, ChainFrom, LatchesHaveDepths}
use Rattle.circuit_theory.specs.Run.{IsEnabled}
use Rattle.circuit_theory.proofs.Sums.{same_or_not}
use Rattle.flat_net.specs.declared.parts.Driver.TheVariants as driver
use Rattle.flat_net.specs.Sound.{IsSound}
use Rattle.flat_net.specs.View.{NetView, circuit_of}
use Rattle.flat_net.proofs.Drivers.{gate_of_equation, latch_of_equation, latch_within, no_gate_reads, no_port, reads_lower}
use Rattle.event_nodes.specs.Depths.{AreDepths}

reaches_then : (n : NetView) {p q r : ℕ} → Reaches (circuit_of n) p q → Reaches (circuit_of n) q r → Reaches (circuit_of n) p r
reaches_then n Reaches.here more = more
reaches_then n (Reaches.there read rest) more = Reaches.there read (reaches_then n rest more)

module _ (n : NetView) (sound : IsSound n) where
  -- what reads is a signal of the net
  reads_within : (p q : ℕ) → Reads (circuit_of n) p q → p < length n.drivers
  reads_within p q (Reads.by_gate {fanins = fanins} {cover = cover} eq k) = slice_get_within n.drivers p _ (gate_of_equation n sound p fanins cover eq).owner
  reads_within p q (Reads.by_port {from = from} eq) = absurd (no_port n sound p from eq)

  reaches_lower : {p q : ℕ} → Reaches (circuit_of n) p q → q ≤ p
  reaches_lower Reaches.here = omega arith
  reaches_lower (Reaches.there {p = p} {q = q} read rest) = let a = reads_lower n sound p q read in let b = reaches_lower rest in omega (arith, a, b)

  -- a way of one reading or more is among the net's signals
  reaches_within : {p q : ℕ} → Reaches (circuit_of n) p q → (p ≡ q) ⊎ ((p < length n.drivers) × (q < length n.drivers))
  reaches_within Reaches.here = inl refl
  reaches_within (Reaches.there {p = p} {q = q} read rest) =
      let inside = reads_within p q read in
      let a = reads_lower n sound p q read in
      let b = reaches_lower rest in
      inr (inside, omega (arith, inside, a, b))

  latch_source : (name : List ℕ) (u next : ℕ) → IsLatch (circuit_of n) name u next → IsSource (circuit_of n) u
  latch_source name u next latch = inr (name, next, latch)

  latch_inside : (name : List ℕ) (u next : ℕ) → IsLatch (circuit_of n) name u next → u < length n.drivers
  latch_inside name u next latch = let l = latch_of_equation n sound name u next latch in slice_get_within n.drivers u (driver.Latch l.j) l.owner

  no_gate : (i j : ℕ) → driver.Latch i ≡ driver.Gate j → ⊥
  no_gate i j e = cc

  -- a latch reads nothing within the cycle
  latch_alone : (name : List ℕ) (u next v : ℕ) → IsLatch (circuit_of n) name u next → Reaches (circuit_of n) u v → u ≡ v
  latch_alone name u next v latch Reaches.here = refl
  latch_alone name u next v latch (Reaches.there {q = q} read rest) =
      let l = latch_of_equation n sound name u next latch in
      absurd (no_gate_reads n sound u q (driver.Latch l.j) l.owner (no_gate l.j) read)

  chain_latch : (u k : ℕ) → LatchChain (circuit_of n) (IsEnabled (circuit_of n)) u k → (name : List ℕ) × (next : ℕ) × IsLatch (circuit_of n) name u next
  chain_latch u k (LatchChain.last {next = next} {name = name} latch) = (name, next, latch)
  chain_latch u k (LatchChain.more reads rest) = (reads.name, reads.next, reads.latch)

  -- another latch in the cone of what a latch takes over is read by it
  cone_read : (name : List ℕ) (u next : ℕ) → IsLatch (circuit_of n) name u next → (v : ℕ) → ((name : List ℕ) × (next : ℕ) × IsLatch (circuit_of n) name v next) → Reaches (circuit_of n) next v → u ≢ v → LatchReads (circuit_of n) (IsEnabled (circuit_of n)) [] u v
  cone_read name u next latch v other reach apart = record {
    name = name;
    next = next;
    latch = latch;
    kept = λ h. omega (arith, h.1);
    other_name = other.0;
    other_next = other.1;
    other = other.2;
    other_kept = λ h. omega (arith, h.1);
    cone = (latch_source other.0 v other.1 other.2, reach);
    no_self_edge = λ on. apart;
  }

  -- so its depth is greater
  deeper : (name : List ℕ) (u next : ℕ) → IsLatch (circuit_of n) name u next → (d : ℕ) → IsDepth (circuit_of n) (IsEnabled (circuit_of n)) u d → (v k : ℕ) → LatchChain (circuit_of n) (IsEnabled (circuit_of n)) v k → Reaches (circuit_of n) next v → u ≢ v → suc k ≤ d
  deeper name u next latch d is v k chain reach apart =
      is.greatest (suc k) (inr (u, (latch_source name u next latch, Reaches.here), LatchChain.more (cone_read name u next latch v (chain_latch v k chain) reach apart) chain))

  at_least_one : (name : List ℕ) (u next : ℕ) → IsLatch (circuit_of n) name u next → (d : ℕ) → IsDepth (circuit_of n) (IsEnabled (circuit_of n)) u d → 1 ≤ d
  at_least_one name u next latch d is = is.greatest 1 (inr (u, (latch_source name u next latch, Reaches.here), LatchChain.last latch))

  -- a latch's depth is the length of a chain from itself
  own_chain : (name : List ℕ) (u next : ℕ) → IsLatch (circuit_of n) name u next → (d : ℕ) → IsDepth (circuit_of n) (IsEnabled (circuit_of n)) u d → LatchChain (circuit_of n) (IsEnabled (circuit_of n)) u d
  own_chain name u next latch d is = go is.reached
    where
      go : ChainFrom (circuit_of n) (IsEnabled (circuit_of n)) u d → LatchChain (circuit_of n) (IsEnabled (circuit_of n)) u d
      go (inl none) = absurd (let some = at_least_one name u next latch d is in omega (arith, none, some))
      go (inr h) = subst (λ (v : ℕ). LatchChain (circuit_of n) (IsEnabled (circuit_of n)) v d) (sym (latch_alone name u next h.0 latch h.1.1)) h.2

  -- two latches, each read by a signal in the cone of what both take over, are one
  pub one_held : LatchesHaveDepths (circuit_of n) (IsEnabled (circuit_of n)) → (q : ℕ) (name other : List ℕ) (u v next on : ℕ) → IsLatch (circuit_of n) name u next → IsLatch (circuit_of n) other v on → Reaches (circuit_of n) next q → Reaches (circuit_of n) on q → Reaches (circuit_of n) q u → Reaches (circuit_of n) q v → u ≡ v
  one_held depths q name other u v next on left right to_q from_q to_u to_v = go (same_or_not u v)
    where
      go : (u ≡ v) ⊎ (u ≢ v) → u ≡ v
      go (inl same) = same
      go (inr apart) =
          let du = depths name u next left in
          let dv = depths other v on right in
          let first = deeper name u next left du.0 du.1 v dv.0 (own_chain other v on right dv.0 dv.1) (reaches_then n to_q to_v) apart in
          let second = deeper other v on right dv.0 dv.1 u du.0 (own_chain name u next left du.0 du.1) (reaches_then n from_q to_u) (λ e. apart (sym e)) in
          absurd (omega (arith, first, second))

  module _ (depths : List ℕ) (are : AreDepths n depths) where
    -- a signal of a lower depth doesn't read the latch
    pub shallower_apart : (q u : ℕ) → slice_index_or depths q 0 < slice_index_or depths u 0 → Reaches (circuit_of n) q u → ⊥
    shallower_apart q u less reach = go (reaches_within reach)
      where
        go : (q ≡ u) ⊎ ((q < length n.drivers) × (u < length n.drivers)) → ⊥
        go (inl same) = let z : slice_index_or depths u 0 < slice_index_or depths u 0 = subst (λ (k : ℕ). slice_index_or depths k 0 < slice_index_or depths u 0) same less in omega (arith, z)
        go (inr inside) = chain (are u inside.1).reached
          where
            chain : ChainFrom (circuit_of n) (IsEnabled (circuit_of n)) u (slice_index_or depths u 0) → ⊥
            chain (inl none) = omega (arith, none, less)
            chain (inr h) =
                let most = (are q inside.0).greatest (slice_index_or depths u 0) (inr (h.0, (h.1.0, reaches_then n reach h.1.1), h.2)) in
                omega (arith, most, less)

    -- and any other one in the cone of what it takes over reads it
    pub deep_reads : (q u : ℕ) (name : List ℕ) (next : ℕ) → slice_index_or depths u 0 ≤ slice_index_or depths q 0 → IsLatch (circuit_of n) name u next → Reaches (circuit_of n) next q → Reaches (circuit_of n) q u
    deep_reads q u name next more latch reach = go (are q inside).reached
      where
        own : IsDepth (circuit_of n) (IsEnabled (circuit_of n)) u (slice_index_or depths u 0)
        own = are u (latch_inside name u next latch)

        inside : q < length n.drivers
        inside = let a = latch_within n sound name u next latch in let b = reaches_lower reach in omega (arith, a, b)

        go : ChainFrom (circuit_of n) (IsEnabled (circuit_of n)) q (slice_index_or depths q 0) → Reaches (circuit_of n) q u
        go (inl none) = absurd (let some = at_least_one name u next latch (slice_index_or depths u 0) own in omega (arith, none, some, more))
        go (inr h) = met (same_or_not u h.0)
          where
            met : (u ≡ h.0) ⊎ (u ≢ h.0) → Reaches (circuit_of n) q u
            met (inl same) = subst (Reaches (circuit_of n) q) (sym same) h.1.1
            met (inr apart) = absurd (let deep = deeper name u next latch (slice_index_or depths u 0) own h.0 (slice_index_or depths q 0) h.2 (reaches_then n reach h.1.1) apart in omega (arith, deep, more))

    -- each latch has a depth
    pub latches_have : LatchesHaveDepths (circuit_of n) (IsEnabled (circuit_of n))
    latches_have name u next latch = (slice_index_or depths u 0, are u (latch_inside name u next latch))
