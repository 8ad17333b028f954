-- The depth of a place is the greatest number of latches on a way down its tree.
use Rattle.std.proofs.Common.{◌≡◌, ℕ, suc, ◌≤◌, max, List, ◌∷◌, refl, sym, ◌∙◌, ap, subst, arith, inl, inr}
use Rattle.std.specs.Prelude.{◌⊎◌}
use Rattle.std.specs.List.{Contains}
use Rattle.circuit_theory.specs.Circuit.{Circuit, Equation, Gate, Latch, Port, IsInput, IsLatch, IsSource, Reads, Reaches, out_of, IsSingleDriven}
use Rattle.circuit_theory.specs.Run.{NoneEnabled}
use Rattle.circuit_theory.specs.Depth.{LatchChain, ChainFrom, IsDepth}
use Rattle.circuit_theory.specs.Tree.{Tree, Trees, Unfolds, UnfoldsAll}
use Rattle.circuit_theory.proofs.Lists.{Contains-head, Contains-tail, Contains-cases}
use Rattle.circuit_theory.proofs.Inputs.{beside_is_input}

module _ {P : Type 0} (c : Circuit P) (single : IsSingleDriven c) where
  pub chain_up : {p q : P} {n : ℕ} → Reads c p q → ChainFrom c NoneEnabled q n → ChainFrom c NoneEnabled p n
  chain_up reads (inl e) = inl e
  chain_up reads (inr x) = inr (x.0, (x.1.0, Reaches.there reads x.1.1), x.2)

  pub chain_latch : {u : P} {n : ℕ} → LatchChain c NoneEnabled u n → (name : List ℕ) × (next : P) × IsLatch c name u next
  chain_latch (LatchChain.last {next = next} {name = name} latch) = (name, next, latch)
  chain_latch (LatchChain.more edge rest) = (edge.name, edge.next, edge.latch)

  -- what a reading says of the equation that drives the place
  abbrev ReadSays : P → Equation P → Type 0
  ReadSays q (Gate out fanins cover) = Contains fanins q
  ReadSays q (Latch name out next) = ⊥
  ReadSays q (Port out from) = from ≡ q

  read_says : {p q : P} → Reads c p q → (e : Equation P) → Contains c.equations e → out_of e ≡ p → ReadSays q e
  read_says {p} {q} (Reads.by_gate {fanins = fanins} {cover = cover} eq h) e k r = subst (ReadSays q) (single.one (Gate p fanins cover) e eq k (sym r)) h
  read_says {p} {q} (Reads.by_port eq) e k r = subst (ReadSays q) (single.one (Port p q) e eq k (sym r)) refl

  pub extend : {name : List ℕ} {out next : P} {n : ℕ} → IsLatch c name out next → ChainFrom c NoneEnabled next n → ChainFrom c NoneEnabled out (suc n)
  extend {name} {out} {next} latch (inl e) = inr (out, (inr (name, next, latch), Reaches.here), subst (λ m. LatchChain c NoneEnabled out (suc m)) (sym e) (LatchChain.last latch))
  extend {name} {out} {next} latch (inr x) =
      let other = chain_latch x.2 in
      inr (
        out,
        (inr (name, next, latch), Reaches.here),
        LatchChain.more (record {
          name = name;
          next = next;
          latch = latch;
          kept = λ h. omega (arith, h.1);
          other_name = other.0;
          other_next = other.1;
          other = other.2;
          other_kept = λ h. omega (arith, h.1);
          cone = x.1;
          no_self_edge = λ en. absurd en;
        }) x.2,
      )

  mutual
    deepest : {order : List ℕ} {p : P} {k d : ℕ} {tree : Tree ℕ} → Unfolds c order p k d tree → ChainFrom c NoneEnabled p d
    deepest (Unfolds.input h) = inl refl
    deepest (Unfolds.gate {out = out} {fanins = fanins} {cover = cover} {d = d} eq each) = from (deepest_of each)
      where
        from : (d ≡ 0) ⊎ ((q : P) × Contains fanins q × ChainFrom c NoneEnabled q d) → ChainFrom c NoneEnabled out d
        from (inl e) = inl e
        from (inr x) = chain_up (Reads.by_gate eq x.1) x.2
    deepest (Unfolds.port eq rest) = chain_up (Reads.by_port eq) (deepest rest)
    deepest (Unfolds.latch latch rest) = extend latch (deepest rest)

    deepest_of : {order : List ℕ} {ps : List P} {k d : ℕ} {trees : Trees ℕ} → UnfoldsAll c order ps k d trees → (d ≡ 0) ⊎ ((q : P) × Contains ps q × ChainFrom c NoneEnabled q d)
    deepest_of UnfoldsAll.none = inl refl
    deepest_of (UnfoldsAll.more {p = p} {ps = ps} {d = d} {e = e} one rest) = choose (which d e) (deepest one) (deepest_of rest)
      where
        which : (d e : ℕ) → (max d e ≡ d) ⊎ (max d e ≡ e)
        which d e = grind arith

        choose : (max d e ≡ d) ⊎ (max d e ≡ e) → ChainFrom c NoneEnabled p d → (e ≡ 0) ⊎ ((q : P) × Contains ps q × ChainFrom c NoneEnabled q e) →
            (max d e ≡ 0) ⊎ ((q : P) × Contains (p ∷ ps) q × ChainFrom c NoneEnabled q (max d e))
        choose (inl m) first others = inr (p, Contains-head p ps, subst (λ n. ChainFrom c NoneEnabled p n) (sym m) first)
        choose (inr m) first (inl z) = inl (m ∙ z)
        choose (inr m) first (inr x) = inr (x.0, Contains-tail p x.0 ps x.1, subst (λ n. ChainFrom c NoneEnabled x.0 n) (sym m) x.2)

  -- a chain from a place that a gate or a port drives goes on from what that reads
  below : {p u : P} {n : ℕ} (e : Equation P) → Contains c.equations e → out_of e ≡ p → ((name : List ℕ) (next : P) → e ≡ Latch name p next → ⊥) → IsSource c u → Reaches c p u → LatchChain c NoneEnabled u n →
      (q : P) × ReadSays q e × ChainFrom c NoneEnabled q n
  below {p} e h r no_latch source Reaches.here chain =
      let l = chain_latch chain in absurd (no_latch l.0 l.1 (single.one e (Latch l.0 p l.1) h l.2 r))
  below e h r no_latch source (Reaches.there {q = q} {u = u} reads rest) chain = (q, read_says reads e h r, inr (u, (source, rest), chain))

  mutual
    bounded : {order : List ℕ} {p : P} {k d : ℕ} {tree : Tree ℕ} → Unfolds c order p k d tree → (n : ℕ) → ChainFrom c NoneEnabled p n → n ≤ d
    bounded unfolds n (inl e) = omega arith
    bounded {order} {p} (Unfolds.input {i = i} h) n (inr x) = absurd (no (x.1.1) x.2)
      where
        input : IsInput c p
        input = beside_is_input c.inputs order p i h

        no : {u : P} → Reaches c p u → LatchChain c NoneEnabled u n → ⊥
        no Reaches.here chain = let l = chain_latch chain in single.no_input (Latch l.0 p l.1) l.2 input
        no (Reaches.there (Reads.by_gate {fanins = fanins} {cover = cover} eq k) rest) chain = single.no_input (Gate p fanins cover) eq input
        no (Reaches.there (Reads.by_port {from = from} eq) rest) chain = single.no_input (Port p from) eq input
    bounded (Unfolds.gate {out = out} {fanins = fanins} {cover = cover} eq each) n (inr x) =
        let down = below (Gate out fanins cover) eq refl (λ name next e. cc) x.1.0 x.1.1 x.2 in
        all_bounded each down.0 n down.1 down.2
    bounded (Unfolds.port {out = out} {from = from} eq rest) n (inr x) =
        let down = below (Port out from) eq refl (λ name next e. cc) x.1.0 x.1.1 x.2 in
        bounded rest n (subst (λ z. ChainFrom c NoneEnabled z n) (sym down.1) down.2)
    bounded (Unfolds.latch {name = name} {out = out} {next = next} {d = d} latch rest) n (inr x) = go (λ m chain. bounded rest m chain) n (x.1.1) x.2
      where
        go : ((m : ℕ) → ChainFrom c NoneEnabled next m → m ≤ d) → (n : ℕ) → {u : P} → Reaches c out u → LatchChain c NoneEnabled u n → n ≤ suc d
        go ih n Reaches.here (LatchChain.last l) = omega arith
        go ih n Reaches.here (LatchChain.more {v = v} {n = m} edge chain) =
            let same : Latch edge.name out edge.next ≡ Latch name out next = single.one (Latch edge.name out edge.next) (Latch name out next) edge.latch latch refl in
            let next_is : edge.next ≡ next = ap next_of same in
            let h = ih m (inr (v, (edge.cone.0, subst (λ z. Reaches c z v) next_is edge.cone.1), chain)) in
            omega arith
          where
            next_of : Equation P → P
            next_of (Gate o fanins cover) = o
            next_of (Latch n' o to) = to
            next_of (Port o from) = o
        go ih n (Reaches.there reads rest) chain = absurd (read_says reads (Latch name out next) latch refl)

    all_bounded : {order : List ℕ} {ps : List P} {k d : ℕ} {trees : Trees ℕ} → UnfoldsAll c order ps k d trees → (q : P) (n : ℕ) → Contains ps q → ChainFrom c NoneEnabled q n → n ≤ d
    all_bounded UnfoldsAll.none q n h chain = absurd (omega (arith, h.1))
    all_bounded (UnfoldsAll.more {p = p} {ps = ps} one rest) q n h chain = pick (Contains-cases p q ps h) (λ ch. bounded one n ch) (λ k. all_bounded rest q n k chain)
      where
        pick : {d e : ℕ} → (p ≡ q) ⊎ Contains ps q → (ChainFrom c NoneEnabled p n → n ≤ d) → (Contains ps q → n ≤ e) → n ≤ max d e
        pick (inl r) one' rest' = let h' = one' (subst (λ z. ChainFrom c NoneEnabled z n) (sym r) chain) in omega arith
        pick (inr k) one' rest' = let h' = rest' k in omega arith

  pub tree_depth : {order : List ℕ} {p : P} {k d : ℕ} {tree : Tree ℕ} → Unfolds c order p k d tree → IsDepth c NoneEnabled p d
  tree_depth unfolds = record { reached = deepest unfolds; greatest = bounded unfolds }
