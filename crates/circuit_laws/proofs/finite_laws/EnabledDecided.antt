-- Whether a latch is enabled is decided: whether it stands in its own cone by walking that, and the rest by all values of the sources.
use Rattle.std.proofs.Common.{◌≡◌, ◌≢◌, ℕ, Bool, true, false, List, ◌++◌, map, refl, sym, ◌∙◌, ap, subst, inl, inr}
use Rattle.std.specs.Prelude.{◌⊎◌}
use Rattle.std.specs.List.{Contains}
use Rattle.std.proofs.lemmas.List.Elements.{Contains-append_left, Contains-append_right}
use Rattle.circuit_theory.specs.Cover.{Cover}
use Rattle.circuit_theory.specs.Circuit.{Circuit, Equation, Gate, Latch, Port, Named, IsLatch, IsSource, IsSingleDriven, Reads, Reaches, out_of}
use Rattle.circuit_theory.specs.Joined.{joined}
use Rattle.circuit_theory.specs.Run.{Extends, ExtendsWith, IsEnabled, IsDetermined}
use Rattle.circuit_laws.specs.finite_laws.Laws.{EnabledIsDecided, EnabledIsDecidedBeside}
use Rattle.circuit_theory.proofs.Lists.{Contains-map}
use Rattle.circuit_theory.proofs.Sums.{same_or_not}
use Rattle.circuit_laws.proofs.Finite.{Decided}
use Rattle.circuit_laws.proofs.Loads.{put_unique}
use Rattle.circuit_laws.proofs.NetLaws.{net_value, net_value-extends, net_determined}
use Rattle.circuit_laws.proofs.LawProofs.{next_within}
use Rattle.circuit_laws.proofs.JoinedParts.{joined_same, joined_single, joined_determined}
use Rattle.circuit_laws.proofs.JoinedValues.{joined_values}
use Rattle.circuit_laws.proofs.finite_laws.Deciding.{decided_imp, bits_decided, decided_each, decided_some, if_same, update, assignments, all_assigned, latch_or}

abbrev next_of : {P : Type 0} → Equation P → P
next_of (Gate out fanins cover) = out
next_of (Latch m out to) = to
next_of (Port out from) = from

abbrev fanins_of : {P : Type 0} → Equation P → List P → List P
fanins_of (Gate out fanins cover) other = fanins
fanins_of (Latch m out to) other = other
fanins_of (Port out from) other = other

module _ {P : Type 0} (c : Circuit P) (same : (p q : P) → (p ≡ q) ⊎ (p ≢ q)) (single : IsSingleDriven c) where
  -- an input or latch reads nothing in its own cycle
  pub source_reads : {p q : P} → IsSource c p → Reads c p q → ⊥
  source_reads {p} (inl i) (Reads.by_gate {fanins = fanins} {cover = cover} eq h) = single.no_input (Gate p fanins cover) eq i
  source_reads {p} (inl i) (Reads.by_port {from = from} eq) = single.no_input (Port p from) eq i
  source_reads {p} (inr l) (Reads.by_gate {fanins = fanins} {cover = cover} eq h) = wrong (single.one (Gate p fanins cover) (Latch l.0 p l.1) eq l.2 refl)
    where
      wrong : Gate p fanins cover ≡ Latch l.0 p l.1 → ⊥
      wrong e = cc
  source_reads {p} (inr l) (Reads.by_port {from = from} eq) = wrong (single.one (Port p from) (Latch l.0 p l.1) eq l.2 refl)
    where
      wrong : Port p from ≡ Latch l.0 p l.1 → ⊥
      wrong e = cc

  -- a gate reads its fan-ins alone
  pub gate_reads : {out q : P} (fanins : List P) (cover : Cover) → Contains c.equations (Gate out fanins cover) → Reads c out q → Contains fanins q
  gate_reads {out} {q} fanins cover at (Reads.by_gate {fanins = others} {cover = other} eq h) =
      subst (λ (fs : List P). Contains fs q) (ap (λ e. fanins_of e fanins) (single.one (Gate out others other) (Gate out fanins cover) eq at refl)) h
  gate_reads {out} {q} fanins cover at (Reads.by_port {from = from} eq) = absurd (wrong (single.one (Port out from) (Gate out fanins cover) eq at refl))
    where
      wrong : Port out from ≡ Gate out fanins cover → ⊥
      wrong e = cc

  -- a port reads the other side alone
  port_reads : {out q : P} (from : P) → Contains c.equations (Port out from) → Reads c out q → from ≡ q
  port_reads {out} {q} from at (Reads.by_gate {fanins = fanins} {cover = cover} eq h) = absurd (wrong (single.one (Gate out fanins cover) (Port out from) eq at refl))
    where
      wrong : Gate out fanins cover ≡ Port out from → ⊥
      wrong e = cc
  port_reads {out} {q} from at (Reads.by_port {from = other} eq) = ap next_of (single.one (Port out from) (Port out other) at eq refl)

  pub steps : {p u : P} → Reaches c p u → (p ≡ u) ⊎ ((q : P) × Reads c p q × Reaches c q u)
  steps Reaches.here = inl refl
  steps (Reaches.there {q = q} reads rest) = inr (q, reads, rest)

  reaches_itself : (p u : P) → p ≡ u → Reaches c p u
  reaches_itself p u e = subst (Reaches c p) e Reaches.here

  -- whether a place is reached from one that no loop of gates drives
  reaches_or : (u : P) {p : P} → IsDetermined c p → Decided (Reaches c p u)
  reaches_or u {p} (IsDetermined.source s) = go (same p u)
    where
      no : p ≢ u → (p ≡ u) ⊎ ((q : P) × Reads c p q × Reaches c q u) → ⊥
      no n (inl e) = n e
      no n (inr r) = source_reads s r.1

      go : (p ≡ u) ⊎ (p ≢ u) → Decided (Reaches c p u)
      go (inl e) = inl (reaches_itself p u e)
      go (inr n) = inr (λ r. no n (steps r))
  reaches_or u {p} (IsDetermined.gate {fanins = fanins} {cover = cover} eq each) = go (same p u) (decided_some (λ q. Reaches c q u) fanins (λ q h. reaches_or u (each q h)))
    where
      no : p ≢ u → ((q : P) × Contains fanins q × Reaches c q u → ⊥) → (p ≡ u) ⊎ ((q : P) × Reads c p q × Reaches c q u) → ⊥
      no n none (inl e) = n e
      no n none (inr r) = none (r.0, gate_reads fanins cover eq r.1, r.2)

      go : (p ≡ u) ⊎ (p ≢ u) → Decided ((q : P) × Contains fanins q × Reaches c q u) → Decided (Reaches c p u)
      go (inl e) d = inl (reaches_itself p u e)
      go (inr n) (inl r) = inl (Reaches.there (Reads.by_gate {fanins = fanins} {cover = cover} eq r.1) r.2)
      go (inr n) (inr none) = inr (λ r. no n none (steps r))
  reaches_or u {p} (IsDetermined.port {from = from} eq rest) = go (same p u) (reaches_or u rest)
    where
      no : p ≢ u → (Reaches c from u → ⊥) → (p ≡ u) ⊎ ((q : P) × Reads c p q × Reaches c q u) → ⊥
      no n none (inl e) = n e
      no n none (inr r) = none (subst (λ (q : P). Reaches c q u) (sym (port_reads from eq r.1)) r.2)

      go : (p ≡ u) ⊎ (p ≢ u) → Decided (Reaches c from u) → Decided (Reaches c p u)
      go (inl e) d = inl (reaches_itself p u e)
      go (inr n) (inl r) = inl (Reaches.there (Reads.by_port eq) r)
      go (inr n) (inr none) = inr (λ r. no n none (steps r))

  -- a list with each input and latch
  abbrev sources : List P
  sources = map (λ (n : Named P). n.place) c.inputs ++ map out_of c.equations

  source_listed : (p : P) → IsSource c p → Contains sources p
  source_listed p (inl i) =
      Contains-append_left (map (λ (n : Named P). n.place) c.inputs) (map out_of c.equations) p (Contains-map (λ (n : Named P). n.place) c.inputs (record { name = i.0; place = p }) i.1)
  source_listed p (inr l) =
      Contains-append_right (map (λ (n : Named P). n.place) c.inputs) (map out_of c.equations) p (Contains-map out_of c.equations (Latch l.0 p l.1) l.2)

  module _ (values : (x : P → Bool) → (v : P → Bool) × Extends c x v) (u next : P) (source : IsSource c u) (det : IsDetermined c next) where
    -- the values with the latch put to a bit
    abbrev put_to : (P → Bool) → Bool → P → Bool
    put_to y bit = (values (update same y u bit)).0

    put_to_is : (y : P → Bool) (bit : Bool) → ExtendsWith c u bit y (put_to y bit)
    put_to_is y bit = record {
      meets = (values (update same y u bit)).1.meets;
      sources = λ p s n. (values (update same y u bit)).1.sources p s ∙ other p n (same u p);
      put = (values (update same y u bit)).1.sources u source ∙ own (same u u);
    }
      where
        other : (p : P) → p ≢ u → (d : (u ≡ p) ⊎ (u ≢ p)) → if_same d bit (y p) ≡ y p
        other p n (inl e) = absurd (n (sym e))
        other p n (inr m) = refl

        own : (d : (u ≡ u) ⊎ (u ≢ u)) → if_same d bit (y u) ≡ bit
        own (inl e) = refl
        own (inr m) = absurd (m refl)

    abbrev Rises : Type 0
    Rises = (x low high : P → Bool) → ExtendsWith c u false x low → ExtendsWith c u true x high → low next ≡ true → high next ≡ true

    rises_or : Decided Rises
    rises_or = go (decided_each (λ y. put_to y false next ≡ true → put_to y true next ≡ true) (assignments same sources) (λ y h. decided_imp (bits_decided (put_to y false next) true) (bits_decided (put_to y true next) true)))
      where
        -- what x gives is given by the listed values that are x's at each source
        agrees : (x y : P → Bool) → ((q : P) → Contains sources q → y q ≡ x q) → (bit : Bool) (v : P → Bool) → ExtendsWith c u bit x v → put_to y bit next ≡ v next
        agrees x y alike bit v is =
            let moved : ExtendsWith c u bit x (put_to y bit) = record { meets = (put_to_is y bit).meets; sources = λ p s n. (put_to_is y bit).sources p s n ∙ alike p (source_listed p s); put = (put_to_is y bit).put } in
            put_unique c same u bit x (put_to y bit) v moved is det

        all_rise : ((y : P → Bool) → Contains (assignments same sources) y → put_to y false next ≡ true → put_to y true next ≡ true) → Rises
        all_rise each x low high l h e =
            let y = all_assigned same sources x in
            sym (agrees x y.0 y.2 true high h) ∙ each y.0 y.1 (agrees x y.0 y.2 false low l ∙ e)

        go : Decided ((y : P → Bool) → Contains (assignments same sources) y → put_to y false next ≡ true → put_to y true next ≡ true) → Decided Rises
        go (inl each) = inl (all_rise each)
        go (inr none) = inr (λ f. none (λ y h. f y (put_to y false) (put_to y true) (put_to_is y false) (put_to_is y true)))

  module _ (values : (x : P → Bool) → (v : P → Bool) × Extends c x v) (det : (name : List ℕ) (u next : P) → IsLatch c name u next → IsDetermined c next) where
    pub enabled_or : (u : P) → Decided (IsEnabled c u)
    enabled_or u = by_latch (latch_or same c.equations u)
      where
        of_latch : (name : List ℕ) (next : P) (latch : IsLatch c name u next) → Decided (Reaches c next u) → Decided (Rises values u next (inr (name, next, latch)) (det name u next latch)) → Decided (IsEnabled c u)
        of_latch name next latch (inl reaches) (inl rises) = inl (record { name = name; next = next; latch = latch; self_edge = (inr (name, next, latch), reaches); rises = rises })
        of_latch name next latch (inr apart) rises = inr (λ en. apart (subst (λ (q : P). Reaches c q u) (next_is en.name en.next en.latch) en.self_edge.1))
          where
            next_is : (other : List ℕ) (q : P) → IsLatch c other u q → q ≡ next
            next_is other q k = ap next_of (single.one (Latch other u q) (Latch name u next) k latch refl)
        of_latch name next latch (inl reaches) (inr falls) =
            inr (λ en. falls (subst (λ (q : P). (x low high : P → Bool) → ExtendsWith c u false x low → ExtendsWith c u true x high → low q ≡ true → high q ≡ true) (next_is en.name en.next en.latch) en.rises))
          where
            next_is : (other : List ℕ) (q : P) → IsLatch c other u q → q ≡ next
            next_is other q k = ap next_of (single.one (Latch other u q) (Latch name u next) k latch refl)

        by_latch : ((name : List ℕ) × (next : P) × IsLatch c name u next) ⊎ ((name : List ℕ) (next : P) → IsLatch c name u next → ⊥) → Decided (IsEnabled c u)
        by_latch (inl l) = of_latch l.0 l.1 l.2 (reaches_or u (det l.0 u l.1 l.2)) (rises_or values u l.1 (inr (l.0, l.1, l.2)) (det l.0 u l.1 l.2))
        by_latch (inr none) = inr (λ en. none en.name en.next en.latch)

pub enabled_in_nets : EnabledIsDecided
enabled_in_nets c size net u =
    enabled_or c same_or_not net.single (λ x. (net_value c x, net_value-extends c size net x)) (λ name v next latch. net_determined c size net next (next_within c size net name v next latch)) u

pub enabled_in_nets_beside : EnabledIsDecidedBeside
enabled_in_nets_beside a b m n na nb v = enabled_or (joined a b) joined_same (joined_single a b m n na nb) (joined_values a b m n na nb) (joined_determined a b m n na nb) v
