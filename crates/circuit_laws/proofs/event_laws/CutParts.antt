-- A cut circuit has the inputs and latches, the values and the cones of the circuit itself, and those of its enabled latches that
-- aren't exposed.
use Rattle.std.proofs.Common.{◌≡◌, ℕ, Bool, true, false, not, cond, List, [], ◌∷◌, refl, sym, ◌∙◌, ap, subst, arith, inl, inr}
use Rattle.std.specs.Prelude.{◌⊎◌}
use Rattle.std.specs.List.{Contains, filter, filter_map}
use Rattle.std.proofs.lemmas.List.Elements.{All-contains, All-filter, Contains-append_left, Contains-append_right}
use Rattle.circuit_theory.specs.Names.{is_among}
use Rattle.circuit_theory.specs.Cover.{Cover}
use Rattle.circuit_theory.specs.Circuit.{Circuit, Equation, Gate, Latch, Port, IsLatch, IsSource, IsSingleDriven, Holds, Meets, Reads, Reaches, InCone}
use Rattle.circuit_theory.specs.Run.{ExtendsWith, Loads, IsEnabled, IsDetermined}
use Rattle.circuit_theory.specs.Net.{HasDistinctNames}
use Rattle.circuit_theory.specs.Agree.{cut, is_kept, latch_named, named_at, first_of_pair}
use Rattle.circuit_theory.proofs.Lists.{Contains-head, Contains-tail, Contains-cases, All-from_each}
use Rattle.circuit_theory.proofs.Numbers.{is_among-sound}
use Rattle.circuit_laws.proofs.Pairs.{filter_map-has, latch_is_named}
use Rattle.circuit_laws.proofs.Onward.{cut_input}
use Rattle.circuit_laws.proofs.Parted.{kept_equation}

filter-has : {X : Type 0} (test : X → Bool) (xs : List X) (x : X) → Contains xs x → test x ≡ true → Contains (filter test xs) x
filter-has test [] x h e = absurd (omega (arith, h.1))
filter-has {X} test (y ∷ xs) x h e = go (test y) refl (Contains-cases y x xs h) (λ k. filter-has test xs x k e)
  where
    no : false ≡ true → ⊥
    no q = cc

    go : (b : Bool) → test y ≡ b → (y ≡ x) ⊎ Contains xs x → (Contains xs x → Contains (filter test xs) x) → Contains (filter test (y ∷ xs)) x
    go true q k later = subst (λ (ys : List X). Contains ys x) (sym (ap (λ b. cond b (y ∷ filter test xs) (filter test xs)) q)) (pick k)
      where
        pick : (y ≡ x) ⊎ Contains xs x → Contains (y ∷ filter test xs) x
        pick (inl s) = subst (Contains (y ∷ filter test xs)) s (Contains-head y (filter test xs))
        pick (inr m) = Contains-tail y x (filter test xs) (later m)
    go false q (inl s) later = absurd (no (sym q ∙ (ap test s ∙ e)))
    go false q (inr m) later = subst (λ (ys : List X). Contains ys x) (sym (ap (λ b. cond b (y ∷ filter test xs) (filter test xs)) q)) (later m)

module _ {P : Type 0} (names : List (List ℕ)) (c : Circuit P) (single : IsSingleDriven c) (distinct : HasDistinctNames c) where
  pub cut_keeps : (e : Equation P) → Contains c.equations e → is_kept names e ≡ true → Contains (cut names c).equations e
  unfolding cut
  cut_keeps e h k = filter-has (is_kept names) c.equations e h k

  pub cut_gate : (out : P) (fanins : List P) (cover : Cover) → Contains c.equations (Gate out fanins cover) → Contains (cut names c).equations (Gate out fanins cover)
  cut_gate out fanins cover h = cut_keeps (Gate out fanins cover) h refl

  pub cut_port : (out from : P) → Contains c.equations (Port out from) → Contains (cut names c).equations (Port out from)
  cut_port out from h = cut_keeps (Port out from) h refl

  pub cut_latch : (name : List ℕ) (u next : P) → IsLatch c name u next → is_among names name ≡ false → IsLatch (cut names c) name u next
  cut_latch name u next h e = cut_keeps (Latch name u next) h (ap not e)

  -- an input stays, and an exposed latch is one
  pub cut_own_input : (name : List ℕ) (p : P) → Contains c.inputs (record { name = name; place = p }) → Contains (cut names c).inputs (record { name = name; place = p })
  unfolding cut
  cut_own_input name p h = Contains-append_left c.inputs (filter_map (λ n. named_at n (first_of_pair (latch_named c.equations n))) names) _ h

  pub cut_exposed : (name : List ℕ) (u next : P) → IsLatch c name u next → Contains names name → Contains (cut names c).inputs (record { name = name; place = u })
  unfolding cut
  cut_exposed name u next latch h =
      Contains-append_right c.inputs (filter_map (λ n. named_at n (first_of_pair (latch_named c.equations n))) names) _
      (filter_map-has (λ n. named_at n (first_of_pair (latch_named c.equations n))) names name (record { name = name; place = u }) h
      (ap (λ o. named_at name (first_of_pair o)) (latch_is_named c single distinct name u next latch)))

  pub source_cut : (p : P) → IsSource c p → IsSource (cut names c) p
  source_cut p (inl i) = inl (i.0, cut_own_input i.0 p i.1)
  source_cut p (inr l) = go (is_among names l.0) refl
    where
      go : (b : Bool) → is_among names l.0 ≡ b → IsSource (cut names c) p
      go true e = inl (l.0, cut_exposed l.0 p l.1 l.2 (is_among-sound names l.0 e))
      go false e = inr (l.0, l.1, cut_latch l.0 p l.1 l.2 e)

  pub source_uncut : (p : P) → IsSource (cut names c) p → IsSource c p
  source_uncut p (inl i) = go (cut_input names c i.0 p i.1)
    where
      go : Contains c.inputs (record { name = i.0; place = p }) ⊎ (Contains names i.0 × ((next : P) × IsLatch c i.0 p next)) → IsSource c p
      go (inl own) = inl (i.0, own)
      go (inr l) = inr (i.0, l.1.0, l.1.1)
  source_uncut p (inr l) = inr (l.0, l.1, kept_equation names c (Latch l.0 p l.1) l.2)

  pub reaches_cut : {p q : P} → Reaches c p q → Reaches (cut names c) p q
  reaches_cut Reaches.here = Reaches.here
  reaches_cut {p} (Reaches.there (Reads.by_gate {fanins = fanins} {cover = cover} eq h) rest) = Reaches.there (Reads.by_gate (cut_gate p fanins cover eq) h) (reaches_cut rest)
  reaches_cut {p} (Reaches.there (Reads.by_port {from = from} eq) rest) = Reaches.there (Reads.by_port (cut_port p from eq)) (reaches_cut rest)

  pub reaches_uncut : {p q : P} → Reaches (cut names c) p q → Reaches c p q
  reaches_uncut Reaches.here = Reaches.here
  reaches_uncut {p} (Reaches.there (Reads.by_gate {fanins = fanins} {cover = cover} eq h) rest) = Reaches.there (Reads.by_gate (kept_equation names c (Gate p fanins cover) eq) h) (reaches_uncut rest)
  reaches_uncut {p} (Reaches.there (Reads.by_port {from = from} eq) rest) = Reaches.there (Reads.by_port (kept_equation names c (Port p from) eq)) (reaches_uncut rest)

  pub cone_cut : (p u : P) → InCone c p u → InCone (cut names c) p u
  cone_cut p u h = (source_cut u h.0, reaches_cut h.1)

  pub cone_uncut : (p u : P) → InCone (cut names c) p u → InCone c p u
  cone_uncut p u h = (source_uncut u h.0, reaches_uncut h.1)

  pub meets_cut : (v : P → Bool) → Meets c v → Meets (cut names c) v
  unfolding cut
  meets_cut v meets = All-filter (is_kept names) (Holds v) c.equations meets

  -- gates and ports are never cut out
  pub meets_uncut : (v : P → Bool) → Meets (cut names c) v → Meets c v
  meets_uncut v meets = All-from_each (Holds v) c.equations at
    where
      at : (e : Equation P) → Contains c.equations e → Holds v e
      at (Gate out fanins cover) h = All-contains (Holds v) (cut names c).equations (Gate out fanins cover) meets (cut_gate out fanins cover h)
      at (Latch name out next) h = tt
      at (Port out from) h = All-contains (Holds v) (cut names c).equations (Port out from) meets (cut_port out from h)

  pub extends_cut : (u : P) (bit : Bool) (x v : P → Bool) → ExtendsWith c u bit x v → ExtendsWith (cut names c) u bit x v
  extends_cut u bit x v ex = record { meets = meets_cut v ex.meets; sources = λ p s n. ex.sources p (source_uncut p s) n; put = ex.put }

  pub extends_uncut : (u : P) (bit : Bool) (x v : P → Bool) → ExtendsWith (cut names c) u bit x v → ExtendsWith c u bit x v
  extends_uncut u bit x v ex = record { meets = meets_uncut v ex.meets; sources = λ p s n. ex.sources p (source_cut p s) n; put = ex.put }

  pub loads_uncut : (x : P → Bool) (u next : P) → Loads (cut names c) x u next → Loads c x u next
  loads_uncut x u next loads = record {
    low = loads.low;
    high = loads.high;
    low_is = extends_uncut u false x loads.low loads.low_is;
    high_is = extends_uncut u true x loads.high loads.high_is;
    same = loads.same;
  }

  pub enabled_uncut : (u : P) → IsEnabled (cut names c) u → IsEnabled c u
  enabled_uncut u en = record {
    name = en.name;
    next = en.next;
    latch = kept_equation names c (Latch en.name u en.next) en.latch;
    self_edge = cone_uncut en.next u en.self_edge;
    rises = λ x low high l h e. en.rises x low high (extends_cut u false x low l) (extends_cut u true x high h) e;
  }

  -- an enabled latch that isn't exposed
  pub enabled_cut : (u : P) → IsEnabled c u → (name : List ℕ) (next : P) → IsLatch (cut names c) name u next → IsEnabled (cut names c) u
  enabled_cut u en name next latch = record {
    name = en.name;
    next = en.next;
    latch = subst (Contains (cut names c).equations) (single.one (Latch name u next) (Latch en.name u en.next) (kept_equation names c (Latch name u next) latch) en.latch refl) latch;
    self_edge = cone_cut en.next u en.self_edge;
    rises = λ x low high l h e. en.rises x low high (extends_uncut u false x low l) (extends_uncut u true x high h) e;
  }

  pub determined_cut : {p : P} → IsDetermined c p → IsDetermined (cut names c) p
  determined_cut {p} (IsDetermined.source s) = IsDetermined.source (source_cut p s)
  determined_cut {p} (IsDetermined.gate {fanins = fanins} {cover = cover} eq each) = IsDetermined.gate (cut_gate p fanins cover eq) (λ q h. determined_cut (each q h))
  determined_cut {p} (IsDetermined.port {from = from} eq rest) = IsDetermined.port (cut_port p from eq) (determined_cut rest)
