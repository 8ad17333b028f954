-- In two runs of one circuit with equal inputs the marks are the same, and so are the marked values.
use Rattle.std.proofs.Common.{◌≡◌, ◌≢◌, ℕ, suc, ◌+◌, ◌<◌, Bool, true, false, List, sym, ◌∙◌, ap, arith, add-one, inl, inr}
use Rattle.std.specs.Prelude.{◌⊎◌}
use Rattle.std.proofs.lemmas.List.Elements.{All-contains}
use Rattle.circuit_theory.specs.Cover.{cover_value}
use Rattle.circuit_theory.specs.Circuit.{Circuit, IsInput, IsLatch, Holds, Carries, Meets, InCone, Reads, Reaches}
use Rattle.circuit_theory.specs.Run.{IsRun, ExtendsWith, Loads, CanPut, IsDetermined, Marked}
use Rattle.circuit_theory.proofs.Lists.{map_same}
use Rattle.circuit_laws.proofs.Loads.{loads_low}

-- values that are one at each input and latch of the cone are one
pub values_by_cone : {P : Type 0} (c : Circuit P) (y z : P → Bool) → Meets c y → Meets c z → {p : P} → IsDetermined c p → ((u : P) → InCone c p u → y u ≡ z u) → y p ≡ z p
values_by_cone c y z my mz {p} (IsDetermined.source s) cone = cone p (s, Reaches.here)
values_by_cone c y z my mz (IsDetermined.gate {fanins = fanins} {cover = cover} eq each) cone =
    All-contains (Holds y) c.equations _ my eq
    ∙ (ap (cover_value cover) (map_same y z fanins (λ p h. values_by_cone c y z my mz (each p h) (λ u k. cone u (k.0, Reaches.there (Reads.by_gate eq h) k.1))))
    ∙ sym (All-contains (Holds z) c.equations _ mz eq))
values_by_cone c y z my mz (IsDetermined.port eq from) cone =
    All-contains (Holds y) c.equations _ my eq
    ∙ (values_by_cone c y z my mz from (λ u k. cone u (k.0, Reaches.there (Reads.by_port eq) k.1)) ∙ sym (All-contains (Holds z) c.equations _ mz eq))

module _ {P : Type 0} (c : Circuit P) (same : (p q : P) → (p ≡ q) ⊎ (p ≢ q)) (can_put : CanPut c) (det : (name : List ℕ) (u next : P) → IsLatch c name u next → IsDetermined c next)
    (enabled : P → Type 0) (n : ℕ) (r s : ℕ → P → Bool) (is_r : IsRun c n r) (is_s : IsRun c n s) (inputs : (t : ℕ) (p : P) → t < n → IsInput c p → r t p ≡ s t p) where
  -- with a latch put to a bit, and the others of its cone equal, what it takes over is one
  put_same : (t : ℕ) (name : List ℕ) (u next : P) → IsLatch c name u next → ((w : P) → InCone c next w → w ≢ u → r t w ≡ s t w) →
      (bit : Bool) (y z : P → Bool) → ExtendsWith c u bit (r t) y → ExtendsWith c u bit (s t) z → y next ≡ z next
  put_same t name u next latch others bit y z ey ez = values_by_cone c y z ey.meets ez.meets (det name u next latch) at
    where
      at : (w : P) → InCone c next w → y w ≡ z w
      at w cone = go (same w u)
        where
          go : (w ≡ u) ⊎ (w ≢ u) → y w ≡ z w
          go (inl e) = ap y e ∙ (ey.put ∙ (sym ez.put ∙ sym (ap z e)))
          go (inr ne) = ey.sources w cone.0 ne ∙ (others w cone ne ∙ sym (ez.sources w cone.0 ne))

  -- so a latch that loads in one run loads in the other, and takes over one value
  loads_same : (t : ℕ) → t + 1 < n → (name : List ℕ) (u next : P) → IsLatch c name u next → ((w : P) → InCone c next w → w ≢ u → r t w ≡ s t w) → Loads c (r t) u next →
      Loads c (s t) u next × (r (t + 1) u ≡ s (t + 1) u)
  loads_same t h name u next latch others loads =
      let low = can_put (s t) name u next false latch (is_s.meets t (omega arith)) in
      let high = can_put (s t) name u next true latch (is_s.meets t (omega arith)) in
      let l = put_same t name u next latch others false loads.low low.0 loads.low_is low.1 in
      let k = put_same t name u next latch others true loads.high high.0 loads.high_is high.1 in
      let there : Loads c (s t) u next = record { low = low.0; high = high.0; low_is = low.1; high_is = high.1; same = sym l ∙ (loads.same ∙ k) } in
      (there, loads_low c same n r is_r name u next latch (det name u next latch) t h loads ∙ (l ∙ sym (loads_low c same n s is_s name u next latch (det name u next latch) t h there)))

  carried : (run : ℕ → P → Bool) → IsRun c n run → (t : ℕ) → t + 1 < n → (name : List ℕ) (u next : P) → IsLatch c name u next → run (t + 1) u ≡ run t next
  carried run is_run t h name u next latch = All-contains (Carries (run t) (run (t + 1))) c.equations _ (is_run.carries t h) latch

  at_next : (t : ℕ) (u : P) → r (t + 1) u ≡ s (t + 1) u → r (suc t) u ≡ s (suc t) u
  at_next t u e = sym (ap (λ k. r k u) (add-one t)) ∙ (e ∙ ap (λ k. s k u) (add-one t))

  -- what is settled in one run is settled in the other, and has one value
  pub settled_same : {t : ℕ} {p : P} → Marked c enabled r t p → t < n → Marked c enabled s t p × (r t p ≡ s t p)
  settled_same {t} {p} (Marked.input i) h = (Marked.input i, inputs t p h i)
  settled_same {t} (Marked.gate {fanins = fanins} {cover = cover} eq each) h = (
    Marked.gate eq (λ p k. (settled_same (each p k) h).0),
    All-contains (Holds (r t)) c.equations _ (is_r.meets t h) eq
        ∙ (ap (cover_value cover) (map_same (r t) (s t) fanins (λ p k. (settled_same (each p k) h).1)) ∙ sym (All-contains (Holds (s t)) c.equations _ (is_s.meets t h) eq)),
  )
  settled_same {t} (Marked.port eq from) h =
      let ih = settled_same from h in
      (Marked.port eq ih.0, All-contains (Holds (r t)) c.equations _ (is_r.meets t h) eq ∙ (ih.1 ∙ sym (All-contains (Holds (s t)) c.equations _ (is_s.meets t h) eq)))
  settled_same (Marked.plain {t = t} {name = name} {out = out} {next = next} latch other mark) h =
      let ih = settled_same mark (omega arith) in
      (Marked.plain latch other ih.0, at_next t out (carried r is_r t (omega arith) name out next latch ∙ (ih.1 ∙ sym (carried s is_s t (omega arith) name out next latch))))
  settled_same (Marked.loads {t = t} {name = name} {out = out} {next = next} latch en others loads) h =
      let there = loads_same t (omega arith) name out next latch (λ w cone ne. (settled_same (others w cone ne) (omega arith)).1) loads in
      (Marked.loads latch en (λ w cone ne. (settled_same (others w cone ne) (omega arith)).0) there.0, at_next t out there.1)
  settled_same (Marked.keeps {t = t} {name = name} {out = out} {next = next} latch en others mark) h =
      let own = settled_same mark (omega arith) in
      let next_is : r t next ≡ s t next = values_by_cone c (r t) (s t) (is_r.meets t (omega arith)) (is_s.meets t (omega arith)) (det name out next latch)
      (at t out own.1 (λ w cone ne. (settled_same (others w cone ne) (omega arith)).1)) in (
        Marked.keeps latch en (λ w cone ne. (settled_same (others w cone ne) (omega arith)).0) own.0,
        at_next t out (carried r is_r t (omega arith) name out next latch ∙ (next_is ∙ sym (carried s is_s t (omega arith) name out next latch))),
      )
    where
      at : (t : ℕ) (u : P) → r t u ≡ s t u → ((w : P) → InCone c next w → w ≢ u → r t w ≡ s t w) → (w : P) → InCone c next w → r t w ≡ s t w
      at t u own rest w cone = go (same w u)
        where
          go : (w ≡ u) ⊎ (w ≢ u) → r t w ≡ s t w
          go (inl e) = ap (r t) e ∙ (own ∙ sym (ap (s t) e))
          go (inr ne) = rest w cone ne
