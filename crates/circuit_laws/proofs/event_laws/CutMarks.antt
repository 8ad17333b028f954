-- What is settled in a circuit is settled, with its value, in each run of the cut circuit with equal inputs in which the exposed
-- latches have the circuit's values wherever they are settled there.
use Rattle.std.proofs.Common.{◌≡◌, ◌≢◌, ℕ, suc, ◌+◌, ◌<◌, Bool, true, false, List, sym, ◌∙◌, ap, arith, add-one, inl, inr, refl}
use Rattle.std.specs.Prelude.{◌⊎◌}
use Rattle.std.specs.List.{Contains}
use Rattle.std.proofs.lemmas.List.Elements.{All-contains}
use Rattle.circuit_theory.specs.Names.{is_among}
use Rattle.circuit_theory.specs.Cover.{cover_value}
use Rattle.circuit_theory.specs.Circuit.{Circuit, IsInput, IsLatch, IsSingleDriven, Holds, Carries, InCone}
use Rattle.circuit_theory.specs.Run.{IsRun, ExtendsWith, Loads, CanPut, IsEnabled, IsDetermined, Marked}
use Rattle.circuit_theory.specs.Net.{HasDistinctNames}
use Rattle.circuit_theory.specs.Agree.{cut}
use Rattle.circuit_theory.proofs.Lists.{map_same}
use Rattle.circuit_theory.proofs.Numbers.{is_among-sound}
use Rattle.circuit_laws.proofs.Loads.{loads_low}
use Rattle.circuit_laws.proofs.SameMarks.{values_by_cone}
use Rattle.circuit_laws.proofs.event_laws.CutParts.{cut_gate, cut_port, cut_latch, cut_own_input, cut_exposed, cone_uncut, meets_uncut, extends_cut, enabled_uncut, enabled_cut, determined_cut}

module _ {P : Type 0} (names : List (List ℕ)) (c : Circuit P) (single : IsSingleDriven c) (distinct : HasDistinctNames c) (same : (p q : P) → (p ≡ q) ⊎ (p ≢ q))
    (can_put : CanPut c) (det : (name : List ℕ) (u next : P) → IsLatch c name u next → IsDetermined c next)
    (n : ℕ) (r s : ℕ → P → Bool) (is_r : IsRun c n r) (is_s : IsRun (cut names c) n s) (inputs : (t : ℕ) (p : P) → t < n → IsInput c p → r t p ≡ s t p)
    (exposed : (t : ℕ) (name : List ℕ) (u next : P) → t < n → Contains names name → IsLatch c name u next → Marked c (IsEnabled c) r t u → r t u ≡ s t u) where
  abbrev Kept : ℕ → P → Type 0
  Kept t p = Marked (cut names c) (IsEnabled (cut names c)) s t p × (r t p ≡ s t p)

  -- with a latch put to a bit, and the others of its cone equal, what it takes over is one
  put_same : (t : ℕ) (name : List ℕ) (u next : P) → IsLatch c name u next → ((w : P) → InCone c next w → w ≢ u → r t w ≡ s t w) →
      (bit : Bool) (y z : P → Bool) → ExtendsWith c u bit (r t) y → ExtendsWith c u bit (s t) z → y next ≡ z next
  put_same t name u next latch others bit y z ey ez = values_by_cone c y z ey.meets ez.meets (det name u next latch) at
    where
      at : (w : P) → InCone c next w → y w ≡ z w
      at w cone = go (same w u)
        where
          go : (w ≡ u) ⊎ (w ≢ u) → y w ≡ z w
          go (inl e) = ap y e ∙ (ey.put ∙ (sym ez.put ∙ sym (ap z e)))
          go (inr ne) = ey.sources w cone.0 ne ∙ (others w cone ne ∙ sym (ez.sources w cone.0 ne))

  loads_same : (t : ℕ) → t + 1 < n → (name : List ℕ) (u next : P) → IsLatch c name u next → IsLatch (cut names c) name u next → ((w : P) → InCone c next w → w ≢ u → r t w ≡ s t w) →
      Loads c (r t) u next → Loads (cut names c) (s t) u next × (r (t + 1) u ≡ s (t + 1) u)
  loads_same t h name u next latch kept others loads =
      let meets = meets_uncut names c single distinct (s t) (is_s.meets t (omega arith)) in
      let low = can_put (s t) name u next false latch meets in
      let high = can_put (s t) name u next true latch meets in
      let l = put_same t name u next latch others false loads.low low.0 loads.low_is low.1 in
      let k = put_same t name u next latch others true loads.high high.0 loads.high_is high.1 in
      let there : Loads (cut names c) (s t) u next = record {
        low = low.0;
        high = high.0;
        low_is = extends_cut names c single distinct u false (s t) low.0 low.1;
        high_is = extends_cut names c single distinct u true (s t) high.0 high.1;
        same = sym l ∙ (loads.same ∙ k);
      } in (
        there,
        loads_low c same n r is_r name u next latch (det name u next latch) t h loads
            ∙ (l ∙ sym (loads_low (cut names c) same n s is_s name u next kept (determined_cut names c single distinct (det name u next latch)) t h there)),
      )

  at_next : (t : ℕ) (u : P) → r (t + 1) u ≡ s (t + 1) u → r (suc t) u ≡ s (suc t) u
  at_next t u e = sym (ap (λ k. r k u) (add-one t)) ∙ (e ∙ ap (λ k. s k u) (add-one t))

  -- a latch that stays has in both runs what it took over
  carried : (t : ℕ) → t + 1 < n → (name : List ℕ) (u next : P) → IsLatch c name u next → IsLatch (cut names c) name u next → r t next ≡ s t next → r (suc t) u ≡ s (suc t) u
  carried t h name u next latch kept e =
      at_next t u
      (All-contains (Carries (r t) (r (t + 1))) c.equations _ (is_r.carries t h) latch ∙ (e ∙ sym (All-contains (Carries (s t) (s (t + 1))) (cut names c).equations _ (is_s.carries t h) kept)))

  at_exposed : (t : ℕ) (name : List ℕ) (u next : P) → t < n → Contains names name → IsLatch c name u next → Marked c (IsEnabled c) r t u → Kept t u
  at_exposed t name u next h there latch mark = (Marked.input (name, cut_exposed names c single distinct name u next latch there), exposed t name u next h there latch mark)

  pub settled_cut : {t : ℕ} {p : P} → Marked c (IsEnabled c) r t p → t < n → Marked (cut names c) (IsEnabled (cut names c)) s t p × (r t p ≡ s t p)
  settled_cut {t} {p} (Marked.input i) h = (Marked.input (i.0, cut_own_input names c single distinct i.0 p i.1), inputs t p h i)
  settled_cut {t} {p} (Marked.gate {fanins = fanins} {cover = cover} eq each) h = (
    Marked.gate (cut_gate names c single distinct p fanins cover eq) (λ q k. (settled_cut (each q k) h).0),
    All-contains (Holds (r t)) c.equations _ (is_r.meets t h) eq
        ∙ (ap (cover_value cover) (map_same (r t) (s t) fanins (λ q k. (settled_cut (each q k) h).1))
        ∙ sym (All-contains (Holds (s t)) c.equations _ (meets_uncut names c single distinct (s t) (is_s.meets t h)) eq)),
  )
  settled_cut {t} {p} (Marked.port {from = from} eq rest) h =
      let ih = settled_cut rest h in (
        Marked.port (cut_port names c single distinct p from eq) ih.0,
        All-contains (Holds (r t)) c.equations _ (is_r.meets t h) eq ∙ (ih.1 ∙ sym (All-contains (Holds (s t)) c.equations _ (meets_uncut names c single distinct (s t) (is_s.meets t h)) eq)),
      )
  settled_cut (Marked.plain {t = t} {name = name} {out = out} {next = next} latch other mark) h = go (is_among names name) refl (settled_cut mark (omega arith))
    where
      go : (b : Bool) → is_among names name ≡ b → Kept t next → Kept (suc t) out
      go true e ih = at_exposed (suc t) name out next h (is_among-sound names name e) latch (Marked.plain latch other mark)
      go false e ih =
          let kept = cut_latch names c single distinct name out next latch e in
          (Marked.plain kept (λ en. other (enabled_uncut names c single distinct out en)) ih.0, carried t (omega arith) name out next latch kept ih.1)
  settled_cut (Marked.loads {t = t} {name = name} {out = out} {next = next} latch en others loads) h = go (is_among names name) refl (λ w cone ne. settled_cut (others w cone ne) (omega arith))
    where
      go : (b : Bool) → is_among names name ≡ b → ((w : P) → InCone c next w → w ≢ out → Kept t w) → Kept (suc t) out
      go true e ih = at_exposed (suc t) name out next h (is_among-sound names name e) latch (Marked.loads latch en others loads)
      go false e ih =
          let kept = cut_latch names c single distinct name out next latch e in
          let there = loads_same t (omega arith) name out next latch kept (λ w cone ne. (ih w cone ne).1) loads in
          (Marked.loads kept (enabled_cut names c single distinct out en name next kept) (λ w cone ne. (ih w (cone_uncut names c single distinct next w cone) ne).0) there.0, at_next t out there.1)
  settled_cut (Marked.keeps {t = t} {name = name} {out = out} {next = next} latch en others mark) h =
      go (is_among names name) refl (λ w cone ne. settled_cut (others w cone ne) (omega arith)) (settled_cut mark (omega arith))
    where
      go : (b : Bool) → is_among names name ≡ b → ((w : P) → InCone c next w → w ≢ out → Kept t w) → Kept t out → Kept (suc t) out
      go true e ih own = at_exposed (suc t) name out next h (is_among-sound names name e) latch (Marked.keeps latch en others mark)
      go false e ih own =
          let kept = cut_latch names c single distinct name out next latch e in
          let next_is : r t next ≡ s t next =
          values_by_cone c (r t) (s t) (is_r.meets t (omega arith)) (meets_uncut names c single distinct (s t) (is_s.meets t (omega arith))) (det name out next latch) at in
          (Marked.keeps kept (enabled_cut names c single distinct out en name next kept) (λ w cone ne. (ih w (cone_uncut names c single distinct next w cone) ne).0) own.0, carried t (omega arith) name out next latch kept next_is)
        where
          at : (w : P) → InCone c next w → r t w ≡ s t w
          at w cone = pick (same w out)
            where
              pick : (w ≡ out) ⊎ (w ≢ out) → r t w ≡ s t w
              pick (inl q) = ap (r t) q ∙ (own.1 ∙ sym (ap (s t) q))
              pick (inr ne) = (ih w cone ne).1
