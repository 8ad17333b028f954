-- A latch that loads takes over one value whatever it holds, and an enabled one that doesn't keeps its value; loading as "there are
-- values" is loading as "for all values".
use Rattle.std.proofs.Common.{◌≡◌, ◌≢◌, ℕ, ◌+◌, ◌<◌, Bool, true, false, List, refl, sym, ◌∙◌, ap, arith, inl, inr}
use Rattle.std.specs.Prelude.{◌⊎◌}
use Rattle.std.proofs.lemmas.List.Elements.{All-contains}
use Rattle.circuit_theory.specs.Cover.{cover_value}
use Rattle.circuit_theory.specs.Circuit.{Circuit, IsLatch, Meets, Carries, Holds}
use Rattle.circuit_theory.specs.Run.{IsRun, ExtendsWith, Loads, CanPut, IsDetermined}
use Rattle.circuit_theory.proofs.Lists.{map_same}

module _ {P : Type 0} (c : Circuit P) (same : (p q : P) → (p ≡ q) ⊎ (p ≢ q)) where
  -- with a latch put to a bit there is one value of each place that ends at inputs and latches
  pub put_unique : (u : P) (bit : Bool) (x y z : P → Bool) → ExtendsWith c u bit x y → ExtendsWith c u bit x z → {p : P} → IsDetermined c p → y p ≡ z p
  put_unique u bit x y z ey ez {p} (IsDetermined.source s) = go (same p u)
    where
      go : (p ≡ u) ⊎ (p ≢ u) → y p ≡ z p
      go (inl e) = ap y e ∙ (ey.put ∙ (sym ez.put ∙ sym (ap z e)))
      go (inr n) = ey.sources p s n ∙ sym (ez.sources p s n)
  put_unique u bit x y z ey ez (IsDetermined.gate {fanins = fanins} {cover = cover} eq each) =
      All-contains (Holds y) c.equations _ ey.meets eq
      ∙ (ap (cover_value cover) (map_same y z fanins (λ p h. put_unique u bit x y z ey ez (each p h))) ∙ sym (All-contains (Holds z) c.equations _ ez.meets eq))
  put_unique u bit x y z ey ez (IsDetermined.port eq from) =
      All-contains (Holds y) c.equations _ ey.meets eq ∙ (put_unique u bit x y z ey ez from ∙ sym (All-contains (Holds z) c.equations _ ez.meets eq))

  module _ (n : ℕ) (run : ℕ → P → Bool) (is_run : IsRun c n run) (name : List ℕ) (u next : P) (latch : IsLatch c name u next) (det : IsDetermined c next) where
    -- the run's own values, as values with the latch put to what it has
    own : (t : ℕ) (bit : Bool) → t < n → run t u ≡ bit → ExtendsWith c u bit (run t) (run t)
    own t bit h e = record { meets = is_run.meets t h; sources = λ p s k. refl; put = e }

    after : (t : ℕ) → t + 1 < n → run (t + 1) u ≡ run t next
    after t h = All-contains (Carries (run t) (run (t + 1))) c.equations _ (is_run.carries t h) latch

    pub loads_low : (t : ℕ) → t + 1 < n → (loads : Loads c (run t) u next) → run (t + 1) u ≡ loads.low next
    loads_low t h loads = after t h ∙ go (run t u) refl
      where
        go : (b : Bool) → run t u ≡ b → run t next ≡ loads.low next
        go false e = put_unique u false (run t) (run t) loads.low (own t false (omega arith) e) loads.low_is det
        go true e = put_unique u true (run t) (run t) loads.high (own t true (omega arith) e) loads.high_is det ∙ sym loads.same

    pub keeps_value : CanPut c → ((x low high : P → Bool) → ExtendsWith c u false x low → ExtendsWith c u true x high → low next ≡ true → high next ≡ true) →
        (t : ℕ) → t + 1 < n → (Loads c (run t) u next → ⊥) → run (t + 1) u ≡ run t u
    keeps_value can_put rises t h none =
        let l = can_put (run t) name u next false latch (is_run.meets t (omega arith)) in
        let r = can_put (run t) name u next true latch (is_run.meets t (omega arith)) in
        after t h ∙ go l r (l.0 next) (r.0 next) refl refl (run t u) refl
      where
        go : (l : (y : P → Bool) × ExtendsWith c u false (run t) y) (r : (y : P → Bool) × ExtendsWith c u true (run t) y) → (b d : Bool) → l.0 next ≡ b → r.0 next ≡ d → (e : Bool) → run t u ≡ e → run t next ≡ run t u
        go l r true d p q e w = absurd (none (record { low = l.0; high = r.0; low_is = l.1; high_is = r.1; same = p ∙ sym (rises (run t) l.0 r.0 l.1 r.1 p) }))
        go l r false false p q e w = absurd (none (record { low = l.0; high = r.0; low_is = l.1; high_is = r.1; same = p ∙ sym q }))
        go l r false true p q false w = put_unique u false (run t) (run t) l.0 (own t false (omega arith) w) l.1 det ∙ (p ∙ sym w)
        go l r false true p q true w = put_unique u true (run t) (run t) r.0 (own t true (omega arith) w) r.1 det ∙ (q ∙ sym w)

module _ {P : Type 0} (c : Circuit P) (same : (p q : P) → (p ≡ q) ⊎ (p ≢ q)) (can_put : CanPut c) (name : List ℕ) (u next : P) (latch : IsLatch c name u next) (det : IsDetermined c next) (x : P → Bool) where
  pub all_load : Loads c x u next → (low high : P → Bool) → ExtendsWith c u false x low → ExtendsWith c u true x high → low next ≡ high next
  all_load loads low high l h = put_unique c same u false x low loads.low l loads.low_is det ∙ (loads.same ∙ put_unique c same u true x loads.high high loads.high_is h det)

  pub loads_all : Meets c x → ((low high : P → Bool) → ExtendsWith c u false x low → ExtendsWith c u true x high → low next ≡ high next) → Loads c x u next
  loads_all meets all =
      let l = can_put x name u next false latch meets in
      let h = can_put x name u next true latch meets in
      record { low = l.0; high = h.0; low_is = l.1; high_is = h.1; same = all l.0 h.0 l.1 h.1 }
