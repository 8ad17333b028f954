-- The examples.
use Rattle.std.proofs.Common.{◌≡◌, ℕ, Bool, true, false, List, [], ◌∷◌, refl, sym, ap, subst, arith, inl, inr, Some, None}
use Rattle.std.specs.Prelude.{◌⊎◌}
use Rattle.std.specs.List.{Contains}
use Rattle.circuit_theory.specs.Cover.{cover_value}
use Rattle.circuit_theory.specs.Circuit.{Equation, Gate, Latch, Port, Started, IsLatch}
use Rattle.circuit_theory.proofs.Lists.{Contains-cases, only}
use Rattle.circuit_laws.specs.start_laws.Known.{Completes, IsKnown, AreKnown, AreStartsAfter}
use Rattle.circuit_laws.specs.start_laws.Samples.{neither, resettable, reset_row, either_way, ResetIsKnown, CoversAreNotExact}
use Rattle.circuit_laws.proofs.start_laws.Covers.{cover_forces}
use Rattle.circuit_laws.proofs.start_laws.Knowing.{tail_run}

latch_is : IsLatch resettable (117 ∷ []) 1 2
latch_is = (0, omega arith, refl)

gate_is : Contains resettable.equations (Gate 2 (0 ∷ 1 ∷ []) neither)
gate_is = (1, omega arith, refl)

zero_known : IsKnown resettable (0 ∷ []) reset_row 1 1 false
zero_known =
    IsKnown.later {t = 0} latch_is
    (IsKnown.gate (Some true ∷ None ∷ []) gate_is (AreKnown.known (IsKnown.input 0 (inl (refl, refl)) refl) (AreKnown.unknown AreKnown.none)) (cover_forces neither (Some true ∷ None ∷ []) false refl))

starts_known : AreStartsAfter resettable (0 ∷ []) reset_row (record { place = 1; bit = false } ∷ [])
starts_known u bit h =
    let e = only _ _ h in
    subst (λ (s : Started ℕ). IsKnown resettable (0 ∷ []) reset_row 1 s.place s.bit) e zero_known

-- what drives the third place
driven_so : (e : Equation ℕ) → Contains resettable.equations e → (e ≡ Latch (117 ∷ []) 1 2) ⊎ ((e ≡ Gate 2 (0 ∷ 1 ∷ []) neither) ⊎ (e ≡ Latch (118 ∷ []) 3 3))
driven_so e h = first (Contains-cases (Latch (117 ∷ []) 1 2) e (Gate 2 (0 ∷ 1 ∷ []) neither ∷ Latch (118 ∷ []) 3 3 ∷ []) h)
  where
    third : (Latch (118 ∷ []) 3 3 ≡ e) ⊎ Contains [] e → (e ≡ Latch (117 ∷ []) 1 2) ⊎ ((e ≡ Gate 2 (0 ∷ 1 ∷ []) neither) ⊎ (e ≡ Latch (118 ∷ []) 3 3))
    third (inl q) = inr (inr (sym q))
    third (inr k) = absurd (omega (arith, k.1))

    second : (Gate 2 (0 ∷ 1 ∷ []) neither ≡ e) ⊎ Contains (Latch (118 ∷ []) 3 3 ∷ []) e → (e ≡ Latch (117 ∷ []) 1 2) ⊎ ((e ≡ Gate 2 (0 ∷ 1 ∷ []) neither) ⊎ (e ≡ Latch (118 ∷ []) 3 3))
    second (inl q) = inr (inl (sym q))
    second (inr k) = third (Contains-cases (Latch (118 ∷ []) 3 3) e [] k)

    first : (Latch (117 ∷ []) 1 2 ≡ e) ⊎ Contains (Gate 2 (0 ∷ 1 ∷ []) neither ∷ Latch (118 ∷ []) 3 3 ∷ []) e → (e ≡ Latch (117 ∷ []) 1 2) ⊎ ((e ≡ Gate 2 (0 ∷ 1 ∷ []) neither) ⊎ (e ≡ Latch (118 ∷ []) 3 3))
    first (inl q) = inl (sym q)
    first (inr k) = second (Contains-cases (Gate 2 (0 ∷ 1 ∷ []) neither) e (Latch (118 ∷ []) 3 3 ∷ []) k)

-- a latch that keeps its value is never known
kept_unknown : {t p : ℕ} {bit : Bool} → IsKnown resettable (0 ∷ []) reset_row t p bit → p ≡ 3 → ⊥
kept_unknown {t} {p} (IsKnown.input i h e) q = go h
  where
    go : ((0 ≡ p) × (0 ≡ i)) ⊎ ⊥ → ⊥
    go (inl x) = omega (arith, x.0, q)
    go (inr x) = x
kept_unknown (IsKnown.gate {out = out} {fanins = fanins} {cover = cover} ks eq each forces) q = go (driven_so (Gate out fanins cover) eq)
  where
    go : (Gate out fanins cover ≡ Latch (117 ∷ []) 1 2) ⊎ ((Gate out fanins cover ≡ Gate 2 (0 ∷ 1 ∷ []) neither) ⊎ (Gate out fanins cover ≡ Latch (118 ∷ []) 3 3)) → ⊥
    go (inl e) = cc
    go (inr (inl e)) = let two : out ≡ 2 = ap place e in omega (arith, two, q)
      where
        place : Equation ℕ → ℕ
        place (Gate o f c) = o
        place other = 2
    go (inr (inr e)) = cc
kept_unknown (IsKnown.port {out = out} {from = from} eq rest) q = go (driven_so (Port out from) eq)
  where
    go : (Port out from ≡ Latch (117 ∷ []) 1 2) ⊎ ((Port out from ≡ Gate 2 (0 ∷ 1 ∷ []) neither) ⊎ (Port out from ≡ Latch (118 ∷ []) 3 3)) → ⊥
    go (inl e) = cc
    go (inr (inl e)) = cc
    go (inr (inr e)) = cc
kept_unknown (IsKnown.later {name = name} {out = out} {next = next} eq rest) q = go (driven_so (Latch name out next) eq) (λ e. kept_unknown rest e)
  where
    out_is : Equation ℕ → ℕ
    out_is (Latch n o x) = o
    out_is other = 1

    next_is : Equation ℕ → ℕ
    next_is (Latch n o x) = x
    next_is other = 1

    go : (Latch name out next ≡ Latch (117 ∷ []) 1 2) ⊎ ((Latch name out next ≡ Gate 2 (0 ∷ 1 ∷ []) neither) ⊎ (Latch name out next ≡ Latch (118 ∷ []) 3 3)) → (next ≡ 3 → ⊥) → ⊥
    go (inl e) later = let one : out ≡ 1 = ap out_is e in omega (arith, one, q)
    go (inr (inl e)) later = cc
    go (inr (inr e)) later = later (ap next_is e)

pub reset_is_known : ResetIsKnown
reset_is_known = (
  starts_known,
  λ t bit known. kept_unknown known refl,
  λ n m run is_run begins some le. tail_run resettable (0 ∷ []) reset_row (record { place = 1; bit = false } ∷ []) starts_known n m run is_run begins some le,
)

pub covers_are_not_exact : CoversAreNotExact
unfolding cover_value
covers_are_not_exact = (forced, refl)
  where
    forced : (bits : List Bool) → Completes (None ∷ []) bits → cover_value either_way bits ≡ true
    forced [] h = absurd h
    forced (true ∷ []) h = refl
    forced (false ∷ []) h = refl
    forced (b ∷ c ∷ bits) h = absurd h.1
