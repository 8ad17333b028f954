-- An inductive invariant holds in every cycle of two reset runs with equal inputs.
use Rattle.std.proofs.Common.{◌≡◌, ℕ, zero, suc, ◌+◌, ◌<◌, Bool, List, ◌++◌, length, map, sym, ◌∙◌, ap, subst, arith, add-one, inl, inr}
use Rattle.std.specs.Prelude.{◌⊎◌}
use Rattle.std.specs.List.{All, Contains}
use Rattle.std.proofs.lemmas.List.Elements.{Contains-append_cases}
use Rattle.circuit_theory.specs.Circuit.{Circuit, Started, Carries}
use Rattle.circuit_theory.specs.Run.{IsRun, EqualInputs, IsResetRun}
use Rattle.circuit_theory.specs.Tree.{IsInputNumber, AreNumbered}
use Rattle.circuit_theory.specs.Joined.{Either, Left, Right, moved_start, joined, beside}
use Rattle.circuit_theory.proofs.Lists.{Contains-map_from}
use Rattle.circuit_laws.proofs.Joined.{run_joined}
use Rattle.circuit_laws.proofs.JoinedParts.{joined_number}
use Rattle.circuit_laws.specs.signal_laws.Ties.{AreTied}
use Rattle.circuit_laws.specs.signal_laws.Invariants.{IsCycle, IsInductiveInvariant}
use Rattle.circuit_laws.specs.signal_laws.Laws.{TiesHold, TiedOutputsAgree}

module _ (a b : Circuit ℕ) (left right : List ℕ) (numbered : AreNumbered a b left right) (left_long : length left ≡ length a.inputs)
    (n : ℕ) (l r : ℕ → ℕ → Bool) (left_run : IsResetRun a n l) (right_run : IsResetRun b n r) (equal : EqualInputs a b n l r) where
  abbrev whole : Circuit (Either ℕ ℕ)
  whole = joined a b

  abbrev run : ℕ → Either ℕ ℕ → Bool
  run t = beside (l t) (r t)

  is_run : IsRun whole n run
  is_run = run_joined a b n l r left_run.is_run right_run.is_run

  -- inputs of one number have one value
  number_same : (t : ℕ) → t < n → (x y : Either ℕ ℕ) (i : ℕ) → IsInputNumber whole (left ++ right) x i → IsInputNumber whole (left ++ right) y i → run t x ≡ run t y
  number_same t h x y i hx hy = go (joined_number a b left right left_long x i hx) (joined_number a b left right left_long y i hy)
    where
      Of : Either ℕ ℕ → Type 0
      Of z = ((p : ℕ) × (Left p ≡ z) × IsInputNumber a left p i) ⊎ ((q : ℕ) × (Right q ≡ z) × IsInputNumber b right q i)

      across : (p q : ℕ) → IsInputNumber a left p i → IsInputNumber b right q i → l t p ≡ r t q
      across p q hp hq = let name = numbered.shared p q i hp hq in equal name.0 p q name.1 name.2 t h

      go : Of x → Of y → run t x ≡ run t y
      go (inl p) (inl q) = ap (run t) (sym p.1) ∙ (ap (l t) (numbered.left_once p.0 q.0 i p.2 q.2) ∙ ap (run t) q.1)
      go (inl p) (inr q) = ap (run t) (sym p.1) ∙ (across p.0 q.0 p.2 q.2 ∙ ap (run t) q.1)
      go (inr p) (inl q) = ap (run t) (sym p.1) ∙ (sym (across q.0 p.0 q.2 p.2) ∙ ap (run t) q.1)
      go (inr p) (inr q) = ap (run t) (sym p.1) ∙ (ap (r t) (numbered.right_once p.0 q.0 i p.2 q.2) ∙ ap (run t) q.1)

  -- a latch with an initial value has it in cycle 0
  starts_with : (u : Either ℕ ℕ) (bit : Bool) → Contains whole.starts (record { place = u; bit = bit }) → run 0 u ≡ bit
  starts_with u bit h = go (Contains-append_cases _ _ _ h)
    where
      go : Contains (map (moved_start Left) a.starts) (record { place = u; bit = bit }) ⊎ Contains (map (moved_start Right) b.starts) (record { place = u; bit = bit }) → run 0 u ≡ bit
      go (inl k) =
          let s = Contains-map_from (moved_start Left) a.starts _ k in
          ap (run 0) (sym (ap (λ (z : Started (Either ℕ ℕ)). z.place) s.2)) ∙ (left_run.starts s.0.place s.0.bit s.1 ∙ ap (λ (z : Started (Either ℕ ℕ)). z.bit) s.2)
      go (inr k) =
          let s = Contains-map_from (moved_start Right) b.starts _ k in
          ap (run 0) (sym (ap (λ (z : Started (Either ℕ ℕ)). z.place) s.2)) ∙ (right_run.starts s.0.place s.0.bit s.1 ∙ ap (λ (z : Started (Either ℕ ℕ)). z.bit) s.2)

  cycle_in : (t : ℕ) → t < n → IsCycle whole (left ++ right) (run t)
  cycle_in t h = record { meets = is_run.meets t h; inputs = λ p q i x y. number_same t h p q i x y }

  pub holds_in : (good : (Either ℕ ℕ → Bool) → Type 0) → IsInductiveInvariant whole (left ++ right) good → (t : ℕ) → t < n → good (run t)
  holds_in good inductive zero h = inductive.begins (run 0) (record { cycle = cycle_in 0 h; starts = starts_with })
  holds_in good inductive (suc t) h =
      inductive.steps (run t) (run (suc t))
      (record {
        now = cycle_in t (omega arith);
        next = cycle_in (suc t) h;
        carries = subst (λ (s : ℕ). All (Carries (run t) (run s)) whole.equations) (add-one t) (is_run.carries t (omega arith));
      })
      (holds_in good inductive t (omega arith))

pub ties_hold : TiesHold
ties_hold a b left right size anchors numbered long inductive n l r alike t h =
    holds_in a b left right numbered long n l r alike.left_run alike.right_run alike.equal_inputs (AreTied size anchors) inductive t h

pub tied_outputs_agree : TiedOutputsAgree
tied_outputs_agree a b left right size anchors numbered long inductive gives n l r alike t p q h pair =
    gives (beside (l t) (r t)) (ties_hold a b left right size anchors numbered long inductive n l r alike t h) p q pair
