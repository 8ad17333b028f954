-- The blocks of an inductive partition are equal in every cycle of two reset runs with equal inputs.
use Rattle.std.proofs.Common.{◌≡◌, ◌≢◌, ℕ, zero, suc, ◌+◌, ◌<◌, Bool, List, ◌++◌, length, map, sym, ◌∙◌, ap, arith, add-one, inl, inr}
use Rattle.std.specs.Prelude.{◌⊎◌}
use Rattle.std.specs.List.{Contains}
use Rattle.std.proofs.lemmas.List.Elements.{All-contains, Contains-append_cases}
use Rattle.circuit_theory.specs.Circuit.{Circuit, Started, IsLatch, Carries, Meets}
use Rattle.circuit_theory.specs.Run.{IsRun, EqualInputs, IsResetRun}
use Rattle.circuit_theory.specs.Tree.{IsInputNumber, AreNumbered}
use Rattle.circuit_theory.specs.Joined.{Either, Left, Right, moved_start, joined, beside}
use Rattle.circuit_theory.specs.Blocks.{IsConstantOn, IsInductive}
use Rattle.circuit_theory.proofs.Lists.{Contains-map_from}
use Rattle.circuit_laws.proofs.Joined.{run_joined}
use Rattle.circuit_laws.proofs.JoinedParts.{joined_same, joined_number}
use Rattle.circuit_laws.specs.reset_laws.induct_laws.Laws.{BlocksStayEqual, EqualOverBlocksAgree}

module _ (a b : Circuit ℕ) (left right : List ℕ) (block : Either ℕ ℕ → ℕ) (numbered : AreNumbered a b left right) (left_long : length left ≡ length a.inputs) (inductive : IsInductive (joined a b) (left ++ right) block)
    (n : ℕ) (l r : ℕ → ℕ → Bool) (left_run : IsResetRun a n l) (right_run : IsResetRun b n r) (equal : EqualInputs a b n l r) where
  abbrev whole : Circuit (Either ℕ ℕ)
  whole = joined a b

  abbrev run : ℕ → Either ℕ ℕ → Bool
  run t = beside (l t) (r t)

  is_run : IsRun whole n run
  is_run = run_joined a b n l r left_run.is_run right_run.is_run

  -- inputs of one number have one value
  number_same : (t : ℕ) → t < n → (x y : Either ℕ ℕ) (i : ℕ) → IsInputNumber whole (left ++ right) x i → IsInputNumber whole (left ++ right) y i → run t x ≡ run t y
  number_same t h x y i hx hy = go (joined_number a b left right left_long x i hx) (joined_number a b left right left_long y i hy)
    where
      Of : Either ℕ ℕ → Type 0
      Of z = ((p : ℕ) × (Left p ≡ z) × IsInputNumber a left p i) ⊎ ((q : ℕ) × (Right q ≡ z) × IsInputNumber b right q i)

      across : (p q : ℕ) → IsInputNumber a left p i → IsInputNumber b right q i → l t p ≡ r t q
      across p q hp hq = let name = numbered.shared p q i hp hq in equal name.0 p q name.1 name.2 t h

      go : Of x → Of y → run t x ≡ run t y
      go (inl p) (inl q) = ap (run t) (sym p.1) ∙ (ap (l t) (numbered.left_once p.0 q.0 i p.2 q.2) ∙ ap (run t) q.1)
      go (inl p) (inr q) = ap (run t) (sym p.1) ∙ (across p.0 q.0 p.2 q.2 ∙ ap (run t) q.1)
      go (inr p) (inl q) = ap (run t) (sym p.1) ∙ (sym (across q.0 p.0 q.2 p.2) ∙ ap (run t) q.1)
      go (inr p) (inr q) = ap (run t) (sym p.1) ∙ (ap (r t) (numbered.right_once p.0 q.0 i p.2 q.2) ∙ ap (run t) q.1)

  -- a latch with an initial value has it in cycle 0
  starts_with : (u : Either ℕ ℕ) (bit : Bool) → Contains whole.starts (record { place = u; bit = bit }) → run 0 u ≡ bit
  starts_with u bit h = go (Contains-append_cases _ _ _ h)
    where
      place_of : Started (Either ℕ ℕ) → Either ℕ ℕ
      place_of s = s.place

      go : Contains (map (moved_start Left) a.starts) (record { place = u; bit = bit }) ⊎ Contains (map (moved_start Right) b.starts) (record { place = u; bit = bit }) → run 0 u ≡ bit
      go (inl k) =
          let s = Contains-map_from (moved_start Left) a.starts _ k in
          ap (run 0) (sym (ap (λ (z : Started (Either ℕ ℕ)). z.place) s.2)) ∙ (left_run.starts s.0.place s.0.bit s.1 ∙ ap (λ (z : Started (Either ℕ ℕ)). z.bit) s.2)
      go (inr k) =
          let s = Contains-map_from (moved_start Right) b.starts _ k in
          ap (run 0) (sym (ap (λ (z : Started (Either ℕ ℕ)). z.place) s.2)) ∙ (right_run.starts s.0.place s.0.bit s.1 ∙ ap (λ (z : Started (Either ℕ ℕ)). z.bit) s.2)

  AreEqualIn : ℕ → Type 0
  AreEqualIn t = (name name' : List ℕ) (u next v next' : Either ℕ ℕ) → IsLatch whole name u next → IsLatch whole name' v next' → block u ≡ block v → run t u ≡ run t v

  constant_in : (t : ℕ) → t < n → AreEqualIn t → IsConstantOn whole (left ++ right) block (run t)
  unfolding AreEqualIn
  constant_in t h same = record { inputs = λ p q i x y. number_same t h p q i x y; latches = same }

  carried : (t : ℕ) → suc t < n → (name : List ℕ) (u next : Either ℕ ℕ) → IsLatch whole name u next → run (suc t) u ≡ run t next
  carried t h name u next latch = sym (ap (λ k. run k u) (add-one t)) ∙ All-contains (Carries (run t) (run (t + 1))) whole.equations _ (is_run.carries t (omega arith)) latch

  equal_in : (t : ℕ) → t < n → AreEqualIn t
  unfolding AreEqualIn
  equal_in zero h name name' u next v next' x y e = go (joined_same u v)
    where
      go : (u ≡ v) ⊎ (u ≢ v) → run 0 u ≡ run 0 v
      go (inl q) = ap (run 0) q
      go (inr apart) = let s = inductive.starts name name' u next v next' x y apart e in starts_with u s.0 s.1 ∙ sym (starts_with v s.0 s.2)
  equal_in (suc t) h name name' u next v next' x y e =
      carried t h name u next x ∙ (inductive.steps (run t) (is_run.meets t (omega arith)) (constant_in t (omega arith) (equal_in t (omega arith))) name name' u next v next' x y e ∙ sym (carried t h name' v next' y))

  pub constant_in_runs : (t : ℕ) → t < n → IsConstantOn whole (left ++ right) block (run t)
  constant_in_runs t h = constant_in t h (equal_in t h)

  pub meets_in_runs : (t : ℕ) → t < n → Meets whole (run t)
  meets_in_runs t h = is_run.meets t h

pub blocks_stay_equal : BlocksStayEqual
blocks_stay_equal a b left right block numbered long inductive n l r alike name name' u next v next' x y e t h =
    (constant_in_runs a b left right block numbered long inductive n l r alike.left_run alike.right_run alike.equal_inputs t h).latches name name' u next v next' x y e

pub equal_over_blocks_agree : EqualOverBlocksAgree
equal_over_blocks_agree a b left right block numbered long inductive same n l r alike t p q h pair =
    same p q pair (beside (l t) (r t)) (meets_in_runs a b left right block numbered long inductive n l r alike.left_run alike.right_run alike.equal_inputs t h)
    (constant_in_runs a b left right block numbered long inductive n l r alike.left_run alike.right_run alike.equal_inputs t h)
