-- In a class map, latches of one class have equal enables, and those of class 0 are always enabled.
use Rattle.std.proofs.Common.{◌≡◌, ℕ, zero, suc, ◌<◌, ◌≤◌, max, List, [], ◌∷◌, ◌++◌, sym, ◌∙◌, ap, subst, arith, inl, inr, Some, slice_get}
use Rattle.std.specs.Prelude.{◌⊎◌}
use Rattle.std.specs.List.{Contains, fold}
use Rattle.circuit_theory.specs.Run.{IsEnabled}
use Rattle.circuit_theory.specs.Frame.{EventSide}
use Rattle.circuit_theory.specs.Classes.{EnablesEqual, AlwaysEnabled, EqualsMembers, classes_of, HasClasses}
use Rattle.circuit_theory.proofs.Lists.{Contains-head, Contains-tail, Contains-cases, at_of}

-- a list around one of its places
pub record IsSplit {X : Type 0} (xs : List X) (i : ℕ) (x : X) : Type 0 where
  pub before : List X
  pub after : List X
  pub split : xs ≡ before ++ x ∷ after
  pub earlier : (j : ℕ) (y : X) → j < i → slice_get xs j ≡ Some y → Contains before y

pub split_at : {X : Type 0} (xs : List X) (i : ℕ) (x : X) → slice_get xs i ≡ Some x → IsSplit xs i x
split_at [] i x h = absurd (nothing i h)
  where
    nothing : (i : ℕ) → slice_get [] i ≡ Some x → ⊥
    nothing zero q = cc
    nothing (suc i) q = cc
split_at (y ∷ xs) zero x h = record { before = []; after = xs; split = ap (λ z. z ∷ xs) (unwrap h); earlier = λ j z l e. absurd (omega arith) }
  where
    unwrap : Some y ≡ Some x → y ≡ x
    unwrap q = cc
split_at {X} (y ∷ xs) (suc i) x h = go (split_at xs i x h)
  where
    go : IsSplit xs i x → IsSplit (y ∷ xs) (suc i) x
    go s = record { before = y ∷ s.before; after = s.after; split = ap (λ zs. y ∷ zs) s.split; earlier = earlier }
      where
        unwrap : {a b : X} → Some a ≡ Some b → a ≡ b
        unwrap q = cc

        earlier : (j : ℕ) (z : X) → j < suc i → slice_get (y ∷ xs) j ≡ Some z → Contains (y ∷ s.before) z
        earlier zero z l e = subst (Contains (y ∷ s.before)) (unwrap e) (Contains-head y s.before)
        earlier (suc j) z l e = Contains-tail y z s.before (s.earlier j z (omega arith) e)

fold_low : {X : Type 0} (g : X → ℕ) (n : ℕ) (xs : List X) → n ≤ fold (λ m u. max m (g u)) n xs
fold_low g n [] = omega arith
fold_low g n (x ∷ xs) = let h = fold_low g (max n (g x)) xs in omega arith

pub fold_each : {X : Type 0} (g : X → ℕ) (n : ℕ) (xs : List X) (u : X) → Contains xs u → g u ≤ fold (λ m u. max m (g u)) n xs
fold_each g n [] u h = absurd (omega (arith, h.1))
fold_each {X} g n (x ∷ xs) u h = go (Contains-cases x u xs h) (λ k. fold_each g (max n (g x)) xs u k)
  where
    go : (x ≡ u) ⊎ Contains xs u → (Contains xs u → g u ≤ fold (λ m u. max m (g u)) (max n (g x)) xs) → g u ≤ fold (λ m u. max m (g u)) (max n (g x)) xs
    go (inl e) later = let l = fold_low g (max n (g x)) xs in let same : g x ≡ g u = ap g e in omega arith
    go (inr k) later = later k

module _ {P : Type 0} (s : EventSide P) (classes : HasClasses s) (itself : (u : P) → EnablesEqual s u u) where
  -- an earlier member of the class has the same enable
  earlier_equal : (u v : P) (k i j : ℕ) → slice_get classes.order i ≡ Some u → slice_get classes.order j ≡ Some v → i < j → s.class u ≡ suc k → s.class v ≡ suc k → EnablesEqual s u v
  earlier_equal u v k i j hu hv l cu cv =
      let parts = split_at classes.order j v hv in
      let first = classes.is_map.each parts.before parts.after v parts.split in
      let inside = parts.earlier i u l hu in
      let low : s.class u ≤ classes_of s parts.before = fold_each s.class 0 parts.before u inside in
      let members = first.joins (omega (arith, cu, cv, low)) in
      of_members parts.before (subst (λ n. EqualsMembers s parts.before n v) cv members) inside
    where
      of_members : (before : List P) → EqualsMembers s before (suc k) v → Contains before u → EnablesEqual s u v
      of_members before members inside = members u inside cu

  flipped : (u v : P) → EnablesEqual s u v → EnablesEqual s v u
  flipped u v equal bits x y cx cy ax ay = sym (equal bits y x cy cx ay ax)

  pub class_equal : (u v : P) (k : ℕ) → IsEnabled s.circuit u → IsEnabled s.circuit v → s.class u ≡ suc k → s.class v ≡ suc k → EnablesEqual s u v
  class_equal u v k eu ev cu cv =
      let hu = at_of classes.order u (classes.is_order.all u eu) in
      let hv = at_of classes.order v (classes.is_order.all v ev) in
      go hu.0 hv.0 hu.1 hv.1 (compare hu.0 hv.0)
    where
      compare : (i j : ℕ) → (i ≡ j) ⊎ ((i < j) ⊎ (j < i))
      compare i j = grind arith

      unwrap : {a b : P} → Some a ≡ Some b → a ≡ b
      unwrap q = cc

      go : (i j : ℕ) → slice_get classes.order i ≡ Some u → slice_get classes.order j ≡ Some v → (i ≡ j) ⊎ ((i < j) ⊎ (j < i)) → EnablesEqual s u v
      go i j hu hv (inl e) = subst (EnablesEqual s u) (unwrap (sym hu ∙ (ap (slice_get classes.order) e ∙ hv))) (itself u)
      go i j hu hv (inr (inl l)) = earlier_equal u v k i j hu hv l cu cv
      go i j hu hv (inr (inr l)) = flipped v u (earlier_equal v u k j i hv hu l cv cu)

  pub class_always : (u : P) → IsEnabled s.circuit u → s.class u ≡ 0 → AlwaysEnabled s u
  class_always u eu cu =
      let h = at_of classes.order u (classes.is_order.all u eu) in
      let parts = split_at classes.order h.0 u h.1 in
      let first = classes.is_map.each parts.before parts.after u parts.split in
      subst (λ n. EqualsMembers s parts.before n u) cu (first.joins (omega (arith, cu)))
