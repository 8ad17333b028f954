-- A latch whose enable and care are those of one that was taken before has its class as first fit.
use Rattle.std.proofs.Common.{◌≡◌, ◌∙◌, ℕ, zero, suc, ◌<◌, ◌≤◌, false, List, [], ◌∷◌, ◌++◌, refl, sym, ap, subst, arith, inl, inr, Some, slice_get}
use Rattle.std.specs.Prelude.{◌⊎◌}
use Rattle.std.specs.List.{Contains}
use Rattle.std.proofs.lemmas.List.Elements.{Contains-append_left}
use Rattle.circuit_theory.specs.Run.{IsEnabled}
use Rattle.circuit_theory.specs.Joined.{joined}
use Rattle.circuit_theory.proofs.Lists.{at_of}
use Rattle.circuit_laws.proofs.JoinedParts.{joined_single, joined_number_once}
use Rattle.circuit_theory.specs.Frame.{EventSide}
use Rattle.circuit_theory.specs.Classes.{EnablesEqual, AlwaysEnabled, EqualsMembers, DiffersFromMember, classes_of, IsInFirstClass}
use Rattle.circuit_theory.specs.EventFits.{side_by_side}
use Rattle.circuit_laws.specs.event_laws.ClassSteps.{IsFirstFit, HaveTwinEnables, TwinsFitOneClass}
use Rattle.circuit_laws.proofs.event_laws.ClassMaps.{IsSplit, split_at, fold_each}
use Rattle.circuit_laws.proofs.event_laws.EventTrees.{one_enable}

module _ {P : Type 0} (s : EventSide P) (itself : (u : P) → EnablesEqual s u u) (taken : List P) (each : (before after : List P) (u : P) → taken ≡ before ++ u ∷ after → IsInFirstClass s before u) (v w : P) (twins : HaveTwinEnables s v w)
    (there : Contains taken w) where
  i : (n : ℕ) × (slice_get taken n ≡ Some w)
  i = at_of taken w there

  parts : IsSplit taken i.0 w
  parts = split_at taken i.0 w i.1

  first : IsInFirstClass s parts.before w
  first = each parts.before parts.after w parts.split

  inside : (u : P) → Contains parts.before u → Contains taken u
  inside u h = subst (λ zs. Contains zs u) (sym parts.split) (Contains-append_left parts.before (w ∷ parts.after) u h)

  compare : (m n : ℕ) → (m ≡ n) ⊎ ((m < n) ⊎ (n < m))
  compare m n = grind arith

  unwrap : {a b : P} → Some a ≡ Some b → a ≡ b
  unwrap q = cc

  flipped : (u t : P) → EnablesEqual s u t → EnablesEqual s t u
  flipped u t equal = λ bits x y cx cy ax ay. sym (equal bits y x cy cx ay ax)

  -- each member of the class has the enable of the twin
  own : (k : ℕ) → s.class w ≡ suc k → (u : P) → Contains taken u → s.class u ≡ suc k → EnablesEqual s u w
  own k c u h class = go (compare j.0 i.0)
    where
      j : (n : ℕ) × (slice_get taken n ≡ Some u)
      j = at_of taken u h

      go : (j.0 ≡ i.0) ⊎ ((j.0 < i.0) ⊎ (i.0 < j.0)) → EnablesEqual s u w
      go (inl e) = subst (EnablesEqual s u) (unwrap (sym j.1 ∙ (ap (slice_get taken) e ∙ i.1))) (itself u)
      go (inr (inl l)) =
          let among = parts.earlier j.0 u l j.1 in
          let low : s.class u ≤ classes_of s parts.before = fold_each s.class 0 parts.before u among in
          let equal : EqualsMembers s parts.before (suc k) w = subst (λ n. EqualsMembers s parts.before n w) c (first.joins (omega (arith, c, class, low))) in
          equal u among class
      go (inr (inr l)) =
          let other = split_at taken j.0 u j.1 in
          let among = other.earlier i.0 w l i.1 in
          let low : s.class w ≤ classes_of s other.before = fold_each s.class 0 other.before w among in
          let joined_there = each other.before other.after u other.split in
          let equal : EqualsMembers s other.before (suc k) u = subst (λ n. EqualsMembers s other.before n u) class (joined_there.joins (omega (arith, c, class, low))) in
          flipped w u (equal w among c)

  equals : (k : ℕ) → s.class w ≡ k → EqualsMembers s taken k v
  equals zero c = λ bits x care at. always bits x (twins.care_to bits care) (twins.to bits x care at)
    where
      always : AlwaysEnabled s w
      always = subst (λ n. EqualsMembers s parts.before n w) c (first.joins (omega (arith, c)))
  equals (suc k) c = λ u h class bits x y cu cv au av. own k c u h class bits x y cu (twins.care_to bits cv) au (twins.to bits y cv av)

  -- what tells the twin from an earlier class tells the latch from it
  apart : (k : ℕ) → DiffersFromMember s parts.before k w → DiffersFromMember s taken k v
  apart zero off = record { bits = off.bits; care = twins.care_back off.bits off.care; off = twins.back off.bits false off.care off.off }
  apart (suc k) d = (
    d.0,
    inside d.0 d.1,
    d.2,
    record {
      bits = d.3.bits;
      left = d.3.left;
      right = d.3.right;
      left_care = d.3.left_care;
      right_care = twins.care_back d.3.bits d.3.right_care;
      left_is = d.3.left_is;
      right_is = twins.back d.3.bits d.3.right d.3.right_care d.3.right_is;
      differ = d.3.differ;
    },
  )

  pub twin_fit : IsFirstFit s taken v (s.class w)
  twin_fit = record {
    not_past_next = let low : s.class w ≤ classes_of s taken = fold_each s.class 0 taken w there in omega (arith, low);
    joins = λ small. equals (s.class w) refl;
    not_earlier = λ k less. apart k (first.not_earlier k less);
  }

pub twins_fit_in_nets : TwinsFitOneClass
twins_fit_in_nets a b m n left right f na nb left_long taken rest v w map there twins =
    twin_fit (side_by_side a b left right f)
    (λ u bits x y cx cy ax ay. one_enable (side_by_side a b left right f) (IsEnabled (joined a b)) (joined_single a b m n na nb) (λ r k l h g. joined_number_once a b m n na nb left right left_long r k l h g) bits u [] x y ax ay)
    taken map.each v w twins there
