-- What the starts of both circuits reach, and what each of them reaches by itself.
use Rattle.std.proofs.Common.{◌≡◌, ℕ, Bool, List, [], ◌∷◌, ◌++◌, map, Option, Some, None, sym, ap, subst, inl, inr}
use Rattle.std.specs.Prelude.{◌⊎◌, Contains}
use Rattle.std.proofs.lemmas.List.Elements.{Contains-append_cases, Contains-append_left, Contains-append_right}
use Rattle.circuit_theory.specs.Circuit.{Circuit, Meets}
use Rattle.circuit_theory.specs.Joined.{Either, Left, Right}
use Rattle.circuit_theory.specs.Run.{IsEnabled}
use Rattle.circuit_theory.proofs.Lists.{Contains-head, Contains-map, Contains-map_from, only}
use Rattle.circuit_laws.proofs.Parts.{IsPart}
use Rattle.circuit_theory.specs.EventSizes.{Start, IsOther}
use Rattle.circuit_theory.specs.EventTotals.{StartLatches}
use Rattle.circuit_theory.specs.Frame.{EventSide, ConeLatches, ReachedAt, IsNode}
use Rattle.event_form.proofs.event_agreement.event_pairs.Parts.{cone_from, cone_up, node_up, node_from}
use Rattle.event_form.proofs.event_agreement.event_pairs.Unions.{node_by}
use Rattle.event_form.specs.event_agreement.pair_events.Counted.{moved_latch, moved_start, both_starts}

module _ {P : Type 0} (s : EventSide P) (enabled : P → Type 0) where
  reached_alone : (starts : List (Start P)) (node : List ℕ) (v : P) → ReachedAt s enabled (StartLatches s starts) node v → (x : Start P) × Contains starts x × ReachedAt s enabled (StartLatches s (x ∷ [])) node v
  reached_alone starts [] v r = (r.0, r.1, (r.0, Contains-head r.0 [], r.2, r.3))
  reached_alone starts (k ∷ node) v r = let x = reached_alone starts node r.0 r.1 in (x.0, x.1, (r.0, x.2, r.2, r.3))

  -- a node below the root is reached by one of the starts alone
  pub node_alone : (starts : List (Start P)) (k : ℕ) (node : List ℕ) → IsNode s enabled (StartLatches s starts) (k ∷ node) → (x : Start P) × Contains starts x × IsNode s enabled (StartLatches s (x ∷ [])) (k ∷ node)
  node_alone starts k node h = let x = reached_alone starts node h.0 h.1 in (x.0, x.1, (h.0, x.2, h.2))

  -- what some starts reach more starts reach
  pub node_more : (starts more : List (Start P)) → ((x : Start P) → Contains starts x → Contains more x) → (path : List ℕ) → IsNode s enabled (StartLatches s starts) path → IsNode s enabled (StartLatches s more) path
  node_more starts more to path h = node_by s enabled (StartLatches s starts) (StartLatches s more) (λ v k. (k.0, to k.0 k.1, k.2, k.3)) path h

module _ {P R : Type 0} (c : Circuit P) (j : Circuit R) (f : P → R) (replace : (R → Bool) → (P → Bool) → R → Bool) (part : IsPart c j f replace) (some : R → Bool) (meets : Meets j some) (order orders : List ℕ) (class : R → ℕ) where
  abbrev own : EventSide P
  own = record { circuit = c; order = order; class = λ p. class (f p) }

  abbrev whole : EventSide R
  whole = record { circuit = j; order = orders; class = class }

  other_up : (out : Option P) (v : P) → IsOther out v → IsOther (moved_latch f out) (f v)
  other_up None v h = tt
  other_up (Some u) v h = λ e. h (part.one v u e)

  other_from : (out : Option P) (v : P) → IsOther (moved_latch f out) (f v) → IsOther out v
  other_from None v h = tt
  other_from (Some u) v h = λ e. h (ap f e)

  start_up : (x : Start P) (starts : List (Start R)) → Contains starts (moved_start f x) → (v : P) → StartLatches own (x ∷ []) v → StartLatches whole starts (f v)
  start_up x starts h v k =
      let same = only x k.0 k.1 in (
        moved_start f x,
        h,
        cone_up c j f replace part some meets order orders class x.place v (subst (λ (z : Start P). ConeLatches c z.place v) (sym same) k.2),
        other_up x.left_out v (subst (λ (z : Start P). IsOther z.left_out v) (sym same) k.3),
      )

  start_from : (x : Start P) (r : R) → StartLatches whole (moved_start f x ∷ []) r → (v : P) × (f v ≡ r) × StartLatches own (x ∷ []) v
  start_from x r k =
      let same = only (moved_start f x) k.0 k.1 in
      let v = cone_from c j f replace part some meets order orders class x.place r (subst (λ (z : Start R). ConeLatches j z.place r) (sym same) k.2) in
      let other = subst (IsOther (moved_latch f x.left_out)) (sym v.1) (subst (λ (z : Start R). IsOther z.left_out r) (sym same) k.3) in
      (v.0, v.1, (x, Contains-head x [], v.2, other_from x.left_out v.0 other))

  -- a node of a start of the circuit, where it stands
  pub node_beside : (x : Start P) (starts : List (Start R)) → Contains starts (moved_start f x) → (path : List ℕ) → IsNode own (IsEnabled c) (StartLatches own (x ∷ [])) path → IsNode whole (IsEnabled j) (StartLatches whole starts) path
  node_beside x starts h path node = node_up c j f replace part some meets order orders class (StartLatches own (x ∷ [])) (StartLatches whole starts) (start_up x starts h) path node

  -- and by itself
  pub node_itself : (x : Start P) (path : List ℕ) → IsNode whole (IsEnabled j) (StartLatches whole (moved_start f x ∷ [])) path → IsNode own (IsEnabled c) (StartLatches own (x ∷ [])) path
  node_itself x path node = node_from c j f replace part some meets order orders class (StartLatches own (x ∷ [])) (StartLatches whole (moved_start f x ∷ [])) (start_from x) path node

-- the starts of both are those of each
pub of_left : (left right : List (Start ℕ)) (x : Start ℕ) → Contains left x → Contains (both_starts left right) (moved_start Left x)
of_left left right x h = Contains-append_left (map (moved_start Left) left) (map (moved_start Right) right) (moved_start Left x) (Contains-map (moved_start Left) left x h)

pub of_right : (left right : List (Start ℕ)) (x : Start ℕ) → Contains right x → Contains (both_starts left right) (moved_start Right x)
of_right left right x h = Contains-append_right (map (moved_start Left) left) (map (moved_start Right) right) (moved_start Right x) (Contains-map (moved_start Right) right x h)

abbrev IsOfOne : List (Start ℕ) → List (Start ℕ) → Start (Either ℕ ℕ) → Type 0
IsOfOne left right y = ((x : Start ℕ) × Contains left x × (moved_start Left x ≡ y)) ⊎ ((x : Start ℕ) × Contains right x × (moved_start Right x ≡ y))

pub of_one : (left right : List (Start ℕ)) (y : Start (Either ℕ ℕ)) → Contains (both_starts left right) y → ((x : Start ℕ) × Contains left x × (moved_start Left x ≡ y)) ⊎ ((x : Start ℕ) × Contains right x × (moved_start Right x ≡ y))
of_one left right y h = go (Contains-append_cases (map (moved_start Left) left) (map (moved_start Right) right) y h)
  where
    go : Contains (map (moved_start Left) left) y ⊎ Contains (map (moved_start Right) right) y → IsOfOne left right y
    go (inl k) = inl (Contains-map_from (moved_start Left) left y k)
    go (inr k) = inr (Contains-map_from (moved_start Right) right y k)

-- more starts of each are more starts of both
pub both_more : (left right more others : List (Start ℕ)) → ((x : Start ℕ) → Contains left x → Contains more x) → ((x : Start ℕ) → Contains right x → Contains others x) → (y : Start (Either ℕ ℕ)) → Contains (both_starts left right) y → Contains (both_starts more others) y
both_more left right more others on_left on_right y h = go (of_one left right y h)
  where
    go : IsOfOne left right y → Contains (both_starts more others) y
    go (inl k) = subst (Contains (both_starts more others)) k.2 (of_left more others k.0 (on_left k.0 k.1))
    go (inr k) = subst (Contains (both_starts more others)) k.2 (of_right more others k.0 (on_right k.0 k.1))
