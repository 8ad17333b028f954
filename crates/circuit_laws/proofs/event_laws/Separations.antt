-- The separation of two classes is one, and there is what it needs.
use Rattle.std.proofs.Common.{◌≡◌, ℕ, ◌<◌, Bool, List, [], ◌∷◌, ◌++◌, sym, ◌∙◌, subst, inl, inr}
use Rattle.std.specs.Prelude.{◌⊎◌}
use Rattle.std.specs.List.{Contains}
use Rattle.circuit_theory.specs.Query.{Variable}
use Rattle.circuit_theory.specs.Frame.{EventSide}
use Rattle.circuit_theory.specs.Classes.{EnablesEqual, IsFounder}
use Rattle.circuit_theory.specs.EventFrames.{IsSeparation, frame_of}
use Rattle.circuit_laws.specs.event_laws.Laws.{SeparationsAreOne, FoundersAreApart}
use Rattle.circuit_theory.proofs.Lists.{Contains-head, Contains-tail}

-- of two places in one list, one is the other or comes before it
two_places : {X : Type 0} (xs ys ps qs : List X) (u v : X) → xs ++ u ∷ ps ≡ ys ++ v ∷ qs → (u ≡ v) ⊎ (Contains ys u ⊎ Contains xs v)
two_places [] [] ps qs u v e = inl cc
two_places {X} [] (y ∷ ys) ps qs u v e = inr (inl (subst (Contains (y ∷ ys)) here (Contains-head y ys)))
  where
    here : y ≡ u
    here = cc
two_places {X} (x ∷ xs) [] ps qs u v e = inr (inr (subst (Contains (x ∷ xs)) here (Contains-head x xs)))
  where
    here : x ≡ v
    here = cc
two_places {X} (x ∷ xs) (y ∷ ys) ps qs u v e = go (two_places xs ys ps qs u v rest)
  where
    rest : xs ++ u ∷ ps ≡ ys ++ v ∷ qs
    rest = cc

    go : (u ≡ v) ⊎ (Contains ys u ⊎ Contains xs v) → (u ≡ v) ⊎ (Contains (y ∷ ys) u ⊎ Contains (x ∷ xs) v)
    go (inl q) = inl q
    go (inr (inl h)) = inr (inl (Contains-tail y u ys h))
    go (inr (inr h)) = inr (inr (Contains-tail x v xs h))

module _ {P : Type 0} (s : EventSide P) (order : List P) where
  one_founder : (class : ℕ) (f g : P) → IsFounder s order class f → IsFounder s order class g → f ≡ g
  one_founder class f g x y = go (two_places x.before y.before x.after y.after f g (sym x.split ∙ y.split))
    where
      go : (f ≡ g) ⊎ (Contains y.before f ⊎ Contains x.before g) → f ≡ g
      go (inl e) = e
      go (inr (inl h)) = absurd (y.first f h x.class_is)
      go (inr (inr h)) = absurd (x.first g h y.class_is)

  -- the enables of a separation aren't equal
  apart : (low high : ℕ) (u f : P) (xs : List (Variable (List ℕ))) (bits : List Bool) (l r : Bool) → IsSeparation s order low high u f xs bits l r → EnablesEqual s u f → ⊥
  apart low high u f xs bits l r x equal = x.differ (equal (frame_of xs bits) l r x.left_care x.right_care x.left_is x.right_is)

  one_separation : (low high : ℕ) (u v f g : P) (xs ys : List (Variable (List ℕ))) (left_bits right_bits : List Bool) (l r l' r' : Bool) →
      IsSeparation s order low high u f xs left_bits l r → IsSeparation s order low high v g ys right_bits l' r' → (u ≡ v) × (f ≡ g)
  one_separation low high u v f g xs ys left_bits right_bits l r l' r' x y = (go (two_places x.before y.before x.after y.after u v (sym x.split ∙ y.split)), founder)
    where
      founder : f ≡ g
      founder = one_founder high f g x.founder_is y.founder_is

      go : (u ≡ v) ⊎ (Contains y.before u ⊎ Contains x.before v) → u ≡ v
      go (inl e) = e
      go (inr (inl h)) = absurd (apart low high u f xs left_bits l r x (subst (EnablesEqual s u) (sym founder) (y.earlier u h x.class_is)))
      go (inr (inr h)) = absurd (apart low high v g ys right_bits l' r' y (subst (EnablesEqual s v) founder (x.earlier v h y.class_is)))

pub separations_are_one : SeparationsAreOne
separations_are_one s order low high u v f g xs ys left_bits right_bits l r l' r' x y = one_separation s order low high u v f g xs ys left_bits right_bits l r l' r' x y

pub founders_are_apart : FoundersAreApart
founders_are_apart s order low high founder map f l = (map.each f.before f.after founder f.split).not_earlier low (subst (λ (k : ℕ). low < k) (sym f.class_is) l)
