-- Two circuits side by side: their runs and marks are those of each.
use Rattle.std.proofs.Common.{◌≡◌, ℕ, ◌+◌, Bool, List, [], ◌∷◌, map, sym, ◌∙◌, ap, inl, inr}
use Rattle.std.specs.Prelude.{◌⊎◌}
use Rattle.std.specs.List.{All, AllByRecursion, Contains}
use Rattle.std.proofs.lemmas.List.Elements.{All-append, All-from_recursion, recursion_from_All, Contains-append_left, Contains-append_cases}
use Rattle.circuit_theory.specs.Cover.{cover_value}
use Rattle.circuit_theory.specs.Circuit.{Circuit, Equation, Gate, Latch, Port, Holds, Carries}
use Rattle.circuit_theory.specs.Run.{IsRun}
use Rattle.circuit_theory.specs.Joined.{Either, Left, Right, moved, joined, beside}
use Rattle.circuit_theory.proofs.Lists.{map-map, Contains-map, Contains-map_from}

pub holds_left : {P Q : Type 0} (l : P → Bool) (r : Q → Bool) (e : Equation P) → Holds l e → Holds (beside l r) (moved Left e)
holds_left l r (Gate out fanins cover) h = h ∙ ap (cover_value cover) (sym (map-map (beside l r) Left fanins))
holds_left l r (Latch name out next) h = tt
holds_left l r (Port out from) h = h

pub holds_right : {P Q : Type 0} (l : P → Bool) (r : Q → Bool) (e : Equation Q) → Holds r e → Holds (beside l r) (moved Right e)
holds_right l r (Gate out fanins cover) h = h ∙ ap (cover_value cover) (sym (map-map (beside l r) Right fanins))
holds_right l r (Latch name out next) h = tt
holds_right l r (Port out from) h = h

pub carries_left : {P Q : Type 0} (l l' : P → Bool) (r r' : Q → Bool) (e : Equation P) → Carries l l' e → Carries (beside l r) (beside l' r') (moved Left e)
carries_left l l' r r' (Gate out fanins cover) h = tt
carries_left l l' r r' (Latch name out next) h = h
carries_left l l' r r' (Port out from) h = tt

pub carries_right : {P Q : Type 0} (l l' : P → Bool) (r r' : Q → Bool) (e : Equation Q) → Carries r r' e → Carries (beside l r) (beside l' r') (moved Right e)
carries_right l l' r r' (Gate out fanins cover) h = tt
carries_right l l' r r' (Latch name out next) h = h
carries_right l l' r r' (Port out from) h = tt

all_map : {X Y : Type 0} (f : X → Y) (F : X → Type 0) (G : Y → Type 0) → ((x : X) → F x → G (f x)) → (xs : List X) → AllByRecursion F xs → AllByRecursion G (map f xs)
all_map f F G h [] all = tt
all_map f F G h (x ∷ xs) all = (h x all.0, all_map f F G h xs all.1)

pub all_joined : {P Q : Type 0} (a : Circuit P) (b : Circuit Q) (F : Equation P → Type 0) (G : Equation Q → Type 0) (H : Equation (Either P Q) → Type 0) →
    ((e : Equation P) → F e → H (moved Left e)) → ((e : Equation Q) → G e → H (moved Right e)) → All F a.equations → All G b.equations → All H (joined a b).equations
all_joined {P} {Q} a b F G H f g l r =
    All-append H (map (moved {P = P} {Q = Either P Q} Left) a.equations) (map (moved {P = Q} {Q = Either P Q} Right) b.equations)
    (All-from_recursion H _ (all_map (moved Left) F H f a.equations (recursion_from_All F a.equations l)))
    (All-from_recursion H _ (all_map (moved Right) G H g b.equations (recursion_from_All G b.equations r)))

pub run_joined : {P Q : Type 0} (a : Circuit P) (b : Circuit Q) (n : ℕ) (l : ℕ → P → Bool) (r : ℕ → Q → Bool) → IsRun a n l → IsRun b n r → IsRun (joined a b) n (λ t. beside (l t) (r t))
run_joined a b n l r la rb = record {
  meets = λ t h. all_joined a b (Holds (l t)) (Holds (r t)) (Holds (beside (l t) (r t))) (holds_left (l t) (r t)) (holds_right (l t) (r t)) (la.meets t h) (rb.meets t h);
  carries = λ t h. all_joined a b (Carries (l t) (l (t + 1))) (Carries (r t) (r (t + 1))) (Carries (beside (l t) (r t)) (beside (l (t + 1)) (r (t + 1))))
      (carries_left (l t) (l (t + 1)) (r t) (r (t + 1))) (carries_right (l t) (l (t + 1)) (r t) (r (t + 1))) (la.carries t h) (rb.carries t h);
}

pub left_equation : {P Q : Type 0} (a : Circuit P) (b : Circuit Q) (e : Equation P) → Contains a.equations e → Contains (joined a b).equations (moved Left e)
left_equation {P} {Q} a b e h = Contains-append_left (map (moved Left) a.equations) (map (moved Right) b.equations) (moved Left e) (Contains-map (moved Left) a.equations e h)

-- an equation of both is one of A, or one of B
pub equation_from : {P Q : Type 0} (a : Circuit P) (b : Circuit Q) (e : Equation (Either P Q)) → Contains (joined a b).equations e →
    ((x : Equation P) × Contains a.equations x × (moved Left x ≡ e)) ⊎ ((y : Equation Q) × Contains b.equations y × (moved Right y ≡ e))
equation_from {P} {Q} a b e h = go (Contains-append_cases (map (moved Left) a.equations) (map (moved Right) b.equations) e h)
  where
    go : Contains (map (moved Left) a.equations) e ⊎ Contains (map (moved Right) b.equations) e → ((x : Equation P) × Contains a.equations x × (moved Left x ≡ e)) ⊎ ((y : Equation Q) × Contains b.equations y × (moved Right y ≡ e))
    go (inl k) = inl (Contains-map_from (moved Left) a.equations e k)
    go (inr k) = inr (Contains-map_from (moved Right) b.equations e k)
