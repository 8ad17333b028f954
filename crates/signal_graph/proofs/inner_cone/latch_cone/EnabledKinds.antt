-- The bits of the enabled latches mark those that count as enabled in the mode.
use Rattle.std.proofs.Common.{◌≡◌, ◌∙◌, ◌↔◌, ◌+◌, ◌<◌, ◌≤◌, ◌++◌, ℕ, zero, suc, true, false, List, [], ◌∷◌, length, map, take, get_or, replicate, slice_get, Some, refl, sym, ap, subst, add-one, arith}
use Rattle.std.proofs.lemmas.List.{length-replicate}
use Rattle.std.proofs.lemmas.Option.{slice_get_within, same_Some}
use Rattle.flat_net.specs.circuit_theory.Circuit.{Circuit}
use Rattle.flat_net.specs.circuit_theory.Agree.{EnabledIn}
use Rattle.flat_net.specs.circuit_theory.Mode.{Mode}
use Rattle.flat_net.specs.circuit_theory.Mode.TheVariants.{Plain, Event}
use Rattle.flat_net.proofs.circuit_theory.Numbers.{slice_get-map}
use Rattle.flat_net.specs.declared.parts.LatchAt.{LatchAt}
use Rattle.flat_net.specs.View.{NetView, circuit_of}
use Rattle.flat_net.proofs.Nets.{some_at}
use Rattle.signal_graph.specs.declared.inner_cone.latch_cone.kinds.LatchKind.{LatchKind}
use Rattle.signal_graph.specs.declared.inner_cone.latch_cone.kinds.LatchKind.TheVariants as kind
use Rattle.signal_graph.specs.inner_cone.latch_cone.Cones.{MarksEnabled}
use Rattle.signal_graph.specs.inner_cone.latch_cone.Kinds.{IsKindIn, AreKindsIn, is_enabled}

no_false : {X : Type 0} → false ≡ true → X
no_false e = absurd (no e)
  where
    no : false ≡ true → ⊥
    no q = cc

-- a latch counts as enabled exactly where its kind is
pub kind_enabled : {P : Type 0} (mode : Mode) (c : Circuit P) (u : P) (k : LatchKind) → IsKindIn mode c u k → (is_enabled k ≡ true) ↔ EnabledIn mode c u
kind_enabled Plain c u kind.Plain is = (λ e. no_false e, λ e. absurd e)
kind_enabled Plain c u kind.Enabled is = absurd is
kind_enabled Plain c u kind.NotUnate is = absurd is
kind_enabled Event c u kind.Plain is = (λ e. no_false e, λ e. absurd (is (record { name = e.name; next = e.next; latch = e.latch; cone = e.self_edge })))
kind_enabled Event c u kind.Enabled is = (λ e. is, λ e. refl)
kind_enabled Event c u kind.NotUnate is = (λ e. no_false e, λ e. absurd (is.1 e))

pub kinds_marked : (mode : Mode) (n : NetView) (kinds : List LatchKind) → AreKindsIn mode n kinds → MarksEnabled mode n (map is_enabled kinds)
kinds_marked mode n kinds are = λ j l at.
    let k = some_at kinds j (let w = slice_get_within n.latches j l at in omega (arith, w, are.each)) in
    let here : slice_get (map is_enabled kinds) j ≡ Some (is_enabled k.0) = slice_get-map is_enabled kinds j k.0 k.1 in
    let same = kind_enabled mode (circuit_of n) l.out.0 k.0 (are.right j l k.0 at k.1) in (
      λ bit. same.0 (same_Some (is_enabled k.0) true (sym here ∙ bit)),
      λ e. here ∙ ap Some (same.1 e),
    )

replicated : (count j : ℕ) (k : LatchKind) → slice_get (replicate count kind.Plain) j ≡ Some k → k ≡ kind.Plain
replicated zero j k h = absurd (let w = slice_get_within (replicate 0 kind.Plain) j k h in omega (arith, w))
replicated (suc count) zero k h = sym (same_Some kind.Plain k h)
replicated (suc count) (suc j) k h = replicated count j k h

-- in the plain mode each latch is of the kind `plain`
pub plain_kinds : (n : NetView) (kinds : List LatchKind) → kinds ≡ replicate (length n.latches) kind.Plain → AreKindsIn Plain n kinds
plain_kinds n kinds e = record {
  each = ap length e ∙ length-replicate (length n.latches) kind.Plain;
  right = λ j l k at here. by k (replicated (length n.latches) j k (sym (ap (λ (ks : List LatchKind). slice_get ks j) e) ∙ here)) l;
}
  where
    by : (k : LatchKind) → k ≡ kind.Plain → (l : LatchAt) → IsKindIn Plain (circuit_of n) l.out.0 k
    by k q l = subst (λ (x : LatchKind). IsKindIn Plain (circuit_of n) l.out.0 x) (sym q) tt

-- all elements are made
pub whole : {X Y : Type 0} (f : X → Y) (xs : List X) (i : ℕ) → length xs ≤ i → map f (take i xs) ≡ map f xs
whole f [] zero past = refl
whole f [] (suc i) past = refl
whole f (x ∷ xs) zero past = absurd (omega (arith, past))
whole f (x ∷ xs) (suc i) past = ap (λ ys. f x ∷ ys) (whole f xs i (omega (arith, past)))

-- one element more is made
more_by : {X Y : Type 0} (f : X → Y) (xs : List X) (i : ℕ) (d : X) → i < length xs → map f (take (suc i) xs) ≡ map f (take i xs) ++ f (get_or xs i d) ∷ []
more_by f [] i d below = absurd (omega (arith, below))
more_by f (x ∷ xs) zero d below = refl
more_by f (x ∷ xs) (suc i) d below = ap (λ ys. f x ∷ ys) (more_by f xs i d (omega (arith, below)))

pub one_more : {X Y : Type 0} (f : X → Y) (xs : List X) (i : ℕ) (d : X) → i < length xs → map f (take (i + 1) xs) ≡ map f (take i xs) ++ f (get_or xs i d) ∷ []
one_more f xs i d below = rw add-one (more_by f xs i d below)
