-- What passes a number passes it with more starts.
use Rattle.std.proofs.Common.{◌≡◌, ◌∙◌, ℕ, List, [], ◌∷◌, ◌++◌, map, take, Result, Ok, Err, refl, sym, subst, inl, inr, arith, append-nil}
use Rattle.std.specs.Prelude.{◌⊎◌, IfOk, OnOk}
use Rattle.std.specs.List.{Contains}
use Rattle.std.proofs.lemmas.List.Elements.{All-take, All-contains, Contains-append_cases, Contains-append_left, Contains-append_right}
use Rattle.circuit_theory.specs.declared.Side.{Side}
use Rattle.circuit_theory.specs.declared.Side.TheVariants.{A, B}
use Rattle.circuit_theory.specs.Joined.{Either}
use Rattle.circuit_theory.specs.Run.{IsEnabled}
use Rattle.circuit_theory.proofs.Lists.{All-from_each, Contains-map, Contains-map_from, only}
use Rattle.circuit_theory.specs.EventSizes.{Start, IsEventOver}
use Rattle.circuit_theory.specs.EventTotals.{IsNodesOver}
use Rattle.circuit_theory.specs.Frame.{EventSide}
use Rattle.event_nodes.specs.View.{EventCircuitView, side_of, Enabled}
use Rattle.event_nodes.specs.declared.error.EventUnfoldError.{EventUnfoldError}
use Rattle.event_nodes.specs.declared.error.EventUnfoldError.TheVariants as unfold_error
use Rattle.event_nodes.proofs.Visits.{visits_more}
use Rattle.event_form.specs.event_agreement.pair_events.Counted.{both_starts, left_with, right_with, starts_with, HaveCounted, IsRefusedBy}
use Rattle.event_form.specs.event_agreement.pair_events.View.{EventsView, circuit_at, side_of_both}
use Rattle.event_form.proofs.event_agreement.pair_events.Starts.{node_more, both_more}
use Rattle.event_form.specs.Asked.{IsLater}
use Rattle.event_form.specs.Refused.{starts_at, IsRefusedFor, IsToldAs}
use Rattle.event_form.specs.declared.error.EventFormError.{EventFormError}
use Rattle.event_form.specs.declared.error.EventFormError.TheVariants as form_error
use Rattle.event_form.proofs.Asking.{side_same}

abbrev pub Within : {X : Type 0} → List X → List X → Type 0
Within {X} xs ys = (x : X) → Contains xs x → Contains ys x

nodes_more : (s : EventSide (Either ℕ ℕ)) (starts more : List (Start (Either ℕ ℕ))) (cap : ℕ) → Within starts more → IsNodesOver s starts cap → IsNodesOver s more cap
nodes_more s starts more cap to k = record { nodes = k.nodes; distinct = k.distinct; each = λ node h. node_more s (IsEnabled s.circuit) starts more to node (k.each node h); total = k.total }

over_more : (e : EventCircuitView) (starts more : List (Start ℕ)) (cap : ℕ) → Within starts more → IsEventOver (side_of e) (Enabled e) starts cap → IsEventOver (side_of e) (Enabled e) more cap
over_more e starts more cap to k = record { places = k.places; distinct = k.distinct; weighed = k.weighed; met = λ x h. (let m = k.met x h in (m.0, visits_more (side_of e) (Enabled e) starts more to m.1)); total = k.total }

-- starts before, starts since and starts now are among all
append_within : {X : Type 0} (xs since now all : List X) → Within since all → Within now all → Within ((xs ++ since) ++ now) (xs ++ all)
append_within {X} xs since now all first second x h = go (Contains-append_cases (xs ++ since) now x h)
  where
    front : Contains xs x ⊎ Contains since x → Contains (xs ++ all) x
    front (inl k) = Contains-append_left xs all x k
    front (inr k) = Contains-append_right xs all x (first x k)

    go : Contains (xs ++ since) x ⊎ Contains now x → Contains (xs ++ all) x
    go (inl k) = front (Contains-append_cases xs since x k)
    go (inr k) = Contains-append_right xs all x (second x k)

starts_more : (side : Side) (left right more others : List (Start ℕ)) → Within left more → Within right others → Within (starts_at side left right) (starts_at side more others)
starts_more A left right more others first second = first
starts_more B left right more others first second = second

circuit_same : (side : Side) (old new : EventsView) → IsLater old new → circuit_at side new ≡ circuit_at side old
circuit_same A old new later = later.left
circuit_same B old new later = later.right

-- what is refused later is refused for all starts that came
pub refused_later : {X Y : Type 0} (old mid : EventsView) → IsLater old mid → (ls rs lefts rights all_left all_right : List (Start ℕ)) → Within ls all_left → Within lefts all_left → Within rs all_right → Within rights all_right →
    ((left right : List (Start ℕ)) → HaveCounted old left right → HaveCounted mid (left ++ ls) (right ++ rs)) → (result : Result X EventFormError) (told : Result Y EventFormError) → ((error : EventFormError) → told ≡ Err error → result ≡ Err error) → IsRefusedFor lefts rights mid result → IsRefusedFor all_left all_right old told
refused_later old mid later ls rs lefts rights all_left all_right a b c d count result told same k = record {
  many = λ is left right h.
      subst (λ (s : EventSide (Either ℕ ℕ)). IsNodesOver s (both_starts (left ++ all_left) (right ++ all_right)) 10000) (sym (side_same old mid later.left later.right))
      (nodes_more (side_of_both mid) (both_starts ((left ++ ls) ++ lefts) ((right ++ rs) ++ rights)) (both_starts (left ++ all_left) (right ++ all_right)) 10000
      (λ y m. both_more ((left ++ ls) ++ lefts) ((right ++ rs) ++ rights) (left ++ all_left) (right ++ all_right) (append_within left ls lefts all_left a b) (append_within right rs rights all_right c d) y m)
      (k.many (same form_error.TooManyEvents is) (left ++ ls) (right ++ rs) (count left right h)));
  large = λ side is left right h.
      subst (λ (e : EventCircuitView). IsEventOver (side_of e) (Enabled e) (starts_at side (left ++ all_left) (right ++ all_right)) 2000000) (circuit_same side old mid later)
      (over_more (circuit_at side mid) (starts_at side ((left ++ ls) ++ lefts) ((right ++ rs) ++ rights)) (starts_at side (left ++ all_left) (right ++ all_right)) 2000000
      (starts_more side ((left ++ ls) ++ lefts) ((right ++ rs) ++ rights) (left ++ all_left) (right ++ all_right) (append_within left ls lefts all_left a b) (append_within right rs rights all_right c d))
      (k.large side (same (form_error.TooLarge side) is) (left ++ ls) (right ++ rs) (count left right h)));
}

with_left : (side : Side) (p : ℕ) (left : List (Start ℕ)) → left_with side p left ≡ left ++ left_with side p []
with_left A p left = refl
with_left B p left = sym (append-nil left)

with_right : (side : Side) (p : ℕ) (right : List (Start ℕ)) → right_with side p right ≡ right ++ right_with side p []
with_right A p right = sym (append-nil right)
with_right B p right = refl

with_starts : (side : Side) (p : ℕ) (left right : List (Start ℕ)) → starts_with side p left right ≡ starts_at side (left ++ left_with side p []) (right ++ right_with side p [])
with_starts A p left right = refl
with_starts B p left right = refl

-- the refusal of a signal, as the form tells it
pub signal_refused : {X Y : Type 0} (side : Side) (p : ℕ) (e : EventsView) (result : Result X EventUnfoldError) (told : Result Y EventFormError) → (told ≡ Err form_error.TooManyEvents → result ≡ Err unfold_error.TooManyEvents) →
    ((other : Side) → told ≡ Err (form_error.TooLarge other) → (side ≡ other) × (result ≡ Err unfold_error.TooLarge)) → IsRefusedBy side p e result → IsRefusedFor (left_with side p []) (right_with side p []) e told
signal_refused side p e result told many large k = record {
  many = λ is left right h. subst (λ (xs : List (Start ℕ)). IsNodesOver (side_of_both e) (both_starts xs (right ++ right_with side p [])) 10000) (with_left side p left)
      (subst (λ (ys : List (Start ℕ)). IsNodesOver (side_of_both e) (both_starts (left_with side p left) ys) 10000) (with_right side p right) (k.many (many is) left right h));
  large = λ other is left right h. (let m = large other is in
      subst (λ (o : Side). IsEventOver (side_of (circuit_at o e)) (Enabled (circuit_at o e)) (starts_at o (left ++ left_with side p []) (right ++ right_with side p [])) 2000000) m.0
      (subst (λ (xs : List (Start ℕ)). IsEventOver (side_of (circuit_at side e)) (Enabled (circuit_at side e)) xs 2000000) (with_starts side p left right) ((k.large m.1).over left right h)));
}

-- the front of what is mapped is among all of it
pub front_within : {X Y : Type 0} (f : X → Y) (xs : List X) (i : ℕ) → Within (map f (take i xs)) (map f xs)
front_within {X} f xs i y h =
    let x = Contains-map_from f (take i xs) y h in
    subst (Contains (map f xs)) x.2 (Contains-map f xs x.0 (All-contains (Contains xs) (take i xs) x.0 (All-take (Contains xs) i xs (All-from_each (Contains xs) xs (λ (z : X) m. m))) x.1))

pub nothing_within : {X : Type 0} (xs : List X) → Within [] xs
nothing_within xs x h = absurd (omega (arith, h.1))

-- what holds of what was made holds of what is told
pub told_if : {X : Type 0} (side : Side) (made : Result X EventUnfoldError) (told : Result X EventFormError) (P : X → Type 0) → IsToldAs side made told → IfOk made P → IfOk told P
told_if {X} side (Ok x) told P is h = subst (λ (r : Result X EventFormError). IfOk r P) (sym is) h
told_if {X} side (Err unfold_error.TooManyEvents) told P is h = subst (λ (r : Result X EventFormError). IfOk r P) (sym is) tt
told_if {X} side (Err unfold_error.TooLarge) told P is h = subst (λ (r : Result X EventFormError). IfOk r P) (sym is) tt
told_if {X} side (Err unfold_error.NoMemory) told P is h = subst (λ (r : Result X EventFormError). IfOk r P) (sym is) tt

pub told_on : {X : Type 0} (side : Side) (made : Result X EventUnfoldError) (told : Result X EventFormError) (C : Type 0) → IsToldAs side made told → OnOk made C → OnOk told C
told_on {X} side (Ok x) told C is h = subst (λ (r : Result X EventFormError). OnOk r C) (sym is) h
told_on {X} side (Err unfold_error.TooManyEvents) told C is h = subst (λ (r : Result X EventFormError). OnOk r C) (sym is) tt
told_on {X} side (Err unfold_error.TooLarge) told C is h = subst (λ (r : Result X EventFormError). OnOk r C) (sym is) tt
told_on {X} side (Err unfold_error.NoMemory) told C is h = subst (λ (r : Result X EventFormError). OnOk r C) (sym is) tt

pub told_many : {X : Type 0} (side : Side) (made : Result X EventUnfoldError) (told : Result X EventFormError) → IsToldAs side made told → told ≡ Err form_error.TooManyEvents → made ≡ Err unfold_error.TooManyEvents
told_many side (Ok x) told is same = absurd (differ (sym is ∙ same))
  where
    differ : Ok x ≡ Err form_error.TooManyEvents → ⊥
    differ e = cc
told_many side (Err unfold_error.TooManyEvents) told is same = refl
told_many {X} side (Err unfold_error.TooLarge) told is same = absurd (differ (sym is ∙ same))
  where
    differ : ◌≡◌ {A = Result X EventFormError} (Err (form_error.TooLarge side)) (Err form_error.TooManyEvents) → ⊥
    differ e = cc
told_many {X} side (Err unfold_error.NoMemory) told is same = absurd (differ (sym is ∙ same))
  where
    differ : ◌≡◌ {A = Result X EventFormError} (Err form_error.NoMemory) (Err form_error.TooManyEvents) → ⊥
    differ e = cc

pub told_large : {X : Type 0} (side : Side) (made : Result X EventUnfoldError) (told : Result X EventFormError) → IsToldAs side made told → (other : Side) → told ≡ Err (form_error.TooLarge other) → (side ≡ other) × (made ≡ Err unfold_error.TooLarge)
told_large side (Ok x) told is other same = absurd (differ (sym is ∙ same))
  where
    differ : Ok x ≡ Err (form_error.TooLarge other) → ⊥
    differ e = cc
told_large {X} side (Err unfold_error.TooManyEvents) told is other same = absurd (differ (sym is ∙ same))
  where
    differ : ◌≡◌ {A = Result X EventFormError} (Err form_error.TooManyEvents) (Err (form_error.TooLarge other)) → ⊥
    differ e = cc
told_large {X} side (Err unfold_error.TooLarge) told is other same = (own (sym is ∙ same), refl)
  where
    own : ◌≡◌ {A = Result X EventFormError} (Err (form_error.TooLarge side)) (Err (form_error.TooLarge other)) → side ≡ other
    own e = cc
told_large {X} side (Err unfold_error.NoMemory) told is other same = absurd (differ (sym is ∙ same))
  where
    differ : ◌≡◌ {A = Result X EventFormError} (Err form_error.NoMemory) (Err (form_error.TooLarge other)) → ⊥
    differ e = cc

pub one_within : {X Y : Type 0} (f : X → Y) (xs : List X) (x : X) → Contains xs x → Within (f x ∷ []) (map f xs)
one_within f xs x k y h = subst (Contains (map f xs)) (only (f x) y h) (Contains-map f xs x k)

pub all_within : {X : Type 0} (xs : List X) → Within xs xs
all_within xs x h = h

-- one error is the other
pub error_is : {X : Type 0} {e f : EventFormError} → ◌≡◌ {A = Result X EventFormError} (Err e) (Err f) → e ≡ f
error_is q = cc

-- want of memory and a result say nothing
pub memory_refused : {X : Type 0} (lefts rights : List (Start ℕ)) (e : EventsView) → IsRefusedFor {X = X} lefts rights e (Err form_error.NoMemory)
memory_refused {X} lefts rights e = record { many = λ is. absurd (many is); large = λ side is. absurd (large side is) }
  where
    many : ◌≡◌ {A = Result X EventFormError} (Err form_error.NoMemory) (Err form_error.TooManyEvents) → ⊥
    many q = cc

    large : (side : Side) → ◌≡◌ {A = Result X EventFormError} (Err form_error.NoMemory) (Err (form_error.TooLarge side)) → ⊥
    large side q = cc

pub ok_refused : {X : Type 0} (lefts rights : List (Start ℕ)) (e : EventsView) (x : X) → IsRefusedFor lefts rights e (Ok x)
ok_refused {X} lefts rights e x = record { many = λ is. absurd (many is); large = λ side is. absurd (large side is) }
  where
    many : ◌≡◌ {A = Result X EventFormError} (Ok x) (Err form_error.TooManyEvents) → ⊥
    many q = cc

    large : (side : Side) → ◌≡◌ {A = Result X EventFormError} (Ok x) (Err (form_error.TooLarge side)) → ⊥
    large side q = cc
