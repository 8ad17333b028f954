-- A class map goes on latch by latch: what was found of the latches before looks at the classes of latches of lower rank alone, and
-- these stay.
use Rattle.std.proofs.Common.{◌≡◌, ◌≢◌, ◌∙◌, ℕ, zero, suc, ◌<◌, ◌≤◌, List, [], ◌∷◌, ◌++◌, length, refl, sym, ap, subst, arith, inl, inr, append-nil, append_assoc, length-append}
use Rattle.std.specs.Prelude.{◌⊎◌}
use Rattle.std.specs.List.{Contains, AllPairs}
use Rattle.std.proofs.lemmas.List.Elements.{Contains-append_left, Contains-append_right}
use Rattle.circuit_theory.specs.Circuit.{Circuit, IsSingleDriven}
use Rattle.circuit_theory.specs.Run.{IsEnabled}
use Rattle.circuit_theory.specs.Depth.{LatchesHaveDepths}
use Rattle.circuit_theory.specs.Joined.{joined}
use Rattle.circuit_theory.proofs.Lists.{Contains-head, Contains-cases}
use Rattle.circuit_theory.proofs.Sums.{AllPairs-head, AllPairs-tail}
use Rattle.circuit_laws.proofs.JoinedParts.{joined_same, joined_single}
use Rattle.circuit_theory.specs.Classes.{EnablesEqual, EqualsMembers, DiffersFromMember, classes_of, IsInFirstClass, IsLatchOrder}
use Rattle.circuit_theory.specs.EventFits.{side_by_side}
use Rattle.circuit_theory.specs.EventTotals.{IsMapSoFar}
use Rattle.circuit_laws.specs.event_laws.ClassSteps.{IsFirstFit, ClassMapGoesOn}
use Rattle.circuit_laws.proofs.event_laws.OneClassMap.{side, rank_of, Agrees, Before, enable_to, enable_care, differ_to, off_to, fold_same, place_of, depth_of}

-- an element that stands before another one, in a list whose pairs are in order
pub pairs_ahead : {X : Type 0} (R : X → X → Type 0) (xs : List X) (v : X) (after : List X) → AllPairs R (xs ++ v ∷ after) → (u : X) → Contains xs u → R u v
pairs_ahead R [] v after all u h = absurd (omega (arith, h.1))
pairs_ahead {X} R (x ∷ xs) v after all u h = pick (Contains-cases x u xs h) (λ k. pairs_ahead R xs v after (AllPairs-tail R x (xs ++ v ∷ after) all) u k)
  where
    pick : (x ≡ u) ⊎ Contains xs u → (Contains xs u → R u v) → R u v
    pick (inl e) later = subst (λ z. R z v) e (AllPairs-head R x (xs ++ v ∷ after) all v (Contains-append_right xs (v ∷ after) v (Contains-head v after)))
    pick (inr k) later = later k

nothing_split : {X C : Type 0} (before after : List X) (w : X) → [] ≡ before ++ w ∷ after → C
nothing_split before after w e = absurd (omega (arith, ap length e, length-append before (w ∷ after)))

-- where a list with one element behind is split: at that element, or before it
pub push_split : {X : Type 0} (xs before after : List X) (v w : X) → xs ++ v ∷ [] ≡ before ++ w ∷ after → ((xs ≡ before) × (v ≡ w)) ⊎ ((rest : List X) × (xs ≡ before ++ w ∷ rest))
push_split [] [] after v w e = inl (refl, cc)
push_split {X} [] (y ∷ before) after v w e = nothing_split before after w (tail e)
  where
    tail : {a b : X} {ps qs : List X} → a ∷ ps ≡ b ∷ qs → ps ≡ qs
    tail q = cc
push_split {X} (x ∷ xs) [] after v w e = inr (xs, ap (λ z. z ∷ xs) (head e))
  where
    head : {a b : X} {ps qs : List X} → a ∷ ps ≡ b ∷ qs → a ≡ b
    head q = cc
push_split {X} (x ∷ xs) (y ∷ before) after v w e = go (push_split xs before after v w (tail e)) (head e)
  where
    head : {a b : X} {ps qs : List X} → a ∷ ps ≡ b ∷ qs → a ≡ b
    head q = cc

    tail : {a b : X} {ps qs : List X} → a ∷ ps ≡ b ∷ qs → ps ≡ qs
    tail q = cc

    go : ((xs ≡ before) × (v ≡ w)) ⊎ ((rest : List X) × (xs ≡ before ++ w ∷ rest)) → x ≡ y → ((x ∷ xs ≡ y ∷ before) × (v ≡ w)) ⊎ ((rest : List X) × (x ∷ xs ≡ (y ∷ before) ++ w ∷ rest))
    go (inl r) q = inl (λ i. q i ∷ r.0 i, r.1)
    go (inr r) q = inr (r.0, λ i. q i ∷ r.1 i)

module _ {P : Type 0} (c : Circuit P) (single : IsSingleDriven c) (same : (p q : P) → (p ≡ q) ⊎ (p ≢ q)) (depths : LatchesHaveDepths c (IsEnabled c)) (o : List ℕ) where
  -- a class that fits goes on to fit where the classes of all latches of lower rank, and of those before, stay
  module _ (f g : P → ℕ) (before : List P) (w : P) (agree : Agrees c single same depths o (rank_of c single same depths o w) f g) (members : (u : P) → Contains before u → f u ≡ g u)
      (low : (u : P) → Contains before u → rank_of c single same depths o u ≤ rank_of c single same depths o w) where
    abbrev R : ℕ
    R = rank_of c single same depths o w

    back : Agrees c single same depths o R g f
    back name u next latch below = sym (agree name u next latch below)

    equal_to : (u : P) → rank_of c single same depths o u ≤ R → EnablesEqual (side c single same depths o f) u w → EnablesEqual (side c single same depths o g) u w
    equal_to u below equal bits x y care_u care_w is_x is_y =
        equal bits x y (enable_care c single same depths o R g f back bits u below care_u) (enable_care c single same depths o R g f back bits w (omega arith) care_w)
        (enable_to c single same depths o R g f back bits u [] x below is_x) (enable_to c single same depths o R g f back bits w [] y (omega arith) is_y)

    equals_to : (k : ℕ) → EqualsMembers (side c single same depths o f) before k w → EqualsMembers (side c single same depths o g) before k w
    equals_to zero always = λ bits x care is_x. always bits x (enable_care c single same depths o R g f back bits w (omega arith) care) (enable_to c single same depths o R g f back bits w [] x (omega arith) is_x)
    equals_to (suc k) equal = λ u h class. equal_to u (low u h) (equal u h (members u h ∙ class))

    differs_to : (k : ℕ) → DiffersFromMember (side c single same depths o f) before k w → DiffersFromMember (side c single same depths o g) before k w
    differs_to zero off = off_to c single same depths o R f g agree w (omega arith) off
    differs_to (suc k) d = (d.0, d.1, sym (members d.0 d.1) ∙ d.2, differ_to c single same depths o R f g agree d.0 w (low d.0 d.1) (omega arith) d.3)

    number : classes_of (side c single same depths o f) before ≡ classes_of (side c single same depths o g) before
    number = fold_same c single same depths o f g 0 before members

    pub fit_to : IsFirstFit (side c single same depths o f) before w (g w) → IsInFirstClass (side c single same depths o g) before w
    fit_to fit = record {
      not_past_next = omega (arith, fit.not_past_next, number);
      joins = λ small. equals_to (g w) (fit.joins (omega (arith, small, number)));
      not_earlier = λ k less. differs_to k (fit.not_earlier k less);
    }

  module _ (f g : P → ℕ) (taken rest : List P) (v : P) (map : IsMapSoFar (side c single same depths o f) taken (v ∷ rest)) (fit : IsFirstFit (side c single same depths o f) taken v (g v)) (others : (u : P) → u ≢ v → f u ≡ g u) where
    abbrev Rank : P → ℕ
    Rank = rank_of c single same depths o

    enabled : IsEnabled c v
    enabled = map.is_order.enabled v (Contains-append_right taken (v ∷ rest) v (Contains-head v rest))

    -- of two enabled latches in order, the first is no deeper
    no_deeper : (u w : P) → IsEnabled c u → IsEnabled c w → Before c single same depths o u w → Rank u ≤ Rank w
    no_deeper u w eu ew before =
        let i = place_of c single same depths o u eu in
        let j = place_of c single same depths o w ew in
        low (before (Rank u) (Rank w) i.0 j.0 (depth_of c single same depths o u eu) (depth_of c single same depths o w ew) i.1 j.1)
      where
        low : {i j : ℕ} → (Rank u < Rank w) ⊎ ((Rank u ≡ Rank w) × (i < j)) → Rank u ≤ Rank w
        low (inl a) = omega arith
        low (inr a) = omega (arith, a.0)

    -- no latch stands before itself
    not_itself : (u : P) → IsEnabled c u → Before c single same depths o u u → ⊥
    not_itself u eu before =
        let i = place_of c single same depths o u eu in
        clash (before (Rank u) (Rank u) i.0 i.0 (depth_of c single same depths o u eu) (depth_of c single same depths o u eu) i.1 i.1)
      where
        clash : {d i : ℕ} → (d < d) ⊎ ((d ≡ d) × (i < i)) → ⊥
        clash (inl a) = omega arith
        clash (inr a) = omega (arith, a.1)

    on_of : (u : P) → Contains taken u → IsEnabled c u
    on_of u h = map.is_order.enabled u (Contains-append_left taken (v ∷ rest) u h)

    ahead : (u : P) → Contains taken u → Before c single same depths o u v
    ahead u h = pairs_ahead (Before c single same depths o) taken v rest map.is_order.in_order u h

    kept : (u : P) → Contains taken u → f u ≡ g u
    kept u h = others u (λ e. not_itself v enabled (subst (λ z. Before c single same depths o z v) e (ahead u h)))

    -- the classes of latches of a rank no greater than the next latch's stay below it
    agree : (R : ℕ) → R ≤ Rank v → Agrees c single same depths o R f g
    agree R small name u next latch below = others u (λ e. let q : Rank u ≡ Rank v = ap Rank e in omega (arith, q, small, below))

    earlier : (before after : List P) (w : P) → taken ≡ before ++ w ∷ after → IsInFirstClass (side c single same depths o g) before w
    earlier before after w split =
        let here : Contains taken w = subst (λ zs. Contains zs w) (sym split) (Contains-append_right before (w ∷ after) w (Contains-head w after)) in
        let inside : (u : P) → Contains before u → Contains taken u = λ u h. subst (λ zs. Contains zs u) (sym split) (Contains-append_left before (w ∷ after) u h) in
        let first = map.each before after w split in
        let class : f w ≡ g w = kept w here in
        fit_to f g before w (agree (Rank w) (no_deeper w v (on_of w here) enabled (ahead w here))) (λ u h. kept u (inside u h))
        (λ u h. no_deeper u w (on_of u (inside u h)) (on_of w here) (pairs_ahead (Before c single same depths o) before w (after ++ v ∷ rest) (subst (AllPairs (Before c single same depths o)) (whole before after w split) map.is_order.in_order) u h))
        (subst (IsFirstFit (side c single same depths o f) before w) class (record { not_past_next = first.not_past_next; joins = first.joins; not_earlier = first.not_earlier }))
      where
        whole : (before after : List P) (w : P) → taken ≡ before ++ w ∷ after → taken ++ v ∷ rest ≡ before ++ w ∷ (after ++ v ∷ rest)
        whole before after w split = ap (λ zs. zs ++ v ∷ rest) split ∙ append_assoc before (w ∷ after) (v ∷ rest)

    each : (before after : List P) (w : P) → taken ++ v ∷ [] ≡ before ++ w ∷ after → IsInFirstClass (side c single same depths o g) before w
    each before after w split = go (push_split taken before after v w split)
      where
        last : IsInFirstClass (side c single same depths o g) taken v
        last = fit_to f g taken v (agree (Rank v) (omega arith)) kept (λ u h. no_deeper u v (on_of u h) enabled (ahead u h)) fit

        go : ((taken ≡ before) × (v ≡ w)) ⊎ ((more : List P) × (taken ≡ before ++ w ∷ more)) → IsInFirstClass (side c single same depths o g) before w
        go (inl e) = subst (λ (z : P). IsInFirstClass (side c single same depths o g) before z) e.1 (subst (λ (zs : List P). IsInFirstClass (side c single same depths o g) zs v) e.0 last)
        go (inr r) = earlier before r.0 w r.1

    pub map_goes_on : IsMapSoFar (side c single same depths o g) (taken ++ v ∷ []) rest
    map_goes_on =
        let whole : taken ++ v ∷ rest ≡ (taken ++ v ∷ []) ++ rest = sym (append_assoc taken (v ∷ []) rest) in
        record {
          is_order = subst (IsLatchOrder (side c single same depths o g)) whole (record { all = map.is_order.all; enabled = map.is_order.enabled; in_order = map.is_order.in_order });
          plain = λ name u next latch off. sym (others u (λ e. off (subst (IsEnabled c) (sym e) enabled))) ∙ map.plain name u next latch off;
          each = each;
        }

pub class_map_goes_on_in_nets : ClassMapGoesOn
class_map_goes_on_in_nets a b m n left right f na nb depths = (
  λ order is_order plain. record { is_order = is_order; plain = plain; each = λ before after v split. nothing_split before after v split },
  λ g taken rest v map fit others. map_goes_on (joined a b) (joined_single a b m n na nb) joined_same depths (left ++ right) f g taken rest v map fit others,
  λ taken map numbered. (
    record {
      numbered = numbered;
      order = taken;
      is_order = subst (IsLatchOrder (side_by_side a b left right f)) (append-nil taken) map.is_order;
      is_map = record { plain = map.plain; each = map.each };
    },
    refl,
  ),
)
