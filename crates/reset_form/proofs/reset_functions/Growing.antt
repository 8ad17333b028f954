-- Functions of signals in cycles while the graph and the table grow, and the weight of their unfoldings.
use Rattle.std.proofs.Common.{◌≡◌, ◌∙◌, ◌+◌, ◌<◌, ◌≤◌, ℕ, List, [], ◌∷◌, ◌++◌, length, take, get_or, slice_get, Some, refl, sym, ap, subst, arith, inl, inr}
use Rattle.std.specs.Prelude.{◌⊎◌, ◌↔◌}
use Rattle.std.specs.List.{All, AllZip, Contains}
use Rattle.std.proofs.lemmas.List.{take_more}
use Rattle.std.proofs.lemmas.List.Elements.{Contains-append_left, Contains-get_or, Contains-push, Contains-push_cases}
use Rattle.std.proofs.lemmas.Option.{slice_get_within}
use Rattle.circuit_theory.specs.Fits.{IsPairDepth}
use Rattle.circuit_theory.proofs.Lists.{All-from_each, Contains-cases, zip_push, zip_right, zip_weaker, at_of, of_at}
use Rattle.cbf_unfold.proofs.unfold_places.Zips.{zip_left}
use Rattle.sec_setup.specs.declared.ports.pairs.SignalPair.{SignalPair}
use Rattle.sec_setup.specs.declared.setup.Setup.{Setup}
use Rattle.cbf_unfold.proofs.shift_variables.Assignments.{take_next}
use Rattle.base_tables.proofs.TableLemmas.{slice_get-take}
use Rattle.flat_net.proofs.Growth.{length-push}
use Rattle.flat_net.specs.View.{NetView, circuit_of}
use Rattle.circuit_laws.specs.reset_laws.Weight.{IsResetOver}
use Rattle.aig.specs.declared.node.Node.{Node}
use Rattle.aig.specs.Graph.{Grows}
use Rattle.cbf_unfold.specs.declared.unfold_places.signal_function.Unfolded.{Unfolded}
use Rattle.cbf_unfold.specs.unfold_places.Reach.{Adds}
use Rattle.cbf_unfold.proofs.unfold_places.Lists.{append_cases}
use Rattle.reset_form.specs.reset_unfold.Places.{starts_of}
use Rattle.reset_form.specs.reset_unfold.View.{ResetView}
use Rattle.reset_form.specs.reset_unfold.Unfolded.{IsResetUnfolded}
use Rattle.reset_form.proofs.reset_unfold.Known.{unfolded_later}
use Rattle.reset_form.specs.reset_functions.Pairs.{AreCyclesOf, IsBelow, IsAmong, IsLight, IsTooLarge, HasDoneBelow, IsOverBelow, IsTopOf}
use Rattle.reset_form.proofs.reset_functions.OwnPairs.{one_pair_depth}

module _ (n : NetView) (order : List ℕ) (base : ℕ) (g h : List Node) (places more : List (ℕ × ℕ)) (grows : Grows g h) (adds : Adds (λ p. Unit {0}) places more) where
  -- functions stay those of their signals while the graph and the table grow
  pub cycles_later : (top : ℕ × ℕ) (us : List Unfolded) → AreCyclesOf n order base g places top us → AreCyclesOf n order base h more top us
  cycles_later top us are = record { each = are.each; are = λ t u at. unfolded_later n order base g h places more top.1 t u.lit.0 u.vars grows adds (are.are t u at) }

  pub all_later : (tops : List (ℕ × ℕ)) (all : List (List Unfolded)) → AllZip (AreCyclesOf n order base g places) tops all → AllZip (AreCyclesOf n order base h more) tops all
  all_later tops all zip = zip_weaker (AreCyclesOf n order base g places) (AreCyclesOf n order base h more) (λ top us are. cycles_later top us are) tops all zip

  -- one cycle more
  pub cycle_next : (s cycle : ℕ) (us made : List Unfolded) (u : Unfolded) → length us ≡ cycle → ((t : ℕ) (v : Unfolded) → slice_get us t ≡ Some v → IsResetUnfolded n order base g places s t v.lit.0 v.vars) → IsResetUnfolded n order base h more s cycle u.lit.0 u.vars →
      made ≡ us ++ u ∷ [] → (t : ℕ) (v : Unfolded) → slice_get made t ≡ Some v → IsResetUnfolded n order base h more s t v.lit.0 v.vars
  cycle_next s cycle us made u long before here is t v at = go (append_cases us (u ∷ []) t v (subst (λ (l : List Unfolded). slice_get l t ≡ Some v) is at))
    where
      place : slice_get (us ++ u ∷ []) t ≡ Some v
      place = subst (λ (l : List Unfolded). slice_get l t ≡ Some v) is at

      inside : t < length us + 1
      inside = let k = slice_get_within (us ++ u ∷ []) t v place in let e = length-push us u in omega (arith, k, e)

      go : (slice_get us t ≡ Some v) ⊎ ((length us ≤ t) × Contains (u ∷ []) v) → IsResetUnfolded n order base h more s t v.lit.0 v.vars
      go (inl old) = unfolded_later n order base g h places more s t v.lit.0 v.vars grows adds (before t v old)
      go (inr new) =
          let same : u ≡ v = elim (Contains-cases u v [] new.1) [ inl e ↦ e | inr k ↦ absurd (omega (arith, k.1)) ] in
          let cycle_is : cycle ≡ t = omega (arith, new.0, inside, long) in
          subst (λ (k : ℕ). IsResetUnfolded n order base h more s k v.lit.0 v.vars) cycle_is (subst (λ (w : Unfolded). IsResetUnfolded n order base h more s cycle w.lit.0 w.vars) same here)

-- what an unfolder gives is of its net
pub unfolded_of : (u v : ResetView) (n : NetView) (order : List ℕ) (base : ℕ) (g h : List Node) (places more : List (ℕ × ℕ)) (s t lit : ℕ) (vars : List ℕ) → v.net ≡ n → v.order ≡ order → v.base ≡ base →
    IsResetUnfolded v.net v.order v.base h more s t lit vars → IsResetUnfolded n order base h more s t lit vars
unfolded_of u v n order base g h places more s t lit vars net numbers bases is =
    subst (λ (m : NetView). IsResetUnfolded m order base h more s t lit vars) net
    (subst (λ (l : List ℕ). IsResetUnfolded v.net l base h more s t lit vars) numbers (subst (λ (k : ℕ). IsResetUnfolded v.net v.order k h more s t lit vars) bases is))

-- and so are those that it gives in cycles
pub cycles_of : (u v : ResetView) (g : List Node) (places : List (ℕ × ℕ)) (top : ℕ × ℕ) (us : List Unfolded) → v.net ≡ u.net → v.order ≡ u.order → v.base ≡ u.base → AreCyclesOf v.net v.order v.base g places top us → AreCyclesOf u.net u.order u.base g places top us
cycles_of u v g places top us net numbers bases is =
    subst (λ (m : NetView). AreCyclesOf m u.order u.base g places top us) net
    (subst (λ (l : List ℕ). AreCyclesOf v.net l u.base g places top us) numbers (subst (λ (k : ℕ). AreCyclesOf v.net v.order k g places top us) bases is))

-- the signal in the cycles before this one
abbrev pub IsEarlier : ℕ → ℕ → ℕ × ℕ → Type 0
IsEarlier s cycle p = (p.0 < cycle) × (p.1 ≡ s)

-- what is unfolded before a cycle
abbrev pub HasDone : ℕ → ℕ → List (ℕ × ℕ) → List (ℕ × ℕ) → Type 0
HasDone s cycle old new = (p : ℕ × ℕ) → Contains new p ↔ (Contains old p ⊎ IsEarlier s cycle p)

pub done_none : (s : ℕ) (old : List (ℕ × ℕ)) → HasDone s 0 old old
done_none s old p = (λ h. inl h, λ h. only h)
  where
    only : Contains old p ⊎ IsEarlier s 0 p → Contains old p
    only (inl h) = h
    only (inr e) = absurd (omega (arith, e.0))

pub done_next : (s cycle : ℕ) (old before new : List (ℕ × ℕ)) → HasDone s cycle old before → new ≡ before ++ (cycle, s) ∷ [] → HasDone s (cycle + 1) old new
done_next s cycle old before new has is p = (λ h. forth (Contains-push_cases before (cycle, s) p (subst (λ (l : List (ℕ × ℕ)). Contains l p) is h)), λ h. subst (λ (l : List (ℕ × ℕ)). Contains l p) (sym is) (back h))
  where
    wider : Contains old p ⊎ IsEarlier s cycle p → Contains old p ⊎ IsEarlier s (cycle + 1) p
    wider (inl h) = inl h
    wider (inr e) = inr (omega (arith, e.0), e.1)

    forth : Contains before p ⊎ ((cycle, s) ≡ p) → Contains old p ⊎ IsEarlier s (cycle + 1) p
    forth (inl h) = wider ((has p).0 h)
    forth (inr e) = inr (let k = ap (λ (r : ℕ × ℕ). r.0) e in omega (arith, k), sym (ap (λ (r : ℕ × ℕ). r.1) e))

    order : (i j : ℕ) → i < j + 1 → (i < j) ⊎ (j ≡ i)
    order i j h = grind arith

    earlier : IsEarlier s (cycle + 1) p → (p.0 < cycle) ⊎ (cycle ≡ p.0) → Contains (before ++ (cycle, s) ∷ []) p
    earlier e (inl l) = Contains-append_left before ((cycle, s) ∷ []) p ((has p).1 (inr (l, e.1)))
    earlier e (inr q) = let same : (cycle, s) ≡ p = λ i. (q i, sym e.1 i) in subst (Contains (before ++ (cycle, s) ∷ [])) same (Contains-push before (cycle, s))

    back : Contains old p ⊎ IsEarlier s (cycle + 1) p → Contains (before ++ (cycle, s) ∷ []) p
    back (inl h) = Contains-append_left before ((cycle, s) ∷ []) p ((has p).1 (inl h))
    back (inr e) = earlier e (order p.0 cycle e.0)

-- all cycles up to the top
pub done_below : (top : ℕ × ℕ) (cycle : ℕ) (old new : List (ℕ × ℕ)) → cycle ≡ top.0 + 1 → HasDone top.1 cycle old new → HasDoneBelow top old new
done_below top cycle old new is has p = (λ h. forth ((has p).0 h), λ h. (has p).1 (back h))
  where
    forth : Contains old p ⊎ IsEarlier top.1 cycle p → Contains old p ⊎ IsBelow top p
    forth (inl h) = inl h
    forth (inr e) = inr (omega (arith, e.0, is), e.1)

    back : Contains old p ⊎ IsBelow top p → Contains old p ⊎ IsEarlier top.1 cycle p
    back (inl h) = inl h
    back (inr b) = inr (omega (arith, b.0, is), b.1)

-- what is over in the top alone is over with all up to it
pub over_first : (u : ResetView) (top : ℕ × ℕ) → u.cap ≡ 2000000 → IsResetOver (circuit_of u.net) (starts_of (top ∷ [])) u.cap → IsOverBelow u top
over_first u top cap over = (top ∷ [], λ p h. pick p (Contains-cases top p [] h), subst (IsResetOver (circuit_of u.net) (starts_of (top ∷ []))) cap over)
  where
    pick : (p : ℕ × ℕ) → (top ≡ p) ⊎ Contains [] p → Contains u.done p ⊎ IsBelow top p
    pick p (inl e) = inr (let k = ap (λ (r : ℕ × ℕ). r.0) e in omega (arith, k), sym (ap (λ (r : ℕ × ℕ). r.1) e))
    pick p (inr h) = absurd (omega (arith, h.1))

-- what is over with this cycle is over with all up to the top
pub over_next : (u v : ResetView) (top : ℕ × ℕ) (cycle : ℕ) → v.net ≡ u.net → cycle ≤ top.0 → HasDone top.1 cycle u.done v.done → IsResetOver (circuit_of v.net) (starts_of (v.done ++ (cycle, top.1) ∷ [])) 2000000 → IsOverBelow u top
over_next u v top cycle net within has over = (
  v.done ++ (cycle, top.1) ∷ [],
  λ p h. pick p (Contains-push_cases v.done (cycle, top.1) p h),
  subst (λ (n : NetView). IsResetOver (circuit_of n) (starts_of (v.done ++ (cycle, top.1) ∷ [])) 2000000) net over,
)
  where
    early : (p : ℕ × ℕ) → Contains u.done p ⊎ IsEarlier top.1 cycle p → Contains u.done p ⊎ IsBelow top p
    early p (inl h) = inl h
    early p (inr e) = inr (omega (arith, e.0, within), e.1)

    pick : (p : ℕ × ℕ) → Contains v.done p ⊎ ((cycle, top.1) ≡ p) → Contains u.done p ⊎ IsBelow top p
    pick p (inl h) = early p ((has p).0 h)
    pick p (inr e) = inr (let k = ap (λ (r : ℕ × ℕ). r.0) e in omega (arith, k, within), sym (ap (λ (r : ℕ × ℕ). r.1) e))

module _ (tops : List (ℕ × ℕ)) (i : ℕ) (d : ℕ × ℕ) (inside : i < length tops) where
  more : take (i + 1) tops ≡ take i tops ++ get_or tops i d ∷ []
  more = take_more tops i d inside

  -- one signal more
  pub among_next : (before new : List (ℕ × ℕ)) → ((p : ℕ × ℕ) → Contains before p ↔ IsAmong (take i tops) p) → HasDoneBelow (get_or tops i d) before new → (p : ℕ × ℕ) → Contains new p ↔ IsAmong (take (i + 1) tops) p
  among_next before new has below p = (λ h. forth ((below p).0 h), λ h. (below p).1 (back h))
    where
      forth : Contains before p ⊎ IsBelow (get_or tops i d) p → IsAmong (take (i + 1) tops) p
      forth (inl h) = let a = (has p).0 h in (a.0, subst (λ (l : List (ℕ × ℕ)). Contains l a.0) (sym more) (Contains-append_left (take i tops) (get_or tops i d ∷ []) a.0 a.1), a.2)
      forth (inr b) = (get_or tops i d, subst (λ (l : List (ℕ × ℕ)). Contains l (get_or tops i d)) (sym more) (Contains-push (take i tops) (get_or tops i d)), b)

      pick : (top : ℕ × ℕ) → IsBelow top p → Contains (take i tops) top ⊎ (get_or tops i d ≡ top) → Contains before p ⊎ IsBelow (get_or tops i d) p
      pick top b (inl h) = inl ((has p).1 (top, h, b))
      pick top b (inr e) = inr (subst (λ (q : ℕ × ℕ). IsBelow q p) (sym e) b)

      back : IsAmong (take (i + 1) tops) p → Contains before p ⊎ IsBelow (get_or tops i d) p
      back a = pick a.0 a.2 (Contains-push_cases (take i tops) (get_or tops i d) a.0 (subst (λ (l : List (ℕ × ℕ)). Contains l a.0) more a.1))

  -- what is over with this signal is over with all
  pub over_among : (u : ResetView) (n : NetView) → u.net ≡ n → ((p : ℕ × ℕ) → Contains u.done p ↔ IsAmong (take i tops) p) → IsOverBelow u (get_or tops i d) → IsTooLarge n (IsAmong tops)
  over_among u n net has over = (over.0, λ p h. pick p (over.1 p h), subst (λ (m : NetView). IsResetOver (circuit_of m) (starts_of over.0) 2000000) net over.2)
    where
      pick : (p : ℕ × ℕ) → Contains u.done p ⊎ IsBelow (get_or tops i d) p → IsAmong tops p
      pick p (inl h) = let a = (has p).0 h in (a.0, taken a.0 a.1, a.2)
        where
          taken : (q : ℕ × ℕ) → Contains (take i tops) q → Contains tops q
          taken q k = let at = at_of (take i tops) q k in of_at tops at.0 q (slice_get-take i tops at.0 q at.1).1
      pick p (inr b) = (get_or tops i d, Contains-get_or tops i d inside, b)

pub among_none : (done : List (ℕ × ℕ)) (tops : List (ℕ × ℕ)) → done ≡ [] → (p : ℕ × ℕ) → Contains done p ↔ IsAmong (take 0 tops) p
among_none done tops none p = (λ h. absurd (nothing p (subst (λ (l : List (ℕ × ℕ)). Contains l p) none h)), λ h. absurd (nothing h.0 h.1))
  where
    nothing : (q : ℕ × ℕ) → Contains [] q → ⊥
    nothing q h = omega (arith, h.1)

-- sides that are the same have the same weight
pub light_as : (n : NetView) (P Q : ℕ × ℕ → Type 0) → ((p : ℕ × ℕ) → P p ↔ Q p) → IsLight n P → IsLight n Q
light_as n P Q same light = (light.0, λ p. (λ h. (same p).0 ((light.1 p).0 h), λ h. (light.1 p).1 ((same p).1 h)), light.2, light.3, light.4)

-- the sides of pairs are those below their tops
module _ (s : Setup) (side : SignalPair → ℕ) (pairs : List SignalPair) (tops : List (ℕ × ℕ)) (are : AllZip (IsTopOf s side) pairs tops) where
  abbrev pub Side : ℕ × ℕ → Type 0
  Side p = (x : SignalPair) × Contains pairs x × (depth : ℕ) × IsPairDepth (circuit_of s.left.now) (circuit_of s.right.now) x.left.0 x.right.0 depth × (p.0 ≤ depth) × (p.1 ≡ side x)

  pub among_is_side : (p : ℕ × ℕ) → IsAmong tops p → Side p
  among_is_side p a =
      let at = at_of tops a.0 a.1 in
      let x = zip_left (IsTopOf s side) pairs tops are at.0 a.0 at.1 in
      (x.0, of_at pairs at.0 x.0 x.1, a.0.0, x.2.depth, a.2.0, a.2.1 ∙ x.2.signal)

  pub side_is_among : (p : ℕ × ℕ) → Side p → IsAmong tops p
  side_is_among p (x, h, depth, is, below, signal) =
      let at = at_of pairs x h in
      let top = zip_right (IsTopOf s side) pairs tops are at.0 x at.1 in
      let same : depth ≡ top.0.0 = one_pair_depth (circuit_of s.left.now) (circuit_of s.right.now) x.left.0 x.right.0 depth top.0.0 is top.2.depth in
      (top.0, of_at tops at.0 top.0 top.1, (omega (arith, below, same), signal ∙ sym top.2.signal))

-- the tops are of signals of the net
pub tops_within : (s : Setup) (side : SignalPair → ℕ) (pairs : List SignalPair) (tops : List (ℕ × ℕ)) (size : ℕ) → AllZip (IsTopOf s side) pairs tops → ((x : SignalPair) → Contains pairs x → side x < size) → All (λ (p : ℕ × ℕ). p.1 < size) tops
tops_within s side pairs tops size are within =
    All-from_each (λ (p : ℕ × ℕ). p.1 < size) tops
    (λ p h. let at = at_of tops p h in let x = zip_left (IsTopOf s side) pairs tops are at.0 p at.1 in let w = within x.0 (of_at pairs at.0 x.0 x.1) in let e = x.2.signal in omega (arith, w, e))

-- one pair more
pub tops_next : (s : Setup) (side : SignalPair → ℕ) (pairs : List SignalPair) (i : ℕ) (x : SignalPair) (depth : ℕ) (tops made : List (ℕ × ℕ)) → slice_get pairs i ≡ Some x → IsPairDepth (circuit_of s.left.now) (circuit_of s.right.now) x.left.0 x.right.0 depth →
    made ≡ tops ++ (depth, side x) ∷ [] → AllZip (IsTopOf s side) (take i pairs) tops → AllZip (IsTopOf s side) (take (i + 1) pairs) made
tops_next s side pairs i x depth tops made at is same zip =
    subst (AllZip (IsTopOf s side) (take (i + 1) pairs)) (sym same)
    (subst (λ (ps : List SignalPair). AllZip (IsTopOf s side) ps (tops ++ (depth, side x) ∷ [])) (sym (take_next pairs i x at)) (zip_push (IsTopOf s side) (take i pairs) tops x (depth, side x) zip (record { depth = is; signal = refl })))
