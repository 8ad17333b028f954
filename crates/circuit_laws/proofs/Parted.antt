-- With exposed latches, outputs that are settled in both circuits themselves agree: no exposed latch is read on both sides. What both
-- runs fill has the values of either.
use Rattle.std.proofs.Common.{◌≡◌, ℕ, ◌+◌, ◌-◌, ◌<◌, Bool, true, false, cond, List, [], ◌∷◌, map, refl, sym, ◌∙◌, ap, subst, arith, inl, inr, Option, Some, None}
use Rattle.std.specs.Prelude.{◌⊎◌, ◌==◌}
use Rattle.std.specs.List.{Contains}
use Rattle.std.proofs.lemmas.List.Elements.{All-contains}
use Rattle.circuit_theory.specs.Cover.{cover_value}
use Rattle.circuit_theory.specs.Circuit.{Circuit, Equation, Gate, Latch, Port, Named, IsLatch, IsSingleDriven, Holds, Carries}
use Rattle.circuit_theory.specs.Run.{IsRun, Marked, NoneEnabled}
use Rattle.circuit_theory.specs.Asked.{HaveEqualFunctions}
use Rattle.circuit_theory.specs.Tree.{Tree, Trees, Unfolds, UnfoldsAll, IsInputNumber, StandsBeside, AreNumbered, tree_value, tree_values}
use Rattle.circuit_theory.specs.declared.Mode.TheVariants.{Plain}
use Rattle.circuit_theory.specs.Agree.{Agree, AreAlike, IsPair, cut, is_kept}
use Rattle.circuit_laws.proofs.Marks.{marked_says}
use Rattle.circuit_laws.proofs.Onward.{cut_input}
use Rattle.circuit_theory.proofs.Lists.{Contains-head, Contains-tail, Contains-filter}
use Rattle.circuit_theory.proofs.Inputs.{test_same, test_refl}

pub kept_equation : {P : Type 0} (names : List (List ℕ)) (c : Circuit P) (e : Equation P) → Contains (cut names c).equations e → Contains c.equations e
unfolding cut
kept_equation names c e h = Contains-filter (is_kept names) c.equations e h

module _ {P : Type 0} (names : List (List ℕ)) (c : Circuit P) (single : IsSingleDriven c) (order : List ℕ) (n : ℕ) (run : ℕ → P → Bool) (is_run : IsRun c n run) (t : ℕ) (in_run : t < n) (x : ℕ → ℕ → Bool)
    (inputs : (p : P) (i k s : ℕ) → IsInputNumber (cut names c) order p i → k + s ≡ t → Marked c NoneEnabled run s p → x i k ≡ run s p) where
  mutual
    unfolding tree_value

    -- the tree of the cut circuit has the run's value where the signal is settled in the circuit itself
    pub cut_tree_is_run : {p : P} {k d : ℕ} {tree : Tree ℕ} → Unfolds (cut names c) order p k d tree → (s : ℕ) → k + s ≡ t → Marked c NoneEnabled run s p → tree_value x tree ≡ run s p
    cut_tree_is_run {p} {k} (Unfolds.input {i = i} h) s e mark = inputs p i k s h e mark
    cut_tree_is_run (Unfolds.gate {out = out} {fanins = fanins} {cover = cover} eq each) s e mark =
        let own = kept_equation names c (Gate out fanins cover) eq in
        ap (cover_value cover) (cut_trees_are_run each s e (marked_says c run single mark (Gate out fanins cover) own refl))
        ∙ sym (All-contains (Holds (run s)) c.equations _ (is_run.meets s (omega arith)) own)
    cut_tree_is_run (Unfolds.port {out = out} {from = from} eq rest) s e mark =
        let own = kept_equation names c (Port out from) eq in
        cut_tree_is_run rest s e (marked_says c run single mark (Port out from) own refl) ∙ sym (All-contains (Holds (run s)) c.equations _ (is_run.meets s (omega arith)) own)
    cut_tree_is_run (Unfolds.latch {name = name} {out = out} {next = next} {k = k} {d = d} {tree = tree} eq rest) s e mark =
        let own = kept_equation names c (Latch name out next) eq in
        let back = marked_says c run single mark (Latch name out next) own refl in
        let ih : tree_value x tree ≡ run back.0 next = cut_tree_is_run rest back.0 (omega (arith, back.1)) back.2 in
        let step : run (back.0 + 1) out ≡ run back.0 next = All-contains (Carries (run back.0) (run (back.0 + 1))) c.equations _ (is_run.carries back.0 (omega (arith, back.1))) own in
        let now : back.0 + 1 ≡ s = omega (arith, back.1) in
        ih ∙ (sym step ∙ ap (λ r. run r out) now)

    pub cut_trees_are_run : {ps : List P} {k d : ℕ} {trees : Trees ℕ} → UnfoldsAll (cut names c) order ps k d trees → (s : ℕ) → k + s ≡ t → ((p : P) → Contains ps p → Marked c NoneEnabled run s p) → tree_values x trees ≡ map (run s) ps
    cut_trees_are_run UnfoldsAll.none s e marks = refl
    cut_trees_are_run (UnfoldsAll.more {p = p} {ps = ps} one rest) s e marks =
        let head = cut_tree_is_run one s e (marks p (Contains-head p ps)) in
        let tail = cut_trees_are_run rest s e (λ q h. marks q (Contains-tail p q ps h)) in
        cc

-- the input with this number
abbrev pub found_input : {P : Type 0} → List (Named P) → List ℕ → ℕ → Option (Named P)
found_input [] order i = None
found_input (m ∷ inputs) [] i = None
found_input (m ∷ inputs) (j ∷ order) i = cond (j == i) (Some m) (found_input inputs order i)

pub found_is : {P : Type 0} (inputs : List (Named P)) (order : List ℕ) (i : ℕ) (m : Named P) → found_input inputs order i ≡ Some m → Contains inputs m × StandsBeside inputs order m.place i
found_is [] order i m h = cc
found_is (x ∷ inputs) [] i m h = cc
found_is {P} (x ∷ inputs) (j ∷ order) i m h = go (λ k. found_is inputs order i m k) (j == i) refl
  where
    unwrap : {y z : Named P} → Some y ≡ Some z → y ≡ z
    unwrap e = cc

    go : (found_input inputs order i ≡ Some m → Contains inputs m × StandsBeside inputs order m.place i) → (b : Bool) → (j == i) ≡ b → Contains (x ∷ inputs) m × StandsBeside (x ∷ inputs) (j ∷ order) m.place i
    go later true e =
        let q : x ≡ m = unwrap (sym (ap (λ b. cond b (Some x) (found_input inputs order i)) e) ∙ h) in
        (subst (Contains (x ∷ inputs)) q (Contains-head x inputs), inl (ap (λ (z : Named P). z.place) q, test_same j i e))
    go later false e =
        let r = later (sym (ap (λ b. cond b (Some x) (found_input inputs order i)) e) ∙ h) in
        (Contains-tail x m inputs r.0, inr r.1)

pub found_some : {P : Type 0} (inputs : List (Named P)) (order : List ℕ) (p : P) (i : ℕ) → StandsBeside inputs order p i → (m : Named P) × (found_input inputs order i ≡ Some m)
found_some [] order p i h = absurd h
found_some (x ∷ inputs) [] p i h = absurd h
found_some {P} (x ∷ inputs) (j ∷ order) p i h = go (λ k. found_some inputs order p i k) (j == i) refl h
  where
    go : (StandsBeside inputs order p i → (m : Named P) × (found_input inputs order i ≡ Some m)) → (b : Bool) → (j == i) ≡ b → StandsBeside (x ∷ inputs) (j ∷ order) p i → (m : Named P) × (found_input (x ∷ inputs) (j ∷ order) i ≡ Some m)
    go later true e k = (x, ap (λ b. cond b (Some x) (found_input inputs order i)) e)
    go later false e (inl q) = absurd (let z : (j == i) ≡ true = subst (λ y. (j == y) ≡ true) q.1 (test_refl j) in cc)
    go later false e (inr k) = let r = later k in (r.0, ap (λ b. cond b (Some x) (found_input inputs order i)) e ∙ r.1)

abbrev chosen : {P Q : Type 0} → (List ℕ → Bool) → (P → Bool) → (Q → Bool) → Option (Named P) → Option (Named Q) → Bool
chosen never l r (Some m) (Some w) = cond (never m.name) (r w.place) (l m.place)
chosen never l r (Some m) None = l m.place
chosen never l r None (Some w) = r w.place
chosen never l r None None = false

module _ {P Q : Type 0} (names : List (List ℕ)) (a : Circuit P) (b : Circuit Q) (oa ob : List ℕ)
    (numbered : AreNumbered (cut names a) (cut names b) oa ob) (sa : IsSingleDriven a) (sb : IsSingleDriven b)
    (left_clear : (name : List ℕ) (p : P) → Contains a.inputs (record { name = name; place = p }) → Contains names name → ⊥)
    (right_clear : (name : List ℕ) (q : Q) → Contains b.inputs (record { name = name; place = q }) → Contains names name → ⊥)
    (one_name : (name name' : List ℕ) (p : P) → Contains (cut names a).inputs (record { name = name; place = p }) → Contains (cut names a).inputs (record { name = name'; place = p }) → name ≡ name')
    -- which exposed latches are never settled in A; the others are never settled in B
    (never_left : List ℕ → Bool)
    (left_never : (name : List ℕ) (u next : P) → IsLatch a name u next → never_left name ≡ true → (run : ℕ → P → Bool) (t : ℕ) → Marked a NoneEnabled run t u → ⊥)
    (right_never : (name : List ℕ) (v next : Q) → Contains names name → IsLatch b name v next → never_left name ≡ false → (run : ℕ → Q → Bool) (t : ℕ) → Marked b NoneEnabled run t v → ⊥)
    (only_names : (name : List ℕ) → never_left name ≡ true → Contains names name) where
  module _ (n : ℕ) (left : ℕ → P → Bool) (right : ℕ → Q → Bool) (alike : AreAlike a b n left right) (t : ℕ) (in_run : t < n) where
    -- the assignment that both runs fill
    abbrev pub filled : ℕ → ℕ → Bool
    filled i k = chosen never_left (left (t - k)) (right (t - k)) (found_input (cut names a).inputs oa i) (found_input (cut names b).inputs ob i)

    filled_left : (p : P) (i k : ℕ) → IsInputNumber (cut names a) oa p i → ((m : Named P) → m.place ≡ p → never_left m.name ≡ true → Contains a.inputs m ⊎ (Contains names m.name × ((next : P) × IsLatch a m.name m.place next)) → ⊥) → filled i k ≡ left (t - k) p
    filled_left p i k h impossible = ap (λ o. chosen never_left (left (t - k)) (right (t - k)) o (found_input (cut names b).inputs ob i)) f.1 ∙ go (found_input (cut names b).inputs ob i) (never_left f.0.name) refl
      where
        f : (m : Named P) × (found_input (cut names a).inputs oa i ≡ Some m)
        f = found_some (cut names a).inputs oa p i h

        inside : Contains (cut names a).inputs f.0 × StandsBeside (cut names a).inputs oa f.0.place i
        inside = found_is (cut names a).inputs oa i f.0 f.1

        place_is : f.0.place ≡ p
        place_is = numbered.left_once f.0.place p i inside.1 h

        go : (o : Option (Named Q)) (b' : Bool) → never_left f.0.name ≡ b' → chosen never_left (left (t - k)) (right (t - k)) (Some f.0) o ≡ left (t - k) p
        go None b' z = ap (left (t - k)) place_is
        go (Some w) false z = ap (λ c. cond c (right (t - k) w.place) (left (t - k) f.0.place)) z ∙ ap (left (t - k)) place_is
        go (Some w) true z = absurd (impossible f.0 place_is z (cut_input names a f.0.name f.0.place inside.0))

    -- the circuit's own inputs have their values in it
    pub own_filled : (name : List ℕ) (p : P) (i k : ℕ) → Contains a.inputs (record { name = name; place = p }) → IsInputNumber (cut names a) oa p i → filled i k ≡ left (t - k) p
    own_filled name p i k own h = filled_left p i k h impossible
      where
        impossible : (m : Named P) → m.place ≡ p → never_left m.name ≡ true → Contains a.inputs m ⊎ (Contains names m.name × ((next : P) × IsLatch a m.name m.place next)) → ⊥
        impossible m e never (inl there) = left_clear m.name m.place there (only_names m.name never)
        impossible m e never (inr l) = sa.no_input (Latch m.name m.place l.1.0) l.1.1 (name, subst (λ (z : P). Contains a.inputs (record { name = name; place = z })) (sym e) own)

    left_inputs : (p : P) (i k s : ℕ) → IsInputNumber (cut names a) oa p i → k + s ≡ t → Marked a NoneEnabled left s p → filled i k ≡ left s p
    left_inputs p i k s h e mark = filled_left p i k h impossible ∙ ap (λ c. left c p) (let back : t - k ≡ s = omega arith in back)
      where
        impossible : (m : Named P) → m.place ≡ p → never_left m.name ≡ true → Contains a.inputs m ⊎ (Contains names m.name × ((next : P) × IsLatch a m.name m.place next)) → ⊥
        impossible m place never (inl own) = left_clear m.name m.place own (only_names m.name never)
        impossible m place never (inr l) = left_never m.name m.place l.1.0 l.1.1 never left s (subst (λ (z : P). Marked a NoneEnabled left s z) (sym place) mark)

    right_inputs : (q : Q) (i k s : ℕ) → IsInputNumber (cut names b) ob q i → k + s ≡ t → Marked b NoneEnabled right s q → filled i k ≡ right s q
    right_inputs q i k s h e mark =
        ap (λ o. chosen never_left (left (t - k)) (right (t - k)) (found_input (cut names a).inputs oa i) o) f.1 ∙ (go (found_input (cut names a).inputs oa i) refl ∙ ap (λ c. right c q) back)
      where
        back : t - k ≡ s
        back = omega arith

        f : (w : Named Q) × (found_input (cut names b).inputs ob i ≡ Some w)
        f = found_some (cut names b).inputs ob q i h

        place_is : f.0.place ≡ q
        place_is = numbered.right_once f.0.place q i (found_is (cut names b).inputs ob i f.0 f.1).1 h

        same_name_same_value : (m : Named P) → never_left m.name ≡ false → Contains (cut names a).inputs m × StandsBeside (cut names a).inputs oa m.place i → left (t - k) m.place ≡ right (t - k) q
        same_name_same_value m never inside = go' (cut_input names a name.0 m.place name.1) (cut_input names b name.0 q name.2)
          where
            name : (name : List ℕ) × Contains (cut names a).inputs (record { name = name; place = m.place }) × Contains (cut names b).inputs (record { name = name; place = q })
            name = numbered.shared m.place q i inside.1 h

            name_is : m.name ≡ name.0
            name_is = one_name m.name name.0 m.place inside.0 name.1

            go' : Contains a.inputs (record { name = name.0; place = m.place }) ⊎ (Contains names name.0 × ((next : P) × IsLatch a name.0 m.place next)) →
                Contains b.inputs (record { name = name.0; place = q }) ⊎ (Contains names name.0 × ((next : Q) × IsLatch b name.0 q next)) → left (t - k) m.place ≡ right (t - k) q
            go' (inl l) (inl r) = alike.equal_inputs name.0 m.place q l r (t - k) (omega arith)
            go' (inl l) (inr r) = absurd (left_clear name.0 m.place l r.0)
            go' (inr l) (inl r) = absurd (right_clear name.0 q r l.0)
            go' (inr l) (inr r) = absurd (right_never name.0 q r.1.0 r.0 r.1.1 (ap never_left (sym name_is) ∙ never) right s mark)

        go : (o : Option (Named P)) → found_input (cut names a).inputs oa i ≡ o → chosen never_left (left (t - k)) (right (t - k)) (found_input (cut names a).inputs oa i) (Some f.0) ≡ right (t - k) q
        go None z = ap (λ o. chosen never_left (left (t - k)) (right (t - k)) o (Some f.0)) z ∙ ap (right (t - k)) place_is
        go (Some m) z = ap (λ o. chosen never_left (left (t - k)) (right (t - k)) o (Some f.0)) z ∙ by_test (never_left m.name) refl
          where
            by_test : (b' : Bool) → never_left m.name ≡ b' → cond (never_left m.name) (right (t - k) f.0.place) (left (t - k) m.place) ≡ right (t - k) q
            by_test true y = ap (λ c. cond c (right (t - k) f.0.place) (left (t - k) m.place)) y ∙ ap (right (t - k)) place_is
            by_test false y = ap (λ c. cond c (right (t - k) f.0.place) (left (t - k) m.place)) y ∙ same_name_same_value m y (found_is (cut names a).inputs oa i m z)

    -- the trees of both sides have the runs' values there
    pub left_tree_filled : (p : P) {d : ℕ} {tree : Tree ℕ} → Unfolds (cut names a) oa p 0 d tree → Marked a NoneEnabled left t p → tree_value filled tree ≡ left t p
    left_tree_filled p unfolds mark = cut_tree_is_run names a sa oa n left alike.left_run t in_run filled left_inputs unfolds t (omega arith) mark

    pub right_tree_filled : (q : Q) {d : ℕ} {tree : Tree ℕ} → Unfolds (cut names b) ob q 0 d tree → Marked b NoneEnabled right t q → tree_value filled tree ≡ right t q
    right_tree_filled q unfolds mark = cut_tree_is_run names b sb ob n right alike.right_run t in_run filled right_inputs unfolds t (omega arith) mark

  pub parted_functions_agree : ((p : P) (q : Q) → IsPair [] a b p q → HaveEqualFunctions (cut names a) (cut names b) oa ob p q) → Agree Plain a b
  parted_functions_agree equal n left right alike t p q in_run pair lm rm =
      let e = equal p q pair in
      sym (left_tree_filled n left right alike t in_run p e.left_unfolds.1 lm) ∙ (e.same (filled n left right alike t in_run) tt ∙ right_tree_filled n left right alike t in_run q e.right_unfolds.1 rm)
