-- The coarsest inductive partition exists: as long as values that are constant on the blocks split one, the partition is split, and
-- no split takes the latches of an inductive partition apart.
use Rattle.std.proofs.Common.{◌≡◌, ◌≢◌, ℕ, zero, suc, ◌≤◌, Bool, List, [], ◌∷◌, ◌++◌, length, map, refl, sym, ◌∙◌, ap, subst, arith, inl, inr, Some, slice_get}
use Rattle.std.specs.Prelude.{◌⊎◌}
use Rattle.std.specs.List.{Contains}
use Rattle.std.proofs.lemmas.List.Elements.{Contains-append_left, Contains-append_right}
use Rattle.std.proofs.lemmas.Option.{slice_get_within}
use Rattle.circuit_theory.specs.Circuit.{Circuit, Equation, Gate, Latch, Port, Named, IsLatch, IsSource, Meets, IsSingleDriven, out_of}
use Rattle.circuit_theory.specs.Run.{Extends, IsDetermined}
use Rattle.circuit_theory.specs.Depth.{without}
use Rattle.circuit_theory.specs.Tree.{StandsBeside}
use Rattle.circuit_theory.specs.Joined.{Either, joined}
use Rattle.circuit_theory.specs.Blocks.{IsConstantOn, IsCoarsest}
use Rattle.circuit_laws.proofs.Finite.{Decided, find_or}
use Rattle.circuit_theory.proofs.Inputs.{beside_is_input}
use Rattle.circuit_laws.proofs.JoinedParts.{joined_same, joined_single, joined_determined}
use Rattle.circuit_theory.proofs.Lists.{Contains-cases, Contains-map, at_of}
use Rattle.circuit_theory.proofs.Sums.{same_or_not, contains_without}
use Rattle.circuit_laws.proofs.Values.{values_unique}
use Rattle.circuit_laws.specs.reset_laws.Reset.{HasOneStart}
use Rattle.circuit_laws.specs.reset_laws.induct_laws.Partitions.{ShareStart, IsCoarser, IsSplitBy}
use Rattle.circuit_laws.specs.reset_laws.induct_laws.Laws.{CoarsestExists}
use Rattle.circuit_laws.proofs.finite_laws.Deciding.{decided_imp, decided_both, decided_not, bits_decided, decided_each, decided_some, decided_beside, assignments, all_assigned}
use Rattle.circuit_laws.proofs.reset_laws.induct_laws.Partitions.{split_coarser, initial_coarser}
use Rattle.circuit_laws.proofs.reset_laws.induct_laws.Splitting.{split_by, split_is, initial, initial_is, place_number, place_number-distinct, joined_one_start}
use Rattle.circuit_laws.proofs.JoinedValues.{joined_values}

length_without : {X : Type 0} (ys : List X) (i : ℕ) (y : X) → slice_get ys i ≡ Some y → suc (length (without ys i)) ≡ length ys
length_without [] i y e = absurd (let k = slice_get_within [] i y e in omega arith)
length_without (z ∷ ys) zero y e = refl
length_without (z ∷ ys) (suc i) y e = ap suc (length_without ys i y e)

-- all pairs
abbrev pairs : {X : Type 0} → List X → List X → List (X × X)
pairs [] ys = []
pairs (x ∷ xs) ys = map (λ y. (x, y)) ys ++ pairs xs ys

all_pairs : {X : Type 0} (xs ys : List X) (x y : X) → Contains xs x → Contains ys y → Contains (pairs xs ys) (x, y)
all_pairs [] ys x y h k = absurd (omega (arith, h.1))
all_pairs {X} (z ∷ xs) ys x y h k = go (λ j. all_pairs xs ys x y j k) (Contains-cases z x xs h)
  where
    go : (Contains xs x → Contains (pairs xs ys) (x, y)) → (z ≡ x) ⊎ Contains xs x → Contains (map (λ w. (z, w)) ys ++ pairs xs ys) (x, y)
    go later (inl e) =
        subst (λ (w : X). Contains (map (λ v. (z, v)) ys ++ pairs xs ys) (w, y)) e (Contains-append_left (map (λ v. (z, v)) ys) (pairs xs ys) (z, y) (Contains-map (λ v. (z, v)) ys y k))
    go later (inr j) = Contains-append_right (map (λ w. (z, w)) ys) (pairs xs ys) (x, y) (later j)

module _ {P : Type 0} (c : Circuit P) (order : List ℕ) where
  -- both are latches of one block, which take over different values
  abbrev Differ : (P → ℕ) → (P → Bool) → Equation P → Equation P → Type 0
  Differ block x (Latch name u next) (Latch name' v next') = (block u ≡ block v) × (x next ≡ x next' → ⊥)
  Differ block x (Latch name u next) (Gate out fanins cover) = ⊥
  Differ block x (Latch name u next) (Port out from) = ⊥
  Differ block x (Gate out fanins cover) f = ⊥
  Differ block x (Port out from) f = ⊥

  differ_decided : (block : P → ℕ) (x : P → Bool) (e f : Equation P) → Decided (Differ block x e f)
  differ_decided block x (Latch name u next) (Latch name' v next') = decided_both (same_or_not (block u) (block v)) (decided_not (bits_decided (x next) (x next')))
  differ_decided block x (Latch name u next) (Gate out fanins cover) = inr (λ h. h)
  differ_decided block x (Latch name u next) (Port out from) = inr (λ h. h)
  differ_decided block x (Gate out fanins cover) f = inr (λ h. h)
  differ_decided block x (Port out from) f = inr (λ h. h)

  -- latches of one block have one value
  abbrev Alike : (P → ℕ) → (P → Bool) → Equation P → Equation P → Type 0
  Alike block x (Latch name u next) (Latch name' v next') = block u ≡ block v → x u ≡ x v
  Alike block x (Latch name u next) (Gate out fanins cover) = Unit {0}
  Alike block x (Latch name u next) (Port out from) = Unit {0}
  Alike block x (Gate out fanins cover) f = Unit {0}
  Alike block x (Port out from) f = Unit {0}

  alike_decided : (block : P → ℕ) (x : P → Bool) (e f : Equation P) → Decided (Alike block x e f)
  alike_decided block x (Latch name u next) (Latch name' v next') = decided_imp (same_or_not (block u) (block v)) (bits_decided (x u) (x v))
  alike_decided block x (Latch name u next) (Gate out fanins cover) = inl tt
  alike_decided block x (Latch name u next) (Port out from) = inl tt
  alike_decided block x (Gate out fanins cover) f = inl tt
  alike_decided block x (Port out from) f = inl tt

  alike_from : (block : P → ℕ) (x : P → Bool) → IsConstantOn c order block x → (e f : Equation P) → Contains c.equations e → Contains c.equations f → Alike block x e f
  alike_from block x h (Latch name u next) (Latch name' v next') l m = h.latches name name' u next v next' l m
  alike_from block x h (Latch name u next) (Gate out fanins cover) l m = tt
  alike_from block x h (Latch name u next) (Port out from) l m = tt
  alike_from block x h (Gate out fanins cover) f l m = tt
  alike_from block x h (Port out from) f l m = tt

  -- inputs of one number have one value
  abbrev InputsAlike : (P → Bool) → P → ℕ → Type 0
  InputsAlike x p i = (q : P) (k : ℕ) → StandsBeside c.inputs order q k → i ≡ k → x p ≡ x q

  inputs_decided : (x : P → Bool) → Decided ((p : P) (i : ℕ) → StandsBeside c.inputs order p i → InputsAlike x p i)
  inputs_decided x = decided_beside c.inputs order (InputsAlike x) (λ p i. decided_beside c.inputs order (λ q k. i ≡ k → x p ≡ x q) (λ q k. decided_imp (same_or_not i k) (bits_decided (x p) (x q))))

  latches_decided : (block : P → ℕ) (x : P → Bool) → Decided ((e : Equation P) → Contains c.equations e → (f : Equation P) → Contains c.equations f → Alike block x e f)
  latches_decided block x = decided_each (λ e. (f : Equation P) → Contains c.equations f → Alike block x e f) c.equations (λ e l. decided_each (Alike block x e) c.equations (λ f m. alike_decided block x e f))

  constant_decided : (block : P → ℕ) (x : P → Bool) → Decided (IsConstantOn c order block x)
  constant_decided block x = go (inputs_decided x) (latches_decided block x)
    where
      go : Decided ((p : P) (i : ℕ) → StandsBeside c.inputs order p i → InputsAlike x p i) → Decided ((e : Equation P) → Contains c.equations e → (f : Equation P) → Contains c.equations f → Alike block x e f) → Decided (IsConstantOn c order block x)
      go (inl i) (inl l) = inl (record {
        inputs = λ p q k h j. i p k h q k j refl;
        latches = λ name name' u next v next' m n e. l (Latch name u next) m (Latch name' v next') n e;
      })
      go (inr n) l = inr (λ h. n (λ p i s q k t e. h.inputs p q i s (subst (λ w. StandsBeside c.inputs order q w) (sym e) t)))
      go (inl i) (inr n) = inr (λ h. n (λ e l f m. alike_from block x h e f l m))

  -- values that split a block, with two of its latches
  record Splits (block : P → ℕ) (x : P → Bool) : Type 0 where
    one : Equation P
    other : Equation P
    one_there : Contains c.equations one
    other_there : Contains c.equations other
    constant : IsConstantOn c order block x
    differ : Differ block x one other

  -- no values that are constant on the blocks split one
  abbrev KeepsBlocks : (P → ℕ) → Type 0
  KeepsBlocks block = (x : P → Bool) → Meets c x → IsConstantOn c order block x →
      (name name' : List ℕ) (u next v next' : P) → IsLatch c name u next → IsLatch c name' v next' → block u ≡ block v → x next ≡ x next'

  splits_decided : (block : P → ℕ) (x : P → Bool) → Decided (Splits block x)
  splits_decided block x = go (constant_decided block x) (decided_some Some_other c.equations (λ e l. decided_some (Differ block x e) c.equations (λ f m. differ_decided block x e f)))
    where
      Some_other : Equation P → Type 0
      Some_other e = (f : Equation P) × Contains c.equations f × Differ block x e f

      go : Decided (IsConstantOn c order block x) → Decided ((e : Equation P) × Contains c.equations e × Some_other e) → Decided (Splits block x)
      go (inr n) d = inr (λ s. n s.constant)
      go (inl k) (inr n) = inr (λ s. n (s.one, s.one_there, (s.other, s.other_there, s.differ)))
      go (inl k) (inl r) = inl (record { one = r.0; other = r.2.0; one_there = r.1; other_there = r.2.1; constant = k; differ = r.2.2 })

  -- both are latches of one block
  abbrev InOneBlock : (P → ℕ) → Equation P → Equation P → Type 0
  InOneBlock block (Latch name u next) (Latch name' v next') = block u ≡ block v
  InOneBlock block (Latch name u next) (Gate out fanins cover) = ⊥
  InOneBlock block (Latch name u next) (Port out from) = ⊥
  InOneBlock block (Gate out fanins cover) f = ⊥
  InOneBlock block (Port out from) f = ⊥

  differ_in_one : (block : P → ℕ) (x : P → Bool) (e f : Equation P) → Differ block x e f → InOneBlock block e f
  differ_in_one block x (Latch name u next) (Latch name' v next') h = h.0
  differ_in_one block x (Latch name u next) (Gate out fanins cover) h = h
  differ_in_one block x (Latch name u next) (Port out from) h = h
  differ_in_one block x (Gate out fanins cover) f h = h
  differ_in_one block x (Port out from) f h = h

  finer_in_one : (block fine : P → ℕ) (x : P → Bool) → IsSplitBy c block x fine → (e f : Equation P) → Contains c.equations e → Contains c.equations f → InOneBlock fine e f → InOneBlock block e f
  finer_in_one block fine x split (Latch name u next) (Latch name' v next') l m h = ((split name name' u next v next' l m).0 h).0
  finer_in_one block fine x split (Latch name u next) (Gate out fanins cover) l m h = h
  finer_in_one block fine x split (Latch name u next) (Port out from) l m h = h
  finer_in_one block fine x split (Gate out fanins cover) f l m h = h
  finer_in_one block fine x split (Port out from) f l m h = h

  split_apart : (block fine : P → ℕ) (x : P → Bool) → IsSplitBy c block x fine → (e f : Equation P) → Contains c.equations e → Contains c.equations f → Differ block x e f → InOneBlock fine e f → ⊥
  split_apart block fine x split (Latch name u next) (Latch name' v next') l m d h = d.1 ((split name name' u next v next' l m).0 h).1
  split_apart block fine x split (Latch name u next) (Gate out fanins cover) l m d h = h
  split_apart block fine x split (Latch name u next) (Port out from) l m d h = h
  split_apart block fine x split (Gate out fanins cover) f l m d h = h
  split_apart block fine x split (Port out from) f l m d h = h

  -- all pairs of latches of one block are open
  abbrev AreOpen : (P → ℕ) → List (Equation P × Equation P) → Type 0
  AreOpen block open_pairs = (e f : Equation P) → Contains c.equations e → Contains c.equations f → InOneBlock block e f → Contains open_pairs (e, f)

  -- members of a block have one initial value
  abbrev StartAlike : (P → ℕ) → Type 0
  StartAlike block = (name name' : List ℕ) (u next v next' : P) → IsLatch c name u next → IsLatch c name' v next' → u ≢ v → block u ≡ block v → ShareStart c u v

  -- the pair that was split is closed
  fewer_open : (block fine : P → ℕ) (x : P → Bool) (open_pairs : List (Equation P × Equation P)) (i : ℕ) (s : Splits block x) → slice_get open_pairs i ≡ Some (s.one, s.other) → IsSplitBy c block x fine →
      AreOpen block open_pairs → AreOpen fine (without open_pairs i)
  fewer_open block fine x open_pairs i s at split all e f l m h = go (at_of open_pairs (e, f) (all e f l m (finer_in_one block fine x split e f l m h)))
    where
      go : (j : ℕ) × (slice_get open_pairs j ≡ Some (e, f)) → Contains (without open_pairs i) (e, f)
      go j = contains_without open_pairs i j.0 (e, f) j.1 (λ q. apart (ap (slice_get open_pairs) (sym q) ∙ j.1))
        where
          unwrap : (y z : Equation P × Equation P) → Some y ≡ Some z → y ≡ z
          unwrap y z q = cc

          apart : slice_get open_pairs i ≡ Some (e, f) → ⊥
          apart q =
              let one : (s.one, s.other) ≡ (e, f) = unwrap (s.one, s.other) (e, f) (sym at ∙ q) in
              split_apart block fine x split s.one s.other s.one_there s.other_there s.differ
              (subst (λ (y : Equation P × Equation P). InOneBlock fine y.0 y.1) (sym one) h)

  module _ (same : (p q : P) → (p ≡ q) ⊎ (p ≡ q → ⊥)) (single : IsSingleDriven c) (values : (x : P → Bool) → (v : P → Bool) × Extends c x v) (determined : (name : List ℕ) (u next : P) → IsLatch c name u next → IsDetermined c next) where
    -- all inputs and latches are among these
    abbrev places : List P
    places = map (λ (i : Named P). i.place) c.inputs ++ map out_of c.equations

    source_listed : (p : P) → IsSource c p → Contains places p
    source_listed p (inl i) = Contains-append_left (map (λ (n : Named P). n.place) c.inputs) (map out_of c.equations) p (Contains-map (λ (n : Named P). n.place) c.inputs (record { name = i.0; place = p }) i.1)
    source_listed p (inr l) = Contains-append_right (map (λ (n : Named P). n.place) c.inputs) (map out_of c.equations) p (Contains-map out_of c.equations (Latch l.0 p l.1) l.2)

    -- values that split a block, or none do
    splits_or_keeps : (block : P → ℕ) → ((x : P → Bool) × Meets c x × Splits block x) ⊎ KeepsBlocks block
    splits_or_keeps block = go (find_or (λ y. Splits block (values y).0) (assignments same places) (λ y h. splits_decided block (values y).0))
      where
        keeps : ((y : P → Bool) → Contains (assignments same places) y → Splits block (values y).0 → ⊥) → KeepsBlocks block
        keeps none x meets constant name name' u next v next' l m e = pick (bits_decided (x next) (x next'))
          where
            y : (y : P → Bool) × Contains (assignments same places) y × ((q : P) → Contains places q → y q ≡ x q)
            y = all_assigned same places x

            w : P → Bool
            w = (values y.0).0

            agrees : (p : P) → IsSource c p → w p ≡ x p
            agrees p s = (values y.0).1.sources p s ∙ y.2 p (source_listed p s)

            takes_over : (own : List ℕ) (p to : P) → IsLatch c own p to → w to ≡ x to
            takes_over own p to k = values_unique c x w x (record { meets = (values y.0).1.meets; sources = agrees }) (record { meets = meets; sources = λ q s. refl }) (determined own p to k)

            input_agrees : (p : P) (i : ℕ) → StandsBeside c.inputs order p i → w p ≡ x p
            input_agrees p i h = agrees p (inl (beside_is_input c.inputs order p i h))

            latch_agrees : (own : List ℕ) (p to : P) → IsLatch c own p to → w p ≡ x p
            latch_agrees own p to k = agrees p (inr (own, to, k))

            w_constant : IsConstantOn c order block w
            w_constant = record {
              inputs = λ p q i h k. input_agrees p i h ∙ (constant.inputs p q i h k ∙ sym (input_agrees q i k));
              latches = λ a b p s q t h k same_block. latch_agrees a p s h ∙ (constant.latches a b p s q t h k same_block ∙ sym (latch_agrees b q t k));
            }

            pick : Decided (x next ≡ x next') → x next ≡ x next'
            pick (inl q) = q
            pick (inr n) = absurd (none y.0 y.1 (record {
              one = Latch name u next;
              other = Latch name' v next';
              one_there = l;
              other_there = m;
              constant = w_constant;
              differ = (e, λ q. n (sym (takes_over name u next l) ∙ (q ∙ takes_over name' v next' m)));
            }))

        go : ((y : P → Bool) × Contains (assignments same places) y × Splits block (values y).0) ⊎ ((y : P → Bool) → Contains (assignments same places) y → Splits block (values y).0 → ⊥) → ((x : P → Bool) × Meets c x × Splits block x) ⊎ KeepsBlocks block
        go (inl r) = inl ((values r.0).0, (values r.0).1.meets, r.2)
        go (inr none) = inr (keeps none)

    -- a coarsest inductive partition, from one that each inductive partition refines
    find_coarsest : (n : ℕ) (open_pairs : List (Equation P × Equation P)) (block : P → ℕ) → length open_pairs ≤ n → AreOpen block open_pairs → IsCoarser c order block → StartAlike block → (final : P → ℕ) × IsCoarsest c order final
    find_coarsest zero open_pairs block le open_all coarser starts = go (splits_or_keeps block)
      where
        go : ((x : P → Bool) × Meets c x × Splits block x) ⊎ KeepsBlocks block → (final : P → ℕ) × IsCoarsest c order final
        go (inr keeps) = (block, record { inductive = record { starts = starts; steps = keeps }; coarsest = coarser })
        go (inl r) =
            let s = r.2 in
            let at = open_all s.one s.other s.one_there s.other_there (differ_in_one block r.0 s.one s.other s.differ) in
            absurd (omega (arith, at.1, le))
    find_coarsest (suc n) open_pairs block le open_all coarser starts = go (λ ps b. find_coarsest n ps b) (splits_or_keeps block)
      where
        go : ((ps : List (Equation P × Equation P)) (b : P → ℕ) → length ps ≤ n → AreOpen b ps → IsCoarser c order b → StartAlike b → (final : P → ℕ) × IsCoarsest c order final) →
            ((x : P → Bool) × Meets c x × Splits block x) ⊎ KeepsBlocks block → (final : P → ℕ) × IsCoarsest c order final
        go later (inr keeps) = (block, record { inductive = record { starts = starts; steps = keeps }; coarsest = coarser })
        go later (inl r) =
            let s = r.2 in
            let fine : P → ℕ = split_by same c block r.0 in
            let split : IsSplitBy c block r.0 fine = split_is same c single block r.0 in
            let at = at_of open_pairs (s.one, s.other) (open_all s.one s.other s.one_there s.other_there (differ_in_one block r.0 s.one s.other s.differ)) in
            later (without open_pairs at.0) fine (omega (arith, length_without open_pairs at.0 (s.one, s.other) at.1)) (fewer_open block fine r.0 open_pairs at.0 s at.1 split open_all)
            (split_coarser c order block fine r.0 coarser r.1 s.constant split)
            (λ name name' u next v next' l m apart e. starts name name' u next v next' l m apart ((split name name' u next v next' l m).0 e).0)

    pub coarsest_from : (block : P → ℕ) → IsCoarser c order block → StartAlike block → (final : P → ℕ) × IsCoarsest c order final
    coarsest_from block coarser starts =
        let all = pairs c.equations c.equations in
        find_coarsest (length all) all block (omega arith) (λ e f l m h. all_pairs c.equations c.equations e f l m) coarser starts

pub coarsest_exists : CoarsestExists
coarsest_exists a b m n order na nb oa ob =
    let whole = joined a b in
    let one : HasOneStart whole = joined_one_start a b oa ob in
    let first : Either ℕ ℕ → ℕ = initial joined_same place_number place_number-distinct whole one in
    let is = initial_is joined_same place_number place_number-distinct whole one in
    coarsest_from whole order joined_same (joined_single a b m n na nb) (joined_values a b m n na nb) (joined_determined a b m n na nb) first
    (initial_coarser whole joined_same order first is)
    (λ name name' u next v next' l r apart e. (is name name' u next v next' l r apart).0 e)
