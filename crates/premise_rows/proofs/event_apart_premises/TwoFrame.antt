-- The frame that the pair of the `and` and the `or` isn't shown by.
use Rattle.std.proofs.Common.{◌≡◌, ◌∙◌, ℕ, zero, suc, ◌<◌, Bool, true, false, List, [], ◌∷◌, None, Some, refl, sym, subst, arith, inl, inr}
use Rattle.std.specs.Prelude.{◌⊎◌, ◌&&◌, codes}
use Rattle.std.specs.List.{Contains}
use Rattle.circuit_theory.specs.Cover.{Cover, cover_value}
use Rattle.circuit_theory.specs.EventFrames.{AreNodeVariables, HaveDifferentEvents, IsCareTree, IsEventDifference, IsPairTree, IsUnshownFrame, frame_of}
use Rattle.circuit_theory.specs.EventQueries.{IsEventPairQuery}
use Rattle.circuit_theory.specs.Frame.{ConeLatches, EventUnfolds, EventUnfoldsAll, HasCare, IsEnable, NodeBefore}
use Rattle.circuit_theory.specs.Joined.{Either, Left, Right}
use Rattle.circuit_theory.specs.Query.{Distinguishes, HasLeaf, HasLeafIn, Query, Variable, bits_of}
use Rattle.circuit_theory.specs.Run.{IsEnabled}
use Rattle.circuit_theory.specs.Tree.{Tree, Leaf, Branch, Nil, Cons, tree_value}
use Rattle.circuit_laws.proofs.JoinedParts.{joined_same}
use Rattle.circuit_laws.proofs.event_laws.EventTrees.{one_event_tree}
use Rattle.event_form.specs.Answers.{PairFits}
use Rattle.call_rows.specs.circuit_samples.Circuits.{and_cover}
use Rattle.call_rows.specs.circuit_samples.event_samples.Samples.{load_cover}
use Rattle.call_rows.proofs.circuit_samples.Each.{each_at, each_pair}
use Rattle.call_rows.proofs.circuit_samples.event_samples.HoldCells.{hold_tree, hold_next, hold_unfolds, hold_enable, hold_enable_is, at_root}
use Rattle.premise_rows.specs.event_apart_premises.TwoClasses.{and_or_pair, and_or_result}
use Rattle.premise_rows.specs.event_apart_premises.TwoLoads.{or_cover, both_loading, loaded_of, four_variables, q_alone}
use Rattle.premise_rows.proofs.event_apart_premises.TwoPair.{whole, single, number_once, left_q, left_r, right_q, right_r, left_q_latch, left_r_latch, right_q_latch, right_r_latch, loads_one, all_hold}
use Rattle.premise_rows.proofs.event_apart_premises.TwoTold.{q_cone, r_cone, not_always, size}

-- the trees of both outputs
abbrev On : Either ℕ ℕ → Type 0
On = IsEnabled whole

abbrev pub y_tree : Cover → Tree (List ℕ)
y_tree out = Branch out (Cons (hold_tree load_cover 0 2 false (1 ∷ [])) (Cons (hold_tree load_cover 1 2 false (2 ∷ [])) Nil))

left_unfolds : EventUnfolds both_loading On None (Left 7) [] (y_tree and_cover)
left_unfolds =
    EventUnfolds.gate {fanins = Left 3 ∷ Left 4 ∷ []} {cover = and_cover} (2, omega arith, refl)
    (EventUnfoldsAll.more (hold_unfolds both_loading joined_same single number_once (codes "q") (Left 3) (Left 5) left_q_latch left_q [])
    (EventUnfoldsAll.more (hold_unfolds both_loading joined_same single number_once (codes "r") (Left 4) (Left 6) left_r_latch left_r []) EventUnfoldsAll.none))

right_unfolds : EventUnfolds both_loading On None (Right 7) [] (y_tree or_cover)
right_unfolds =
    EventUnfolds.gate {fanins = Right 3 ∷ Right 4 ∷ []} {cover = or_cover} (7, omega arith, refl)
    (EventUnfoldsAll.more (hold_unfolds both_loading joined_same single number_once (codes "q") (Right 3) (Right 5) right_q_latch right_q [])
    (EventUnfoldsAll.more (hold_unfolds both_loading joined_same single number_once (codes "r") (Right 4) (Right 6) right_r_latch right_r []) EventUnfoldsAll.none))

-- the variables of the pair
at_leaf : (i : ℕ) (node : List ℕ) (x : Variable (List ℕ)) → HasLeaf x (Leaf i node) → record { input = i; at = node } ≡ x
at_leaf i node x HasLeaf.leaf = refl

load_leaf : (load : Cover) (i j : ℕ) (bit : Bool) (node : List ℕ) (x : Variable (List ℕ)) → HasLeaf x (hold_tree load i j bit node) → (record { input = i; at = node } ≡ x) ⊎ (record { input = j; at = node } ≡ x)
load_leaf load i j bit node x (HasLeaf.inside (HasLeafIn.first k)) = inl (at_leaf i node x k)
load_leaf load i j bit node x (HasLeaf.inside (HasLeafIn.later (HasLeafIn.first k))) = inr (at_leaf j node x k)
load_leaf load i j bit node x (HasLeaf.inside (HasLeafIn.later (HasLeafIn.later (HasLeafIn.first k)))) = absurd (elim k [ ])
load_leaf load i j bit node x (HasLeaf.inside (HasLeafIn.later (HasLeafIn.later (HasLeafIn.later k)))) = absurd (elim k [ ])

abbrev IsVariable : Variable (List ℕ) → Type 0
IsVariable x = Contains four_variables x

-- the input under which the latches of a class load, and a, when they last loaded
both_variables : (i : ℕ) → i < 2 → IsVariable (loaded_of (suc i) i) × IsVariable (loaded_of (suc i) 2)
both_variables zero l = ((0, omega arith, refl), (1, omega arith, refl))
both_variables (suc zero) l = ((2, omega arith, refl), (3, omega arith, refl))
both_variables (suc (suc i)) l = absurd (omega (arith, l))

is_variable : (k i j : ℕ) → k ≡ suc i → j ≡ 2 → i < 2 → (x : Variable (List ℕ)) → (loaded_of k i ≡ x) ⊎ (loaded_of k j ≡ x) → IsVariable x
is_variable k i j class two less x (inl same) = subst IsVariable same (subst (λ m. IsVariable (loaded_of m i)) (sym class) (both_variables i less).0)
is_variable k i j class two less x (inr same) = subst IsVariable same (subst (λ m. IsVariable (loaded_of m j)) (sym class) (subst (λ m. IsVariable (loaded_of (suc i) m)) (sym two) (both_variables i less).1))

y_leaf : (out : Cover) (x : Variable (List ℕ)) → HasLeaf x (y_tree out) → IsVariable x
y_leaf out x (HasLeaf.inside (HasLeafIn.first k)) = is_variable 1 0 2 refl refl (omega arith) x (load_leaf load_cover 0 2 false (1 ∷ []) x k)
y_leaf out x (HasLeaf.inside (HasLeafIn.later (HasLeafIn.first k))) = is_variable 2 1 2 refl refl (omega arith) x (load_leaf load_cover 1 2 false (2 ∷ []) x k)
y_leaf out x (HasLeaf.inside (HasLeafIn.later (HasLeafIn.later k))) = absurd (elim k [ ])

care_leaf : (p : Either ℕ ℕ) (x : Variable (List ℕ)) (tree : Tree (List ℕ)) → IsCareTree both_loading (ConeLatches whole p) tree → HasLeaf x tree → IsVariable x
care_leaf p x tree (IsCareTree.enable {node = node} {name = name} {v = v} {next = next} {bit = bit} reached latch on unfolds) stands =
    let at = at_root both_loading joined_same single number_once all_hold (ConeLatches whole p) node v reached in
    let h = loads_one name v next latch in
    let moved : EventUnfolds both_loading On (Some (v, bit)) next (both_loading.class v ∷ []) tree = subst (λ (m : List ℕ). EventUnfolds both_loading On (Some (v, bit)) next (both_loading.class v ∷ m) tree) at.0 unfolds in
    let same = one_event_tree both_loading On single number_once (name, next, latch) moved (hold_next both_loading joined_same single number_once name v next latch h.0 bit (both_loading.class v ∷ [])) in
    is_variable (both_loading.class v) h.0.i h.0.j h.1 h.2 h.3 x (load_leaf h.0.load h.0.i h.0.j bit (both_loading.class v ∷ []) x (subst (HasLeaf x) same stands))

abbrev Wanted : Tree (List ℕ) → Type 0
Wanted tree = IsPairTree both_loading (Left 7) (Right 7) tree

abbrev Found : Variable (List ℕ) → Type 0
Found x = (tree : Tree (List ℕ)) × Wanted tree × HasLeaf x tree

four_are : AreNodeVariables (IsPairTree both_loading (Left 7) (Right 7)) four_variables
four_are = record {
  in_order = each_pair NodeBefore four_variables (
    (inr (refl, inr (refl, omega arith)), (inr (refl, inl (inl (omega arith))), (inr (refl, inl (inl (omega arith))), tt))),
    ((inr (refl, inl (inl (omega arith))), (inr (refl, inl (inl (omega arith))), tt)), ((inr (refl, inr (refl, omega arith)), tt), (tt, tt))),
  );
  exactly = λ x. (
    λ h. each_at Found four_variables (
      (y_tree and_cover, inl (inl left_unfolds), HasLeaf.inside (HasLeafIn.first (HasLeaf.inside (HasLeafIn.first HasLeaf.leaf)))),
      (
        (y_tree and_cover, inl (inl left_unfolds), HasLeaf.inside (HasLeafIn.first (HasLeaf.inside (HasLeafIn.later (HasLeafIn.first HasLeaf.leaf))))),
        (
          (y_tree and_cover, inl (inl left_unfolds), HasLeaf.inside (HasLeafIn.later (HasLeafIn.first (HasLeaf.inside (HasLeafIn.first HasLeaf.leaf))))),
          ((y_tree and_cover, inl (inl left_unfolds), HasLeaf.inside (HasLeafIn.later (HasLeafIn.first (HasLeaf.inside (HasLeafIn.later (HasLeafIn.first HasLeaf.leaf)))))), tt),
        ),
      ),
    ) x h,
    λ f. back x f.0 f.1 f.2,
  );
}
  where
    back : (x : Variable (List ℕ)) (tree : Tree (List ℕ)) → Wanted tree → HasLeaf x tree → IsVariable x
    back x tree (inl (inl u)) stands = y_leaf and_cover x (subst (HasLeaf x) (one_event_tree both_loading On single number_once tt u left_unfolds) stands)
    back x tree (inl (inr u)) stands = y_leaf or_cover x (subst (HasLeaf x) (one_event_tree both_loading On single number_once tt u right_unfolds) stands)
    back x tree (inr (inl care)) stands = care_leaf (Left 7) x tree care stands
    back x tree (inr (inr care)) stands = care_leaf (Right 7) x tree care stands

-- there is care exactly where e is 1 at the child by class 1, and f at that by class 2
module _ (bits : ℕ → List ℕ → Bool) where
  has_care : (p : Either ℕ ℕ) → bits 0 (1 ∷ []) ≡ true → bits 1 (2 ∷ []) ≡ true → HasCare both_loading On (ConeLatches whole p) bits
  has_care p e f node v reached =
      let at = at_root both_loading joined_same single number_once all_hold (ConeLatches whole p) node v reached in
      let h = loads_one at.1.0 v at.1.1 at.1.2 in
      let enable = hold_enable both_loading joined_same single number_once at.1.0 v at.1.1 at.1.2 h.0 bits (both_loading.class v ∷ []) in
      subst (λ (m : List ℕ). IsEnable both_loading On bits v (both_loading.class v ∷ m) true) (sym at.0) (subst (IsEnable both_loading On bits v (both_loading.class v ∷ [])) (on (both_loading.class v) h.0.i h.1 h.3) enable)
    where
      on : (k i : ℕ) → k ≡ suc i → i < 2 → bits i (k ∷ []) ≡ true
      on k zero class less = subst (λ m. bits 0 (m ∷ []) ≡ true) (sym class) e
      on k (suc zero) class less = subst (λ m. bits 1 (m ∷ []) ≡ true) (sym class) f
      on k (suc (suc i)) class less = absurd (omega (arith, less))

  of_care : HasCare both_loading On (ConeLatches whole (Left 7)) bits → (bits 0 (1 ∷ []) ≡ true) × (bits 1 (2 ∷ []) ≡ true)
  of_care care = (
    sym (hold_enable_is both_loading joined_same single number_once (codes "q") (Left 3) (Left 5) left_q_latch left_q bits (1 ∷ []) true (care [] (Left 3) q_cone)),
    sym (hold_enable_is both_loading joined_same single number_once (codes "r") (Left 4) (Left 6) left_r_latch left_r bits (2 ∷ []) true (care [] (Left 4) r_cone)),
  )

abbrev pub asked : Query (List ℕ)
asked = record { left = λ bits. tree_value bits (y_tree and_cover); right = λ bits. tree_value bits (y_tree or_cover); care = λ bits. bits 0 (1 ∷ []) && bits 1 (2 ∷ []) }

both_are : (x y : Bool) → (x && y) ≡ true → (x ≡ true) × (y ≡ true)
both_are true y h = (refl, h)
both_are false y h = cc

and_is : (x y : Bool) → x ≡ true → y ≡ true → (x && y) ≡ true
and_is x y h k = cc

asks : IsEventPairQuery both_loading (Left 7) (Right 7) asked
asks = record {
  left_tree = y_tree and_cover;
  right_tree = y_tree or_cover;
  left_unfolds = left_unfolds;
  right_unfolds = right_unfolds;
  left = λ bits. refl;
  right = λ bits. refl;
  care = λ bits. (
    λ h. let on = both_are (bits 0 (1 ∷ [])) (bits 1 (2 ∷ [])) h in (has_care bits (Left 7) on.0 on.1, has_care bits (Right 7) on.0 on.1),
    λ care. let on = of_care bits care.0 in and_is (bits 0 (1 ∷ [])) (bits 1 (2 ∷ [])) on.0 on.1,
  );
}

-- the frame
abbrev bits : ℕ → List ℕ → Bool
bits = frame_of four_variables q_alone

and_value : false ≡ tree_value bits (y_tree and_cover)
unfolding tree_value cover_value
and_value = refl

or_value : true ≡ tree_value bits (y_tree or_cover)
unfolding tree_value cover_value
or_value = refl

differ : false ≡ true → ⊥
differ e = cc

distinguishes : Distinguishes asked (frame_of four_variables q_alone)
distinguishes = record { care = refl; differs = λ e. differ (and_value ∙ (e ∙ sym or_value)) }

least : (m : ℕ) → m < 7 → Distinguishes asked (frame_of four_variables (bits_of m 4)) → ⊥
unfolding tree_value cover_value
least zero l d = differ d.care
least (suc zero) l d = differ d.care
least (suc (suc zero)) l d = differ d.care
least (suc (suc (suc zero))) l d = differ d.care
least (suc (suc (suc (suc zero)))) l d = differ d.care
least (suc (suc (suc (suc (suc zero))))) l d = d.differs refl
least (suc (suc (suc (suc (suc (suc zero)))))) l d = differ d.care
least (suc (suc (suc (suc (suc (suc (suc m))))))) l d = absurd (omega (arith, l))

pub difference : IsEventDifference both_loading (Left 7) (Right 7) asked four_variables q_alone
difference = record { asks = asks; are_variables = four_are; each = refl; distinguishes = distinguishes; least = λ few. (7, refl, record { in_range = omega arith; distinguishes = distinguishes; least = least }) }

pub shown : IsUnshownFrame both_loading (Left 7) (Right 7) four_variables q_alone false true
shown = record {
  left_tree = y_tree and_cover;
  right_tree = y_tree or_cover;
  left_unfolds = left_unfolds;
  right_unfolds = right_unfolds;
  are_variables = four_are;
  each = refl;
  left_care = has_care bits (Left 7) refl refl;
  right_care = has_care bits (Right 7) refl refl;
  left_value = and_value;
  right_value = or_value;
  differ = differ;
}

differs : HaveDifferentEvents both_loading (Left 7) (Right 7)
differs = record {
  left_tree = y_tree and_cover;
  right_tree = y_tree or_cover;
  left_unfolds = left_unfolds;
  right_unfolds = right_unfolds;
  bits = bits;
  care = (shown.left_care, shown.right_care);
  differ = distinguishes.differs;
}

pub pair_fits : (conflicts : ℕ) → PairFits both_loading false conflicts and_or_pair and_or_result
pair_fits conflicts = record { name_is = refl; size_is = size; answer_is = (λ decisive. not_always decisive.1, differs) }
