-- The separation of the two classes of the opened circuits: where e is 1 and f is 0, q loads and r doesn't.
use Rattle.std.proofs.Common.{◌≡◌, ◌≢◌, ℕ, ◌<◌, Bool, true, false, List, [], ◌∷◌, refl, subst, arith, inl, inr}
use Rattle.std.specs.Prelude.{◌⊎◌, codes}
use Rattle.std.specs.List.{Contains}
use Rattle.circuit_theory.specs.Cover.{Cover}
use Rattle.circuit_theory.specs.Tree.{Tree}
use Rattle.circuit_theory.specs.Query.{Variable, HasLeaf, HasLeafIn}
use Rattle.circuit_theory.specs.Joined.{Left, Right}
use Rattle.circuit_theory.specs.Frame.{NodeBefore}
use Rattle.circuit_theory.specs.Classes.{IsFounder}
use Rattle.circuit_theory.specs.EventFrames.{IsEnableTree, IsClassTree, AreNodeVariables, IsSeparation, IsSeparationFromAlways, frame_of}
use Rattle.circuit_laws.proofs.JoinedParts.{joined_same}
use Rattle.call_rows.proofs.circuit_samples.Each.{each_at, each_pair}
use Rattle.call_rows.specs.circuit_samples.event_samples.Samples.{load_cover, load_not_cover}
use Rattle.call_rows.specs.circuit_samples.event_samples.Events.{root_variable}
use Rattle.call_rows.proofs.circuit_samples.event_samples.HoldCells.{hold_tree, hold_next, hold_leaf, hold_enabled, hold_enable, enable_care, no_care_tree}
use Rattle.call_rows.proofs.circuit_samples.event_samples.TwoClasses.{side, order, single, number_once, all_hold, left_q, left_r, left_q_latch, left_r_latch}

founder_of_two : IsFounder side order 2 (Left 5)
founder_of_two = record { before = Left 3 ∷ []; after = Right 3 ∷ Right 5 ∷ []; split = refl; class_is = refl; first = λ u h. each_at (λ v. side.class v ≢ 2) (Left 3 ∷ []) ((λ e. omega (arith, e)), tt) u h }

founder_of_one : IsFounder side order 1 (Left 3)
founder_of_one = record { before = []; after = Left 5 ∷ Right 3 ∷ Right 5 ∷ []; split = refl; class_is = refl; first = λ u h. absurd (omega (arith, h.1)) }

q_tree : IsEnableTree side (Left 3) (hold_tree load_not_cover 0 2 false [])
q_tree = IsEnableTree.own {name = codes "q"} {next = Left 4} left_q_latch (hold_enabled side joined_same single number_once (codes "q") (Left 3) (Left 4) left_q_latch left_q) (hold_next side joined_same single number_once (codes "q") (Left 3) (Left 4) left_q_latch left_q false [])

r_tree : IsEnableTree side (Left 5) (hold_tree load_cover 1 2 false [])
r_tree = IsEnableTree.own {name = codes "r"} {next = Left 6} left_r_latch (hold_enabled side joined_same single number_once (codes "r") (Left 5) (Left 6) left_r_latch left_r) (hold_next side joined_same single number_once (codes "r") (Left 5) (Left 6) left_r_latch left_r false [])

first_leaf : (load : Cover) (i j : ℕ) (bit : Bool) → HasLeaf (root_variable i) (hold_tree load i j bit [])
first_leaf load i j bit = HasLeaf.inside (HasLeafIn.first HasLeaf.leaf)

second_leaf : (load : Cover) (i j : ℕ) (bit : Bool) → HasLeaf (root_variable j) (hold_tree load i j bit [])
second_leaf load i j bit = HasLeaf.inside (HasLeafIn.later (HasLeafIn.first HasLeaf.leaf))

abbrev Found : (Tree (List ℕ) → Type 0) → Variable (List ℕ) → Type 0
Found wanted x = (tree : Tree (List ℕ)) × wanted tree × HasLeaf x tree

at_root : (i j : ℕ) → i < j → NodeBefore (root_variable i) (root_variable j)
at_root i j l = inr (refl, inr (refl, l))

abbrev three : List (Variable (List ℕ))
three = root_variable 0 ∷ root_variable 1 ∷ root_variable 2 ∷ []

-- an enable tree of q or r, and the leaves that it has
q_leaf : (xs : List (Variable (List ℕ))) → Contains xs (root_variable 0) → Contains xs (root_variable 2) → (tree : Tree (List ℕ)) → IsEnableTree side (Left 3) tree → (x : Variable (List ℕ)) → HasLeaf x tree → Contains xs x
q_leaf xs e a tree is x stands = go (hold_leaf side joined_same single number_once (codes "q") (Left 3) (Left 4) left_q_latch left_q tree is x stands)
  where
    go : (root_variable 0 ≡ x) ⊎ (root_variable 2 ≡ x) → Contains xs x
    go (inl d) = subst (Contains xs) d e
    go (inr d) = subst (Contains xs) d a

r_leaf : (xs : List (Variable (List ℕ))) → Contains xs (root_variable 1) → Contains xs (root_variable 2) → (tree : Tree (List ℕ)) → IsEnableTree side (Left 5) tree → (x : Variable (List ℕ)) → HasLeaf x tree → Contains xs x
r_leaf xs f a tree is x stands = go (hold_leaf side joined_same single number_once (codes "r") (Left 5) (Left 6) left_r_latch left_r tree is x stands)
  where
    go : (root_variable 1 ≡ x) ⊎ (root_variable 2 ≡ x) → Contains xs x
    go (inl d) = subst (Contains xs) d f
    go (inr d) = subst (Contains xs) d a

three_are : AreNodeVariables (IsClassTree side (Left 3) (Left 5)) three
three_are = record {
  in_order = each_pair NodeBefore three ((at_root 0 1 (omega arith), (at_root 0 2 (omega arith), tt)), ((at_root 1 2 (omega arith), tt), (tt, tt)));
  exactly = λ x. (
    (λ h. each_at (Found (IsClassTree side (Left 3) (Left 5))) three (
      (hold_tree load_not_cover 0 2 false [], inl (inl q_tree), first_leaf load_not_cover 0 2 false),
      (
        (hold_tree load_cover 1 2 false [], inl (inr r_tree), first_leaf load_cover 1 2 false),
        ((hold_tree load_not_cover 0 2 false [], inl (inl q_tree), second_leaf load_not_cover 0 2 false), tt),
      ),
    ) x h),
    λ f. back x f.0 f.1 f.2,
  );
}
  where
    back : (x : Variable (List ℕ)) (tree : Tree (List ℕ)) → IsClassTree side (Left 3) (Left 5) tree → HasLeaf x tree → Contains three x
    back x tree (inl (inl is)) stands = q_leaf three (0, omega arith, refl) (2, omega arith, refl) tree is x stands
    back x tree (inl (inr is)) stands = r_leaf three (1, omega arith, refl) (2, omega arith, refl) tree is x stands
    back x tree (inr (inl care)) stands = absurd (no_care_tree side joined_same single number_once all_hold (Left 3) tree care)
    back x tree (inr (inr care)) stands = absurd (no_care_tree side joined_same single number_once all_hold (Left 5) tree care)

apart : true ≡ false → ⊥
apart e = cc

pub separation : IsSeparation side order 1 2 (Left 3) (Left 5) three (true ∷ false ∷ false ∷ []) true false
separation = record {
  lower = omega arith;
  founder_is = founder_of_two;
  before = [];
  after = Left 5 ∷ Right 3 ∷ Right 5 ∷ [];
  split = refl;
  class_is = refl;
  earlier = λ u h. absurd (omega (arith, h.1));
  are_variables = three_are;
  each = refl;
  left_care = enable_care side joined_same single number_once all_hold bits (Left 3);
  right_care = enable_care side joined_same single number_once all_hold bits (Left 5);
  left_is = hold_enable side joined_same single number_once (codes "q") (Left 3) (Left 4) left_q_latch left_q bits [];
  right_is = hold_enable side joined_same single number_once (codes "r") (Left 5) (Left 6) left_r_latch left_r bits [];
  differ = apart;
}
  where
    bits : ℕ → List ℕ → Bool
    bits = frame_of three (true ∷ false ∷ false ∷ [])

abbrev two : List (Variable (List ℕ))
two = root_variable 0 ∷ root_variable 2 ∷ []

two_are : AreNodeVariables (IsClassTree side (Left 3) (Left 3)) two
two_are = record {
  in_order = each_pair NodeBefore two ((at_root 0 2 (omega arith), tt), (tt, tt));
  exactly = λ x. (
    (λ h. each_at (Found (IsClassTree side (Left 3) (Left 3))) two
        ((hold_tree load_not_cover 0 2 false [], inl (inl q_tree), first_leaf load_not_cover 0 2 false), ((hold_tree load_not_cover 0 2 false [], inl (inl q_tree), second_leaf load_not_cover 0 2 false), tt)) x h),
    λ f. back x f.0 f.1 f.2,
  );
}
  where
    back : (x : Variable (List ℕ)) (tree : Tree (List ℕ)) → IsClassTree side (Left 3) (Left 3) tree → HasLeaf x tree → Contains two x
    back x tree (inl (inl is)) stands = q_leaf two (0, omega arith, refl) (1, omega arith, refl) tree is x stands
    back x tree (inl (inr is)) stands = q_leaf two (0, omega arith, refl) (1, omega arith, refl) tree is x stands
    back x tree (inr (inl care)) stands = absurd (no_care_tree side joined_same single number_once all_hold (Left 3) tree care)
    back x tree (inr (inr care)) stands = absurd (no_care_tree side joined_same single number_once all_hold (Left 3) tree care)

pub separation_from_always : IsSeparationFromAlways side order 1 (Left 3) two (false ∷ false ∷ [])
separation_from_always = record {
  lower = omega arith;
  founder_is = founder_of_one;
  are_variables = two_are;
  each = refl;
  care = enable_care side joined_same single number_once all_hold (frame_of two (false ∷ false ∷ [])) (Left 3);
  off = hold_enable side joined_same single number_once (codes "q") (Left 3) (Left 4) left_q_latch left_q (frame_of two (false ∷ false ∷ [])) [];
}
