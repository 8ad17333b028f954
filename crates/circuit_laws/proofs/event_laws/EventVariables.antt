-- The functions and the care of a pair look at the variables of its query alone.
use Rattle.std.proofs.Common.{◌≡◌, ℕ, ◌<◌, ◌≤◌, Bool, true, false, cond, List, [], ◌∷◌, length, map, refl, sym, ◌∙◌, ap, subst, arith, inl, inr}
use Rattle.std.specs.Prelude.{◌⊎◌, ◌==◌, ◌&&◌, ◌||◌, not}
use Rattle.std.specs.List.{All, Contains}
use Rattle.std.proofs.lemmas.List.Elements.{All-head, All-tail}
use Rattle.circuit_theory.specs.Names.{same_name}
use Rattle.circuit_theory.specs.Cover.{cover_value}
use Rattle.circuit_theory.specs.Run.{IsEnabled}
use Rattle.circuit_theory.specs.Tree.{Tree, Trees, Leaf, Fixed, Branch, Nil, Cons, tree_value, tree_values}
use Rattle.circuit_theory.specs.Query.{Variable, HasLeaf, HasLeafIn}
use Rattle.circuit_theory.specs.Frame.{EventSide, ConeLatches, IsEnable, HasCare, always_node}
use Rattle.circuit_theory.specs.EventFrames.{IsCareTree, IsPairTree, frame_of, IsUnshownFrame, HaveDifferentEvents}
use Rattle.circuit_laws.specs.event_laws.Laws.{DifferencesAreShown, EventDifferenceIsWitness}
use Rattle.circuit_theory.proofs.Lists.{Contains-cases}
use Rattle.circuit_theory.proofs.Inputs.{test_same, test_refl, same_name-sound}
use Rattle.circuit_theory.proofs.Numbers.{same_name-refl}

module _ {L : Type 0} (f g : ℕ → L → Bool) where
  mutual
    unfolding tree_value

    -- assignments that agree at the leaves give one value
    pub tree_same : (tree : Tree L) → ((x : Variable L) → HasLeaf x tree → f x.input x.at ≡ g x.input x.at) → tree_value f tree ≡ tree_value g tree
    tree_same (Leaf input at) same = same (record { input = input; at = at }) HasLeaf.leaf
    tree_same (Fixed bit) same = refl
    tree_same (Branch cover trees) same = ap (cover_value cover) (trees_same trees (λ x h. same x (HasLeaf.inside h)))

    trees_same : (trees : Trees L) → ((x : Variable L) → HasLeafIn x trees → f x.input x.at ≡ g x.input x.at) → tree_values f trees ≡ tree_values g trees
    trees_same Nil same = refl
    trees_same (Cons tree trees) same =
        let head = tree_same tree (λ x h. same x (HasLeafIn.first h)) in
        let tail = trees_same trees (λ x h. same x (HasLeafIn.later h)) in
        cc

-- the care looks at the leaves of its trees
care_same : {P : Type 0} (s : EventSide P) (p : P) (f g : ℕ → List ℕ → Bool) → ((tree : Tree (List ℕ)) → IsCareTree s (ConeLatches s.circuit p) tree → tree_value f tree ≡ tree_value g tree) →
    HasCare s (IsEnabled s.circuit) (ConeLatches s.circuit p) f → HasCare s (IsEnabled s.circuit) (ConeLatches s.circuit p) g
care_same {P} s p f g same care node v reached = go (care node v reached)
  where
    go : IsEnable s (IsEnabled s.circuit) f v (s.class v ∷ node) true → IsEnable s (IsEnabled s.circuit) g v (s.class v ∷ node) true
    go (IsEnable.always off e) = IsEnable.always off e
    go (IsEnable.own {low = low} {high = high} on latch low_is high_is e) =
        let l = same low (IsCareTree.enable reached latch on low_is) in
        let h = same high (IsCareTree.enable reached latch on high_is) in
        IsEnable.own on latch low_is high_is ((λ i. sym l i || not (sym h i)) ∙ e)

-- the frame of a frame's own bits has them
own_bits : (f : ℕ → List ℕ → Bool) (variables : List (Variable (List ℕ))) (x : Variable (List ℕ)) → Contains variables x → frame_of variables (map (λ y. f y.input y.at) variables) x.input x.at ≡ f x.input x.at
own_bits f [] x h = absurd (omega (arith, h.1))
own_bits f (y ∷ ys) x h = go (y.input == x.input) refl (same_name y.at x.at) refl (Contains-cases y x ys h) (λ k. own_bits f ys x k)
  where
    rest : Bool
    rest = frame_of ys (map (λ z. f z.input z.at) ys) x.input x.at

    no : {b : Bool} → b ≡ true → b ≡ false → ⊥
    no p q = cc

    go : (a : Bool) → (y.input == x.input) ≡ a → (b : Bool) → same_name y.at x.at ≡ b → (y ≡ x) ⊎ Contains ys x → (Contains ys x → rest ≡ f x.input x.at) →
        cond ((y.input == x.input) && same_name y.at x.at) (f y.input y.at) rest ≡ f x.input x.at
    go true p true q k later =
        let number = test_same y.input x.input p in
        let node = same_name-sound y.at x.at q in
        let found : ((y.input == x.input) && same_name y.at x.at) ≡ true = (λ i. p i && q i) in
        ap (λ t. cond t (f y.input y.at) rest) found ∙ (λ i. f (number i) (node i))
    go true p false q (inl e) later = absurd (no (subst (λ (z : Variable (List ℕ)). same_name y.at z.at ≡ true) e (same_name-refl y.at)) q)
    go true p false q (inr k) later = ap (λ t. cond t (f y.input y.at) rest) (λ i. p i && q i) ∙ later k
    go false p b q (inl e) later = absurd (no (subst (λ (z : Variable (List ℕ)). (y.input == z.input) ≡ true) e (test_refl y.input)) p)
    go false p b q (inr k) later = ap (λ t. cond (t && same_name y.at x.at) (f y.input y.at) rest) p ∙ later k

length-map : {X Y : Type 0} (f : X → Y) (xs : List X) → length (map f xs) ≡ length xs
length-map f [] = refl
length-map f (x ∷ xs) = let h = length-map f xs in omega (arith, h)

pub differences_are_shown_by_variables : DifferencesAreShown
differences_are_shown_by_variables s p q variables are = (shown, λ x. back x.0 x.1 x.2 x.3)
  where
    back : (bits : List Bool) (l r : Bool) → IsUnshownFrame s p q variables bits l r → HaveDifferentEvents s p q
    back bits l r x = record {
      left_tree = x.left_tree;
      right_tree = x.right_tree;
      left_unfolds = x.left_unfolds;
      right_unfolds = x.right_unfolds;
      bits = frame_of variables bits;
      care = (x.left_care, x.right_care);
      differ = λ e. x.differ (x.left_value ∙ (e ∙ sym x.right_value));
    }

    shown : HaveDifferentEvents s p q → (bits : List Bool) × (l : Bool) × (r : Bool) × IsUnshownFrame s p q variables bits l r
    shown d = (
      own,
      tree_value frame d.left_tree,
      tree_value frame d.right_tree,
      record {
        left_tree = d.left_tree;
        right_tree = d.right_tree;
        left_unfolds = d.left_unfolds;
        right_unfolds = d.right_unfolds;
        are_variables = are;
        each = length-map (λ y. d.bits y.input y.at) variables;
        left_care = care_same s p d.bits frame (λ tree c. one tree (inr (inl c))) d.care.0;
        right_care = care_same s q d.bits frame (λ tree c. one tree (inr (inr c))) d.care.1;
        left_value = refl;
        right_value = refl;
        differ = λ e. d.differ (one d.left_tree (inl (inl d.left_unfolds)) ∙ (e ∙ sym (one d.right_tree (inl (inr d.right_unfolds)))));
      },
    )
      where
        own : List Bool
        own = map (λ y. d.bits y.input y.at) variables

        frame : ℕ → List ℕ → Bool
        frame = frame_of variables own

        one : (tree : Tree (List ℕ)) → IsPairTree s p q tree → tree_value d.bits tree ≡ tree_value frame tree
        one tree wanted = tree_same d.bits frame tree (λ x leaf. sym (own_bits d.bits variables x ((are.exactly x).1 (tree, wanted, leaf))))

-- an input above all variables has 0
above_all : (variables : List (Variable (List ℕ))) (bits : List Bool) (count i : ℕ) (node : List ℕ) → All (λ x. x.input < count) variables → count ≤ i → frame_of variables bits i node ≡ false
above_all [] bits count i node all h = refl
above_all (x ∷ xs) [] count i node all h = refl
above_all (x ∷ xs) (b ∷ bits) count i node all h = go (x.input == i) refl (above_all xs bits count i node (All-tail (λ y. y.input < count) x xs all) h)
  where
    low : x.input < count
    low = All-head (λ y. y.input < count) x xs all

    go : (t : Bool) → (x.input == i) ≡ t → frame_of xs bits i node ≡ false → frame_of (x ∷ xs) (b ∷ bits) i node ≡ false
    go true e rest = absurd (let same = test_same x.input i e in omega (arith, low))
    go false e rest = ap (λ t. cond (t && same_name x.at node) b (frame_of xs bits i node)) e ∙ rest

pub event_difference_gives_witness : EventDifferenceIsWitness
event_difference_gives_witness s p q count d e query variables bits difference inputs left_depth right_depth left_always right_always = record {
  left_depth = d;
  right_depth = e;
  left_tree = difference.asks.left_tree;
  right_tree = difference.asks.right_tree;
  left_is = left_depth;
  right_is = right_depth;
  left_unfolds = difference.asks.left_unfolds;
  right_unfolds = difference.asks.right_unfolds;
  left_always = left_always;
  right_always = right_always;
  last_is = refl;
  bits = frame_of variables bits;
  above = λ i k h. above_all variables bits count i (always_node k) inputs h;
  rows_are = refl;
  left_value = difference.asks.left (frame_of variables bits);
  right_value = difference.asks.right (frame_of variables bits);
  differ = difference.distinguishes.differs;
}
