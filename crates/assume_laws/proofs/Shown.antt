-- The functions of a pair and the query's care, in the event form, look at the variables of the query alone.
use Rattle.std.proofs.Common.{◌≡◌, ℕ, Bool, true, false, cond, List, [], ◌∷◌, length, map, refl, sym, ◌∙◌, ap, subst, arith, inl, inr}
use Rattle.std.specs.Prelude.{◌⊎◌, ◌==◌, ◌&&◌, ◌||◌, not}
use Rattle.std.specs.List.{Contains}
use Rattle.circuit_theory.specs.Names.{same_name}
use Rattle.circuit_theory.specs.Run.{IsEnabled}
use Rattle.circuit_theory.specs.Tree.{Tree, tree_value}
use Rattle.circuit_theory.specs.Query.{Variable}
use Rattle.circuit_theory.specs.Frame.{EventSide, ConeLatches, IsEnable, HasCare}
use Rattle.circuit_theory.specs.EventFrames.{IsCareTree, frame_of}
use Rattle.circuit_theory.proofs.Lists.{Contains-cases}
use Rattle.circuit_theory.proofs.Inputs.{test_same, test_refl, same_name-sound}
use Rattle.circuit_theory.proofs.Numbers.{same_name-refl}
use Rattle.circuit_laws.proofs.event_laws.EventVariables.{tree_same}
use Rattle.assume_laws.specs.Sequences.{IsPairTreeUnder, IsUnshownFrameUnder, HaveDifferentEventsUnder}
use Rattle.assume_laws.specs.Laws.{DifferencesAreShownUnder}
use Rattle.assume_laws.proofs.Care.{tree_meets, place_tree}

-- the care looks at the leaves of its trees
care_same : {P : Type 0} (s : EventSide P) (p : P) (f g : ℕ → List ℕ → Bool) → ((tree : Tree (List ℕ)) → IsCareTree s (ConeLatches s.circuit p) tree → tree_value f tree ≡ tree_value g tree) →
    HasCare s (IsEnabled s.circuit) (ConeLatches s.circuit p) f → HasCare s (IsEnabled s.circuit) (ConeLatches s.circuit p) g
care_same {P} s p f g same care node v reached = go (care node v reached)
  where
    go : IsEnable s (IsEnabled s.circuit) f v (s.class v ∷ node) true → IsEnable s (IsEnabled s.circuit) g v (s.class v ∷ node) true
    go (IsEnable.always off e) = IsEnable.always off e
    go (IsEnable.own {low = low} {high = high} on latch low_is high_is e) =
        let l = same low (IsCareTree.enable reached latch on low_is) in
        let h = same high (IsCareTree.enable reached latch on high_is) in
        IsEnable.own on latch low_is high_is ((λ i. sym l i || not (sym h i)) ∙ e)

-- the frame of a frame's own bits has them
own_bits : (f : ℕ → List ℕ → Bool) (variables : List (Variable (List ℕ))) (x : Variable (List ℕ)) → Contains variables x → frame_of variables (map (λ y. f y.input y.at) variables) x.input x.at ≡ f x.input x.at
own_bits f [] x h = absurd (omega (arith, h.1))
own_bits f (y ∷ ys) x h = go (y.input == x.input) refl (same_name y.at x.at) refl (Contains-cases y x ys h) (λ k. own_bits f ys x k)
  where
    rest : Bool
    rest = frame_of ys (map (λ z. f z.input z.at) ys) x.input x.at

    no : {b : Bool} → b ≡ true → b ≡ false → ⊥
    no p q = cc

    go : (a : Bool) → (y.input == x.input) ≡ a → (b : Bool) → same_name y.at x.at ≡ b → (y ≡ x) ⊎ Contains ys x → (Contains ys x → rest ≡ f x.input x.at) →
        cond ((y.input == x.input) && same_name y.at x.at) (f y.input y.at) rest ≡ f x.input x.at
    go true p true q k later =
        let number = test_same y.input x.input p in
        let node = same_name-sound y.at x.at q in
        let found : ((y.input == x.input) && same_name y.at x.at) ≡ true = (λ i. p i && q i) in
        ap (λ t. cond t (f y.input y.at) rest) found ∙ (λ i. f (number i) (node i))
    go true p false q (inl e) later = absurd (no (subst (λ (z : Variable (List ℕ)). same_name y.at z.at ≡ true) e (same_name-refl y.at)) q)
    go true p false q (inr k) later = ap (λ t. cond t (f y.input y.at) rest) (λ i. p i && q i) ∙ later k
    go false p b q (inl e) later = absurd (no (subst (λ (z : Variable (List ℕ)). (y.input == z.input) ≡ true) e (test_refl y.input)) p)
    go false p b q (inr k) later = ap (λ t. cond (t && same_name y.at x.at) (f y.input y.at) rest) p ∙ later k

length-map : {X Y : Type 0} (f : X → Y) (xs : List X) → length (map f xs) ≡ length xs
length-map f [] = refl
length-map f (x ∷ xs) = let h = length-map f xs in omega (arith, h)

pub differences_are_shown_under : DifferencesAreShownUnder
differences_are_shown_under c size s p q variables is are = (shown, λ x. back x.0 x.1 x.2 x.3)
  where
    back : (bits : List Bool) (l r : Bool) → IsUnshownFrameUnder c s p q variables bits l r → HaveDifferentEventsUnder c s p q
    back bits l r x = record {
      left_tree = x.left_tree;
      right_tree = x.right_tree;
      left_unfolds = x.left_unfolds;
      right_unfolds = x.right_unfolds;
      bits = frame_of variables bits;
      care = x.care;
      differ = λ e. x.differ (x.left_value ∙ (e ∙ sym x.right_value));
    }

    shown : HaveDifferentEventsUnder c s p q → (bits : List Bool) × (l : Bool) × (r : Bool) × IsUnshownFrameUnder c s p q variables bits l r
    shown d = (
      own,
      tree_value frame d.left_tree,
      tree_value frame d.right_tree,
      record {
        left_tree = d.left_tree;
        right_tree = d.right_tree;
        left_unfolds = d.left_unfolds;
        right_unfolds = d.right_unfolds;
        are_variables = are;
        each = length-map (λ y. d.bits y.input y.at) variables;
        care = (
          (care_same s p d.bits frame (λ tree h. one tree (inl (inr (inl h)))) d.care.0.0, care_same s q d.bits frame (λ tree h. one tree (inl (inr (inr h)))) d.care.0.1),
          λ node h.
              let t = place_tree c size is node in
              (tree_meets c size is node t.0 frame t.1).0 (sym (one t.0 (inr (node, h, t.1))) ∙ (tree_meets c size is node t.0 d.bits t.1).1 (d.care.1 node h)),
        );
        left_value = refl;
        right_value = refl;
        differ = λ e. d.differ (one d.left_tree (inl (inl (inl d.left_unfolds))) ∙ (e ∙ sym (one d.right_tree (inl (inl (inr d.right_unfolds))))));
      },
    )
      where
        own : List Bool
        own = map (λ y. d.bits y.input y.at) variables

        frame : ℕ → List ℕ → Bool
        frame = frame_of variables own

        one : (tree : Tree (List ℕ)) → IsPairTreeUnder c s p q tree → tree_value d.bits tree ≡ tree_value frame tree
        one tree wanted = tree_same d.bits frame tree (λ x stands. sym (own_bits d.bits variables x ((are.exactly x).1 (tree, wanted, stands))))
