-- The laws of the plain and the reset form under an assumption.
use Rattle.std.proofs.Common.{◌≡◌, ℕ, ◌<◌, Bool, List, [], refl, sym, ◌∙◌, ap, arith, inl, inr, Some, slice_get}
use Rattle.std.specs.Prelude.{◌⊎◌}
use Rattle.std.specs.List.{Contains}
use Rattle.circuit_theory.specs.declared.Mode.TheVariants.{Plain}
use Rattle.circuit_theory.specs.Circuit.{Circuit, Equation, Gate, Latch, Port, Named, IsLatch, IsSingleDriven}
use Rattle.circuit_theory.specs.Tree.{IsInputNumber}
use Rattle.circuit_theory.specs.Agree.{IsPair, cut}
use Rattle.circuit_laws.proofs.NetTrees.{has_number}
use Rattle.circuit_theory.proofs.Lists.{at_of}
use Rattle.circuit_theory.proofs.Numbers.{distinct_at}
use Rattle.circuit_laws.proofs.Onward.{cut_input}
use Rattle.circuit_laws.proofs.event_laws.CutParts.{cut_own_input}
use Rattle.circuit_laws.proofs.CutLaws.{cut_single, never_left, left_never, right_never, only_names, left_clear, right_clear}
use Rattle.circuit_laws.proofs.reset_laws.ResetAgreement.{reset_pair_agrees}
use Rattle.assume_laws.specs.Assume.{Assumption, RowMeets, RunMeets, HaveEqualFunctionsUnder}
use Rattle.assume_laws.specs.Laws.{EqualFunctionsAgreeUnder, ExposedFunctionsAgreeUnder, EqualResetsAgreeUnder}
use Rattle.assume_laws.proofs.Care.{run_holds, cut_meets, shorter_meets}
use Rattle.assume_laws.proofs.PlainCare.{EqualPlainUnder, same_at_under, parted_same_at}
use Rattle.circuit_laws.proofs.Onward.{runs_agree_onward}

-- what holds where the variables' places meet the assumption holds where all do
everywhere : {P Q : Type 0} (c : Assumption) (a : Circuit P) (b : Circuit Q) (left right : List ℕ) (p : P) (q : Q) → HaveEqualFunctionsUnder c a b left right p q → EqualPlainUnder (RowMeets c) a b left right p q
everywhere c a b left right p q e = record {
  left_depth = e.left_unfolds.0;
  right_depth = e.right_unfolds.0;
  left_tree = e.left_tree;
  right_tree = e.right_tree;
  left_unfolds = e.left_unfolds.1;
  right_unfolds = e.right_unfolds.1;
  same = λ x meets. e.same x (tt, λ k h. meets k);
}

pub equal_functions_agree_under : EqualFunctionsAgreeUnder
equal_functions_agree_under c a b m n left right na nb numbered reads equal size l r alike meets t p q h pair lm rm =
    same_at_under (RowMeets c) a b left right numbered na.single nb.single size l r alike (run_holds c a left reads size l meets) p q (everywhere c a b left right p q (equal p q pair)) t h lm rm

wider : {P Q : Type 0} {names : List (List ℕ)} {a : Circuit P} {b : Circuit Q} {p : P} {q : Q} → IsPair [] a b p q → IsPair names a b p q
wider (IsPair.outputs l r) = IsPair.outputs l r
wider (IsPair.nexts h l r) = absurd (omega (arith, h.1))

-- an input of a cut circuit has one name
cut_name : (names : List (List ℕ)) (a : Circuit ℕ) → IsSingleDriven a → ((name name' : List ℕ) (p : ℕ) → Contains a.inputs (record { name = name; place = p }) → Contains a.inputs (record { name = name'; place = p }) → name ≡ name') →
    (name name' : List ℕ) (p : ℕ) → Contains (cut names a).inputs (record { name = name; place = p }) → Contains (cut names a).inputs (record { name = name'; place = p }) → name ≡ name'
cut_name names a single one name name' p h k = go (cut_input names a name p h) (cut_input names a name' p k)
  where
    Origin : List ℕ → Type 0
    Origin m = Contains a.inputs (record { name = m; place = p }) ⊎ (Contains names m × ((next : ℕ) × IsLatch a m p next))

    name_of : Equation ℕ → List ℕ
    name_of (Gate out fanins cover) = []
    name_of (Latch m out next) = m
    name_of (Port out from) = []

    go : Origin name → Origin name' → name ≡ name'
    go (inl x) (inl y) = one name name' p x y
    go (inl x) (inr y) = absurd (single.no_input (Latch name' p y.1.0) y.1.1 (name, x))
    go (inr x) (inl y) = absurd (single.no_input (Latch name p x.1.0) x.1.1 (name', y))
    go (inr x) (inr y) = ap name_of (single.one (Latch name p x.1.0) (Latch name' p y.1.0) x.1.1 y.1.1 refl)

pub exposed_functions_agree_under : ExposedFunctionsAgreeUnder
exposed_functions_agree_under c a b m n names left right na nb da db least numbered reads equal = (
  λ size l r alike meets t p q h pair lm rm.
      parted_same_at names a b left right numbered na.single nb.single (left_clear Plain names a b na.single nb.single da db least) (right_clear Plain names a b na.single nb.single da db least)
      (cut_name names a na.single one_input_name) (never_left Plain names a b na.single nb.single da db least) (left_never Plain names a b na.single nb.single da db least)
      (right_never Plain names a b na.single nb.single da db least) (only_names Plain names a b na.single nb.single da db least)
      (RowMeets c) size l r alike (λ s k row are. along size l meets s k row are) p q (everywhere c (cut names a) (cut names b) left right p q (equal p q (wider pair))) t h lm rm,
  λ size l r alike meets.
      runs_agree_onward Plain names a b (left_clear Plain names a b na.single nb.single da db least) (right_clear Plain names a b na.single nb.single da db least) size l r alike
      (λ k le cut_alike t p q h pair lm rm.
      same_at_under (RowMeets c) (cut names a) (cut names b) left right numbered (cut_single names a na.single) (cut_single names b nb.single) k l r cut_alike
      (run_holds c (cut names a) left reads k l (cut_meets c names a na.single da k l l (λ s x j i. refl) (shorter_meets c a size k l le meets)))
      p q (everywhere c (cut names a) (cut names b) left right p q (equal p q pair)) t h lm rm),
)
  where
    some_is : {X : Type 0} {x y : X} → Some x ≡ Some y → x ≡ y
    some_is q = cc

    one_input_name : (name name' : List ℕ) (p : ℕ) → Contains a.inputs (record { name = name; place = p }) → Contains a.inputs (record { name = name'; place = p }) → name ≡ name'
    one_input_name name name' p h k =
        let x = at_of a.inputs _ h in
        let y = at_of a.inputs _ k in
        let same = distinct_at (λ (i : Named ℕ). i.place) a.inputs na.inputs x.0 y.0 _ _ x.1 y.1 refl in
        ap (λ (i : Named ℕ). i.name) (some_is (sym x.1 ∙ (ap (slice_get a.inputs) same ∙ y.1)))

    -- a row with the circuit's own inputs meets the assumption, which reads no others
    along : (size : ℕ) (l : ℕ → ℕ → Bool) → RunMeets c a size l → (t : ℕ) → t < size → (row : ℕ → Bool) →
        ((name : List ℕ) (p i : ℕ) → Contains a.inputs (record { name = name; place = p }) → IsInputNumber (cut names a) left p i → row i ≡ l t p) → RowMeets c row
    along size l meets t h row are v values inputs =
        meets t h v values (λ name p q hp hq.
        let number = has_number c.circuit.inputs c.order reads.each (record { name = name; place = p }) hp in
        inputs p number.0 number.1 ∙ are name q number.0 hq (reads.numbered name p number.0 q hp (cut_own_input names a na.single da name q hq) number.1))

pub equal_resets_agree_under : EqualResetsAgreeUnder
equal_resets_agree_under c a b m n left right left_base right_base na nb sa sb numbered based reads equal size l r alike meets t p q h pair =
    let e = equal p q pair in
    reset_pair_agrees (RowMeets c) a b m n left right left_base right_base na nb sa sb numbered based size l r alike (run_holds c a left reads size l meets) p q e.depth e.is_depth
    (λ s le. let x = e.each s le in record { left_tree = x.left_tree; right_tree = x.right_tree; left_unfolds = x.left_unfolds; right_unfolds = x.right_unfolds; same = λ y all. x.same y (tt, λ k j. all k) }) t h
