-- The laws of flat nets, put together.
use Rattle.std.proofs.Common.{◌≡◌, ℕ, zero, suc, ◌+◌, ◌-◌, ◌<◌, ◌≤◌, Bool, List, map, Some, slice_get, refl, sym, ◌∙◌, ap, subst, arith, add-one, inl, inr}
use Rattle.std.specs.List.{Contains}
use Rattle.std.proofs.lemmas.List.Elements.{All-contains}
use Rattle.circuit_theory.specs.Circuit.{Circuit, Latch, Named, IsInput, IsLatch, IsSource, Carries}
use Rattle.circuit_theory.specs.Run.{IsRun, Extends, IsDetermined, Marked, NoneEnabled}
use Rattle.circuit_theory.specs.Net.{IsWithin, IsNet}
use Rattle.circuit_theory.specs.Depth.{ChainFrom}
use Rattle.circuit_theory.specs.Tree.{Tree, Unfolds}
use Rattle.circuit_theory.specs.Agree.{EnabledIn, IsSettled}
use Rattle.circuit_laws.specs.Laws.{ValuesAreOne, RunsExist, MarksStay, MarksAreTheSame, SettledFromDepth, TreesAreOne, GatesHaveTrees, TreeIsRun, EqualFunctionsAgree, ExposedFunctionsAgree, WitnessMakesDiffer, WeightIsOne, PairsAreListed, NumbersAreShared}
use Rattle.circuit_theory.proofs.Lists.{at_of, length-map}
use Rattle.circuit_laws.proofs.Values.{values_unique, tree_is_run as tree_value_is_run}
use Rattle.circuit_theory.proofs.Numbers.{distinct_at, one_number, numbers_are}
use Rattle.circuit_laws.proofs.Marks.{marks_stay as marks_stay_by, settled_depth, depth_settled}
use Rattle.circuit_laws.proofs.SameMarks.{settled_same}
use Rattle.circuit_theory.proofs.Sums.{same_or_not}
use Rattle.circuit_laws.proofs.NetLaws.{net_value, net_value-extends, net_value-only, net_can_put, net_determined, net_run, net_run-runs, net_run-inputs, net_run-power}
use Rattle.circuit_laws.proofs.NetTrees.{net_tree_at_depth}
use Rattle.circuit_laws.proofs.OneTree.{one_tree}
use Rattle.circuit_laws.proofs.TreeDepth.{tree_depth, chain_latch}
use Rattle.circuit_laws.proofs.Agreement.{equal_functions_agree as plain_functions_agree}
use Rattle.circuit_laws.proofs.CutLaws.{exposed_functions_agree as cut_functions_agree, exposed_functions_agree_onward as cut_functions_agree_onward}
use Rattle.circuit_laws.proofs.Pairs.{pairs_are_listed as listed_pairs}
use Rattle.circuit_laws.proofs.Windows.{witness_makes_differ as witness_differs}
use Rattle.circuit_laws.proofs.Weights.{one_weight, over_is_above, one_cone_weight, cone_over_is_above}

pub values_are_one : ValuesAreOne
values_are_one c size net = (λ x. (net_value c x, net_value-extends c size net x, λ w ex s h. net_value-only c size net x w ex s h), net_can_put c size net)

-- what a latch takes over is a signal of the net
pub next_within : (c : Circuit ℕ) (size : ℕ) → IsNet c size → (name : List ℕ) (u next : ℕ) → IsLatch c name u next → next < size
next_within c size net name u next latch = (All-contains (IsWithin size) c.equations (Latch name u next) net.within latch).1

module _ (c : Circuit ℕ) (size n : ℕ) (net : IsNet c size) (r s : ℕ → ℕ → Bool) (is_r : IsRun c n r) (is_s : IsRun c n s) (inputs : (t p : ℕ) → t < n → IsInput c p → r t p ≡ s t p)
    (power : (name : List ℕ) (u next : ℕ) → 0 < n → IsLatch c name u next → r 0 u ≡ s 0 u) where
  extends : (run : ℕ → ℕ → Bool) → IsRun c n run → (t : ℕ) → t < n → ((p : ℕ) → IsSource c p → run t p ≡ s t p) → Extends c (s t) (run t)
  extends run is_run t h sources = record { meets = is_run.meets t h; sources = sources }

  same_sources : (t : ℕ) → t < n → ((p : ℕ) → IsSource c p → r t p ≡ s t p) → (p : ℕ) → p < size → r t p ≡ s t p
  same_sources t h sources p l = values_unique c (s t) (r t) (s t) (extends r is_r t h sources) (extends s is_s t h (λ q k. refl)) (net_determined c size net p l)

  -- two runs with one power-up and equal inputs are one
  pub same_run : (t : ℕ) → t < n → (p : ℕ) → p < size → r t p ≡ s t p
  same_run zero h p l = same_sources zero h sources p l
    where
      sources : (q : ℕ) → IsSource c q → r 0 q ≡ s 0 q
      sources q (inl i) = inputs 0 q h i
      sources q (inr x) = power x.0 q x.1 h x.2
  same_run (suc t) h p l = same_sources (suc t) h (sources (λ q k. same_run t (omega arith) q k)) p l
    where
      carried : (run : ℕ → ℕ → Bool) → IsRun c n run → (name : List ℕ) (u next : ℕ) → IsLatch c name u next → run (suc t) u ≡ run t next
      carried run is_run name u next latch = sym (ap (λ k. run k u) (add-one t)) ∙ All-contains (Carries (run t) (run (t + 1))) c.equations _ (is_run.carries t (omega arith)) latch

      sources : ((q : ℕ) → q < size → r t q ≡ s t q) → (q : ℕ) → IsSource c q → r (suc t) q ≡ s (suc t) q
      sources before q (inl i) = inputs (suc t) q h i
      sources before q (inr x) =
          carried r is_r x.0 q x.1 x.2 ∙ (before x.1 (next_within c size net x.0 q x.1 x.2) ∙ sym (carried s is_s x.0 q x.1 x.2))

pub runs_exist : RunsExist
runs_exist c size n power inputs net = (
  net_run c power inputs,
  net_run-runs c size net power inputs n,
  net_run-inputs c size net power inputs,
  net_run-power c size net power inputs,
  λ other is_run same_inputs same_power t s h l.
      same_run c size n net other (net_run c power inputs) is_run (net_run-runs c size net power inputs n)
      (λ u p k i. same_inputs u p k i ∙ sym (net_run-inputs c size net power inputs u p i))
      (λ name u next k latch. same_power name u next k latch ∙ sym (net_run-power c size net power inputs name u next latch)) t h s l,
)

pub marks_stay : MarksStay
marks_stay mode c run s t p h mark =
    subst (λ k. Marked c (EnabledIn mode c) run k p) (let e : s + (t - s) ≡ t = omega arith in e) (marks_stay_by c (EnabledIn mode c) run s (t - s) mark)

pub marks_are_the_same : MarksAreTheSame
marks_are_the_same mode c size n r s net is_r is_s equal t p h = ((λ m. (there m).0, λ m. (back m).0), λ m. (there m).1)
  where
    det : (name : List ℕ) (u next : ℕ) → IsLatch c name u next → IsDetermined c next
    det name u next latch = net_determined c size net next (next_within c size net name u next latch)

    there : IsSettled mode c r t p → IsSettled mode c s t p × (r t p ≡ s t p)
    there m = settled_same c same_or_not (net_can_put c size net) det (EnabledIn mode c) n r s is_r is_s (λ k q l i. equal i.0 q q i.1 i.1 k l) m h

    back : IsSettled mode c s t p → IsSettled mode c r t p × (s t p ≡ r t p)
    back m = settled_same c same_or_not (net_can_put c size net) det (EnabledIn mode c) n s r is_s is_r (λ k q l i. sym (equal i.0 q q i.1 i.1 k l)) m h

pub settled_from_depth : SettledFromDepth
settled_from_depth c size s d net h depth run t =
    (λ m. settled_depth c run net.single at.1 t m, λ l. depth_settled c run at.1 t l)
  where
    order : List ℕ
    order = map (λ (i : Named ℕ). i.place) c.inputs

    at : (tree : Tree ℕ) × Unfolds c order s 0 d tree
    at = net_tree_at_depth c size net order (length-map (λ (i : Named ℕ). i.place) c.inputs) s d 0 h depth

pub trees_are_one : TreesAreOne
trees_are_one c size order s k net numbered h = (
  λ d. (λ depth. net_tree_at_depth c size net order numbered s d k h depth, λ t. tree_depth c net.single t.1),
  λ d e l r a b. one_tree c order net.single (λ p i j x y. one_number c.inputs order net.inputs p i j x y) a b,
)

pub gates_have_trees : GatesHaveTrees
gates_have_trees c size order s k net numbered h none = net_tree_at_depth c size net order numbered s 0 k h (record { reached = inl refl; greatest = greatest })
  where
    greatest : (n : ℕ) → ChainFrom c NoneEnabled s n → n ≤ 0
    greatest n (inl e) = omega arith
    greatest n (inr x) = let l = chain_latch c net.single x.2 in absurd (none l.0 x.0 l.1 l.2)

pub tree_is_run : TreeIsRun
tree_is_run c size order s d tree net unfolds n run is_run t h settled x inputs =
    let deep = settled_depth c run net.single unfolds t settled in
    tree_value_is_run c order n run is_run t h x inputs unfolds (omega (arith, deep)) ∙ ap (λ k. run k s) (let e : t - 0 ≡ t = omega arith in e)

pub equal_functions_agree : EqualFunctionsAgree
equal_functions_agree a b m n left right na nb numbered equal = plain_functions_agree a b left right numbered na.single nb.single equal

pub exposed_functions_agree : ExposedFunctionsAgree
exposed_functions_agree a b m n names left right na nb da db least numbered equal = (
  cut_functions_agree names a b na.single nb.single da db least one_input_name left right numbered equal,
  cut_functions_agree_onward names a b na.single nb.single da db least one_input_name left right numbered equal,
)
  where
    some_is : {X : Type 0} {x y : X} → Some x ≡ Some y → x ≡ y
    some_is q = cc

    one_input_name : (name name' : List ℕ) (p : ℕ) → Contains a.inputs (record { name = name; place = p }) → Contains a.inputs (record { name = name'; place = p }) → name ≡ name'
    one_input_name name name' p h k =
        let x = at_of a.inputs _ h in
        let y = at_of a.inputs _ k in
        let same = distinct_at (λ (i : Named ℕ). i.place) a.inputs na.inputs x.0 y.0 _ _ x.1 y.1 refl in
        ap (λ (i : Named ℕ). i.name) (some_is (sym x.1 ∙ (ap (slice_get a.inputs) same ∙ y.1)))

pub witness_makes_differ : WitnessMakesDiffer
witness_makes_differ a b left right p q count rows last l r w = witness_differs a b left right p q count rows last l r w

pub weight_is_one : WeightIsOne
weight_is_one c single = (
  λ outputs v w cap h. (λ k. one_weight c single outputs v w h k, λ over. over_is_above c single outputs cap v over h),
  λ next v w cap h. (λ k. one_cone_weight c single next v w h k, λ over. cone_over_is_above c single next cap v over h),
)

pub pairs_are_listed : PairsAreListed
pairs_are_listed a b names sa sb na nb once p q = listed_pairs names a b sa sb na nb once p q

pub numbers_are_shared : NumbersAreShared
numbers_are_shared a b shared left right l r = numbers_are a b shared left right l r
