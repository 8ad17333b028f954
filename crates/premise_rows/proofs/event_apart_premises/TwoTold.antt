-- The pair of the `and` and the `or` reaches the children by class 1 and by class 2, and its two classes are told apart.
use Rattle.std.proofs.Common.{◌≡◌, ◌≢◌, ◌∙◌, ℕ, zero, suc, ◌<◌, ◌≤◌, Bool, true, List, [], ◌∷◌, refl, sym, ap, subst, arith, inl, inr}
use Rattle.std.specs.Prelude.{◌⊎◌, codes}
use Rattle.std.specs.List.{Contains}
use Rattle.std.proofs.lemmas.List.Elements.{All-from_recursion}
use Rattle.circuit_theory.specs.declared.Side.TheVariants.{A}
use Rattle.circuit_theory.specs.Circuit.{IsLatch, Reads, Reaches}
use Rattle.circuit_theory.specs.EventFits.{ReachesAlways}
use Rattle.circuit_theory.specs.EventFrames.{IsEventSize, IsSeparation}
use Rattle.circuit_theory.specs.Frame.{ConeLatches, IsNode}
use Rattle.circuit_theory.specs.Joined.{Either, Left, Right}
use Rattle.circuit_theory.specs.Run.{IsEnabled}
use Rattle.circuit_theory.proofs.Lists.{Contains-cases, Contains-head, only}
use Rattle.circuit_laws.proofs.JoinedParts.{joined_same}
use Rattle.sec_base.specs.declared.basics.Tag.{Tag}
use Rattle.class_search.specs.class_separations.Least.{DifferIn, IsLeastFrame, TellsIn}
use Rattle.class_search.specs.event_order.Order.{IsTagOf, place_of}
use Rattle.event_form.specs.declared.event_findings.unshown_pairs.separations.ToldSeparation.{ToldSeparation}
use Rattle.event_form.specs.event_findings.unshown_pairs.Reached.{PairLatches}
use Rattle.event_form.specs.event_findings.unshown_pairs.Separations.{AreSeparationsOf, AreToldApart, OccursFor, Separates, SeparatesBy}
use Rattle.call_rows.proofs.circuit_samples.Each.{each_pair}
use Rattle.call_rows.proofs.circuit_samples.event_samples.HoldCells.{at_root}
use Rattle.premise_rows.specs.event_apart_premises.TwoClasses.{and_or_pair, TellsQFromR, TwoClassesAreToldApart}
use Rattle.premise_rows.specs.event_apart_premises.TwoLoads.{shows_and, shows_or, both_loading, joining, three_variables, e_alone}
use Rattle.premise_rows.proofs.event_apart_premises.TwoApart.{separated, separation, q_r_least}
use Rattle.premise_rows.proofs.event_apart_premises.TwoPair.{all_hold, classes, left_q_latch, left_r_latch, loads_one, number_once, single, whole}

-- each latch is of class 1 or 2
class_of : (name : List ℕ) (u next : Either ℕ ℕ) → IsLatch whole name u next → (0 < both_loading.class u) × (both_loading.class u ≤ 2)
class_of name u next latch = let h = loads_one name u next latch in (omega (arith, h.1), omega (arith, h.1, h.3))

abbrev Latches : Either ℕ ℕ → Type 0
Latches v = PairLatches both_loading and_or_pair v

reached_class : (v : Either ℕ ℕ) → Latches v → (0 < both_loading.class v) × (both_loading.class v ≤ 2)
reached_class v (inl h) = class_of h.0 v h.1 h.2
reached_class v (inr h) = class_of h.0 v h.1 h.2

-- A's y reads both latches of A
pub q_cone : ConeLatches whole (Left 7) (Left 3)
q_cone = (codes "q", Left 5, left_q_latch, Reaches.there (Reads.by_gate {fanins = Left 3 ∷ Left 4 ∷ []} (2, omega arith, refl) (0, omega arith, refl)) Reaches.here)

pub r_cone : ConeLatches whole (Left 7) (Left 4)
r_cone = (codes "r", Left 6, left_r_latch, Reaches.there (Reads.by_gate {fanins = Left 3 ∷ Left 4 ∷ []} (2, omega arith, refl) (1, omega arith, refl)) Reaches.here)

pub not_always : ReachesAlways both_loading (Left 7) → ⊥
not_always h = let one : 1 ≡ 0 = h [] (Left 3) q_cone in omega (arith, one)

abbrev IsReached : List ℕ → Type 0
IsReached node = IsNode both_loading (IsEnabled whole) Latches node

-- what is reached besides the root are its children by these classes
reached_node : (k : ℕ) (node : List ℕ) → IsReached (k ∷ node) → (node ≡ []) × (0 < k) × (k ≤ 2)
reached_node k node h =
    let at = at_root both_loading joined_same single number_once all_hold Latches node h.0 h.1 in
    let class = reached_class h.0 at.1 in
    (at.0, omega (arith, class.0, h.2), omega (arith, class.1, h.2))

abbrev nodes : List (List ℕ)
nodes = [] ∷ (1 ∷ []) ∷ (2 ∷ []) ∷ []

pub size : IsEventSize both_loading (Left 7) (Right 7) 3
size = record {
  nodes = nodes;
  distinct = each_pair (λ m n. m ≢ n) nodes (((λ e. cc), ((λ e. cc), tt)), (((λ e. cc), tt), (tt, tt)));
  exactly = λ node. (λ h. there node (Contains-cases [] node ((1 ∷ []) ∷ (2 ∷ []) ∷ []) h), back node);
  number = refl;
}
  where
    later : (node : List ℕ) → ((1 ∷ []) ≡ node) ⊎ Contains ((2 ∷ []) ∷ []) node → IsReached node
    later node (inl e) = subst IsReached e (Left 3, inl q_cone, refl)
    later node (inr h) = subst IsReached (only (2 ∷ []) node h) (Left 4, inl r_cone, refl)

    there : (node : List ℕ) → ([] ≡ node) ⊎ Contains ((1 ∷ []) ∷ (2 ∷ []) ∷ []) node → IsReached node
    there node (inl e) = subst IsReached e tt
    there node (inr h) = later node (Contains-cases (1 ∷ []) node ((2 ∷ []) ∷ []) h)

    child : (k : ℕ) → 0 < k → k ≤ 2 → Contains nodes (k ∷ [])
    child zero l m = absurd (omega (arith, l))
    child (suc zero) l m = (1, omega arith, refl)
    child (suc (suc zero)) l m = (2, omega arith, refl)
    child (suc (suc (suc k))) l m = absurd (omega (arith, m))

    back : (node : List ℕ) → IsReached node → Contains nodes node
    back [] h = Contains-head [] ((1 ∷ []) ∷ (2 ∷ []) ∷ [])
    back (k ∷ node) h = let at = reached_node k node h in subst (λ (path : List ℕ). Contains nodes (k ∷ path)) (sym at.0) (child k at.1 at.2)

-- the classes in these paths
first_occurs : OccursFor both_loading and_or_pair 1
first_occurs = (1 ∷ [], (Left 3, inl q_cone, refl), Contains-head 1 [])

second_occurs : OccursFor both_loading and_or_pair 2
second_occurs = (2 ∷ [], (Left 4, inl r_cone, refl), Contains-head 2 [])

occurring : (class : ℕ) → OccursFor both_loading and_or_pair class → (0 < class) × (class ≤ 2)
occurring class f = in_path f.0 f.1 f.2
  where
    in_path : (node : List ℕ) → IsReached node → Contains node class → (0 < class) × (class ≤ 2)
    in_path [] h among = absurd (omega (arith, among.1))
    in_path (k ∷ node) h among =
        let at = reached_node k node h in
        let same : k ≡ class = only k class (subst (λ (path : List ℕ). Contains (k ∷ path) class) at.0 among) in
        (omega (arith, at.1, same), omega (arith, at.2, same))

-- what is told is the separation of the class map
module _ (t : ToldSeparation) (tells : TellsQFromR t) where
  abbrev place : Tag → Either ℕ ℕ
  place tag = place_of shows_and.net shows_or.net tag

  abbrev Between : ℕ → ℕ → Tag → Bool → Bool → Type 0
  Between low high founder l r = IsSeparation both_loading joining low high (Left 3) (place founder) three_variables e_alone l r

  between : Between t.low t.high t.high_latch t.left t.right
  between =
      subst (λ low. Between low t.high t.high_latch t.left t.right) (sym tells.low_is)
      (subst (λ high. Between 1 high t.high_latch t.left t.right) (sym tells.high_is)
      (subst (λ founder. Between 1 2 founder t.left t.right) (sym tells.high_latch) (subst (λ l. Between 1 2 (record { side = A; latch = 1 }) l t.right) (sym tells.left_is) (subst (λ r. Between 1 2 (record { side = A; latch = 1 }) true r) (sym tells.right_is) separation))))

  separates : Separates shows_and shows_or joining t
  separates = record {
    variables = three_variables;
    bits = e_alone;
    founder = subst (IsTagOf shows_and.net shows_or.net) (sym tells.high_latch) (omega arith);
    separates = subst (λ latch. SeparatesBy shows_and shows_or joining t latch three_variables e_alone) (sym tells.low_latch) (omega (arith, tells.low_is), omega arith, between);
    least = subst (λ latch. IsLeastFrame (TellsIn both_loading place latch t.high_latch) three_variables e_alone) (sym tells.low_latch)
        (subst (λ founder. IsLeastFrame (DifferIn both_loading (Left 3) (place founder)) three_variables e_alone) (sym tells.high_latch) q_r_least);
    frame = tells.told;
  }

  of_two : AreSeparationsOf shows_and shows_or and_or_pair joining (t ∷ [])
  of_two = record { each = All-from_recursion (Separates shows_and shows_or joining) (t ∷ []) (separates, tt); in_order = λ i j d l h. absurd (omega (arith, l, h)); exactly = λ i j. (there i j, back i j) }
    where
      there : (i j : ℕ) → ((x : ToldSeparation) × Contains (t ∷ []) x × (x.low ≡ i) × (x.high ≡ j)) → (i < j) × OccursFor both_loading and_or_pair i × OccursFor both_loading and_or_pair j
      there i j f =
          let same = only t f.0 f.1 in
          let low : 1 ≡ i = sym tells.low_is ∙ (ap (λ (x : ToldSeparation). x.low) same ∙ f.2) in
          let high : 2 ≡ j = sym tells.high_is ∙ (ap (λ (x : ToldSeparation). x.high) same ∙ f.3) in
          (omega (arith, low, high), subst (OccursFor both_loading and_or_pair) low first_occurs, subst (OccursFor both_loading and_or_pair) high second_occurs)

      back : (i j : ℕ) → (i < j) × OccursFor both_loading and_or_pair i × OccursFor both_loading and_or_pair j → (x : ToldSeparation) × Contains (t ∷ []) x × (x.low ≡ i) × (x.high ≡ j)
      back i j f =
          let low = occurring i f.1 in
          let high = occurring j f.2 in
          (t, Contains-head t [], omega (arith, tells.low_is, f.0, low.0, high.1), omega (arith, tells.high_is, f.0, low.0, high.1))

  pub told_apart : AreToldApart shows_and shows_or and_or_pair (t ∷ [])
  told_apart = record { others = λ h. not_always h.0; classes = classes; separations = of_two }

pub are_told_apart : TwoClassesAreToldApart
are_told_apart = record { separated = separated; first_occurs = first_occurs; second_occurs = second_occurs; told_apart = told_apart }
