-- What holds of every flat net. Each law is the contract of a function of this crate.
use Rattle.std.specs.Prelude.{◌≡◌, ℕ, ◌-◌, ◌<◌, ◌≤◌, ◌↔◌, Bool, true, false, not, ◌||◌, if◌then◌else◌, List, [], length, map}
use Rattle.std.specs.List.{Contains}
use Rattle.circuit_theory.specs.declared.Mode.{Mode}
use Rattle.circuit_theory.specs.declared.Mode.TheVariants.{Plain}
use Rattle.circuit_theory.specs.Circuit.{Circuit, IsInput, IsLatch, Meets, IsSingleDriven}
use Rattle.circuit_theory.specs.Run.{IsRun, EqualInputs, Extends, ExtendsWith, Loads, CanPut, IsEnabled, NoneEnabled}
use Rattle.circuit_theory.specs.Net.{IsNet, HasDistinctNames}
use Rattle.circuit_theory.specs.Depth.{IsDepth}
use Rattle.circuit_theory.specs.Asked.{HaveEqualFunctions}
use Rattle.circuit_theory.specs.Tree.{Tree, Unfolds, IsInputNumber, AreNumbered, tree_value}
use Rattle.circuit_theory.specs.Agree.{cut, IsPair, pairs_of, IsSettled, Agree, AgreeOnward, IsMinimalCut}
use Rattle.circuit_theory.specs.Interface.{AreNumbersOf}
use Rattle.circuit_theory.specs.Sizes.{IsWeight, IsOver, IsConeWeight, IsConeOver}
use Rattle.circuit_theory.specs.Fits.{IsWitness, MakesDiffer}

-- Values exist for each choice of inputs and latches and are one, and a latch can be put to either bit.
abbrev pub ValuesAreOne : Type 0
ValuesAreOne = (c : Circuit ℕ) (size : ℕ) → IsNet c size →
    ((x : ℕ → Bool) → (v : ℕ → Bool) × Extends c x v × ((w : ℕ → Bool) → Extends c x w → (s : ℕ) → s < size → w s ≡ v s)) × CanPut c

-- There is a run of each length for each power-up and each sequence of inputs, and only one.
abbrev pub RunsExist : Type 0
RunsExist = (c : Circuit ℕ) (size n : ℕ) (power : ℕ → Bool) (inputs : ℕ → ℕ → Bool) → IsNet c size →
    (run : ℕ → ℕ → Bool) × IsRun c n run × ((t p : ℕ) → IsInput c p → run t p ≡ inputs t p) × ((name : List ℕ) (u next : ℕ) → IsLatch c name u next → run 0 u ≡ power u)
    × ((other : ℕ → ℕ → Bool) → IsRun c n other → ((t p : ℕ) → t < n → IsInput c p → other t p ≡ inputs t p) →
    ((name : List ℕ) (u next : ℕ) → 0 < n → IsLatch c name u next → other 0 u ≡ power u) → (t s : ℕ) → t < n → s < size → other t s ≡ run t s)

-- Marks are never lost.
abbrev pub MarksStay : Type 0
MarksStay = (mode : Mode) (c : Circuit ℕ) (run : ℕ → ℕ → Bool) (s t p : ℕ) → s ≤ t → IsSettled mode c run s p → IsSettled mode c run t p

-- In any two runs of one circuit with equal inputs the marks are the same, and so are the marked values.
abbrev pub MarksAreTheSame : Type 0
MarksAreTheSame = (mode : Mode) (c : Circuit ℕ) (size n : ℕ) (r s : ℕ → ℕ → Bool) → IsNet c size → IsRun c n r → IsRun c n s → EqualInputs c c n r s →
    (t p : ℕ) → t < n → (IsSettled mode c r t p ↔ IsSettled mode c s t p) × (IsSettled mode c r t p → r t p ≡ s t p)

-- In the plain mode a signal of depth d is settled from cycle d on, and only then.
abbrev pub SettledFromDepth : Type 0
SettledFromDepth = (c : Circuit ℕ) (size s d : ℕ) → IsNet c size → s < size → IsDepth c NoneEnabled s d → (run : ℕ → ℕ → Bool) (t : ℕ) → IsSettled Plain c run t s ↔ (d ≤ t)

-- A signal has a tree exactly where it has a depth: the greatest number of latches on a way down. And it has one tree.
abbrev pub TreesAreOne : Type 0
TreesAreOne = (c : Circuit ℕ) (size : ℕ) (order : List ℕ) (s k : ℕ) → IsNet c size → length order ≡ length c.inputs → s < size →
    ((d : ℕ) → IsDepth c NoneEnabled s d ↔ ((tree : Tree ℕ) × Unfolds c order s k d tree))
    × ((d e : ℕ) (l r : Tree ℕ) → Unfolds c order s k d l → Unfolds c order s k e r → (l ≡ r) × (d ≡ e))

-- Without latches each signal has a tree of depth 0.
abbrev pub GatesHaveTrees : Type 0
GatesHaveTrees = (c : Circuit ℕ) (size : ℕ) (order : List ℕ) (s k : ℕ) → IsNet c size → length order ≡ length c.inputs → s < size →
    ((name : List ℕ) (u next : ℕ) → IsLatch c name u next → ⊥) → (tree : Tree ℕ) × Unfolds c order s k 0 tree

-- The shift: in every run a tree has the value of its signal, input i at shift k being input i in cycle t - k, wherever the signal
-- is settled.
abbrev pub TreeIsRun : Type 0
TreeIsRun = (c : Circuit ℕ) (size : ℕ) (order : List ℕ) (s d : ℕ) (tree : Tree ℕ) → IsNet c size → Unfolds c order s 0 d tree →
    (n : ℕ) (run : ℕ → ℕ → Bool) → IsRun c n run → (t : ℕ) → t < n → IsSettled Plain c run t s →
    (x : ℕ → ℕ → Bool) → ((p i k : ℕ) → IsInputNumber c order p i → k ≤ t → x i k ≡ run (t - k) p) → tree_value x tree ≡ run t s

-- Equal functions mean agreement: without exposed latches.
abbrev pub EqualFunctionsAgree : Type 0
EqualFunctionsAgree = (a b : Circuit ℕ) (m n : ℕ) (left right : List ℕ) → IsNet a m → IsNet b n → AreNumbered a b left right →
    ((p q : ℕ) → IsPair [] a b p q → HaveEqualFunctions a b left right p q) → Agree Plain a b

-- Equal functions of the cut circuits mean agreement of the circuits themselves, and agreement onward.
abbrev pub ExposedFunctionsAgree : Type 0
ExposedFunctionsAgree = (a b : Circuit ℕ) (m n : ℕ) (names : List (List ℕ)) (left right : List ℕ) → IsNet a m → IsNet b n → HasDistinctNames a → HasDistinctNames b →
    IsMinimalCut Plain a b names → AreNumbered (cut names a) (cut names b) left right →
    ((p q : ℕ) → IsPair names a b p q → HaveEqualFunctions (cut names a) (cut names b) left right p q) → Agree Plain a b × AgreeOnward Plain names a b

-- The printed sequence makes its pair differ in all runs.
abbrev pub WitnessMakesDiffer : Type 0
WitnessMakesDiffer = (a b : Circuit ℕ) (left right : List ℕ) (p q count : ℕ) (rows : List (List Bool)) (last : ℕ) (l r : Bool) →
    IsWitness a b left right p q count rows last l r → MakesDiffer a b left right p q rows last l r

-- The weight of an unfolding is one number, and what is over a cap weighs more; the same of a latch's cone.
abbrev pub WeightIsOne : Type 0
WeightIsOne = (c : Circuit ℕ) → IsSingleDriven c →
    ((outputs : List ℕ) (v w cap : ℕ) → IsWeight c outputs v → (IsWeight c outputs w → v ≡ w) × (IsOver c outputs cap → cap < v))
    × ((next v w cap : ℕ) → IsConeWeight c next v → (IsConeWeight c next w → v ≡ w) × (IsConeOver c next cap → cap < v))

-- The list of pairs holds exactly the pairs that are compared, where names tell signals apart and no output name of B stands twice.
abbrev pub PairsAreListed : Type 0
PairsAreListed = (a b : Circuit ℕ) (names : List (List ℕ)) → IsSingleDriven a → IsSingleDriven b → HasDistinctNames a → HasDistinctNames b →
    ((name : List ℕ) (q r : ℕ) → Contains b.outputs (record { name = name; place = q }) → Contains b.outputs (record { name = name; place = r }) → q ≡ r) →
    (p q : ℕ) → IsPair names a b p q ↔ Contains (pairs_of names a b) (record { left = p; right = q })

-- Where shared inputs have one number and all others numbers of their own, a number that both circuits have is that of one name.
abbrev pub NumbersAreShared : Type 0
NumbersAreShared = (a b : Circuit ℕ) (shared : List (List ℕ)) (left right : List ℕ) →
    AreNumbersOf (map (λ i. i.name) a.inputs) shared left right → AreNumbersOf (map (λ i. i.name) b.inputs) shared right left → AreNumbered a b left right

-- An enabled latch takes over the function with itself at 0 where its enable is 1, and keeps its value where that is 0; it loads exactly
-- where the enable is 1.
abbrev pub EnabledLoadsOrKeeps : Type 0
EnabledLoadsOrKeeps = (c : Circuit ℕ) (size : ℕ) → IsNet c size → (name : List ℕ) (u next : ℕ) → IsLatch c name u next → IsEnabled c u →
    (x low high : ℕ → Bool) → Meets c x → ExtendsWith c u false x low → ExtendsWith c u true x high →
    (x next ≡ (if low next || not (high next) then low next else x u)) × (Loads c x u next ↔ ((low next || not (high next)) ≡ true))
