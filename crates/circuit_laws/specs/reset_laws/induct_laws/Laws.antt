-- Laws of inductive partitions of the latches of two circuits, side by side. `left` and `right` are the numbers of their inputs.
use Rattle.std.specs.Prelude.{◌≡◌, ℕ, ◌<◌, ◌↔◌, Bool, List, [], ◌++◌, length}
use Rattle.circuit_theory.specs.Circuit.{Circuit, IsLatch, Meets}
use Rattle.circuit_theory.specs.Net.{IsNet}
use Rattle.circuit_theory.specs.Tree.{Tree, AreNumbered}
use Rattle.circuit_theory.specs.Cone.{Source}
use Rattle.circuit_theory.specs.Query.{IsSame}
use Rattle.circuit_theory.specs.Joined.{Either, Left, Right, joined, beside}
use Rattle.circuit_theory.specs.Agree.{IsPair}
use Rattle.circuit_theory.specs.Blocks.{IsConstantOn, IsInductive, IsCoarsest}
use Rattle.circuit_laws.specs.reset_laws.Reset.{HasOneStart, AreAlikeFromReset, AgreeFromReset}
use Rattle.circuit_laws.specs.reset_laws.induct_laws.Partitions.{IsInitial, IsCoarser, IsSplitBy, HaveSameBlocks, AreEqualOver}
use Rattle.circuit_laws.specs.reset_laws.induct_laws.Queries.{BlockUnfolds, AssignmentsAreValues, block_query}

-- Each inductive partition refines the one by initial values.
abbrev pub InitialIsCoarser : Type 0
InitialIsCoarser = (a b : Circuit ℕ) (order : List ℕ) (block : Either ℕ ℕ → ℕ) → IsInitial (joined a b) block → IsCoarser (joined a b) order block

-- A split by values that are constant on the blocks splits no block of an inductive partition.
abbrev pub SplitStaysCoarser : Type 0
SplitStaysCoarser = (a b : Circuit ℕ) (order : List ℕ) (block fine : Either ℕ ℕ → ℕ) (x : Either ℕ ℕ → Bool) → IsCoarser (joined a b) order block →
    Meets (joined a b) x → IsConstantOn (joined a b) order block x → IsSplitBy (joined a b) block x fine → IsCoarser (joined a b) order fine

-- Two coarsest inductive partitions have the same blocks.
abbrev pub CoarsestIsOne : Type 0
CoarsestIsOne = (a b : Circuit ℕ) (order : List ℕ) (block other : Either ℕ ℕ → ℕ) → IsCoarsest (joined a b) order block → IsCoarsest (joined a b) order other → HaveSameBlocks (joined a b) block other

-- There is a coarsest inductive partition.
abbrev pub CoarsestExists : Type 0
CoarsestExists = (a b : Circuit ℕ) (m n : ℕ) (order : List ℕ) → IsNet a m → IsNet b n → HasOneStart a → HasOneStart b → (block : Either ℕ ℕ → ℕ) × IsCoarsest (joined a b) order block

-- Assignments of inputs and blocks are values that are constant on the blocks.
abbrev pub BlocksAreVariables : Type 0
BlocksAreVariables = (a b : Circuit ℕ) (m n : ℕ) (left right : List ℕ) (block : Either ℕ ℕ → ℕ) → IsNet a m → IsNet b n → length left ≡ length a.inputs → AssignmentsAreValues (joined a b) (left ++ right) block

-- Each signal has an unfolding over the blocks.
abbrev pub BlocksHaveTrees : Type 0
BlocksHaveTrees = (a b : Circuit ℕ) (m n : ℕ) (left right : List ℕ) (block : Either ℕ ℕ → ℕ) → IsNet a m → IsNet b n → length left ≡ length a.inputs → length right ≡ length b.inputs →
    ((p : ℕ) → p < m → (tree : Tree Source) × BlockUnfolds (joined a b) (left ++ right) block (Left p) tree) × ((q : ℕ) → q < n → (tree : Tree Source) × BlockUnfolds (joined a b) (left ++ right) block (Right q) tree)

-- A query over the blocks says same exactly where its two places have one value for all values that are constant on the blocks.
abbrev pub QueriesDecide : Type 0
QueriesDecide = (a b : Circuit ℕ) (m n : ℕ) (left right : List ℕ) (block : Either ℕ ℕ → ℕ) → IsNet a m → IsNet b n → length left ≡ length a.inputs →
    (p q : Either ℕ ℕ) (l r : Tree Source) → BlockUnfolds (joined a b) (left ++ right) block p l → BlockUnfolds (joined a b) (left ++ right) block q r →
    IsSame (block_query l r) ↔ ((x : Either ℕ ℕ → Bool) → Meets (joined a b) x → IsConstantOn (joined a b) (left ++ right) block x → x p ≡ x q)

-- Latches of one block are equal in every cycle of two reset runs with equal inputs.
abbrev pub BlocksStayEqual : Type 0
BlocksStayEqual = (a b : Circuit ℕ) (left right : List ℕ) (block : Either ℕ ℕ → ℕ) → AreNumbered a b left right → length left ≡ length a.inputs → IsInductive (joined a b) (left ++ right) block →
    (n : ℕ) (l r : ℕ → ℕ → Bool) → AreAlikeFromReset a b n l r →
    (name name' : List ℕ) (u next v next' : Either ℕ ℕ) → IsLatch (joined a b) name u next → IsLatch (joined a b) name' v next' → block u ≡ block v →
    (t : ℕ) → t < n → beside (l t) (r t) u ≡ beside (l t) (r t) v

-- Equal functions over the blocks mean agreement in every cycle.
abbrev pub EqualOverBlocksAgree : Type 0
EqualOverBlocksAgree = (a b : Circuit ℕ) (left right : List ℕ) (block : Either ℕ ℕ → ℕ) → AreNumbered a b left right → length left ≡ length a.inputs → IsInductive (joined a b) (left ++ right) block →
    ((p q : ℕ) → IsPair [] a b p q → AreEqualOver a b (left ++ right) block p q) → AgreeFromReset a b
