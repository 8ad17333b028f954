-- What each inductive partition refines.
use Rattle.std.proofs.Common.{◌≡◌, ◌≢◌, ℕ, Bool, List, ap, inl, inr}
use Rattle.std.specs.Prelude.{◌⊎◌}
use Rattle.circuit_theory.specs.Circuit.{Circuit, Meets}
use Rattle.circuit_theory.specs.Joined.{joined}
use Rattle.circuit_theory.specs.Blocks.{IsConstantOn, Refines}
use Rattle.circuit_laws.proofs.JoinedParts.{joined_same}
use Rattle.circuit_laws.specs.reset_laws.induct_laws.Partitions.{IsInitial, IsCoarser, IsSplitBy}
use Rattle.circuit_laws.specs.reset_laws.induct_laws.Laws.{InitialIsCoarser, SplitStaysCoarser, CoarsestIsOne}

-- values that are constant on the blocks of a partition are so on those of each finer one
pub constant_on_finer : {P : Type 0} (c : Circuit P) (order : List ℕ) (fine block : P → ℕ) (x : P → Bool) → Refines c fine block → IsConstantOn c order block x → IsConstantOn c order fine x
constant_on_finer c order fine block x finer h = record {
  inputs = h.inputs;
  latches = λ name name' u next v next' l m e. h.latches name name' u next v next' l m (finer name name' u next v next' l m e);
}

pub split_coarser : {P : Type 0} (c : Circuit P) (order : List ℕ) (block fine : P → ℕ) (x : P → Bool) → IsCoarser c order block → Meets c x → IsConstantOn c order block x → IsSplitBy c block x fine → IsCoarser c order fine
split_coarser c order block fine x coarser meets constant split other inductive name name' u next v next' l m e =
    let finer = coarser other inductive in
    (split name name' u next v next' l m).1 (finer name name' u next v next' l m e, inductive.steps x meets (constant_on_finer c order other block x finer constant) name name' u next v next' l m e)

pub initial_coarser : {P : Type 0} (c : Circuit P) (same : (p q : P) → (p ≡ q) ⊎ (p ≢ q)) (order : List ℕ) (block : P → ℕ) → IsInitial c block → IsCoarser c order block
initial_coarser {P} c same order block initial other inductive name name' u next v next' l m e = go (same u v)
  where
    go : (u ≡ v) ⊎ (u ≢ v) → block u ≡ block v
    go (inl q) = ap block q
    go (inr n) = (initial name name' u next v next' l m n).1 (inductive.starts name name' u next v next' l m n e)

pub initial_is_coarser : InitialIsCoarser
initial_is_coarser a b order block initial = initial_coarser (joined a b) joined_same order block initial

pub split_stays_coarser : SplitStaysCoarser
split_stays_coarser a b order block fine x coarser meets constant split = split_coarser (joined a b) order block fine x coarser meets constant split

pub coarsest_is_one : CoarsestIsOne
coarsest_is_one a b order block other h k = (k.coarsest block h.inductive, h.coarsest other k.inductive)
