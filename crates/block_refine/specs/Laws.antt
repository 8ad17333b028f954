-- What the coarsest inductive partition says of the outputs.
use Rattle.std.specs.Prelude.{◌≡◌, ℕ, Bool, List, []}
use Rattle.circuit_theory.specs.Joined.{Either, Left, Right}
use Rattle.circuit_theory.specs.Agree.{IsPair}
use Rattle.circuit_theory.specs.Interface.{AreNumbersOf}
use Rattle.circuit_laws.specs.reset_laws.Reset.{AgreeFromReset}
use Rattle.sec_base.specs.declared.basics.Orders.{Orders}
use Rattle.flat_net.specs.View.{NetView, circuit_of, ports_of}
use Rattle.block_refine.specs.latch_blocks.QueryLaws.{AreBlockValues}
use Rattle.block_refine.specs.Refining.{AreCoarsest}

-- Outputs of one name that have one value for all values that are constant on the blocks agree in every cycle of runs from the initial
-- values with equal inputs. Shared inputs have their places as numbers.
abbrev pub OutputsAgree : Type 0
OutputsAgree = (a b : NetView) (shared : List (List ℕ)) (orders : Orders) (blocks : List ℕ) → AreNumbersOf (ports_of a).inputs shared orders.left orders.right → AreNumbersOf (ports_of b).inputs shared orders.right orders.left → AreCoarsest a b orders blocks →
    ((p q : ℕ) → IsPair [] (circuit_of a) (circuit_of b) p q → (x : Either ℕ ℕ → Bool) → AreBlockValues a b orders blocks x → x (Left p) ≡ x (Right q)) → AgreeFromReset (circuit_of a) (circuit_of b)
