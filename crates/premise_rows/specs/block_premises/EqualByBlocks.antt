-- Two nets whose outputs are equal over the coarsest inductive partition of their latches.
use Rattle.std.specs.Prelude.{◌≡◌, ℕ, Bool, List, [], ◌∷◌, None, codes, All}
use Rattle.std.specs.List.{AllZip}
use Rattle.circuit_theory.specs.Agree.{IsPair}
use Rattle.circuit_theory.specs.Interface.{AreNumbersOf}
use Rattle.circuit_theory.specs.Joined.{Either, Left, Right}
use Rattle.circuit_laws.specs.reset_laws.Reset.{AgreeFromReset}
use Rattle.sec_base.specs.declared.basics.Init.TheVariants as init
use Rattle.sec_base.specs.declared.basics.Orders.{Orders}
use Rattle.flat_net.specs.declared.parts.Driver.TheVariants as driver
use Rattle.flat_net.specs.Comparable.{IsComparable}
use Rattle.flat_net.specs.Sound.{IsSound}
use Rattle.flat_net.specs.View.{NetView, circuit_of, ports_of}
use Rattle.block_refine.specs.latch_blocks.QueryLaws.{AreBlockValues}
use Rattle.block_refine.specs.declared.block_graph.nets.BlockNets.{BlockNets}
use Rattle.block_refine.specs.declared.block_graph.graph.BlockGraph.{BlockGraph}
use Rattle.block_refine.specs.Refining.{AreCoarsest}
use Rattle.induct.specs.declared.block_outputs.answer.OutputAnswer.TheVariants as answer
use Rattle.induct.specs.declared.block_outputs.outputs.OutputPair.{OutputPair}
use Rattle.induct.specs.block_outputs.Answers.{IsOutputAnswer}
use Rattle.pair_texts.specs.design_rows.Designs.{xor_cover}

-- 0 a; 1 q, which starts with 0 and takes over 2, one of a and q but not both
abbrev pub one_turning : NetView
one_turning = record {
  inputs = record { name = codes "a"; signal = record { 0 = 0 } } ∷ [];
  outputs = record { name = codes "y"; signal = record { 0 = 1 } } ∷ [];
  gates = record { fanins = record { 0 = 0 } ∷ record { 0 = 1 } ∷ []; cover = 0; out = record { 0 = 2 } } ∷ [];
  latches = record { name = codes "q"; next = record { 0 = 2 }; out = record { 0 = 1 }; init = init.Zero } ∷ [];
  covers = xor_cover ∷ [];
  drivers = driver.Input 0 ∷ driver.Latch 0 ∷ driver.Gate 0 ∷ [];
  names = codes "a" ∷ codes "q" ∷ codes "n" ∷ [];
  clock = None;
}

-- 0 a; 1 r and 2 s, which start with 0: r takes over 3, one of a and s but not both, and s takes over 4, one of a and r but not both
abbrev pub two_turning : NetView
two_turning = record {
  inputs = record { name = codes "a"; signal = record { 0 = 0 } } ∷ [];
  outputs = record { name = codes "y"; signal = record { 0 = 2 } } ∷ [];
  gates = record { fanins = record { 0 = 0 } ∷ record { 0 = 2 } ∷ []; cover = 0; out = record { 0 = 3 } }
      ∷ record { fanins = record { 0 = 0 } ∷ record { 0 = 1 } ∷ []; cover = 0; out = record { 0 = 4 } } ∷ [];
  latches = record { name = codes "r"; next = record { 0 = 3 }; out = record { 0 = 1 }; init = init.Zero }
      ∷ record { name = codes "s"; next = record { 0 = 4 }; out = record { 0 = 2 }; init = init.Zero } ∷ [];
  covers = xor_cover ∷ [];
  drivers = driver.Input 0 ∷ driver.Latch 0 ∷ driver.Latch 1 ∷ driver.Gate 0 ∷ driver.Gate 1 ∷ [];
  names = codes "a" ∷ codes "r" ∷ codes "s" ∷ codes "m" ∷ codes "k" ∷ [];
  clock = None;
}

-- the number of a on both sides
abbrev pub a_numbers : Orders
a_numbers = record { left = 0 ∷ []; right = 0 ∷ [] }

-- all three latches are one block
abbrev pub one_block : List ℕ
one_block = 0 ∷ 0 ∷ 0 ∷ []

abbrev pub turning_nets : BlockNets
turning_nets = record {
  left = record { ref_ptr = (0, 0); now = one_turning };
  right = record { ref_ptr = (0, 0); now = two_turning };
  orders = record { ref_ptr = (0, 0); now = a_numbers };
  blocks = record { ref_ptr = (0, 0); now = one_block };
}

abbrev pub equal_output : List OutputPair
equal_output = record { name = codes "y"; answer = answer.Equal } ∷ []

-- Both nets keep what each net keeps, and meet what the laws of outputs that are equal over blocks ask for; so they agree.
pub record AreEqualByBlocks : Type 0 where
  pub left_sound : IsSound one_turning
  pub right_sound : IsSound two_turning
  pub comparable : IsComparable two_turning
  pub left_numbers : AreNumbersOf (ports_of one_turning).inputs (codes "a" ∷ []) a_numbers.left a_numbers.right
  pub right_numbers : AreNumbersOf (ports_of two_turning).inputs (codes "a" ∷ []) a_numbers.right a_numbers.left
  pub coarsest : AreCoarsest one_turning two_turning a_numbers one_block
  pub equal : (p q : ℕ) → IsPair [] (circuit_of one_turning) (circuit_of two_turning) p q → (x : Either ℕ ℕ → Bool) → AreBlockValues one_turning two_turning a_numbers one_block x → x (Left p) ≡ x (Right q)
  pub answered : (g : BlockGraph) (conflicts : ℕ) → AllZip (IsOutputAnswer turning_nets g conflicts) one_turning.outputs equal_output
  pub all_equal : All (λ pair. pair.answer ≡ answer.Equal) equal_output
  pub agree : AgreeFromReset (circuit_of one_turning) (circuit_of two_turning)
