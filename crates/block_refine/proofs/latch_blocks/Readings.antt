-- Assignments and values that are constant on the blocks.
use Rattle.std.proofs.Common.{◌≡◌, ◌∙◌, ◌+◌, ◌-◌, ◌<◌, ℕ, Bool, true, false, List, ◌++◌, length, slice_get, Option, Some, None, if◌then◌else◌, refl, sym, ap, arith}
use Rattle.std.specs.Prelude.{option_and_then}
use Rattle.std.proofs.Math.Dec.{ltb}
use Rattle.std.proofs.lemmas.Bool.{ltb-true, lt-ltb}
use Rattle.circuit_theory.specs.Circuit.{Meets, IsLatch}
use Rattle.circuit_theory.specs.Cone.{Source, AnInput, ALatch}
use Rattle.circuit_theory.specs.Tree.{Leaf, IsInputNumber, tree_value}
use Rattle.circuit_theory.specs.Joined.{Either, Left, Right, joined}
use Rattle.circuit_theory.specs.Blocks.{IsConstantOn}
use Rattle.circuit_theory.proofs.Lists.{length-map}
use Rattle.circuit_laws.proofs.JoinedParts.{meets_left, meets_right}
use Rattle.sec_base.specs.declared.basics.Orders.{Orders}
use Rattle.flat_net.specs.declared.parts.Driver.{Driver}
use Rattle.flat_net.specs.declared.parts.Driver.TheVariants as driver
use Rattle.flat_net.specs.View.{NetView, circuit_of, named}
use Rattle.flat_net.specs.Sound.{IsSound}
use Rattle.flat_net.proofs.Nets.{sound_is_net}
use Rattle.flat_net.proofs.Places.{All-at}
use Rattle.circuit_laws.specs.reset_laws.induct_laws.Queries.{BlockUnfolds, ReadsBlocks, AssignmentsAreValues}
use Rattle.circuit_laws.proofs.reset_laws.induct_laws.Queries.{blocks_are_variables}
use Rattle.block_refine.specs.latch_blocks.Blocks.{block_at}
use Rattle.block_refine.specs.declared.latch_blocks.variables.Variables.{Variables}
use Rattle.block_refine.specs.latch_blocks.Signals.{variable_of, variable_at}
use Rattle.block_refine.specs.latch_blocks.Partitions.{block_of, block_of_driver}
use Rattle.block_refine.specs.latch_blocks.Readings.{AreBlockVariables, AreRead}
use Rattle.block_refine.specs.latch_blocks.ReadingLaws.{ReadingsAreValues, ValuesHaveReadings}
use Rattle.block_refine.proofs.latch_blocks.Joining.{left_number, right_number, left_latch, right_latch}

module _ (a b : NetView) (sound_a : IsSound a) (sound_b : IsSound b) (orders : Orders) (left_long : length orders.left ≡ length a.inputs) (first : ℕ) (blocks : List ℕ) (left right : Variables) (are : AreBlockVariables a b orders first blocks left right) where
  abbrev block : Either ℕ ℕ → ℕ
  block = block_of a b blocks

  values : AssignmentsAreValues (joined (circuit_of a) (circuit_of b)) (orders.left ++ orders.right) (block_of a b blocks)
  values = blocks_are_variables (circuit_of a) (circuit_of b) (length a.drivers) (length b.drivers) orders.left orders.right (block_of a b blocks) (sound_is_net a sound_a) (sound_is_net b sound_b) (left_long ∙ sym (length-map named a.inputs))

  -- an assignment of inputs and blocks, and one of variables, that say the same
  record Say (assign : ℕ → Source → Bool) (v : ℕ → Bool) : Type 0 where
    inputs : (i : ℕ) → i < first → assign i AnInput ≡ v i
    latches : (k : ℕ) → assign k ALatch ≡ v (first + k)

  module _ (assign : ℕ → Source → Bool) (v : ℕ → Bool) (say : Say assign v) (x : Either ℕ ℕ → Bool) (reads : ReadsBlocks (joined (circuit_of a) (circuit_of b)) (orders.left ++ orders.right) (block_of a b blocks) assign x) where
    of_input : (p : Either ℕ ℕ) (k : ℕ) → IsInputNumber (joined (circuit_of a) (circuit_of b)) (orders.left ++ orders.right) p k → k < first → x p ≡ v k
    unfolding tree_value
    of_input p k number below = sym (reads p (Leaf k AnInput) (BlockUnfolds.input number)) ∙ say.inputs k below

    of_latch : (name : List ℕ) (p next : Either ℕ ℕ) → IsLatch (joined (circuit_of a) (circuit_of b)) name p next → x p ≡ v (first + block_of a b blocks p)
    unfolding tree_value
    of_latch name p next latch = sym (reads p (Leaf (block_of a b blocks p) ALatch) (BlockUnfolds.latch latch)) ∙ say.latches (block_of a b blocks p)

    read_left : (s k : ℕ) → variable_at a left s ≡ Some k → x (Left s) ≡ v k
    read_left s k is = go (slice_get a.drivers s) refl
      where
        go : (o : Option Driver) → slice_get a.drivers s ≡ o → x (Left s) ≡ v k
        go None e = let no : None ≡ Some k = sym (ap (λ (o : Option Driver). option_and_then (variable_of left) o) e) ∙ is in absurd (let bad : ⊥ = cc in bad)
        go (Some (driver.Input i)) e =
            let at : slice_get orders.left i ≡ Some k = ap (λ (l : List ℕ). slice_get l i) (sym are.left_inputs) ∙ sym (ap (λ (o : Option Driver). option_and_then (variable_of left) o) e) ∙ is in
            of_input (Left s) k (left_number a b orders.left orders.right left_long sound_a s i k e at) (All-at (λ n. n < first) orders.left i k at are.above_left)
        go (Some (driver.Gate j)) e = let no : None ≡ Some k = sym (ap (λ (o : Option Driver). option_and_then (variable_of left) o) e) ∙ is in absurd (let bad : ⊥ = cc in bad)
        go (Some (driver.Latch j)) e =
            let at : slice_get left.latches j ≡ Some k = sym (ap (λ (o : Option Driver). option_and_then (variable_of left) o) e) ∙ is in
            let l = left_latch a b sound_a s j e in
            let own : block_of a b blocks (Left s) ≡ block_at blocks j = ap (block_of_driver blocks 0) e ∙ ap (block_at blocks) (let z : 0 + j ≡ j = omega arith in z) in
            of_latch l.0 (Left s) l.1 l.2 ∙ ap v (ap (λ n. first + n) own ∙ sym (are.left_latches j k at))

    read_right : (s k : ℕ) → variable_at b right s ≡ Some k → x (Right s) ≡ v k
    read_right s k is = go (slice_get b.drivers s) refl
      where
        go : (o : Option Driver) → slice_get b.drivers s ≡ o → x (Right s) ≡ v k
        go None e = let no : None ≡ Some k = sym (ap (λ (o : Option Driver). option_and_then (variable_of right) o) e) ∙ is in absurd (let bad : ⊥ = cc in bad)
        go (Some (driver.Input i)) e =
            let at : slice_get orders.right i ≡ Some k = ap (λ (l : List ℕ). slice_get l i) (sym are.right_inputs) ∙ sym (ap (λ (o : Option Driver). option_and_then (variable_of right) o) e) ∙ is in
            of_input (Right s) k (right_number a b orders.left orders.right left_long sound_b s i k e at) (All-at (λ n. n < first) orders.right i k at are.above_right)
        go (Some (driver.Gate j)) e = let no : None ≡ Some k = sym (ap (λ (o : Option Driver). option_and_then (variable_of right) o) e) ∙ is in absurd (let bad : ⊥ = cc in bad)
        go (Some (driver.Latch j)) e =
            let at : slice_get right.latches j ≡ Some k = sym (ap (λ (o : Option Driver). option_and_then (variable_of right) o) e) ∙ is in
            let l = right_latch a b sound_b s j e in
            let own : block_of a b blocks (Right s) ≡ block_at blocks (length a.latches + j) = ap (block_of_driver blocks (length a.latches)) e in
            of_latch l.0 (Right s) l.1 l.2 ∙ ap v (ap (λ n. first + n) own ∙ sym (are.right_latches j k at))

    are_read : Meets (joined (circuit_of a) (circuit_of b)) x → AreRead a b left right v x
    are_read meets = (record { meets = meets_left (circuit_of a) (circuit_of b) x meets; variables = read_left }, record { meets = meets_right (circuit_of a) (circuit_of b) x meets; variables = read_right })

  -- the assignment of inputs and blocks that the variables' bits are
  abbrev spread : (ℕ → Bool) → ℕ → Source → Bool
  spread v i AnInput = v i
  spread v k ALatch = v (first + k)

  pub reading_values : (v : ℕ → Bool) → (x : Either ℕ ℕ → Bool) × Meets (joined (circuit_of a) (circuit_of b)) x × IsConstantOn (joined (circuit_of a) (circuit_of b)) (orders.left ++ orders.right) (block_of a b blocks) x × AreRead a b left right v x
  reading_values v =
      let found = values.values (spread v) in
      (found.0, found.1, found.2, are_read (spread v) v (record { inputs = λ i below. refl; latches = λ k. refl }) found.0 found.3 found.1)

  -- the bits of the variables that an assignment of inputs and blocks gives
  abbrev gathered : (ℕ → Source → Bool) → ℕ → Bool
  gathered assign n = if ltb n first then assign n AnInput else assign (n - first) ALatch

  not_below : (b : Bool) (k : ℕ) → ltb (first + k) first ≡ b → b ≡ false
  not_below false k e = refl
  not_below true k e = absurd (let less = ltb-true (first + k) first e in omega (arith, less))

  gathered_says : (assign : ℕ → Source → Bool) → Say assign (gathered assign)
  gathered_says assign = record {
    inputs = λ i below. sym (ap (λ t. if t then assign i AnInput else assign (i - first) ALatch) (lt-ltb i first below));
    latches = λ k.
        let back : first + k - first ≡ k = omega arith in
        sym (ap (λ t. if t then assign (first + k) AnInput else assign (first + k - first) ALatch) (not_below (ltb (first + k) first) k refl) ∙ ap (λ n. assign n ALatch) back);
  }

  pub value_reading : (x : Either ℕ ℕ → Bool) → Meets (joined (circuit_of a) (circuit_of b)) x → IsConstantOn (joined (circuit_of a) (circuit_of b)) (orders.left ++ orders.right) (block_of a b blocks) x → (v : ℕ → Bool) × AreRead a b left right v x
  value_reading x meets constant =
      let found = values.assignment x meets constant in
      (gathered found.0, are_read found.0 (gathered found.0) (gathered_says found.0) x found.1 meets)

pub readings_are_values : ReadingsAreValues
readings_are_values a b sound_a sound_b orders left_long right_long first blocks left right are v = reading_values a b sound_a sound_b orders left_long first blocks left right are v

pub values_have_readings : ValuesHaveReadings
values_have_readings a b sound_a sound_b orders left_long right_long first blocks left right are x meets constant = value_reading a b sound_a sound_b orders left_long first blocks left right are x meets constant
