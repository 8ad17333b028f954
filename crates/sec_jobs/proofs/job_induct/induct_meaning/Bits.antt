-- The bits that are told of a difference, in the values that show it.
use Rattle.std.specs.List.{AllPairs, Contains}
use Rattle.std.proofs.Common.{◌≡◌, ◌≢◌, ◌∙◌, ◌⊎◌, ℕ, ◌+◌, ◌-◌, ◌<◌, ◌≤◌, Bool, false, List, length, map, slice_get, Some, sym, ap, subst, arith, inl, inr}
use Rattle.std.specs.Prelude.{option_and_then}
use Rattle.std.proofs.lemmas.Bool.Decides.{nat_tests}
use Rattle.std.proofs.lemmas.List.Kept.{AllPairs-from_increasing}
use Rattle.std.proofs.lemmas.Option.{same_Some, slice_get_within, get_or_from_slice_get}
use Rattle.circuit_theory.specs.Joined.{Either, Left, Right}
use Rattle.circuit_theory.proofs.Lists.{length-map, map_at, of_at}
use Rattle.flat_net.specs.declared.parts.Port.{Port}
use Rattle.flat_net.specs.declared.parts.LatchAt.{LatchAt}
use Rattle.flat_net.specs.declared.parts.Driver.TheVariants as driver
use Rattle.flat_net.specs.Sound.{IsSound}
use Rattle.flat_net.specs.View.{NetView}
use Rattle.flat_net.proofs.Nets.{some_at}
use Rattle.aig.specs.lane_eval.Tables.{assigned_to}
use Rattle.aig.proofs.lane_eval.Numbered.{assigned_to-at}
use Rattle.block_refine.specs.latch_blocks.Blocks.{block_at}
use Rattle.block_refine.specs.latch_blocks.Readings.{AreRead}
use Rattle.block_refine.specs.latch_blocks.Signals.{variable_at, variable_of}
use Rattle.block_refine.specs.declared.latch_blocks.variables.Variables.{Variables}
use Rattle.induct.specs.block_refine.BlockNets.{BlockNets}
use Rattle.induct.specs.block_refine.BlockGraph.{BlockGraph}
use Rattle.induct.specs.block_refine.Graph.{IsBlockGraph}
use Rattle.induct.specs.Inductions.{variable_told}
use Rattle.sec_jobs.specs.job_induct.induct_meaning.Answer.{shared_count, HaveBits}

told_low : (first count v : ℕ) → v < first → variable_told first count v ≡ v
told_low first count v l = grind (arith, nat_tests)

told_high : (first count v : ℕ) → first ≤ v → variable_told first count v ≡ count + (v - first)
told_high first count v l = grind (arith, nat_tests)

-- the variable of a signal that an input or a latch drives
input_variable : (n : NetView) (w : Variables) (sound : IsSound n) (i v : ℕ) (port : Port) → slice_get n.inputs i ≡ Some port → slice_get w.inputs i ≡ Some v → variable_at n w port.signal.0 ≡ Some v
input_variable n w sound i v port at is = ap (option_and_then (variable_of w)) (sound.inputs i port at).owner ∙ is

latch_variable : (n : NetView) (w : Variables) (sound : IsSound n) (j v : ℕ) (latch : LatchAt) → slice_get n.latches j ≡ Some latch → slice_get w.latches j ≡ Some v → variable_at n w latch.out.0 ≡ Some v
latch_variable n w sound j v latch at is = ap (option_and_then (variable_of w)) (sound.latches j latch at).owner ∙ is

-- a variable of the graph is a shared input's number, or that of a block
abbrev pub IsSharedOrBlock : ℕ → ℕ → ℕ → Type 0
IsSharedOrBlock first count u = ((u < count) × (u < first)) ⊎ (first ≤ u)

module _ (n : BlockNets) (g : BlockGraph) (is : IsBlockGraph n g) (left_sound : IsSound n.left.now) (right_sound : IsSound n.right.now) (vars : List ℕ) (bits : List Bool) (increasing : AllPairs (λ u v. u ≢ v) vars)
    (each : length bits ≡ length vars) (own : (u : ℕ) → Contains vars u → IsSharedOrBlock is.first (shared_count n.left.now n.right.now) u) (x : Either ℕ ℕ → Bool)
    (read : AreRead n.left.now n.right.now g.left.variables g.right.variables (assigned_to vars bits) x) where
  abbrev count : ℕ
  count = shared_count n.left.now n.right.now

  abbrev told : List ℕ
  told = map (variable_told is.first count) vars

  -- the bit at a place is that of the graph's variable there
  bit_is : (k u : ℕ) (bit : Bool) → slice_get vars k ≡ Some u → slice_get bits k ≡ Some bit → assigned_to vars bits u ≡ bit
  bit_is k u bit at here = sym (assigned_to-at vars bits increasing each k u at) ∙ get_or_from_slice_get bits k bit false here

  -- told below the number of shared inputs it is an input's
  low_is : (u v : ℕ) → IsSharedOrBlock is.first count u → variable_told is.first count u ≡ v → v < count → u ≡ v
  low_is u v (inl l) e below = sym (told_low is.first count u l.1) ∙ e
  low_is u v (inr h) e below = absurd (let high = told_high is.first count u h in omega (arith, high, e, below))

  -- and else a block's
  high_is : (u v : ℕ) → IsSharedOrBlock is.first count u → variable_told is.first count u ≡ v → count ≤ v → u ≡ is.first + (v - count)
  high_is u v (inl l) e above = absurd (let low = told_low is.first count u l.1 in omega (arith, low, e, above, l.0))
  high_is u v (inr h) e above = let high = told_high is.first count u h in omega (arith, high, e, above, h)

  record AreAt (k v : ℕ) (bit : Bool) : Type 0 where
    pub u : ℕ
    pub is_told : variable_told is.first count u ≡ v
    pub kind : IsSharedOrBlock is.first count u
    pub bit_at : assigned_to vars bits u ≡ bit

  are_at : (k v : ℕ) (bit : Bool) → slice_get told k ≡ Some v → slice_get bits k ≡ Some bit → AreAt k v bit
  are_at k v bit at here =
      let u = map_at (variable_told is.first count) vars k v at in
      record { u = u.0; is_told = u.2; kind = own u.0 (of_at vars k u.0 u.1); bit_at = bit_is k u.0 bit u.1 here }

  -- the variable of a latch is its block's
  left_block : (j : ℕ) (latch : LatchAt) → slice_get n.left.now.latches j ≡ Some latch → slice_get g.left.variables.latches j ≡ Some (is.first + block_at n.blocks.now j)
  left_block j latch at =
      let within = slice_get_within n.left.now.latches j latch at in
      let k = some_at g.left.variables.latches j (omega (arith, within, is.left_on.variables.latches)) in
      k.1 ∙ ap Some (is.variables.left_latches j k.0 k.1)

  right_block : (j : ℕ) (latch : LatchAt) → slice_get n.right.now.latches j ≡ Some latch → slice_get g.right.variables.latches j ≡ Some (is.first + block_at n.blocks.now (length n.left.now.latches + j))
  right_block j latch at =
      let within = slice_get_within n.right.now.latches j latch at in
      let k = some_at g.right.variables.latches j (omega (arith, within, is.right_on.variables.latches)) in
      k.1 ∙ ap Some (is.variables.right_latches j k.0 k.1)

  pub have_bits : HaveBits n.left.now n.right.now n.orders.now n.blocks.now told bits x
  have_bits = record {
    each = each ∙ sym (length-map (variable_told is.first count) vars);
    left_inputs = λ k v i bit port at here low input number.
        (let t = are_at k v bit at here in
        let same : t.u ≡ v = low_is t.u v t.kind t.is_told low in
        read.0.variables port.signal.0 v (input_variable n.left.now g.left.variables left_sound i v port input (ap (λ (l : List ℕ). slice_get l i) is.variables.left_inputs ∙ number)) ∙ (ap (assigned_to vars bits) (sym same) ∙ t.bit_at));
    right_inputs = λ k v i bit port at here low input number.
        (let t = are_at k v bit at here in
        let same : t.u ≡ v = low_is t.u v t.kind t.is_told low in
        read.1.variables port.signal.0 v (input_variable n.right.now g.right.variables right_sound i v port input (ap (λ (l : List ℕ). slice_get l i) is.variables.right_inputs ∙ number)) ∙ (ap (assigned_to vars bits) (sym same) ∙ t.bit_at));
    left_latches = λ k v j bit latch at here high stands block.
        (let t = are_at k v bit at here in
        let same : t.u ≡ is.first + block_at n.blocks.now j = high_is t.u v t.kind t.is_told high ∙ ap (λ m. is.first + m) (sym block) in
        read.0.variables latch.out.0 (is.first + block_at n.blocks.now j) (latch_variable n.left.now g.left.variables left_sound j (is.first + block_at n.blocks.now j) latch stands (left_block j latch stands))
        ∙ (ap (assigned_to vars bits) (sym same) ∙ t.bit_at));
    right_latches = λ k v j bit latch at here high stands block.
        (let t = are_at k v bit at here in
        let from = length n.left.now.latches + j in
        let same : t.u ≡ is.first + block_at n.blocks.now from = high_is t.u v t.kind t.is_told high ∙ ap (λ m. is.first + m) (sym block) in
        read.1.variables latch.out.0 (is.first + block_at n.blocks.now from) (latch_variable n.right.now g.right.variables right_sound j (is.first + block_at n.blocks.now from) latch stands (right_block j latch stands))
        ∙ (ap (assigned_to vars bits) (sym same) ∙ t.bit_at));
  }
