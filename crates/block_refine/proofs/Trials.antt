-- What a trial says.
use Rattle.std.proofs.Common.{◌≡◌, ◌≢◌, ◌∙◌, ◌+◌, ◌<◌, ℕ, Bool, true, false, List, [], ◌∷◌, ◌++◌, length, map, sym, ap, subst, arith, inl, inr}
use Rattle.std.specs.Prelude.{Result, IfOk}
use Rattle.std.specs.List.{All, Contains}
use Rattle.std.specs.List.Sorted.{IsStrictlyIncreasing}
use Rattle.std.proofs.lemmas.Result.{IfOk-weaker}
use Rattle.std.proofs.lemmas.List.Elements.{All-contains, Contains-append_cases}
use Rattle.std.proofs.lemmas.Option.{get_or_from_slice_get}
use Rattle.circuit_theory.specs.Joined.{Either}
use Rattle.circuit_theory.proofs.Lists.{All-from_each, length-map, only}
use Rattle.circuit_theory.proofs.Numbers.{slice_get-map}
use Rattle.flat_net.specs.Sound.{IsSound}
use Rattle.block_refine.specs.latch_blocks.Blocks.{block_at, bit_at, IsSplit}
use Rattle.block_refine.specs.latch_blocks.Partitions.{nexts_of}
use Rattle.block_refine.specs.latch_blocks.Signals.{AreMerged}
use Rattle.block_refine.specs.declared.block_graph.nets.BlockNets.{BlockNets}
use Rattle.block_refine.specs.declared.block_graph.graph.BlockGraph.{BlockGraph}
use Rattle.block_refine.specs.block_graph.Graph.{IsBlockGraph}
use Rattle.block_refine.specs.block_graph.Comparing.{AreReadBy}
use Rattle.block_refine.proofs.block_graph.OnGraph.{read_by}
use Rattle.block_refine.specs.declared.pass.Pass.{Pass}
use Rattle.block_refine.specs.Asking.{IsNext, TellApart}
use Rattle.block_refine.specs.Passes.{AreMembers, IsPass, IsApartAt, first_of}
use Rattle.block_refine.proofs.Passing.{nexts_long, pass_apart}

-- one number more below the limit
pub all_more : (limit : ℕ) (made new : List ℕ) (v : ℕ) → v < limit → new ≡ made ++ v ∷ [] → All (λ k. k < limit) made → All (λ k. k < limit) new
all_more limit made new v low is all = subst (All (λ k. k < limit)) (sym is) (All-from_each (λ (k : ℕ). k < limit) (made ++ v ∷ []) (λ k h.
    elim (Contains-append_cases made (v ∷ []) k h) [
      | inl l ↦ All-contains (λ (i : ℕ). i < limit) made k all l
      | inr r ↦ (let one = only v k r in omega (arith, one, low))
    ]))

pub all_merged : (limit : ℕ) (left none all : List ℕ) → none ≡ [] → All (λ k. k < limit) left → AreMerged left none all → All (λ k. k < limit) all
all_merged limit left none all empty low merged = All-from_each (λ (k : ℕ). k < limit) all (λ k h.
    elim ((merged.each k).0 h) [
      | inl l ↦ All-contains (λ (i : ℕ). i < limit) left k low l
      | inr r ↦ absurd (let gone = subst (λ (xs : List ℕ). Contains xs k) empty r in omega (arith, gone.1))
    ])

module _ (n : BlockNets) (g : BlockGraph) (is : IsBlockGraph n g) (sound_a : IsSound n.left.now) (sound_b : IsSound n.right.now) (v : ℕ → Bool) (made : List Bool) (all : (x : Either ℕ ℕ → Bool) → AreReadBy n g v x → made ≡ map x (nexts_of n.left.now n.right.now)) where
  -- a bit for each latch
  pub trial_long : (count : ℕ) (s : Pass) → IsPass n count s → length made ≡ length s.blocks
  trial_long count s pass =
      let read = read_by n g is sound_a sound_b v in
      ap length (all read.0 read.1) ∙ length-map read.0 (nexts_of n.left.now n.right.now) ∙ nexts_long n.left.now n.right.now ∙ sym pass.way.each

  bit_is : (x : Either ℕ ℕ → Bool) → AreReadBy n g v x → (i : ℕ) (p : Either ℕ ℕ) → IsNext n i p → bit_at made i ≡ x p
  bit_is x read i p at = ap (λ (bs : List Bool). bit_at bs i) (all x read) ∙ get_or_from_slice_get (map x (nexts_of n.left.now n.right.now)) i (x p) false (slice_get-map x (nexts_of n.left.now n.right.now) i p at)

  tell_apart : (i j : ℕ) → bit_at made i ≢ bit_at made j → TellApart n i j made
  tell_apart i j differ =
      let read = read_by n g is sound_a sound_b v in
      record {
        x = read.0;
        constant = read.1.constant;
        bits_are = all read.0 read.1;
        apart = λ p q p_is q_is same. differ (bit_is read.0 read.1 i p p_is ∙ same ∙ sym (bit_is read.0 read.1 j q q_is));
      }

  -- the blocks are split where the bits tell a latch apart from the one that stands for its block
  pub trial_splits : (s t : Pass) → IsPass n 0 s → (firsts blocks : List ℕ) (bits : List Bool) (j : ℕ) → firsts ≡ s.firsts.items → blocks ≡ s.blocks → IsApartAt firsts blocks bits j → bits ≡ made → IsSplit s.blocks made t.blocks → AreMembers t.blocks t.firsts.items → t.split ≡ true → IsPass n 0 t
  trial_splits s t pass firsts blocks bits j firsts_are blocks_are apart bits_are split members marked =
      let inside : j < length s.blocks = subst (λ (bs : List ℕ). j < length bs) blocks_are apart.0 in
      let one : block_at firsts (block_at blocks j) ≡ first_of s j = ap (λ (fs : List ℕ). block_at fs (block_at blocks j)) firsts_are ∙ ap (λ (bs : List ℕ). block_at s.firsts.items (block_at bs j)) blocks_are in
      let differ : bit_at made (first_of s j) ≢ bit_at made j = λ e. apart.1 (ap (λ (bs : List Bool). bit_at bs (block_at firsts (block_at blocks j))) bits_are ∙ ap (bit_at made) one ∙ e ∙ sym (ap (λ (bs : List Bool). bit_at bs j) bits_are)) in
      pass_apart n sound_a sound_b 0 j s pass 0 t made (tell_apart (first_of s j) j differ) split members marked inside

-- what a list merged with none keeps
pub merged_rises : {E : Type 0} (r : Result (List ℕ) E) (left none : List ℕ) → IfOk r (AreMerged left none) → IfOk r IsStrictlyIncreasing
merged_rises r left none given = IfOk-weaker r (AreMerged left none) IsStrictlyIncreasing (λ all merged. merged.increasing) given

pub merged_below : {E : Type 0} (r : Result (List ℕ) E) (left none : List ℕ) (limit : ℕ) → IfOk r (AreMerged left none) → none ≡ [] → All (λ k. k < limit) left → IfOk r (All (λ k. k < limit))
merged_below r left none limit given empty low = IfOk-weaker r (AreMerged left none) (All (λ k. k < limit)) (λ all merged. all_merged limit left none all empty low merged) given
