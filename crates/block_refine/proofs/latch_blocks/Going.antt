-- How a partition begins, is split, and ends.
use Rattle.std.proofs.Common.{◌≡◌, ◌∙◌, ◌+◌, ℕ, Bool, false, List, length, map, sym, subst, arith}
use Rattle.std.proofs.Math.ListN.{length-append}
use Rattle.std.proofs.lemmas.Option.{get_or_from_slice_get}
use Rattle.circuit_theory.specs.Joined.{Either, joined}
use Rattle.circuit_theory.proofs.Lists.{length-map}
use Rattle.circuit_theory.proofs.Numbers.{slice_get-map}
use Rattle.sec_base.specs.declared.basics.Init.{Init}
use Rattle.flat_net.specs.declared.parts.LatchAt.{LatchAt}
use Rattle.flat_net.specs.View.{NetView, circuit_of}
use Rattle.flat_net.specs.Sound.{IsSound}
use Rattle.circuit_laws.specs.reset_laws.induct_laws.Partitions.{IsInitial, IsSplitBy}
use Rattle.circuit_laws.proofs.reset_laws.induct_laws.Partitions.{initial_is_coarser, split_stays_coarser}
use Rattle.block_refine.specs.latch_blocks.Blocks.{bit_at, start_at, HaveOneStart, IsByStarts, IsSplit}
use Rattle.block_refine.specs.latch_blocks.Partitions.{block_of, starts_of, nexts_of}
use Rattle.block_refine.specs.latch_blocks.PartitionLaws.{PartitionBegins, PartitionSplits, PartitionEnds}
use Rattle.block_refine.proofs.latch_blocks.Placing.{stands, place_of, latch_of, place_inside, block_is, next_at, start_is, one_place}
use Rattle.block_refine.proofs.latch_blocks.Starting.{share_to, share_from}

module _ (a b : NetView) (sound_a : IsSound a) (sound_b : IsSound b) where
  starts_long : length (starts_of a b) ≡ length a.latches + length b.latches
  starts_long =
      let both = length-append (map (λ (l : LatchAt). l.init) a.latches) (map (λ (l : LatchAt). l.init) b.latches) in
      let left = length-map (λ (l : LatchAt). l.init) a.latches in
      let right = length-map (λ (l : LatchAt). l.init) b.latches in
      omega (arith, both, left, right)

  is_initial : (blocks : List ℕ) → IsByStarts (starts_of a b) blocks → IsInitial (joined (circuit_of a) (circuit_of b)) (block_of a b blocks)
  is_initial blocks by name name' u next v later h k apart =
      let s = stands a b sound_a sound_b name u next h in
      let t = stands a b sound_a sound_b name' v later k in
      let i = place_of a b sound_a sound_b u next s in
      let j = place_of a b sound_a sound_b v later t in
      let x = (latch_of a b sound_a sound_b u next s).init in
      let y = (latch_of a b sound_a sound_b v later t).init in
      let first = place_inside a b sound_a sound_b u next s in
      let second = place_inside a b sound_a sound_b v later t in
      let one = by.same i j (omega (arith, first, starts_long)) (omega (arith, second, starts_long)) (λ e. apart (one_place a b sound_a sound_b u next v later s t e)) in
      let at_s = start_is a b sound_a sound_b u next s in
      let at_t = start_is a b sound_a sound_b v later t in
      let left = block_is a b sound_a sound_b blocks u next s in
      let right = block_is a b sound_a sound_b blocks v later t in (
        (λ e. share_to a b sound_a sound_b u next v later s t
            (subst (HaveOneStart x) at_t (subst (λ (z : Init). HaveOneStart z (start_at (starts_of a b) j)) at_s (one.0 (sym left ∙ e ∙ right))))),
        (λ share. left
            ∙ one.1 (subst (λ (z : Init). HaveOneStart z (start_at (starts_of a b) j)) (sym at_s) (subst (HaveOneStart x) (sym at_t) (share_from a b sound_a sound_b u next v later s t share)))
            ∙ sym right),
      )

  is_split_by : (blocks fine : List ℕ) (x : Either ℕ ℕ → Bool) → length blocks ≡ length a.latches + length b.latches → IsSplit blocks (map x (nexts_of a b)) fine → IsSplitBy (joined (circuit_of a) (circuit_of b)) (block_of a b blocks) x (block_of a b fine)
  is_split_by blocks fine x each split name name' u next v later h k =
      let s = stands a b sound_a sound_b name u next h in
      let t = stands a b sound_a sound_b name' v later k in
      let i = place_of a b sound_a sound_b u next s in
      let j = place_of a b sound_a sound_b v later t in
      let first = place_inside a b sound_a sound_b u next s in
      let second = place_inside a b sound_a sound_b v later t in
      let one = split.same i j (omega (arith, first, each)) (omega (arith, second, each)) in
      let left = block_is a b sound_a sound_b blocks u next s in
      let right = block_is a b sound_a sound_b blocks v later t in
      let left_fine = block_is a b sound_a sound_b fine u next s in
      let right_fine = block_is a b sound_a sound_b fine v later t in
      let own : bit_at (map x (nexts_of a b)) i ≡ x next = get_or_from_slice_get (map x (nexts_of a b)) i (x next) false (slice_get-map x (nexts_of a b) i next (next_at a b sound_a sound_b u next s)) in
      let other : bit_at (map x (nexts_of a b)) j ≡ x later = get_or_from_slice_get (map x (nexts_of a b)) j (x later) false (slice_get-map x (nexts_of a b) j later (next_at a b sound_a sound_b v later t)) in (
        (λ e. let both = one.0 (sym left_fine ∙ e ∙ right_fine) in (left ∙ both.0 ∙ sym right, sym own ∙ both.1 ∙ other)),
        (λ both. left_fine ∙ one.1 (sym left ∙ both.0 ∙ right, own ∙ both.1 ∙ sym other) ∙ sym right_fine),
      )

pub partition_begins : PartitionBegins
partition_begins a b sound_a sound_b order blocks by =
    let initial = is_initial a b sound_a sound_b blocks by in
    record {
      each = by.each ∙ starts_long a b sound_a sound_b;
      in_order = by.in_order;
      coarser = initial_is_coarser (circuit_of a) (circuit_of b) order (block_of a b blocks) initial;
      starts = λ name name' u next v later h k apart same. (initial name name' u next v later h k apart).0 same;
    }

pub partition_splits : PartitionSplits
partition_splits a b sound_a sound_b order blocks fine x way meets constant split =
    let by = is_split_by a b sound_a sound_b blocks fine x way.each split in
    record {
      each = split.each ∙ way.each;
      in_order = split.in_order;
      coarser = split_stays_coarser (circuit_of a) (circuit_of b) order (block_of a b blocks) (block_of a b fine) x way.coarser meets constant by;
      starts = λ name name' u next v later h k apart same. way.starts name name' u next v later h k apart ((by name name' u next v later h k).0 same).0;
    }

pub partition_ends : PartitionEnds
partition_ends a b sound_a sound_b order blocks way steps = record {
  inductive = record {
    starts = way.starts;
    steps = λ x meets constant name name' u next v later h k same.
        let s = stands a b sound_a sound_b name u next h in
        let t = stands a b sound_a sound_b name' v later k in
        steps x meets constant (place_of a b sound_a sound_b u next s) (place_of a b sound_a sound_b v later t) next later (next_at a b sound_a sound_b u next s) (next_at a b sound_a sound_b v later t)
        (sym (block_is a b sound_a sound_b blocks u next s) ∙ same ∙ block_is a b sound_a sound_b blocks v later t);
  };
  coarsest = way.coarser;
}
