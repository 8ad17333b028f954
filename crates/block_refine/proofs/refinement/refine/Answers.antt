-- Round after round.
use Rattle.std.proofs.Common.{◌++◌, List, ℕ, sym, subst, arith}
use Rattle.block_refine.proofs.latch_blocks.Going.{partition_begins}
use Rattle.block_refine.specs.latch_blocks.Partitions.{IsOnTheWay}
use Rattle.block_refine.specs.declared.block_graph.nets.BlockNets.{BlockNets}
use Rattle.block_refine.specs.declared.pass.Round.TheVariants as round
use Rattle.block_refine.specs.Passes.{IsRound}
use Rattle.block_refine.proofs.Passing.{starts_few, turned}
use Rattle.block_refine.proofs.refinement.refine.Goals as goal

pub by_starts-requires : goal.by_starts-requires
by_starts-requires c = let few = starts_few c.args.left.now c.args.right.now c.keeps.ensures.sound c.keeps-2.ensures.sound c.requires.light.0 c.requires.light.1 in omega (arith, few)

pub rounds-init : goal.rounds-init
rounds-init c = partition_begins c.args.left.now c.args.right.now c.keeps.ensures.sound c.keeps-2.ensures.sound (c.args.orders.now.left ++ c.args.orders.now.right) c.in_ok-blocks.blocks c.in_ok-blocks.ensures

pub pass_over-requires-clause-nets : goal.pass_over-requires-clause-nets
pass_over-requires-clause-nets c =
    let way = subst (λ (bs : List ℕ). IsOnTheWay c.args.left.now c.args.right.now (c.args.orders.now.left ++ c.args.orders.now.right) bs) (sym c.as_slice.ensures) c.rounds.invariant in
    record {
      ready = record {
        left_light = c.requires.light.0;
        right_light = c.requires.light.1;
        left_long = c.requires.long.0;
        right_long = c.requires.long.1;
        left_small = c.requires.small.0;
        right_small = c.requires.small.1;
        each = way.each;
        in_order = way.in_order;
      };
      way = way;
    }

pub rounds-preserved : goal.rounds-preserved
rounds-preserved c =
    let n : BlockNets = record { left = c.args.left; right = c.args.right; orders = c.args.orders; blocks = c.as_slice.result } in
    let way = subst (λ (bs : List ℕ). IsOnTheWay c.args.left.now c.args.right.now (c.args.orders.now.left ++ c.args.orders.now.right) bs) (sym c.as_slice.ensures) c.rounds.invariant in
    (turned n c.keeps.ensures.sound c.keeps-2.ensures.sound c.args.conflicts c.rounds.blocks c.as_slice.ensures way (round.Split c.in-Split.fine) (subst (IsRound n c.args.conflicts) c.in-Split.is c.in_ok-pass_over.ensures)).0

pub rounds-smaller : goal.rounds-smaller
rounds-smaller c =
    let n : BlockNets = record { left = c.args.left; right = c.args.right; orders = c.args.orders; blocks = c.as_slice.result } in
    let way = subst (λ (bs : List ℕ). IsOnTheWay c.args.left.now c.args.right.now (c.args.orders.now.left ++ c.args.orders.now.right) bs) (sym c.as_slice.ensures) c.rounds.invariant in
    (turned n c.keeps.ensures.sound c.keeps-2.ensures.sound c.args.conflicts c.rounds.blocks c.as_slice.ensures way (round.Split c.in-Split.fine) (subst (IsRound n c.args.conflicts) c.in-Split.is c.in_ok-pass_over.ensures)).1

pub returns-in-Same : goal.returns-in-Same
returns-in-Same c =
    let n : BlockNets = record { left = c.args.left; right = c.args.right; orders = c.args.orders; blocks = c.as_slice.result } in
    let way = subst (λ (bs : List ℕ). IsOnTheWay c.args.left.now c.args.right.now (c.args.orders.now.left ++ c.args.orders.now.right) bs) (sym c.as_slice.ensures) c.rounds.invariant in
    turned n c.keeps.ensures.sound c.keeps-2.ensures.sound c.args.conflicts c.rounds.blocks c.as_slice.ensures way round.Same (subst (IsRound n c.args.conflicts) c.in-Same.is c.in_ok-pass_over.ensures)

pub returns-in-Limit : goal.returns-in-Limit
returns-in-Limit c =
    let n : BlockNets = record { left = c.args.left; right = c.args.right; orders = c.args.orders; blocks = c.as_slice.result } in
    let way = subst (λ (bs : List ℕ). IsOnTheWay c.args.left.now c.args.right.now (c.args.orders.now.left ++ c.args.orders.now.right) bs) (sym c.as_slice.ensures) c.rounds.invariant in
    turned n c.keeps.ensures.sound c.keeps-2.ensures.sound c.args.conflicts c.rounds.blocks c.as_slice.ensures way (round.Limit c.in-Limit.left c.in-Limit.right c.in-Limit.proof) (subst (IsRound n c.args.conflicts) c.in-Limit.is c.in_ok-pass_over.ensures)
