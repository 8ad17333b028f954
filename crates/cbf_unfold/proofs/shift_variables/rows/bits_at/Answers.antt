-- Each number's bit is written at its place, which no earlier number has.
use Rattle.std.proofs.Common.{◌≡◌, ◌<◌, ◌∙◌, ℕ, Bool, false, List, length, take, get_or, replicate, ap, arith}
use Rattle.std.proofs.lemmas.List.{take_all, length-replicate, get_or-replicate}
use Rattle.std.proofs.lemmas.Option.{slice_get-get_or}
use Rattle.std.proofs.Math.ListN.{length-set}
use Rattle.pair_decide.specs.Queries.{assigned_to}
use Rattle.cbf_unfold.proofs.shift_variables.Assignments.{written, nothing_set}
use Rattle.cbf_unfold.proofs.shift_variables.rows.bits_at.Goals as goal

pub loop-k-init : goal.loop-k-init
loop-k-init c =
    let zeros : c.in_ok-made.made.items ≡ replicate c.args.size false = c.in_ok-made.ensures.items_if_clones_equal (λ y e. e) in
    record {
      long = ap length zeros ∙ length-replicate c.args.size false;
      written = λ n. nothing_set c.args.size n c.in_ok-made.made.items (λ i h. ap (λ (bs : List Bool). get_or bs i false) zeros ∙ get_or-replicate c.args.size i false false h) (ap length zeros ∙ length-replicate c.args.size false);
    }

pub index_mut-requires : goal.index_mut-requires
index_mut-requires c = omega (arith, c.requires.within c.loop-k.k 0 c.loop-k-test.true, c.loop-k.invariant.long, c.loop-k.made.ok.0)

pub loop-k-preserved : goal.loop-k-preserved
loop-k-preserved c =
    let numbers = c.args.numbers.now in
    let bits = c.args.bits.now in
    let k = c.loop-k.k in
    let u = get_or numbers k 0 in
    let within : u < length c.loop-k.made.items = omega (arith, c.requires.within k 0 c.loop-k-test.true, c.loop-k.invariant.long) in
    let also : k < length bits = omega (arith, c.loop-k-test.true, c.requires.each) in
    record {
      long = length-set c.loop-k.made.items u (get_or bits k false) ∙ c.loop-k.invariant.long;
      written = written numbers bits c.loop-k.made.items k u (get_or bits k false) c.requires.distinct c.requires.each (slice_get-get_or numbers k 0 c.loop-k-test.true) (slice_get-get_or bits k false also) within c.loop-k.invariant.written;
    }

pub returns-clause-bits : goal.returns-clause-bits
returns-clause-bits c = λ n.
    c.loop-k.invariant.written n
    ∙ (ap (λ (ns : List ℕ). assigned_to ns (take c.loop-k.k c.args.bits.now) n) (take_all c.loop-k.k c.args.numbers.now c.loop-k-test.false)
    ∙ ap (λ (bs : List Bool). assigned_to c.args.numbers.now bs n) (take_all c.loop-k.k c.args.bits.now (omega (arith, c.loop-k-test.false, c.requires.each))))
