-- The pair that the loop is at is marked.
use Rattle.std.proofs.Common.{◌≡◌, ◌∙◌, ◌+◌, ℕ, suc, Bool, false, List, None, Option, map, take, get_or, slice_set, refl, ap, arith, slice_index_or}
use Rattle.std.specs.Prelude.{◌||◌}
use Rattle.cycle_sim.proofs.Lists.{item_at}
use Rattle.sec_setup.specs.ports.Pairs.{places_of}
use Rattle.job_known.specs.Cycle.{marked}
use Rattle.job_known.specs.Pairs.{both_known}
use Rattle.job_known.proofs.Marks.{marked_more}
use Rattle.job_known.proofs.known_pairs.mark_known.Goals as goal

pub loop-j-preserved : goal.loop-j-preserved
loop-j-preserved c =
    let pairs = c.args.pairs.now in
    let j = c.loop-j.j in
    let done = c.loop-j.seen in
    let p = c.index-pairs-j.result in
    let x : ℕ → Option Bool = λ s. slice_index_or c.args.left.now s None in
    let y : ℕ → Option Bool = λ s. slice_index_or c.args.right.now s None in
    let at = item_at pairs pairs j p refl c.loop-j-test.true c.index-pairs-j.is in
    ap (λ (bit : Bool). slice_set done j bit)
    (c.or_known.ensures
    ∙ (ap (λ (a : Option Bool). get_or done j false || both_known a c.known_of-b.result) c.known_of-a.ensures ∙ ap (λ (b : Option Bool). get_or done j false || both_known (x p.left.0) b) c.known_of-b.ensures))
    ∙ (ap (λ (bits : List Bool). slice_set bits j (get_or bits j false || both_known (x p.left.0) (y p.right.0))) c.loop-j.invariant
    ∙ (marked_more x y pairs c.args.seen.now j p at c.requires.size ∙ ap (λ (k : ℕ). marked x y (map places_of (take k pairs)) c.args.seen.now) (let e : suc j ≡ j + 1 = omega arith in e)))
