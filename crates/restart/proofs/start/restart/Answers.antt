-- The latch that the loop is at begins with what is known of it.
use Rattle.std.proofs.Common.{◌≡◌, ◌∙◌, ◌+◌, ◌<◌, ℕ, suc, List, length, take, sym, ap, arith}
use Rattle.std.proofs.lemmas.Option.{slice_get-get_or}
use Rattle.flat_net.specs.declared.parts.LatchAt.{LatchAt}
use Rattle.flat_net.specs.Makes.{with_init}
use Rattle.flat_net.specs.View.{NetView}
use Rattle.restart.specs.Behind.{begun}
use Rattle.restart.proofs.Starting.{begun_none, begun_long, begun_more}
use Rattle.restart.proofs.start.restart.Goals as goal

pub loop-j-init : goal.loop-j-init
loop-j-init c = ap (λ (ls : List LatchAt). let n : NetView = record c.args.net.now { latches = ls } in n) (sym (begun_none c.args.net.now.latches))

pub overflow_cast-j : goal.overflow_cast-j
overflow_cast-j c = omega (arith, c.loop-j-test.true, c.requires, c.keeps.ensures.sound.few_latches, c.keeps.ensures.sound.few)

pub set_init-requires : goal.set_init-requires
set_init-requires c =
    let long : length c.loop-j.net.latches ≡ length c.args.net.now.latches = ap (λ (n : NetView). length n.latches) c.loop-j.invariant ∙ begun_long c.args.net.now.latches (take c.loop-j.j c.args.known.now) in
    omega (arith, long, c.loop-j-test.true, c.requires)

pub loop-j-preserved : goal.loop-j-preserved
loop-j-preserved c =
    let n = c.args.net.now in
    let known = c.args.known.now in
    let j = c.loop-j.j in
    let low : j < length n.latches = omega (arith, c.loop-j-test.true, c.requires) in
    let here = slice_get-get_or known j _ c.loop-j-test.true in
    c.set_init.ensures ∙ (ap (λ (m : NetView). with_init m j c.init_of.result) c.loop-j.invariant
    ∙ (ap (λ i. with_init (begun n (take j known)) j i) c.init_of.ensures
    ∙ (ap (λ (ls : List LatchAt). let m : NetView = record n { latches = ls } in m) (begun_more n.latches known j _ here low)
    ∙ ap (λ (k : ℕ). begun n (take k known)) (let e : suc j ≡ j + 1 = omega arith in e))))
