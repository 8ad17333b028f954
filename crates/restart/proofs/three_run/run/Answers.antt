-- The row that the loop is at is that of its cycle.
use Rattle.std.proofs.Common.{◌≡◌, ◌+◌, ℕ, suc, Some, length, refl, sym, ◌∙◌, ap, subst, arith}
use Rattle.cycle_sim.proofs.Lists.{item_at}
use Rattle.restart.proofs.Ran.{Ran, nothing, ran_none, ran_more, ran_all, known_of}
use Rattle.restart.proofs.three_run.run.Goals as goal

pub loop-row-init : goal.loop-row-init
loop-row-init c = ran_none c.args.net.now c.args.columns.now c.args.rows.now nothing c.keeps.ensures.sound c.args.latches.now c.args.values.now (λ j l at. c.requires.none j) c.requires.nothing

pub loop-row-preserved : goal.loop-row-preserved
loop-row-preserved c =
    let net = c.args.net.now in
    let columns = c.args.columns.now in
    let rows = c.args.rows.now in
    let t = c.loop-row.row-index in
    subst (λ (s : ℕ). Ran net columns rows nothing s c.take_over.new.latches c.compute.new.values) (let e : suc t ≡ t + 1 = omega arith in e)
    (ran_more net columns rows nothing c.keeps.ensures.sound t _ c.loop-row.latches c.compute.new.values c.loop-row.values c.take_over.new.latches (item_at rows rows t c.row-item.result refl c.loop-row-test.true c.row-item.is ∙ ap Some (sym c.as_slice.ensures)) c.loop-row.invariant
    c.compute.ensures.cycle c.take_over.ensures.taken)

pub returns-clause-run : goal.returns-clause-run
returns-clause-run c =
    let net = c.args.net.now in
    let columns = c.args.columns.now in
    let rows = c.args.rows.now in
    let all : c.loop-row.row-index ≡ length rows = omega (arith, c.loop-row-test.false, c.loop-row.auto.row-index-end) in
    ran_all net columns rows nothing c.keeps.ensures.sound c.loop-row.latches c.loop-row.values (subst (λ (s : ℕ). Ran net columns rows nothing s c.loop-row.latches c.loop-row.values) all c.loop-row.invariant) (λ l. refl)

pub returns-clause-known : goal.returns-clause-known
returns-clause-known c = λ names are.
    let net = c.args.net.now in
    let columns = c.args.columns.now in
    let rows = c.args.rows.now in
    let all : c.loop-row.row-index ≡ length rows = omega (arith, c.loop-row-test.false, c.loop-row.auto.row-index-end) in
    known_of net columns rows c.keeps.ensures.sound c.requires.columns names c.loop-row.latches c.loop-row.values are (omega (arith, c.loop-row.auto.latches, c.requires.latches))
    (ran_all net columns rows nothing c.keeps.ensures.sound c.loop-row.latches c.loop-row.values (subst (λ (s : ℕ). Ran net columns rows nothing s c.loop-row.latches c.loop-row.values) all c.loop-row.invariant) (λ l. refl))
