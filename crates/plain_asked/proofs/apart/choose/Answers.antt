-- One place more.
use Rattle.std.proofs.Common.{◌≡◌, ◌<◌, ℕ, length, subst, arith}
use Rattle.std.proofs.lemmas.Option.{slice_get-get_or}
use Rattle.plain_asked.specs.Apart.{AreChosen}
use Rattle.plain_asked.proofs.Choosing.{none_chosen, chosen_more}
use Rattle.plain_asked.proofs.apart.choose.Goals as goal

pub loop-i-preserved : goal.loop-i-preserved
loop-i-preserved c =
    let i = c.loop-i.i in
    let lefts = c.args.lefts.now in
    let rights = c.args.rights.now in
    let xs = c.args.xs.now in
    let ys = c.args.ys.now in
    let inside : i < length lefts = omega arith in
    chosen_more lefts rights xs ys i c.loop-i.chosen c.put.new.chosen _ _ _ _ (slice_get-get_or lefts i _ inside) (slice_get-get_or rights i _ (omega (arith, inside, c.requires.rights))) (slice_get-get_or xs i _ (omega (arith, inside, c.requires.xs)))
    (slice_get-get_or ys i _ (omega (arith, inside, c.requires.ys))) c.loop-i.invariant c.in_ok-put.ensures

pub loop-i-init : goal.loop-i-init
loop-i-init c = none_chosen c.args.lefts.now c.args.rights.now c.args.xs.now c.args.ys.now (record { left = c.new.result; right = c.new-2.result; at = c.new-3.result }) c.new.ensures.items c.new-2.ensures.items c.new-3.ensures.items

pub returns : goal.returns
returns c =
    let last : c.loop-i.i ≡ length c.args.lefts.now = omega arith in
    subst (λ (n : ℕ). AreChosen c.args.lefts.now c.args.rights.now c.args.xs.now c.args.ys.now n c.loop-i.chosen) last c.loop-i.invariant
