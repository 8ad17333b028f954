use Rattle.std.proofs.Common.{◌≡◌, ◌∙◌, ◌+◌, ℕ, length, sym, subst, arith}
use Rattle.aig.specs.lane_eval.root_classes.Splits.{AgreeSoFar}
use Rattle.aig.specs.lane_eval.root_classes.Rows.{row_of}
use Rattle.aig.proofs.lane_eval.root_classes.Classes.{agree-start, last-row}
use Rattle.aig.proofs.lane_eval.root_classes.narrow.classes.Goals as goal

pub loop-number-preserved : goal.loop-number-preserved
loop-number-preserved c =
    let same : length c.row_bits.new.bits ≡ length c.args.roots.now = omega (arith, c.row_bits.auto.bits, c.loop-number.auto.bits, c.requires.each) in
    subst (λ (n : ℕ). AgreeSoFar (row_of c.args.aig.now c.args.vars.now c.args.roots.now) n (c.loop-number.number + 1) c.refine.new.firsts.items) same
    (c.in_ok-refine.ensures (row_of c.args.aig.now c.args.vars.now c.args.roots.now) c.loop-number.number
    (subst (λ (n : ℕ). AgreeSoFar (row_of c.args.aig.now c.args.vars.now c.args.roots.now) n c.loop-number.number c.loop-number.firsts.items) (sym same) c.loop-number.invariant)
    c.row_bits.ensures)

pub loop-number-init : goal.loop-number-init
loop-number-init c = agree-start (row_of c.args.aig.now c.args.vars.now c.args.roots.now) (length c.args.roots.now) c.in_ok-firsts.firsts.items (c.in_ok-firsts.ensures.items_if_clones_equal (λ y e. e))

pub refine-requires-clause-within : goal.refine-requires-clause-within
refine-requires-clause-within c = λ i p at.
    omega (arith, c.loop-number.invariant.within i p at, c.row_bits.auto.bits, c.loop-number.auto.bits, c.requires.each)

pub returns : goal.returns
returns c =
    subst (λ (n : ℕ). AgreeSoFar (row_of c.args.aig.now c.args.vars.now c.args.roots.now) (length c.args.roots.now) n c.loop-number.firsts.items)
    (last-row c.loop-number.number (length c.args.vars.now) c.requires.few c.loop-number-test.false c.loop-number.auto.number-end) c.loop-number.invariant

pub row_bits-requires-clause-roots : goal.row_bits-requires-clause-roots
row_bits-requires-clause-roots c = c.requires.roots

pub refine-requires-clause-each : goal.refine-requires-clause-each
refine-requires-clause-each c = omega (arith, c.loop-number.invariant.each, c.row_bits.auto.bits, c.loop-number.auto.bits, c.requires.each)

pub row_bits-requires-clause-covers : goal.row_bits-requires-clause-covers
row_bits-requires-clause-covers c = c.loop-number.auto.assignment ∙ c.requires.covers

pub row_bits-requires-clause-each : goal.row_bits-requires-clause-each
row_bits-requires-clause-each c = c.loop-number.auto.bits ∙ c.requires.each

pub row_bits-requires-clause-places : goal.row_bits-requires-clause-places
row_bits-requires-clause-places c = c.loop-number.auto.scratch ∙ c.requires.places

pub row_bits-requires-clause-vars : goal.row_bits-requires-clause-vars
row_bits-requires-clause-vars c = c.requires.vars
