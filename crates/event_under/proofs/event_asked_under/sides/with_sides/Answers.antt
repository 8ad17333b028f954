-- One obligation more.
use Rattle.std.proofs.Common.{◌*◌, ◌<◌, length, arith}
use Rattle.std.proofs.lemmas.List.Elements.{All-weaker}
use Rattle.aig.specs.declared.node.Lit.{Lit}
use Rattle.aig.proofs.Growth.{Grows-refl, Grows-trans, Grows-length}
use Rattle.obligations.specs.declared.obligation.Obligation.{Obligation}
use Rattle.obligations.proofs.Listed.{item-at}
use Rattle.event_under.proofs.event_asked_under.WithSides.{made_none, made_next, made_all}
use Rattle.event_under.proofs.event_asked_under.sides.with_sides.Goals as goal

pub loop-i-init : goal.loop-i-init
loop-i-init c = record {
  made = made_none c.args.lits.now c.args.aig.now c.args.asked.now c.args.under.now c.new-made.result.items c.new-made.ensures.items;
  graph = c.keeps.ensures.graph;
  grows = Grows-refl c.args.aig.now;
}

pub one_with_sides-requires : goal.one_with_sides-requires
one_with_sides-requires c =
    let i = c.loop-i.i in
    let o : Obligation = c.index-asked-i.result in
    let u : Obligation = c.index-under-i.result in
    let inside : i < length c.args.asked.now = omega (arith, c.loop-i-test.true) in
    let also : i < length c.args.under.now = omega (arith, inside, c.requires.aligned.each) in
    let at_o = item-at c.args.asked.now i o inside c.index-asked-i.is in
    let at_u = item-at c.args.under.now i u also c.index-under-i.is in
    let more = Grows-length c.args.aig.now c.loop-i.aig c.loop-i.invariant.grows in
    let care = c.requires.aligned.under_ones i u at_u in
    record {
      asked = c.requires.aligned.asked_ones i o at_o;
      under = record { query = care.query; only = care.only; care = omega (arith, care.care, more) };
      literals = All-weaker (λ (l : Lit). l.0 < 2 * length c.args.aig.now) (λ (l : Lit). l.0 < 2 * length c.loop-i.aig) (λ l h. omega (arith, h, more)) c.args.lits.now c.requires.literals;
    }

pub loop-i-preserved : goal.loop-i-preserved
loop-i-preserved c =
    let i = c.loop-i.i in
    let o : Obligation = c.index-asked-i.result in
    let u : Obligation = c.index-under-i.result in
    let inside : i < length c.args.asked.now = omega (arith, c.loop-i-test.true) in
    let also : i < length c.args.under.now = omega (arith, inside, c.requires.aligned.each) in
    let at_o = item-at c.args.asked.now i o inside c.index-asked-i.is in
    let at_u = item-at c.args.under.now i u also c.index-under-i.is in
    record {
      made = made_next c.args.lits.now c.loop-i.aig c.one_with_sides.new.aig c.in_ok-obligation.ensures.grows c.args.asked.now c.args.under.now c.loop-i.made.items c.push.new.self.items i o u c.in_ok-obligation.obligation at_o at_u c.in_ok-push.ensures.items
          c.in_ok-obligation.ensures.made c.loop-i.invariant.made;
      graph = c.keeps-in-loop-i.ensures.graph;
      grows = Grows-trans c.args.aig.now c.loop-i.aig c.one_with_sides.new.aig c.loop-i.invariant.grows c.in_ok-obligation.ensures.grows;
    }

pub returns-clause-made : goal.returns-clause-made
returns-clause-made c = made_all c.args.lits.now c.loop-i.aig c.args.asked.now c.args.under.now c.loop-i.made.items c.loop-i.i (omega (arith, c.loop-i-test.false, c.loop-i.auto.i-end)) c.loop-i.invariant.made
