-- One equality more.
use Rattle.std.proofs.Common.{◌≡◌, ◌∙◌, ◌*◌, ◌<◌, ◌≤◌, ℕ, Bool, true, List, length, min, get_or, slice_get, Some, ap, subst, sym, arith}
use Rattle.std.specs.List.{All}
use Rattle.std.proofs.lemmas.List.Elements.{All-get_or}
use Rattle.aig.specs.declared.node.Lit.{Lit}
use Rattle.aig.proofs.CoverMeaning.{value-one}
use Rattle.aig.proofs.Growth.{Grows-refl, Grows-trans, Grows-length}
use Rattle.aig.proofs.Insert.{graph-some}
use Rattle.signal_refine.proofs.Caring.{care_more}
use Rattle.signal_refine.proofs.Framing.{within_grows}
use Rattle.signal_refine.proofs.ask.care_of.Goals as goal

pub loop-i-init : goal.loop-i-init
loop-i-init c = record {
  care = λ a one. value-one c.args.aig.now c.keeps.ensures.graph a;
  within = let some = graph-some c.args.aig.now c.keeps.ensures.graph in omega (arith, some);
  grows = Grows-refl c.args.aig.now;
}

pub narrowed-requires-clause-care : goal.narrowed-requires-clause-care
narrowed-requires-clause-care c = c.loop-i.invariant.within

pub narrowed-requires-clause-left : goal.narrowed-requires-clause-left
narrowed-requires-clause-left c =
    All-get_or (λ (x : Lit). x.0 < 2 * length c.loop-i.aig) c.args.own.now c.loop-i.i (record { 0 = 0 }) (omega (arith, c.loop-i-test.true, c.min-i-end.ensures))
    (within_grows c.args.aig.now c.loop-i.aig c.loop-i.invariant.grows c.args.own.now c.requires.own)

pub narrowed-requires-clause-right : goal.narrowed-requires-clause-right
narrowed-requires-clause-right c =
    All-get_or (λ (x : Lit). x.0 < 2 * length c.loop-i.aig) c.args.read.now c.loop-i.i (record { 0 = 0 }) (omega (arith, c.loop-i-test.true, c.min-i-end.ensures))
    (within_grows c.args.aig.now c.loop-i.aig c.loop-i.invariant.grows c.args.read.now c.requires.read)

pub loop-i-preserved : goal.loop-i-preserved
loop-i-preserved c = record {
  care = care_more c.args.own.now c.args.read.now c.args.aig.now c.loop-i.aig c.narrowed.new.aig c.loop-i.care c.in_ok-care.care c.loop-i.i c.loop-i.invariant.grows c.in_ok-care.ensures.grows c.requires.own c.requires.read
      (omega (arith, c.loop-i-test.true, c.min-i-end.ensures)) (omega (arith, c.loop-i-test.true, c.min-i-end.ensures)) c.loop-i.invariant.care c.in_ok-care.ensures.value;
  within = c.in_ok-care.ensures.within;
  grows = Grows-trans c.args.aig.now c.loop-i.aig c.narrowed.new.aig c.loop-i.invariant.grows c.in_ok-care.ensures.grows;
}
