use Rattle.std.proofs.Common.{◌≡◌, ◌∙◌, ◌<◌, length, slice_get, Some, sym, ap, arith}
use Rattle.std.proofs.lemmas.Option.{slice_get-get_or}
use Rattle.aig.proofs.lane_eval.root_classes.Led.{leads-are, led-none, led-more}
use Rattle.aig.proofs.lane_eval.root_classes.narrow.narrow_leads.Goals as goal

pub returns : goal.returns
returns c =
    let each : length c.loop-i.leads.items ≡ length c.in_ok-firsts.firsts.items = omega (arith, c.loop-i.invariant.each, c.loop-i-test.false, c.loop-i.auto.i-end, c.len-i-end.ensures) in
    leads-are c.args.aig.now c.keeps.ensures.graph c.args.vars.now c.requires.vars c.args.roots.now c.requires.roots c.in_ok-firsts.firsts.items c.loop-i.leads.items c.in_ok-firsts.ensures each c.loop-i.invariant.is

pub loop-i-preserved : goal.loop-i-preserved
loop-i-preserved c =
    let firsts = c.in_ok-firsts.firsts.items in
    let inside : c.loop-i.i < length firsts = omega (arith, c.loop-i-test.true, c.len-i-end.ensures, c.in_ok-firsts.firsts.ok.0) in
    let here : slice_get firsts c.loop-i.i ≡ Some c.index.result.now = slice_get-get_or firsts c.loop-i.i c.index.result.now inside ∙ ap Some (sym c.index.ensures) in
    let more =
    led-more firsts c.args.roots.now c.loop-i.leads.items c.push.new.self.items c.loop-i.i c.index.result.now _ c.loop-i.invariant.each c.loop-i.invariant.is here
    (c.in_ok-firsts.ensures.within c.loop-i.i c.index.result.now here) c.in_ok-push.ensures.items in
    record { each = more.0; is = more.1 }

pub bounds-roots-index : goal.bounds-roots-index
bounds-roots-index c =
    let firsts = c.in_ok-firsts.firsts.items in
    let inside : c.loop-i.i < length firsts = omega (arith, c.loop-i-test.true, c.len-i-end.ensures, c.in_ok-firsts.firsts.ok.0) in
    c.in_ok-firsts.ensures.within c.loop-i.i c.index.result.now (slice_get-get_or firsts c.loop-i.i c.index.result.now inside ∙ ap Some (sym c.index.ensures))

pub offset_bounds-roots-index : goal.offset_bounds-roots-index
offset_bounds-roots-index c =
    let firsts = c.in_ok-firsts.firsts.items in
    let inside : c.loop-i.i < length firsts = omega (arith, c.loop-i-test.true, c.len-i-end.ensures, c.in_ok-firsts.firsts.ok.0) in
    let within : c.index.result.now < length c.args.roots.now =
    c.in_ok-firsts.ensures.within c.loop-i.i c.index.result.now (slice_get-get_or firsts c.loop-i.i c.index.result.now inside ∙ ap Some (sym c.index.ensures)) in
    omega (arith, within)

pub loop-i-init : goal.loop-i-init
loop-i-init c = record {
  each = ap length c.new-leads.ensures.items;
  is = led-none c.in_ok-firsts.firsts.items c.args.roots.now c.new-leads.result.items c.new-leads.ensures.items;
}
