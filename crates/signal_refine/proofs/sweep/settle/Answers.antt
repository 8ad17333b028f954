-- One node more.
use Rattle.std.proofs.Common.{◌≡◌, ◌∙◌, ◌+◌, ◌*◌, ◌<◌, ◌≤◌, ℕ, Bool, length, sym, ap, subst, arith}
use Rattle.std.specs.List.{All}
use Rattle.std.proofs.lemmas.Bool.{leb-true}
use Rattle.std.proofs.lemmas.Option.{slice_get_within}
use Rattle.aig.specs.declared.node.Lit.{Lit}
use Rattle.aig.specs.Values.{value}
use Rattle.aig.proofs.Growth.{Grows-refl, Grows-trans, Grows-length}
use Rattle.aig.proofs.Meaning.{value-grows}
use Rattle.signal_refine.specs.Copies.{HaveAt, node_at}
use Rattle.signal_refine.proofs.Framing.{within_grows, values_grow, push_value, length_push, within_push, nothing_has, nothing_within}
use Rattle.signal_refine.proofs.Settling.{tied_more}
use Rattle.signal_refine.proofs.Caring.{held_grows, held_within}
use Rattle.signal_refine.proofs.sweep.settle.Goals as goal

pub loop-n-init : goal.loop-n-init
loop-n-init c = record {
  grows = Grows-refl c.args.facts.now.aig;
  each = ap length c.new-read.ensures.items;
  within = nothing_within c.args.facts.now.aig _ c.new-read.ensures.items;
  values = λ a k on at. nothing_has (node_at c.args.asked.now.base.now k) c.args.facts.now.aig a _ c.new-read.ensures.items;
  known = c.requires.known;
  few = λ yes. subst (λ k. length c.args.anchors.now ≤ k) c.size.ensures (leb-true (length c.args.anchors.now) c.size.result yes);
  shown = λ yes a k on at p less. absurd (omega (arith, less));
}

pub sweep_node-requires-clause-known : goal.sweep_node-requires-clause-known
sweep_node-requires-clause-known c = c.loop-n.invariant.known

pub sweep_node-requires-clause-held : goal.sweep_node-requires-clause-held
sweep_node-requires-clause-held c = held_within c.args.asked.now.care c.args.asked.now.before.now c.args.facts.now.aig c.loop-n.facts.aig c.loop-n.invariant.grows c.requires.held

pub sweep_node-requires-clause-leaves : goal.sweep_node-requires-clause-leaves
sweep_node-requires-clause-leaves c = within_grows c.args.facts.now.aig c.loop-n.facts.aig c.loop-n.invariant.grows c.args.asked.now.leaves.now c.requires.leaves

pub sweep_node-requires-clause-each : goal.sweep_node-requires-clause-each
sweep_node-requires-clause-each c = c.loop-n.invariant.each

pub sweep_node-requires-clause-within : goal.sweep_node-requires-clause-within
sweep_node-requires-clause-within c = c.loop-n.invariant.within

pub loop-n-preserved : goal.loop-n-preserved
loop-n-preserved c =
    let w = c.args.asked.now in
    let base = w.base.now in
    let g0 = c.args.facts.now.aig in
    let g = c.loop-n.facts.aig in
    let h = c.sweep_node.new.facts.aig in
    let inv = c.loop-n.invariant in
    let swept = c.in_ok-shown.ensures.swept in
    let onward = held_grows w.care w.before.now g0 g inv.grows c.requires.held in
    record {
      grows = Grows-trans g0 g h inv.grows swept.grows;
      each = ap length swept.is ∙ length_push c.loop-n.read.items swept.lit c.loop-n.n inv.each;
      within = subst (All (λ (x : Lit). x.0 < 2 * length h)) (sym swept.is) (within_push g h swept.grows c.loop-n.read.items swept.lit inv.within swept.within);
      values = λ a k on at.
          subst (HaveAt (node_at base k) h a) (sym swept.is)
          (push_value (node_at base k) g h swept.grows a c.loop-n.read.items swept.lit c.loop-n.n inv.each inv.within (inv.values a k on at)
          (swept.value_is a k (onward a on) (values_grow k g0 g inv.grows a w.leaves.now c.requires.leaves at) (inv.values a k on at)));
      known = c.in_ok-shown.ensures.known;
      few = λ yes. inv.few (c.both-same.ensures.one yes);
      shown = λ yes a k on at.
          tied_more c.args.anchors.now (node_at base k) c.loop-n.n (inv.shown (c.both-same.ensures.one yes) a k on at)
          (swept.shown (c.both-same.ensures.other yes) a k (onward a on) (values_grow k g0 g inv.grows a w.leaves.now c.requires.leaves at) (inv.values a k on at));
    }

pub returns-clause-shown : goal.returns-clause-shown
returns-clause-shown c = λ yes a k on at p anchor there.
    let few = c.loop-n.invariant.few yes in
    let inside = slice_get_within c.args.anchors.now p anchor there in
    c.loop-n.invariant.shown yes a k on at p (omega (arith, inside, few, c.loop-n-test.false)) anchor there
