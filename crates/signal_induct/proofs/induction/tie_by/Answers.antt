-- Both nets are ready, and what is tied is told.
use Rattle.std.proofs.Common.{◌≡◌, ◌∙◌, ℕ, length, map, List, None, refl, sym, ap, subst, arith}
use Rattle.block_refine.proofs.block_graph.Numbered.{light_few}
use Rattle.sec_setup.specs.declared.ports.pairs.SignalPair.{SignalPair}
use Rattle.signal_induct.specs.declared.outputs.TiedPair.{TiedPair}
use Rattle.induct.proofs.OwnNumbers.{orders_long}
use Rattle.signal_induct.specs.declared.induction.SignalInduction.{SignalInduction}
use Rattle.signal_refine.specs.declared.nets.SignalNets.{SignalNets}
use Rattle.signal_refine.specs.Assuming.{IsMet}
use Rattle.signal_induct.specs.Tied.{tied_pair, IsInductionWhere}
use Rattle.signal_induct.proofs.Agreeing.{all_agree}
use Rattle.signal_induct.proofs.Held.{ties_held}
use Rattle.signal_induct.proofs.induction.tie_by.Goals as goal

pub correspond-requires-clause-ready : goal.correspond-requires-clause-ready
correspond-requires-clause-ready c =
    let a = c.args.a.now in
    let b = c.args.b.now in
    let long = orders_long a b c.args.orders.now c.requires.orders in
    let left = light_few a c.keeps.ensures.sound in
    let right = light_few b c.keeps-2.ensures.sound in
    record {
      left_long = long.0;
      right_long = long.1;
      left_small = c.requires.left_small;
      right_small = c.requires.right_small;
      few = omega (arith, left, right, c.requires.light.0, c.requires.light.1);
    }

pub returns-clause-made : goal.returns-clause-made
returns-clause-made c =
    let nets : SignalNets = record { left = c.args.a; right = c.args.b; orders = c.args.orders } in
    record {
      nets = nets;
      left_is = refl;
      right_is = refl;
      are_own = c.requires.orders;
      inductive = c.in_ok-ties.ensures;
      hold = ties_held (IsMet c.args.assumed.now nets) nets c.in_ok-ties.ties.anchors.items c.in_ok-ties.ensures c.requires.orders;
      outputs = c.in_ok-outputs.outputs;
      are_outputs = c.in_ok-outputs.ensures;
      pairs_are = c.in_ok-pairs.ensures ∙ (ap (λ ks. map (tied_pair c.size.result ks) c.in_ok-outputs.outputs) c.deref.ensures.value ∙ ap (λ n. map (tied_pair n c.in_ok-ties.ties.anchors.items) c.in_ok-outputs.outputs) c.size.ensures);
    }

pub returns-clause-agree : goal.returns-clause-agree
returns-clause-agree c none =
    let nets : SignalNets = record { left = c.args.a; right = c.args.b; orders = c.args.orders } in
    let made : SignalInduction = record { ties = c.in_ok-ties.ties; pairs = c.in_ok-pairs.pairs } in
    let is : IsInductionWhere (IsMet c.args.assumed.now nets) c.args.a.now c.args.b.now made = record {
      nets = nets;
      left_is = refl;
      right_is = refl;
      are_own = c.requires.orders;
      inductive = c.in_ok-ties.ensures;
      hold = ties_held (IsMet c.args.assumed.now nets) nets c.in_ok-ties.ties.anchors.items c.in_ok-ties.ensures c.requires.orders;
      outputs = c.in_ok-outputs.outputs;
      are_outputs = c.in_ok-outputs.ensures;
      pairs_are = c.in_ok-pairs.ensures ∙ (ap (λ ks. map (tied_pair c.size.result ks) c.in_ok-outputs.outputs) c.deref.ensures.value ∙ ap (λ n. map (tied_pair n c.in_ok-ties.ties.anchors.items) c.in_ok-outputs.outputs) c.size.ensures);
    } in
    all_agree (IsMet c.args.assumed.now nets) c.args.a.now c.args.b.now made is c.keeps.ensures.sound c.requires.right none
