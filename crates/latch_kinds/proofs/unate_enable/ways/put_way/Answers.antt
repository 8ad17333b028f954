-- A gate's way, or none.
use Rattle.std.proofs.Common.{◌∙◌, nat_eq, ap, subst, sym, refl, Some, inl, inr}
use Rattle.std.proofs.lemmas.Option.{slice_get_within}
use Rattle.indexmap.specs.IndexMap.{get}
use Rattle.latch_kinds.specs.declared.unate_enable.ways.Way.{Way}
use Rattle.latch_kinds.specs.unate_enable.Raises.{MayGo, way_in}
use Rattle.flat_net.proofs.Drivers.{driven_gate, no_gate_source}
use Rattle.latch_kinds.proofs.unate_enable.Raised.{gate_goes, no_source, go_equal, go_still, put_others, put_here}
use Rattle.latch_kinds.proofs.unate_enable.ways.put_way.Goals as goal

pub gate_way-way-requires : goal.gate_way-way-requires
gate_way-way-requires c =
    let g = driven_gate c.args.net.now c.keeps.ensures.sound c.args.s.0 c.in-Gate.j (c.driver.ensures ∙ ap Some c.in-Gate.is) in
    slice_get_within _ _ g.0 g.1

pub returns-then-is_still : goal.returns-then-is_still
returns-then-is_still c =
    let n = c.args.net.now in
    let drives = c.driver.ensures ∙ ap Some c.in-Gate.is in
    let g = driven_gate n c.keeps.ensures.sound c.args.s.0 c.in-Gate.j drives in
    let old = way_in (get nat_eq c.args.ways.now) in
    record {
      others = λ q other. refl;
      here = inr (
        no_source n c.keeps.ensures.sound c.args.s.0 c.in-Gate.j drives,
        λ u low high raise reads.
            go_equal (old c.args.s.0) (low c.args.s.0) (high c.args.s.0)
            (go_still (low c.args.s.0) (high c.args.s.0)
            (subst (λ (w : Way). MayGo w (low c.args.s.0) (high c.args.s.0)) (c.is_still.ensures c.if-is_still.true)
            (gate_goes n c.keeps.ensures.sound c.args.s.0 c.in-Gate.j drives g.0 g.1 old c.gate_way-way.result (c.gate_way-way.ensures g.0 g.1) u low high raise reads))),
      );
    }

pub returns-in_ok-put-in-Gate : goal.returns-in_ok-put-in-Gate
returns-in_ok-put-in-Gate c =
    let n = c.args.net.now in
    let drives = c.driver.ensures ∙ ap Some c.in-Gate.is in
    let g = driven_gate n c.keeps.ensures.sound c.args.s.0 c.in-Gate.j drives in
    let old = way_in (get nat_eq c.args.ways.now) in
    record {
      others = put_others (get nat_eq c.args.ways.now) (get nat_eq c.put.new.ways) c.args.s.0 c.gate_way-way.result c.in_ok-put-in-Gate.ensures;
      here = inr (
        no_source n c.keeps.ensures.sound c.args.s.0 c.in-Gate.j drives,
        λ u low high raise reads.
            subst (λ (w : Way). MayGo w (low c.args.s.0) (high c.args.s.0)) (sym (put_here (get nat_eq c.args.ways.now) (get nat_eq c.put.new.ways) c.args.s.0 c.gate_way-way.result c.in_ok-put-in-Gate.ensures))
            (gate_goes n c.keeps.ensures.sound c.args.s.0 c.in-Gate.j drives g.0 g.1 old c.gate_way-way.result (c.gate_way-way.ensures g.0 g.1) u low high raise reads),
      );
    }

pub returns-in_default : goal.returns-in_default
returns-in_default c = record {
  others = λ q other. refl;
  here = inl (no_gate_source c.args.net.now c.keeps.ensures.sound c.args.s.0 c.driver.result c.driver.ensures (λ j e. c.in_default.not-Gate j e), refl);
}
