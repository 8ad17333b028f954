-- One latch's depth more.
use Rattle.std.proofs.Common.{◌≡◌, ◌∙◌, ℕ, List, [], ◌∷◌, ◌++◌, length, Option, refl, sym, subst, ap, arith, append_assoc, append-nil}
use Rattle.std.specs.List.{AllZip}
use Rattle.std.proofs.lemmas.List.{take_all}
use Rattle.circuit_theory.specs.declared.Mode.TheVariants.{Event}
use Rattle.flat_net.specs.declared.parts.LatchAt.{LatchAt}
use Rattle.flat_net.specs.View.{circuit_of}
use Rattle.class_search.specs.event_order.Turns.{IsEnabledDepth}
use Rattle.class_search.proofs.event_order.LatchDepths.{zip_more}
use Rattle.class_search.proofs.event_order.depths.put_depths.Goals as goal

pub depth_at-requires : goal.depth_at-requires
depth_at-requires c = record {
  marked = c.requires;
  graph = c.in_ok-graph.ensures.in_mode Event c.requires.marks;
  latch = omega (arith, c.loop-j-test.true, ap length c.latches-j-end.ensures);
}

pub loop-j-init : goal.loop-j-init
loop-j-init c = ([], sym (append-nil c.args.depths.now.items), tt)

pub loop-j-preserved : goal.loop-j-preserved
loop-j-preserved c =
    let so = c.loop-j.invariant in
    let more : c.push.new.self.items ≡ c.args.depths.now.items ++ (so.0 ++ c.depth_at.result ∷ []) = c.in_ok-push.ensures.items ∙ (ap (λ (ds : List (Option ℕ)). ds ++ c.depth_at.result ∷ []) so.1 ∙ append_assoc c.args.depths.now.items so.0 (c.depth_at.result ∷ [])) in (
      so.0 ++ c.depth_at.result ∷ [],
      more,
      zip_more (IsEnabledDepth (circuit_of c.args.net.now)) c.args.net.now.latches so.0 (so.0 ++ c.depth_at.result ∷ []) c.loop-j.j c.depth_at.result (omega (arith, c.loop-j-test.true, ap length c.latches-j-end.ensures)) so.2 c.depth_at.ensures refl,
    )

pub returns : goal.returns
returns c =
    let so = c.loop-j.invariant in (
      so.0,
      so.1,
      subst (λ (ls : List LatchAt). AllZip (IsEnabledDepth (circuit_of c.args.net.now)) ls so.0) (take_all c.loop-j.j c.args.net.now.latches (let e = ap length c.latches-j-end.ensures in omega (arith, e, c.loop-j-test.false))) so.2,
    )
