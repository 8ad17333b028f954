use Rattle.std.proofs.Common.{◌≡◌, ◌∙◌, ◌∷◌, ◌++◌, [], Bool, List, length, map, take, ap, subst, sym}
use Rattle.std.proofs.lemmas.List.{length-map}
use Rattle.signal_graph.specs.inner_cone.latch_cone.Cones.{MarksEnabled}
use Rattle.signal_graph.specs.inner_cone.latch_cone.Kinds.{is_enabled}
use Rattle.signal_graph.proofs.inner_cone.latch_cone.EnabledKinds.{kinds_marked, whole, one_more}
use Rattle.signal_graph.proofs.inner_cone.latch_cone.kinds.enabled_among.Goals as goal

pub loop-kind-preserved : goal.loop-kind-preserved
loop-kind-preserved c =
    let kinds = c.args.kinds.now in
    let i = c.loop-kind.kind-index in
    c.in_ok-push.ensures.items
    ∙ (ap (λ (bits : List Bool). bits ++ c.is_enabled.result ∷ []) c.loop-kind.invariant
    ∙ (ap (λ (bit : Bool). map is_enabled (take i kinds) ++ bit ∷ []) c.is_enabled.ensures ∙ sym (one_more is_enabled kinds i _ c.loop-kind-test.true)))

pub returns-clause-each : goal.returns-clause-each
returns-clause-each c =
    let kinds = c.args.kinds.now in
    let bits : c.from_vec.result ≡ map is_enabled kinds = c.from_vec.ensures ∙ (c.loop-kind.invariant ∙ whole is_enabled kinds c.loop-kind.kind-index c.loop-kind-test.false) in
    ap length bits ∙ length-map kinds is_enabled

pub returns-clause-bits : goal.returns-clause-bits
returns-clause-bits c = c.from_vec.ensures ∙ (c.loop-kind.invariant ∙ whole is_enabled c.args.kinds.now c.loop-kind.kind-index c.loop-kind-test.false)

pub returns-clause-marks : goal.returns-clause-marks
returns-clause-marks c = λ mode n are.
    let bits : c.from_vec.result ≡ map is_enabled c.args.kinds.now = c.from_vec.ensures ∙ (c.loop-kind.invariant ∙ whole is_enabled c.args.kinds.now c.loop-kind.kind-index c.loop-kind-test.false) in
    subst (MarksEnabled mode n) (sym bits) (kinds_marked mode n c.args.kinds.now are)
