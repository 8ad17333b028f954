-- The marks that were put are those of the next cycle.
use Rattle.std.proofs.Common.{◌≡◌, ◌∙◌, ◌+◌, List, Bool, length, refl, sym, ap, subst, arith}
use Rattle.std.specs.Vec.{with_items}
use Rattle.std.proofs.lemmas.List.{with_items_is}
use Rattle.flat_net.specs.View.{NetView}
use Rattle.cycle_sim.specs.View.{MarkedView, HasMarkedRun}
use Rattle.cycle_sim.specs.Steps.{HasValues, AreMarksAhead, AreMarks, AreConesKept}
use Rattle.cycle_sim.proofs.MarkedRuns.{steps_marked}
use Rattle.cycle_sim.proofs.marked.MarkedSim.step.Goals as goal

pub mark_ahead-requires-clause-enabled : goal.mark_ahead-requires-clause-enabled
mark_ahead-requires-clause-enabled c = ap length c.as_slice.ensures ∙ c.self.invariant.1

pub mark_ahead-requires-clause-marks : goal.mark_ahead-requires-clause-marks
mark_ahead-requires-clause-marks c =
    let m = c.self.inside in
    let marks_len : length c.mark.new.marks ≡ m.marks.len = omega (arith, c.mark.ensures.size, c.deref_mut.ensures.len) in
    ap length (c.deref-3.ensures.value ∙ with_items_is m.marks c.mark.new.marks marks_len) ∙ (marks_len ∙ (m.marks.ok.0 ∙ c.self.invariant.4))

pub mark_ahead-requires-clause-tried : goal.mark_ahead-requires-clause-tried
mark_ahead-requires-clause-tried c = c.deref_mut-2.ensures.len ∙ (c.self.inside.tried.ok.0 ∙ c.self.invariant.3)

pub mark_ahead-requires-clause-latches : goal.mark_ahead-requires-clause-latches
mark_ahead-requires-clause-latches c = c.deref_mut-3.ensures.len ∙ (c.self.inside.marks_ahead.ok.0 ∙ c.self.invariant.5)

pub mark_ahead-requires-clause-cones : goal.mark_ahead-requires-clause-cones
mark_ahead-requires-clause-cones c =
    subst (λ (bits : List Bool). AreConesKept c.self.inside.net.now bits c.deref-2.result.now) (sym c.as_slice.ensures)
    (subst (AreConesKept c.self.inside.net.now c.self.inside.enabled) (sym c.deref-2.ensures.value) c.self.invariant.2)

pub mark_ahead-requires-clause-values : goal.mark_ahead-requires-clause-values
mark_ahead-requires-clause-values c = c.values.ensures.size ∙ ap (λ (n : NetView). length n.drivers) (c.step.ensures.net ∙ c.self.invariant.0)

pub invariant_of-self : goal.invariant_of-self
invariant_of-self c =
    let m = c.self.inside in
    let marks_len : length c.mark.new.marks ≡ m.marks.len = omega (arith, c.mark.ensures.size, c.deref_mut.ensures.len) in
    let tried_len : length c.mark_ahead.new.tried ≡ m.tried.len = omega (arith, c.mark_ahead.ensures.room, c.deref_mut-2.ensures.len) in
    let ahead_len : length c.mark_ahead.new.latches ≡ m.marks_ahead.len = omega (arith, c.mark_ahead.ensures.size, c.deref_mut-3.ensures.len) in
    let marks : (with_items m.marks c.mark.new.marks).items ≡ c.mark.new.marks = with_items_is m.marks c.mark.new.marks marks_len in
    let tried : (with_items m.tried c.mark_ahead.new.tried).items ≡ c.mark_ahead.new.tried = with_items_is m.tried c.mark_ahead.new.tried tried_len in
    let ahead : (with_items m.marks_ahead c.mark_ahead.new.latches).items ≡ c.mark_ahead.new.latches = with_items_is m.marks_ahead c.mark_ahead.new.latches ahead_len in
    let net : c.step.new.self.net ≡ m.net.now = c.step.ensures.net ∙ c.self.invariant.0 in (
      net,
      c.self.invariant.1,
      c.self.invariant.2,
      ap length tried ∙ (tried_len ∙ (m.tried.ok.0 ∙ c.self.invariant.3)),
      ap length marks ∙ (marks_len ∙ (m.marks.ok.0 ∙ c.self.invariant.4)),
      ap length ahead ∙ (ahead_len ∙ (m.marks_ahead.ok.0 ∙ c.self.invariant.5)),
    )

pub returns-clause-run : goal.returns-clause-run
returns-clause-run c =
    let m = c.self.inside in
    let marks_len : length c.mark.new.marks ≡ m.marks.len = omega (arith, c.mark.ensures.size, c.deref_mut.ensures.len) in
    let ahead_len : length c.mark_ahead.new.latches ≡ m.marks_ahead.len = omega (arith, c.mark_ahead.ensures.size, c.deref_mut-3.ensures.len) in
    let marks : (with_items m.marks c.mark.new.marks).items ≡ c.mark.new.marks = with_items_is m.marks c.mark.new.marks marks_len in
    let ahead : (with_items m.marks_ahead c.mark_ahead.new.latches).items ≡ c.mark_ahead.new.latches = with_items_is m.marks_ahead c.mark_ahead.new.latches ahead_len in
    λ power rows have.
    let before : HasMarkedRun (record { sim = m.sim; enabled = m.enabled; marks = m.marks.items; marks_ahead = m.marks_ahead.items }) power rows = subst (λ (k : MarkedView). HasMarkedRun k power rows) (sym c.self.view_is) have in
    steps_marked m.net.now m.enabled c.args.inputs.now m.marks_ahead.items c.step.new.self.values c.mark.new.marks c.mark_ahead.new.latches
    (λ run t old. c.mark.ensures.marks m.enabled run t (subst (AreMarksAhead m.net.now m.enabled run t) (sym c.deref.ensures.value) old))
    (λ run t meets values are.
    subst (λ (bits : List Bool). AreMarksAhead m.net.now bits run (t + 1) c.mark_ahead.new.latches) c.as_slice.ensures
    (c.mark_ahead.ensures.ahead run t meets (subst (HasValues m.net.now (run t)) (sym c.values.ensures.is) values)
    (subst (λ (bits : List Bool). AreMarks m.net.now bits run t c.deref-3.result.now) (sym c.as_slice.ensures) (subst (AreMarks m.net.now m.enabled run t) (sym (c.deref-3.ensures.value ∙ marks)) are))))
    _ _ c.self.invariant.0 refl refl (c.step.ensures.net ∙ c.self.invariant.0) refl refl marks ahead power rows (c.step.ensures.run power rows before.goes) before
