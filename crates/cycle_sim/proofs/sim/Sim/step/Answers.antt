-- What was computed and taken over is what the next cycle of each run has.
use Rattle.std.proofs.Common.{◌≡◌, ◌+◌, ◌∙◌, List, Bool, false, map, length, get_or, refl, sym, ap, arith}
use Rattle.std.specs.Vec.{with_items}
use Rattle.std.proofs.lemmas.List.{with_items_is}
use Rattle.flat_net.specs.declared.parts.LatchAt.{LatchAt}
use Rattle.cycle_sim.specs.View.{SimView}
use Rattle.cycle_sim.proofs.Runs.{steps}
use Rattle.cycle_sim.proofs.sim.Sim.step.Goals as goal

pub invariant_of-self : goal.invariant_of-self
invariant_of-self c =
    let s = c.self.inside in
    let values_len : length c.compute.new.values ≡ s.values.len = omega (arith, c.compute.ensures.size, c.deref_mut.ensures.len) in
    let ahead_len : length c.take_over.new.latches ≡ s.ahead.len = omega (arith, c.take_over.auto.latches, c.deref_mut-2.ensures.len) in (
      omega (arith, ap length (with_items_is s.values c.compute.new.values values_len), c.compute.ensures.size, ap length c.deref_mut.ensures.value, c.self.invariant.0),
      omega (arith, ap length (with_items_is s.ahead c.take_over.new.latches ahead_len), c.take_over.auto.latches, ap length c.deref_mut-2.ensures.value, c.self.invariant.1),
    )

pub returns-clause-run : goal.returns-clause-run
returns-clause-run c =
    let s = c.self.inside in
    let values_len : length c.compute.new.values ≡ s.values.len = omega (arith, c.compute.ensures.size, c.deref_mut.ensures.len) in
    let ahead_len : length c.take_over.new.latches ≡ s.ahead.len = omega (arith, c.take_over.auto.latches, c.deref_mut-2.ensures.len) in
    let values : (with_items s.values c.compute.new.values).items ≡ c.compute.new.values = with_items_is s.values c.compute.new.values values_len in
    let ahead : (with_items s.ahead c.take_over.new.latches).items ≡ c.take_over.new.latches = with_items_is s.ahead c.take_over.new.latches ahead_len in
    let taken : c.take_over.new.latches ≡ map (λ (l : LatchAt). get_or c.compute.new.values l.next.0 false) s.net.now.latches =
    c.take_over.ensures ∙ ap (λ (vs : List Bool). map (λ (l : LatchAt). get_or vs l.next.0 false) s.net.now.latches) (c.deref-2.ensures.value ∙ values) in
    λ power rows have.
    steps s.net.now c.keeps.ensures.sound c.args.inputs.now s.ahead.items c.compute.new.values
    (λ v meets inputs latches. c.compute.ensures.values v meets inputs (latches ∙ sym c.deref.ensures.value))
    c.args.self.now _ (ap (λ (k : SimView). k.net) (sym c.self.view_is)) (ap (λ (k : SimView). k.ahead) (sym c.self.view_is)) refl (ap (λ (k : SimView). k.cycles + 1) c.self.view_is) values (ahead ∙ taken)
    power rows have
