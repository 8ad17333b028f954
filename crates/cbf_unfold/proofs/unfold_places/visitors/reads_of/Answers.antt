-- What drives the signal says which places are read.
use Rattle.std.proofs.Common.{◌∙◌, ◌-◌, ◌<◌, ℕ, List, [], ◌∷◌, length, Some, sym, ap, subst, arith}
use Rattle.std.specs.List.{Contains}
use Rattle.std.proofs.lemmas.List.Elements.{All-nil, All-cons}
use Rattle.std.proofs.lemmas.Option.{slice_get_within}
use Rattle.circuit_theory.proofs.Lists.{All-from_each, Contains-head, only}
use Rattle.flat_net.specs.declared.signals.Signal.{Signal}
use Rattle.flat_net.specs.View.{circuit_of}
use Rattle.flat_net.proofs.Places.{All-at}
use Rattle.aig.specs.declared.node.Lit.{Lit}
use Rattle.cbf_unfold.specs.unfold_places.Places.{Steps}
use Rattle.cbf_unfold.specs.unfold_places.Reach.{IsMet}
use Rattle.cbf_unfold.specs.unfold_places.Visitors.{AreReads}
use Rattle.flat_net.proofs.Drivers.{driven_gate, driven_latch}
use Rattle.cbf_unfold.proofs.unfold_places.Steps.{input_steps, gate_steps_to, gate_steps_from, latch_steps_to, latch_steps_from}
use Rattle.cbf_unfold.proofs.unfold_places.Passing.{read_met, entry_is, reads_by}
use Rattle.cbf_unfold.proofs.unfold_places.visitors.reads_of.Goals as goal

pub driver-requires : goal.driver-requires
driver-requires c = All-at (λ (e : (ℕ × ℕ) × Lit). e.0.1 < length c.args.net.now.drivers) c.args.memo.now c.args.number (c.place-cycle.result, c.place-cycle.ensures.0) c.place-cycle.ensures.1 c.requires.within

pub gate_of-requires : goal.gate_of-requires
gate_of-requires c =
    let g = driven_gate _ c.keeps.ensures.sound _ _ (c.driver.ensures ∙ ap Some c.in-Gate.is) in
    slice_get_within _ _ g.0 g.1

pub latch_of-requires : goal.latch_of-requires
latch_of-requires c =
    let l = driven_latch _ c.keeps.ensures.sound _ _ (c.driver.ensures ∙ ap Some c.in-Latch.is) in
    slice_get_within _ _ l.0 l.1

pub numbers_in-requires-clause-met : goal.numbers_in-requires-clause-met
numbers_in-requires-clause-met c =
    let p = c.place-cycle.result in
    let fanins = c.as_slice.result.now in
    All-from_each (λ (f : Signal). IsMet c.args.memo.now (p.0, f.0)) fanins
    (λ f h.
    read_met (circuit_of c.args.net.now) c.args.memo.now c.requires.planned c.args.number p c.place-cycle.ensures.0 c.place-cycle.ensures.1 (p.0, f.0)
    (gate_steps_to c.args.net.now c.keeps.ensures.sound p.1 _ (c.driver.ensures ∙ ap Some c.in-Gate.is) c.gate_of.result.now c.gate_of.ensures p.0 f (subst (λ (l : List Signal). Contains l f) c.as_slice.ensures h)))

pub returns-in-Input : goal.returns-in-Input
returns-in-Input c = λ e at.
    let own = entry_is c.args.memo.now c.args.number c.place-cycle.result c.place-cycle.ensures.0 e c.place-cycle.ensures.1 at in
    subst (λ (l : List ℕ). AreReads (circuit_of c.args.net.now) c.args.memo.now e.0 l) (sym c.new.ensures) (
      λ n h. absurd (omega (arith, h.1)),
      λ q steps. absurd (input_steps c.args.net.now c.keeps.ensures.sound _ _ _ q (c.driver.ensures ∙ ap Some c.in-Input.is) (subst (λ (r : ℕ × ℕ). Steps (circuit_of c.args.net.now) r q) (sym own) steps)),
    )

pub returns-in_ok-reads-in-Gate : goal.returns-in_ok-reads-in-Gate
returns-in_ok-reads-in-Gate c = λ e at.
    let p = c.place-cycle.result in
    let own = entry_is c.args.memo.now c.args.number p c.place-cycle.ensures.0 e c.place-cycle.ensures.1 at in
    let drives = c.driver.ensures ∙ ap Some c.in-Gate.is in
    subst (λ (q : ℕ × ℕ). AreReads (circuit_of c.args.net.now) c.args.memo.now q c.in_ok-reads-in-Gate.reads) own
    (reads_by (circuit_of c.args.net.now) c.args.memo.now p p.0 c.as_slice.result.now c.in_ok-reads-in-Gate.reads c.in_ok-reads-in-Gate.ensures
    (λ f h. gate_steps_to c.args.net.now c.keeps.ensures.sound p.1 _ drives c.gate_of.result.now c.gate_of.ensures p.0 f (subst (λ (l : List Signal). Contains l f) c.as_slice.ensures h))
    (λ q steps.
    let f = gate_steps_from c.args.net.now c.keeps.ensures.sound p.1 _ drives c.gate_of.result.now c.gate_of.ensures p.0 q steps in
    (f.0, subst (λ (l : List Signal). Contains l f.0) (sym c.as_slice.ensures) f.1, f.2)))

pub overflow_sub-cycle : goal.overflow_sub-cycle
overflow_sub-cycle c = c.requires.planned.early c.args.number (c.place-cycle.result, c.place-cycle.ensures.0) c.place-cycle.ensures.1

pub numbers_in-requires-in-Latch-clause-met : goal.numbers_in-requires-in-Latch-clause-met
numbers_in-requires-in-Latch-clause-met c =
    let p = c.place-cycle.result in
    let next = c.latch_of.result.now.next in
    let early = c.requires.planned.early c.args.number (p, c.place-cycle.ensures.0) c.place-cycle.ensures.1 in
    All-cons (λ (f : Signal). IsMet c.args.memo.now (p.0 - 1, f.0)) next []
    (read_met (circuit_of c.args.net.now) c.args.memo.now c.requires.planned c.args.number p c.place-cycle.ensures.0 c.place-cycle.ensures.1 (p.0 - 1, next.0)
    (latch_steps_to c.args.net.now c.keeps.ensures.sound p.1 _ (c.driver.ensures ∙ ap Some c.in-Latch.is) c.latch_of.result.now c.latch_of.ensures.there p.0 early))
    (All-nil (λ (f : Signal). IsMet c.args.memo.now (p.0 - 1, f.0)))

pub returns-in_ok-reads-in-Latch : goal.returns-in_ok-reads-in-Latch
returns-in_ok-reads-in-Latch c = λ e at.
    let p = c.place-cycle.result in
    let next = c.latch_of.result.now.next in
    let own = entry_is c.args.memo.now c.args.number p c.place-cycle.ensures.0 e c.place-cycle.ensures.1 at in
    let drives = c.driver.ensures ∙ ap Some c.in-Latch.is in
    let early = c.requires.planned.early c.args.number (p, c.place-cycle.ensures.0) c.place-cycle.ensures.1 in
    subst (λ (q : ℕ × ℕ). AreReads (circuit_of c.args.net.now) c.args.memo.now q c.in_ok-reads-in-Latch.reads) own
    (reads_by (circuit_of c.args.net.now) c.args.memo.now p (p.0 - 1) (next ∷ []) c.in_ok-reads-in-Latch.reads c.in_ok-reads-in-Latch.ensures
    (λ f h. subst (λ (t : Signal). Steps (circuit_of c.args.net.now) p (p.0 - 1, t.0)) (only next f h) (latch_steps_to c.args.net.now c.keeps.ensures.sound p.1 _ drives c.latch_of.result.now c.latch_of.ensures.there p.0 early))
    (λ q steps. (next, Contains-head next [], latch_steps_from c.args.net.now c.keeps.ensures.sound p.1 _ drives c.latch_of.result.now c.latch_of.ensures.there p.0 q steps)))
