-- Cycle after cycle the functions stay, and what is unfolded is what lies before the next cycle.
use Rattle.std.proofs.Common.{◌≡◌, ◌∙◌, ℕ, List, ◌+◌, ◌≤◌, [], ◌∷◌, ◌++◌, length, slice_get, sym, ap, subst, arith, rules}
use Rattle.std.proofs.lemmas.Option.{slice_get_within}
use Rattle.circuit_laws.specs.reset_laws.Weight.{IsResetOver}
use Rattle.flat_net.specs.View.{circuit_of}
use Rattle.flat_net.proofs.Growth.{length-push}
use Rattle.cbf_unfold.specs.declared.unfold_places.signal_function.Unfolded.{Unfolded}
use Rattle.reset_form.specs.reset_unfold.Places.{starts_of}
use Rattle.reset_form.specs.reset_unfold.Unfolded.{IsResetUnfolded}
use Rattle.reset_form.proofs.reset_unfold.Going.{later_none, later_trans}
use Rattle.reset_form.proofs.reset_functions.Growing.{cycle_next, unfolded_of, done_none, done_next, done_below, over_first, over_next}
use Rattle.reset_form.proofs.reset_functions.functions.unfold_cycles.Goals as goal

pub returns-in_err-cone-clause-over : goal.returns-in_err-cone-clause-over
returns-in_err-cone-clause-over c = λ e. over_first c.args.unfolder.now c.args.top c.requires.fits.limit (c.cone.ensures.over (search rules))

pub returns-in_err-cone-clause-later : goal.returns-in_err-cone-clause-later
returns-in_err-cone-clause-later c =
    let fits = c.requires.fits in
    later_none c.args.unfolder.now c.args.aig.now c.args.places.now (omega (arith, fits.small, fits.limit))

pub loop-cycle-init : goal.loop-cycle-init
loop-cycle-init c =
    let fits = c.requires.fits in
    record {
      fits = fits;
      later = later_none c.args.unfolder.now c.args.aig.now c.args.places.now (omega (arith, fits.small, fits.limit));
      done = done_none c.args.top.1 c.args.unfolder.now.done;
      each = ap length c.new-cycles.ensures;
      are = λ t u at. absurd (let k = slice_get_within [] t u (ap (λ (l : List Unfolded). slice_get l t) (sym c.new-cycles.ensures) ∙ at) in omega (arith, k));
      cone = c.in_ok-cone.ensures.cone;
      signal = c.in_ok-cone.ensures.starts.0;
      last = c.in_ok-cone.ensures.starts.1;
      next = c.in_ok-cone.ensures.starts.2;
    }

pub unfold_next-requires-clause-next : goal.unfold_next-requires-clause-next
unfold_next-requires-clause-next c = omega (arith, c.loop-cycle.invariant.next, c.loop-cycle.invariant.last, c.loop-cycle-test.true, c.from-cycle-end.ensures)

pub unfold_next-requires-clause-nodes : goal.unfold_next-requires-clause-nodes
unfold_next-requires-clause-nodes c = omega (arith, c.requires.nodes, c.loop-cycle.invariant.later.nodes, c.loop-cycle.invariant.fits.small)

pub unfold_next-requires-clause-entries : goal.unfold_next-requires-clause-entries
unfold_next-requires-clause-entries c = omega (arith, c.requires.entries, c.loop-cycle.invariant.later.entries, c.loop-cycle.invariant.fits.small)

pub returns-in_err-one-clause-over : goal.returns-in_err-one-clause-over
returns-in_err-one-clause-over c = λ e.
    let v = c.loop-cycle.unfolder in
    let k = c.loop-cycle.cone in
    let place : (k.next, k.signal) ≡ (c.loop-cycle._cycle, c.args.top.1) = (λ i. (c.loop-cycle.invariant.next i, c.loop-cycle.invariant.signal i)) in
    let within : c.loop-cycle._cycle ≤ c.args.top.0 = omega (arith, c.loop-cycle-test.true, c.from-cycle-end.ensures) in
    over_next c.args.unfolder.now c.loop-cycle.unfolder c.args.top c.loop-cycle._cycle c.loop-cycle.invariant.later.net within c.loop-cycle.invariant.done
    (subst (λ (p : ℕ × ℕ). IsResetOver (circuit_of v.net) (starts_of (v.done ++ p ∷ [])) 2000000) place (c.unfold_next.ensures.over (search rules)))

pub returns-in_err-one-clause-later : goal.returns-in_err-one-clause-later
returns-in_err-one-clause-later c = later_trans c.args.unfolder.now c.loop-cycle.unfolder c.unfold_next.new.self c.args.aig.now c.loop-cycle.aig c.unfold_next.new.aig c.args.places.now c.loop-cycle.places c.unfold_next.new.places c.loop-cycle.invariant.later c.unfold_next.ensures.later

pub returns-in_err-push-clause-later : goal.returns-in_err-push-clause-later
returns-in_err-push-clause-later c = later_trans c.args.unfolder.now c.loop-cycle.unfolder c.unfold_next.new.self c.args.aig.now c.loop-cycle.aig c.unfold_next.new.aig c.args.places.now c.loop-cycle.places c.unfold_next.new.places c.loop-cycle.invariant.later c.unfold_next.ensures.later

pub loop-cycle-preserved : goal.loop-cycle-preserved
loop-cycle-preserved c =
    let u = c.args.unfolder.now in
    let v = c.loop-cycle.unfolder in
    let w = c.unfold_next.new.self in
    let later = c.unfold_next.ensures.later in
    let cycle = c.loop-cycle._cycle in
    let made = c.in_ok-one.one in
    let k = c.loop-cycle.cone in
    let place : (k.next, k.signal) ≡ (cycle, c.args.top.1) = (λ i. (c.loop-cycle.invariant.next i, c.loop-cycle.invariant.signal i)) in
    record {
      fits = c.in_ok-one.ensures.fits;
      later = later_trans u v w c.args.aig.now c.loop-cycle.aig c.unfold_next.new.aig c.args.places.now c.loop-cycle.places c.unfold_next.new.places c.loop-cycle.invariant.later later;
      done = done_next c.args.top.1 cycle u.done v.done w.done c.loop-cycle.invariant.done (c.in_ok-one.ensures.done ∙ ap (λ (p : ℕ × ℕ). v.done ++ p ∷ []) place);
      each = ap length c.in_ok-push.ensures.ok ∙ (length-push c.loop-cycle.cycles made ∙ ap (λ k. k + 1) c.loop-cycle.invariant.each);
      are =
          cycle_next u.net u.order u.base c.loop-cycle.aig c.unfold_next.new.aig c.loop-cycle.places c.unfold_next.new.places later.grows later.adds c.args.top.1 cycle c.loop-cycle.cycles c.push.new.self made c.loop-cycle.invariant.each c.loop-cycle.invariant.are
          (unfolded_of u w u.net u.order u.base c.loop-cycle.aig c.unfold_next.new.aig c.loop-cycle.places c.unfold_next.new.places c.args.top.1 cycle made.lit.0 made.vars (later.net ∙ c.loop-cycle.invariant.later.net) (later.order ∙ c.loop-cycle.invariant.later.order)
          (later.base ∙ c.loop-cycle.invariant.later.base)
          (subst (λ (p : ℕ × ℕ). IsResetUnfolded w.net w.order w.base c.unfold_next.new.aig c.unfold_next.new.places p.1 p.0 made.lit.0 made.vars) place c.in_ok-one.ensures.unfolded))
          c.in_ok-push.ensures.ok;
      cone = c.in_ok-one.ensures.cone;
      signal = c.unfold_next.ensures.same.0 ∙ c.loop-cycle.invariant.signal;
      last = c.unfold_next.ensures.same.1 ∙ c.loop-cycle.invariant.last;
      next = c.in_ok-one.ensures.next ∙ ap (λ m. m + 1) c.loop-cycle.invariant.next;
    }

pub returns-clause-unfolded : goal.returns-clause-unfolded
returns-clause-unfolded c =
    let all : c.loop-cycle._cycle ≡ c.args.top.0 + 1 = omega (arith, c.loop-cycle-test.false, c.from-cycle-end.ensures) in
    record { each = c.loop-cycle.invariant.each ∙ all; are = c.loop-cycle.invariant.are }

pub returns-clause-done : goal.returns-clause-done
returns-clause-done c =
    let all : c.loop-cycle._cycle ≡ c.args.top.0 + 1 = omega (arith, c.loop-cycle-test.false, c.from-cycle-end.ensures) in
    done_below c.args.top c.loop-cycle._cycle c.args.unfolder.now.done c.loop-cycle.unfolder.done all c.loop-cycle.invariant.done
