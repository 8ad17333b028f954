-- The block's signals have their variables by the words of the places.
use Rattle.std.proofs.Common.{◌≡◌, ◌∙◌, ◌+◌, ◌-◌, ◌^◌, ◌<◌, ℕ, List, length, take, drop, slice_get, sym, ap, subst, arith, refl}
use Rattle.std.specs.List.{All, Contains}
use Rattle.std.proofs.lemmas.Option.{slice_get-get_or}
use Rattle.circuit_theory.proofs.Lists.{zip_length}
use Rattle.flat_net.specs.declared.signals.Signal.{Signal}
use Rattle.flat_net.proofs.Growth.{length-push}
use Rattle.flat_net.specs.View.{circuit_of}
use Rattle.aig.specs.declared.node.Lit.{Lit}
use Rattle.cbf_unfold.specs.Unfolded.{Fits}
use Rattle.cbf_unfold.specs.Building.{AreNumbered}
use Rattle.cbf_unfold.specs.unfold_places.Visitors.{AreVisitors, AreCandidates, with_bits}
use Rattle.cbf_unfold.proofs.unfold_places.Candidates.{candidates_near}
use Rattle.cbf_unfold.proofs.Listing.{part_at, part_length, drop_at, take_at, found_more, found_push}
use Rattle.cbf_unfold.proofs.unfolder.Unfolder.put_block.Goals as goal

pub visitors-requires-clause-fits : goal.visitors-requires-clause-fits
visitors-requires-clause-fits c = (c.requires.fits.0, c.args.places.now, c.requires.fits.1)

pub visitors-requires-clause-few : goal.visitors-requires-clause-few
visitors-requires-clause-few c =
    let n = part_length c.args.signals.now c.len-from.result (c.len-from.result + c.min.result) (omega (arith, c.len-from.ensures, c.min.ensures, c.requires.some)) in
    omega (arith, n, c.min.ensures)

pub visitors-requires-clause-done : goal.visitors-requires-clause-done
visitors-requires-clause-done c = λ k s at. c.requires.done (c.len-from.result + k) s (part_at c.args.signals.now c.len-from.result (c.len-from.result + c.min.result) k s at)

pub with_bits-requires : goal.with_bits-requires
with_bits-requires c = subst (λ (n : ℕ). All (λ i. i < n) c.args.inputs.now) (sym (ap length c.as_slice.ensures.value ∙ c.in_ok-words.ensures.size)) c.requires.inputs.within

pub variables-requires-clause-fits : goal.variables-requires-clause-fits
variables-requires-clause-fits c = (c.requires.fits.0, subst (λ (t : List (ℕ × ℕ)). Fits c.args.self.now c.requires.fits.0 t) (sym c.loop-k.invariant.same) c.requires.fits.1)

pub variables-requires-clause-bit : goal.variables-requires-clause-bit
variables-requires-clause-bit c =
    let n = part_length c.args.signals.now c.len-from.result (c.len-from.result + c.min.result) (omega (arith, c.len-from.ensures, c.min.ensures, c.requires.some)) in
    omega (arith, c.loop-k-test.true, n, c.min.ensures)

pub variables-requires-clause-size : goal.variables-requires-clause-size
variables-requires-clause-size c = ap length c.as_slice-in-loop-k.ensures.value ∙ c.in_ok-words.ensures.size

pub variables-requires-clause-candidates : goal.variables-requires-clause-candidates
variables-requires-clause-candidates c =
    let n = part_length c.args.signals.now c.len-from.result (c.len-from.result + c.min.result) (omega (arith, c.len-from.ensures, c.min.ensures, c.requires.some)) in
    let small : c.loop-k.k < 64 = omega (arith, c.loop-k-test.true, n, c.min.ensures) in
    let same = c.as_slice-in-loop-k-2.ensures.value ∙ (c.in_ok-near.ensures ∙ ap (λ (w : List ℕ). with_bits w (2 ^ 64 - 1) c.args.inputs.now) (c.as_slice.ensures.value ∙ sym c.as_slice-in-loop-k.ensures.value)) in
    subst (λ (l : List ℕ). AreCandidates (circuit_of c.args.self.now.net) c.args.self.now.order c.args.self.now.memo c.as_slice-in-loop-k.result.now c.loop-k.k l) (sym same)
    (candidates_near (circuit_of c.args.self.now.net) c.args.self.now.order c.args.self.now.memo c.as_slice-in-loop-k.result.now c.args.inputs.now c.loop-k.k small c.requires.inputs)

pub variables-requires-clause-room : goal.variables-requires-clause-room
variables-requires-clause-room c = omega (arith, ap length c.loop-k.invariant.same, c.requires.room)

pub loop-k-preserved : goal.loop-k-preserved
loop-k-preserved c =
    let u = c.args.self.now in
    let signals = c.args.signals.now in
    let us = c.loop-k.all.items in
    let from = c.len-from.result in
    let to = c.len-from.result + c.min.result in
    let n = part_length signals from to (omega (arith, c.len-from.ensures, c.min.ensures, c.requires.some)) in
    let at : length us ≡ from + c.loop-k.k = omega (arith, c.loop-k.invariant.count, c.len-from.ensures) in
    let near : c.loop-k.k < to - from = omega (arith, c.loop-k-test.true, n) in
    let inside : length us < length signals = omega (arith, at, near, c.min.ensures, c.len-from.ensures, c.requires.some) in
    let pair : length signals ≡ length c.args.lits.now = zip_length (λ (s : Signal) (x : Lit). Contains u.memo ((u.cap, s.0), x)) signals c.args.lits.now c.requires.lits in
    record {
      same = c.variables.ensures.same ∙ c.loop-k.invariant.same;
      count = let one = ap length c.in_ok-push.ensures.items ∙ length-push us _ in omega (arith, one, c.loop-k.invariant.count);
      found = found_push u c.args.places.now signals us c.push.new.self.items _ c.in_ok-push.ensures.items
          (found_more u c.args.places.now signals c.args.lits.now us (length us) _ c.in_ok-vars.vars c.requires.lits inside
          (ap (slice_get c.args.lits.now) at ∙ slice_get-get_or c.args.lits.now (from + c.loop-k.k) (record { 0 = 0 }) (omega (arith, at, inside, pair))) c.loop-k.invariant.found
          (λ s there. subst (λ (t : List (ℕ × ℕ)). AreNumbered u t s.0 c.in_ok-vars.vars) c.loop-k.invariant.same
          (c.in_ok-vars.ensures.numbered (take (to - from) (drop from signals)) s (take_at (drop from signals) (to - from) c.loop-k.k s near (drop_at signals from c.loop-k.k s (ap (slice_get signals) (sym at) ∙ there)))
          (subst (λ (l : List ℕ). AreVisitors (circuit_of u.net) u.cap (take (to - from) (drop from signals)) u.memo l) (sym c.as_slice-in-loop-k.ensures.value) c.in_ok-words.ensures))));
    }

pub loop-k-init : goal.loop-k-init
loop-k-init c = record { same = refl; count = omega arith; found = c.requires.found }

pub bounds-lits-from : goal.bounds-lits-from
bounds-lits-from c =
    let n = part_length c.args.signals.now c.len-from.result (c.len-from.result + c.min.result) (omega (arith, c.len-from.ensures, c.min.ensures, c.requires.some)) in
    omega (arith, c.loop-k-test.true, n, c.len-from.ensures, c.min.ensures, c.requires.some, zip_length (λ (s : Signal) (x : Lit). Contains c.args.self.now.memo ((c.args.self.now.cap, s.0), x)) c.args.signals.now c.args.lits.now c.requires.lits)

pub returns-in_err-push-clause-same : goal.returns-in_err-push-clause-same
returns-in_err-push-clause-same c = c.variables.ensures.same ∙ c.loop-k.invariant.same

pub returns-clause-more : goal.returns-clause-more
returns-clause-more c =
    let n = part_length c.args.signals.now c.len-from.result (c.len-from.result + c.min.result) (omega (arith, c.len-from.ensures, c.min.ensures, c.requires.some)) in
    omega (arith, c.loop-k.invariant.count, c.loop-k-test.false, n, c.min.ensures, c.len-from.ensures, c.requires.some)

pub returns-clause-within : goal.returns-clause-within
returns-clause-within c =
    let n = part_length c.args.signals.now c.len-from.result (c.len-from.result + c.min.result) (omega (arith, c.len-from.ensures, c.min.ensures, c.requires.some)) in
    omega (arith, c.loop-k.invariant.count, c.loop-k.auto.k-end, n, c.min.ensures, c.len-from.ensures, c.requires.some)
