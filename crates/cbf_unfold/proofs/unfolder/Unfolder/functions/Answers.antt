-- Block after block, until all signals have their variables.
use Rattle.std.proofs.Common.{◌∙◌, ℕ, List, length, take, sym, ap, subst, arith}
use Rattle.std.specs.List.{AllZip}
use Rattle.std.proofs.lemmas.List.{take_all}
use Rattle.flat_net.specs.declared.signals.Signal.{Signal}
use Rattle.flat_net.specs.View.{circuit_of}
use Rattle.cbf_unfold.specs.Unfolded.{Fits}
use Rattle.cbf_unfold.specs.unfold_places.Visitors.{AreLinks, AreInputNumbers}
use Rattle.cbf_unfold.specs.Found.{IsFound}
use Rattle.cbf_unfold.proofs.unfolder.Unfolder.functions.Goals as goal

pub inputs-requires : goal.inputs-requires
inputs-requires c = (c.requires.fits.0, c.args.places.now, c.requires.fits.1)

pub links-requires : goal.links-requires
links-requires c = (c.requires.fits.0, c.args.places.now, c.requires.fits.1)

pub put_block-requires-clause-links : goal.put_block-requires-clause-links
put_block-requires-clause-links c = subst (λ (l : List (List ℕ)). AreLinks (circuit_of c.args.self.now.net) c.args.self.now.memo l) (sym c.as_slice.ensures.value) c.in_ok-links.ensures

pub put_block-requires-clause-fits : goal.put_block-requires-clause-fits
put_block-requires-clause-fits c = (c.requires.fits.0, subst (λ (t : List (ℕ × ℕ)). Fits c.args.self.now c.requires.fits.0 t) (sym c.loop-alloc.invariant.same) c.requires.fits.1)

pub put_block-requires-clause-inputs : goal.put_block-requires-clause-inputs
put_block-requires-clause-inputs c =
    subst (λ (l : List ℕ). AreInputNumbers (circuit_of c.args.self.now.net) c.args.self.now.order c.args.self.now.memo l) (sym c.as_slice-in-loop-alloc.ensures.value) c.in_ok-inputs.ensures

pub put_block-requires-clause-room : goal.put_block-requires-clause-room
put_block-requires-clause-room c = omega (arith, ap length c.loop-alloc.invariant.same, c.requires.room)

pub put_block-requires-clause-found : goal.put_block-requires-clause-found
put_block-requires-clause-found c =
    subst (λ (t : List (ℕ × ℕ)). AllZip (IsFound c.args.self.now t) (take (length c.loop-alloc.all.items) c.args.signals.now) c.loop-alloc.all.items) (sym c.loop-alloc.invariant.same) c.loop-alloc.invariant.found

pub loop-alloc-preserved : goal.loop-alloc-preserved
loop-alloc-preserved c = record {
  same = c.put_block.ensures.same ∙ c.loop-alloc.invariant.same;
  within = c.in_ok-put_block.ensures.within;
  found = subst (λ (t : List (ℕ × ℕ)). AllZip (IsFound c.args.self.now t) (take (length c.put_block.new.all.items) c.args.signals.now) c.put_block.new.all.items) c.loop-alloc.invariant.same c.in_ok-put_block.ensures.found;
}

pub returns-in_err-put_block-clause-same : goal.returns-in_err-put_block-clause-same
returns-in_err-put_block-clause-same c = c.put_block.ensures.same ∙ c.loop-alloc.invariant.same

pub returns-clause-found : goal.returns-clause-found
returns-clause-found c =
    subst (λ (l : List Signal). AllZip (IsFound c.args.self.now c.args.places.now) l c.loop-alloc.all.items) (take_all (length c.loop-alloc.all.items) c.args.signals.now (omega (arith, c.loop-alloc-test.false))) c.loop-alloc.invariant.found
