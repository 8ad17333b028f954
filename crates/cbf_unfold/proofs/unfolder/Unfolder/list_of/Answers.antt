-- The only signal of its list.
use Rattle.std.proofs.Common.{◌≡◌, ◌∙◌, ℕ, List, [], ◌∷◌, length, slice_get, Some, sym, ap, subst, refl}
use Rattle.std.specs.List.{Contains}
use Rattle.std.proofs.lemmas.Result.{IfOk-weaker}
use Rattle.flat_net.specs.declared.signals.Signal.{Signal}
use Rattle.flat_net.specs.View.{circuit_of}
use Rattle.cbf_unfold.specs.unfold_places.Visitors.{AreLinks, AreInputNumbers, AreVisitors}
use Rattle.cbf_unfold.specs.Building.{AreNumbered}
use Rattle.cbf_unfold.proofs.Listing.{single}
use Rattle.cbf_unfold.proofs.unfold_places.Candidates.{candidates_all}
use Rattle.cbf_unfold.proofs.unfolder.Unfolder.list_of.Goals as goal

pub inputs-requires : goal.inputs-requires
inputs-requires c = (c.requires.fits.0, c.args.places.now, c.requires.fits.1)

pub links-requires : goal.links-requires
links-requires c = (c.requires.fits.0, c.args.places.now, c.requires.fits.1)

pub visitors-requires-clause-links : goal.visitors-requires-clause-links
visitors-requires-clause-links c = subst (λ (l : List (List ℕ)). AreLinks (circuit_of c.args.self.now.net) c.args.self.now.memo l) (sym c.as_slice.ensures.value) c.in_ok-links.ensures

pub visitors-requires-clause-fits : goal.visitors-requires-clause-fits
visitors-requires-clause-fits c = (c.requires.fits.0, c.args.places.now, c.requires.fits.1)

pub visitors-requires-clause-done : goal.visitors-requires-clause-done
visitors-requires-clause-done c = single (Contains c.args.self.now.done) c.args.s c.requires.done

pub variables-requires-clause-size : goal.variables-requires-clause-size
variables-requires-clause-size c = ap length c.as_slice-2.ensures.value ∙ c.in_ok-words.ensures.size

pub variables-requires-clause-candidates : goal.variables-requires-clause-candidates
variables-requires-clause-candidates c =
    candidates_all (circuit_of c.args.self.now.net) c.args.self.now.order c.args.self.now.memo c.as_slice-2.result.now c.as_slice-3.result.now 0
    (subst (λ (l : List ℕ). AreInputNumbers (circuit_of c.args.self.now.net) c.args.self.now.order c.args.self.now.memo l) (sym c.as_slice-3.ensures.value) c.in_ok-inputs.ensures)

pub returns-clause-numbered : goal.returns-clause-numbered
returns-clause-numbered c =
    let u = c.args.self.now in
    let words = c.as_slice-2.result.now in
    let visitors = subst (λ (l : List ℕ). AreVisitors (circuit_of u.net) u.cap (c.args.s ∷ []) u.memo l) (sym c.as_slice-2.ensures.value) c.in_ok-words.ensures in
    IfOk-weaker c.variables.result (λ vars. (signals : List Signal) (s : Signal) → slice_get signals 0 ≡ Some s → AreVisitors (circuit_of u.net) u.cap signals u.memo words → AreNumbered u c.args.places.now s.0 vars) (AreNumbered u c.args.places.now c.args.s.0)
    (λ vars numbered. numbered (c.args.s ∷ []) c.args.s refl visitors) c.variables.ensures.numbered
