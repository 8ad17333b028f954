-- The places with the signal's bit have the inputs that it visits.
use Rattle.std.proofs.Common.{◌≡◌, ◌≢◌, ◌-◌, ◌<◌, ◌≤◌, ℕ, List, length, slice_get, Some, refl, sym, subst}
use Rattle.std.specs.List.{All, AllPairs, AllZip, Contains}
use Rattle.std.proofs.lemmas.Result.{IfOk-weaker}
use Rattle.flat_net.specs.declared.signals.Signal.{Signal}
use Rattle.flat_net.specs.View.{NetView, circuit_of}
use Rattle.flat_net.specs.Sound.{IsSound}
use Rattle.cbf_unfold.specs.unfold_places.Reach.{AreInputsOf}
use Rattle.cbf_unfold.specs.unfold_places.Visitors.{AreVisitors}
use Rattle.cbf_unfold.specs.View.{IsOrderOf}
use Rattle.cbf_unfold.specs.Building.{AreNumbered}
use Rattle.cbf_unfold.proofs.Finish.{from_own, to_own}
use Rattle.cbf_unfold.proofs.Listing.{visited_within, visited_differ, found_early, found_known, are_numbered}
use Rattle.cbf_unfold.proofs.unfolder.Unfolder.variables.Goals as goal

pub places_with-requires-clause-within : goal.places_with-requires-clause-within
places_with-requires-clause-within c = c.requires.candidates.within

pub inputs_of-requires-clause-order : goal.inputs_of-requires-clause-order
inputs_of-requires-clause-order c =
    from_own c.args.self.now c.net-net.result.now c.order.result.now c.args.self.now.memo c.net-net.ensures c.order.ensures refl (λ n o m. IsOrderOf n o) c.keeps-2.ensures.unfolder.order

pub inputs_of-requires-clause-within : goal.inputs_of-requires-clause-within
inputs_of-requires-clause-within c =
    subst (λ (n : NetView). All (λ (p : ℕ × ℕ). p.1 < length n.drivers) c.as_slice.result.now) (sym c.net-net.ensures)
    (subst (λ (l : List (ℕ × ℕ)). All (λ p. p.1 < length c.args.self.now.net.drivers) l) (sym c.as_slice.ensures.value)
    (visited_within c.args.self.now (subst IsSound c.net-net.ensures c.keeps.ensures.sound) c.requires.fits.0 c.args.places.now c.requires.fits.1 c.args.words.now c.args.numbers.now c.args.k c.requires.candidates c.in_ok-visited.visited.items c.in_ok-visited.ensures))

pub inputs_of-requires-clause-differ : goal.inputs_of-requires-clause-differ
inputs_of-requires-clause-differ c =
    subst (λ (l : List (ℕ × ℕ)). AllPairs (λ p q. p ≢ q) l) (sym c.as_slice.ensures.value)
    (visited_differ c.args.self.now (subst IsSound c.net-net.ensures c.keeps.ensures.sound) c.requires.fits.0 c.args.places.now c.requires.fits.1 c.args.words.now c.args.numbers.now c.args.k c.requires.candidates c.in_ok-visited.visited.items c.in_ok-visited.ensures c.keeps-2.ensures.apart)

pub numbers_of-requires-clause-cycles : goal.numbers_of-requires-clause-cycles
numbers_of-requires-clause-cycles c =
    let inputs = to_own c.args.self.now c.net-net.result.now c.order.result.now c.args.self.now.memo c.net-net.ensures c.order.ensures refl (λ n o m. AreInputsOf (circuit_of n) o c.in_ok-visited.visited.items c.in_ok-found.found.items)
    (subst (λ (l : List (ℕ × ℕ)). AreInputsOf (circuit_of c.net-net.result.now) c.order.result.now l c.in_ok-found.found.items) c.as_slice.ensures.value c.in_ok-found.ensures.inputs) in
    subst (λ (k : ℕ). All (λ (x : ℕ × ℕ). x.0 ≤ k) c.as_slice-2.result.now) (sym c.cap.ensures)
    (subst (λ (l : List (ℕ × ℕ)). All (λ x. x.0 ≤ c.args.self.now.cap) l) (sym c.as_slice-2.ensures.value)
    (found_early c.args.self.now (subst IsSound c.net-net.ensures c.keeps.ensures.sound) c.requires.fits.0 c.args.places.now c.requires.fits.1 c.args.words.now c.args.numbers.now c.args.k c.requires.candidates c.in_ok-visited.visited.items c.in_ok-visited.ensures c.in_ok-found.found.items inputs))

pub numbers_of-requires-clause-known : goal.numbers_of-requires-clause-known
numbers_of-requires-clause-known c =
    let inputs = to_own c.args.self.now c.net-net.result.now c.order.result.now c.args.self.now.memo c.net-net.ensures c.order.ensures refl (λ n o m. AreInputsOf (circuit_of n) o c.in_ok-visited.visited.items c.in_ok-found.found.items)
    (subst (λ (l : List (ℕ × ℕ)). AreInputsOf (circuit_of c.net-net.result.now) c.order.result.now l c.in_ok-found.found.items) c.as_slice.ensures.value c.in_ok-found.ensures.inputs) in
    subst (λ (k : ℕ). All (λ (x : ℕ × ℕ). Contains c.args.places.now (x.1, k - x.0)) c.as_slice-2.result.now) (sym c.cap.ensures)
    (subst (λ (l : List (ℕ × ℕ)). All (λ x. Contains c.args.places.now (x.1, c.args.self.now.cap - x.0)) l) (sym c.as_slice-2.ensures.value)
    (found_known c.args.self.now (subst IsSound c.net-net.ensures c.keeps.ensures.sound) c.requires.fits.0 c.args.places.now c.requires.fits.1 c.args.words.now c.args.numbers.now c.args.k c.requires.candidates c.in_ok-visited.visited.items c.in_ok-visited.ensures c.in_ok-found.found.items inputs))

pub returns-clause-numbered : goal.returns-clause-numbered
returns-clause-numbered c =
    let u = c.args.self.now in
    let inputs = to_own u c.net-net.result.now c.order.result.now u.memo c.net-net.ensures c.order.ensures refl (λ n o m. AreInputsOf (circuit_of n) o c.in_ok-visited.visited.items c.in_ok-found.found.items)
    (subst (λ (l : List (ℕ × ℕ)). AreInputsOf (circuit_of c.net-net.result.now) c.order.result.now l c.in_ok-found.found.items) c.as_slice.ensures.value c.in_ok-found.ensures.inputs) in
    let places = c.args.places.now in
    let words = c.args.words.now in
    let k = c.args.k in
    let found = c.in_ok-found.found.items in
    IfOk-weaker c.numbers_of.result (λ vars. AllZip (λ v (x : ℕ × ℕ). slice_get places v ≡ Some (x.1, c.cap.result - x.0)) vars c.as_slice-2.result.now)
    (λ vars. (signals : List Signal) (s : Signal) → slice_get signals k ≡ Some s → AreVisitors (circuit_of u.net) u.cap signals u.memo words → AreNumbered u places s.0 vars)
    (λ vars numbers signals s here visitors.
    let zip = subst (λ (m : ℕ). AllZip (λ v (x : ℕ × ℕ). slice_get places v ≡ Some (x.1, m - x.0)) vars found) c.cap.ensures
    (subst (λ (l : List (ℕ × ℕ)). AllZip (λ v x. slice_get places v ≡ Some (x.1, c.cap.result - x.0)) vars l) c.as_slice-2.ensures.value numbers) in
    are_numbered u (subst IsSound c.net-net.ensures c.keeps.ensures.sound) c.requires.fits.0 places c.requires.fits.1 words c.args.numbers.now k c.requires.candidates c.in_ok-visited.visited.items c.in_ok-visited.ensures
    found inputs vars c.in_ok-found.ensures.ordered zip signals s here visitors) c.numbers_of.ensures.numbers
