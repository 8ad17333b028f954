-- One driver more: it is moved as those before it.
use Rattle.std.proofs.Common.{◌≡◌, ◌∙◌, ◌+◌, ◌<◌, ℕ, List, [], ◌∷◌, ◌++◌, length, map, take, get_or, sym, ap}
use Rattle.std.proofs.lemmas.List.{map-append, take_all, take_more}
use Rattle.flat_net.specs.Cut.{moved_to}
use Rattle.flat_net.specs.declared.parts.Driver.{Driver}
use Rattle.flat_net.proofs.net.cut.moved_drivers.Goals as goal

one_more : (places drivers made more : List Driver) (i : ℕ) (d moved : Driver) → i < length drivers → made ≡ map (moved_to places) (take i drivers) → moved ≡ moved_to places (get_or drivers i d) → more ≡ made ++ moved ∷ []
    → more ≡ map (moved_to places) (take (i + 1) drivers)
one_more places drivers made more i d moved inside before is pushed =
    pushed
    ∙ (ap (λ (ds : List Driver). ds ++ moved ∷ []) before
    ∙ (ap (λ (m : Driver). map (moved_to places) (take i drivers) ++ m ∷ []) is
    ∙ (sym (map-append (moved_to places) (take i drivers) (get_or drivers i d ∷ []))
    ∙ ap (map (moved_to places)) (sym (take_more drivers i d inside)))))

pub loop-driver-preserved : goal.loop-driver-preserved
loop-driver-preserved c =
    one_more c.args.places.now c.args.drivers.now c.loop-driver.moved.items c.push.new.self.items c.loop-driver.driver-index _ _ c.loop-driver-test.true c.loop-driver.invariant c.moved_to.ensures c.in_ok-push.ensures.items

pub returns : goal.returns
returns c = c.loop-driver.invariant ∙ ap (map (moved_to c.args.places.now)) (take_all c.loop-driver.driver-index c.args.drivers.now c.loop-driver-test.false)
