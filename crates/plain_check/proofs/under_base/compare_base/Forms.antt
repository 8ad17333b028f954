-- What is said by the form of a comparison.
use Rattle.std.proofs.Common.{◌≡◌, Bool, true, false}
use Rattle.flat_net.specs.View.{NetView}
use Rattle.sec_setup.specs.Cycles.{IsAcyclic, AreBroken}
use Rattle.plain_check.specs.under_base.compare_base.Compared.{ByReset}

pub in_always : {X : Type 0} (Y : Type 0) (reset : Bool) → reset ≡ false → X → ByReset reset X Y
in_always Y false e x = x
in_always Y true e x = absurd (cc)

pub in_reset : (X : Type 0) {Y : Type 0} (reset : Bool) → reset ≡ true → Y → ByReset reset X Y
in_reset X false e y = absurd (cc)
in_reset X true e y = y

-- what follows in each form follows in the one that is asked for
pub by_reset : {X Y V W : Type 0} (reset : Bool) → (X → V) → (Y → W) → ByReset reset X Y → ByReset reset V W
by_reset false f g h = f h
by_reset true f g h = g h

-- where no latch is to be cut open, no latch lies on a cycle
pub unbroken : (a b : NetView) (expose : Bool) → expose ≡ false → AreBroken a b expose → IsAcyclic a × IsAcyclic b
unbroken a b false e h = h
unbroken a b true e h = absurd (cc)
