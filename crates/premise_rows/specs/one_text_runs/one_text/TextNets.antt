-- What is said of one net that a text loads as is said of all of them.
use Rattle.std.specs.Prelude.{ℕ, ◌↔◌, Bool, List}
use Rattle.circuit_theory.specs.declared.Mode.TheVariants.{Plain}
use Rattle.circuit_theory.specs.declared.Side.{Side}
use Rattle.flat_net.specs.View.{NetView}
use Rattle.flatten.specs.OneNet.{AreOneNet}
use Rattle.sec_setup.specs.cut_points.Exposed.{IsToldCycle}
use Rattle.sec_setup.specs.Matching.{InterfacesMatch}
use Rattle.sec_setup.specs.Cycles.{AreBroken}
use Rattle.plain_check.specs.under_base.compare_base.Compared.{AreTooLarge}
use Rattle.job_base.specs.sec_files.Loading.{Loads}

-- A text loads as one net, up to the numbers of its signals.
abbrev pub TextNetsAreOne : Type 0
TextNetsAreOne = (text : List ℕ) (a b : NetView) → Loads text a → Loads text b → AreOneNet a b

-- Whether the interfaces match, whether a cycle of latches is left, and which side is too large, is the same of all nets of two texts.
abbrev pub OneNetIsEnough : Type 0
OneNetIsEnough = (a b m k : NetView) → AreOneNet a m → AreOneNet b k →
    (InterfacesMatch a b ↔ InterfacesMatch m k) × ((expose : Bool) → AreBroken a b expose ↔ AreBroken m k expose) × ((expose : Bool) (side : Side) → AreTooLarge a b expose side ↔ AreTooLarge m k expose side)

-- The cycles that can be told of a latch graph in the plain mode, by the names of the latches, are the same of all nets of a text.
abbrev pub ToldCyclesAreOne : Type 0
ToldCyclesAreOne = (a m : NetView) → AreOneNet a m → (without names : List (List ℕ)) → IsToldCycle Plain a without names ↔ IsToldCycle Plain m without names
