-- Nets that begin behind the rows of a stimulus.
use Rattle.restart.specs.Behind.{IsBegun}
use Rattle.std.proofs.Common.{◌≡◌, ◌∙◌, ℕ, Bool, List, length, sym, ap, subst, Option}
use Rattle.flat_net.specs.Comparable.{IsComparable}
use Rattle.flat_net.specs.View.{NetView}
use Rattle.restart.proofs.Again.{begun_comparable}
use Rattle.restart.proofs.Starting.{begun_long}

-- a net that begins can be compared where the net can
pub comparable : (n : NetView) (names : List (List ℕ)) (rows : List (List Bool)) (known : List (Option Bool)) (m : NetView) → IsBegun n names rows known m → IsComparable n → IsComparable m
comparable n names rows known m h fits = subst IsComparable (sym h.is) (begun_comparable n known fits)

-- it has as many latches as are told
pub long : (n : NetView) (names : List (List ℕ)) (rows : List (List Bool)) (known : List (Option Bool)) (m : NetView) → IsBegun n names rows known m → length known ≡ length m.latches
long n names rows known m h = h.each ∙ sym (ap (λ (k : NetView). length k.latches) h.is ∙ begun_long n.latches known)
