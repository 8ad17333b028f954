-- What a net that begins behind the rows has of the net: what is shown of it by a sequence is shown of the net, and it can be compared.
use Rattle.std.proofs.Common.{ℕ, Bool, List, subst, arith, Option}
use Rattle.circuit_theory.specs.Circuit.{Circuit, Started}
use Rattle.flat_net.specs.Comparable.{IsComparable}
use Rattle.flat_net.specs.View.{NetView, circuit_of}
use Rattle.witness_report.specs.declared.witness.Witness.{Witness}
use Rattle.witness_report.specs.Shown.{MakesDiffer}
use Rattle.circuit_laws.specs.start_laws.Known.{restarted}
use Rattle.restart.specs.Behind.{begun}
use Rattle.restart.specs.Sequence.{IsShownBehind}
use Rattle.restart.proofs.Begun.{begun_starts, begun_circuit}
use Rattle.restart.proofs.Starting.{begun_long}

-- runs don't see initial values
unstarted : (a b : Circuit ℕ) (left right : List (Started ℕ)) (w : Witness) → MakesDiffer (restarted left a) (restarted right b) w → MakesDiffer a b w
unstarted a b left right w d = record {
  name = d.name;
  left_place = d.left_place;
  right_place = d.right_place;
  named = d.named;
  left_output = d.left_output;
  right_output = d.right_output;
  differ = d.differ;
  left_shows = λ n run low is obeys. d.left_shows n run low (record { meets = is.meets; carries = is.carries }) obeys;
  right_shows = λ n run low is obeys. d.right_shows n run low (record { meets = is.meets; carries = is.carries }) obeys;
}

pub shown_again : (a b : NetView) (left_known right_known : List (Option Bool)) (header : List (List ℕ)) (rows : List (List Bool)) (w : Witness) → IsShownBehind (begun a left_known) (begun b right_known) header rows w →
    IsShownBehind a b header rows w
shown_again a b left_known right_known header rows w h = record {
  begins = h.begins;
  behind = h.behind;
  differ = unstarted (circuit_of a) (circuit_of b) (begun_starts a left_known) (begun_starts b right_known) w
      (subst (λ (c : Circuit ℕ). MakesDiffer (restarted (begun_starts a left_known) (circuit_of a)) c w) (begun_circuit b right_known)
      (subst (λ (c : Circuit ℕ). MakesDiffer c (circuit_of (begun b right_known)) w) (begun_circuit a left_known) h.differ));
}

pub begun_comparable : (n : NetView) (known : List (Option Bool)) → IsComparable n → IsComparable (begun n known)
begun_comparable n known h = record { distinct = h.distinct; few = let e = begun_long n.latches known in omega (arith, h.few, e) }
