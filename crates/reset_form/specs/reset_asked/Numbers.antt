-- The circuits of a setup, with the numbers of their variables.
use Rattle.flat_net.specs.View.{circuit_of}
use Rattle.sec_setup.specs.declared.setup.Setup.{Setup}
use Rattle.reset_form.specs.declared.reset_functions.bases.Bases.{Bases}
use Rattle.outcome_fits.specs.ResetOutcome.{Numbered}

abbrev pub numbered : Setup → Bases → Numbered
numbered s b = record {
  a = circuit_of s.left.now;
  b = circuit_of s.right.now;
  left = s.orders.left;
  right = s.orders.right;
  left_base = b.left;
  right_base = b.right;
  columns = s.columns;
}
