use Rattle.std.specs.Prelude.{◌≡◌, ◌++◌, take, zip}
use Rattle.std.specs.List.{flat_map}
use Rattle.induct.specs.induct_report.Report.{bit_line}
use Rattle.induct.proofs.induct_report.text.put_bits.Given as goal

abbrev pub invariant-loop-k : goal.invariant-loop-k
invariant-loop-k l = l.text.items ≡ l.initial.text.items ++ flat_map (bit_line l.inputs) (take l.k (zip l.vars l.bits))
