use Rattle.std.proofs.Common.{◌≡◌, ◌++◌, map, take, get_or}
use Rattle.witness_report.specs.Text.{names_text}
use Rattle.flat_net.specs.Cut.{no_latch}
use Rattle.circuit_report.proofs.graph_report.text.put_names.Given as goal

abbrev pub invariant-loop-place : goal.invariant-loop-place
invariant-loop-place l = l.text.items ≡ l.initial.text.items ++ names_text (map (λ j. (get_or l.latches j no_latch).name) (take l.place-index l.places))
