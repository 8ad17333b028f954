use Rattle.std.proofs.Common.{◌≡◌, drop}
use Rattle.std.specs.List.{list_any}
use Rattle.std.specs.Prelude.{bytes_eq}
use Rattle.blif_read.proofs.head.is_among.Given as goal

abbrev pub invariant-loop-w : goal.invariant-loop-w
invariant-loop-w l = list_any (λ w. bytes_eq l.word w.now) l.words ≡ list_any (λ w. bytes_eq l.word w.now) (drop l.w-index l.words)
