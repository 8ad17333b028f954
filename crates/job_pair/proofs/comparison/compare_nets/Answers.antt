use Rattle.std.proofs.Common.{bytes_eq}
use Rattle.net_names.proofs.Comparing.{showing_comparable}
use Rattle.job_pair.proofs.comparison.compare_nets.Goals as goal

pub compare-compared-requires-clause-left : goal.compare-compared-requires-clause-left
compare-compared-requires-clause-left c =
    showing_comparable (λ name. bytes_eq name c.args.comparison.now.pair.now) c.args.a.now c.in-Ok.left c.in-Ok.ensures c.requires.left

pub compare-compared-requires-clause-right : goal.compare-compared-requires-clause-right
compare-compared-requires-clause-right c =
    showing_comparable (λ name. bytes_eq name c.args.comparison.now.pair.now) c.args.b.now c.in-Ok-only_output.right c.in-Ok-only_output.ensures c.requires.right
