-- The graph has grown.
use Rattle.std.proofs.Common.{◌≡◌, ◌*◌, ◌<◌, ℕ, length}
use Rattle.signal_refine.proofs.Knowing.{known_grows}
use Rattle.signal_refine.proofs.ask.ask_under.Goals as goal

pub prove_zero-requires-clause-known : goal.prove_zero-requires-clause-known
prove_zero-requires-clause-known c = known_grows c.args.facts.now.aig c.apart_under.new.aig c.in_ok-apart.ensures.grows c.args.facts.now.kept.items c.requires.known
