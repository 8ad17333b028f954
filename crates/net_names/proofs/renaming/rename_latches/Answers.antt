use Rattle.net_names.proofs.Named.{named_laid, named_sound}
use Rattle.net_names.proofs.renaming.rename_latches.Goals as goal

pub copy_under-requires-clause-sound : goal.copy_under-requires-clause-sound
copy_under-requires-clause-sound c = named_sound c.args.net.now c.keeps.ensures.sound (c.is_laid.ensures c.if-not-is_laid.false) c.args.pairs.now c.in_ok-names.names c.in_ok-names.ensures.ok

pub copy_under-requires-clause-named : goal.copy_under-requires-clause-named
copy_under-requires-clause-named c = named_laid c.args.net.now c.keeps.ensures.sound (c.is_laid.ensures c.if-not-is_laid.false) c.args.pairs.now c.in_ok-names.names c.in_ok-names.ensures.ok
