-- The enable of both functions.
use Rattle.edbf_unfold.proofs.unfolder.EventUnfolder.enable_by.Goals as goal

pub enable_of-requires-clause-low : goal.enable_of-requires-clause-low
enable_of-requires-clause-low c = c.requires.within _ _ c.met-f0.ensures

pub enable_of-requires-clause-high : goal.enable_of-requires-clause-high
enable_of-requires-clause-high c = c.requires.within _ _ c.met-f1.ensures
