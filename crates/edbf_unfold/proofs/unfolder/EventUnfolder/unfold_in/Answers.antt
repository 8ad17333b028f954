-- The unfolder is its builder.
use Rattle.std.proofs.Common.{ℕ, sym, subst}
use Rattle.circuit_theory.specs.EventSizes.{Start}
use Rattle.edbf_unfold.specs.event_literals.event_walk.Walk.{IsRootOf, IsCounting}
use Rattle.edbf_unfold.specs.event_literals.Known.{EventUnfolderView, AreKnown}
use Rattle.edbf_unfold.proofs.unfolder.EventUnfolder.unfold_in.Goals as goal

pub unfold_in-requires-clause-known : goal.unfold_in-requires-clause-known
unfold_in-requires-clause-known c = subst (λ (u : EventUnfolderView). AreKnown u.circuit c.args.events.now u.frames u.memo) (sym c.self.view_is) c.requires.known

pub returns-clause-counting : goal.returns-clause-counting
returns-clause-counting c = (
  c.unfold_in.ensures.counting.0,
  subst (λ (u : EventUnfolderView). (x : Start ℕ) → IsRootOf c.args.frame c.args.s.0 x → IsCounting u.circuit x c.args.events.now.children c.unfold_in.new.events.children c.args.counter.now c.unfold_in.new.counter) c.self.view_is c.unfold_in.ensures.counting.1,
)
