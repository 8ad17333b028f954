-- The net and the places are the unfolder's own.
use Rattle.std.proofs.Common.{ℕ, refl, sym, subst, IfOk}
use Rattle.flat_net.specs.View.{circuit_of}
use Rattle.cbf_unfold.specs.unfold_places.Planned.{IsPlanned}
use Rattle.cbf_unfold.specs.unfold_places.Visitors.{AreMet, AreLinks, AreVisitors}
use Rattle.cbf_unfold.proofs.Finish.{from_own, to_own}
use Rattle.cbf_unfold.proofs.Listing.{are_met}
use Rattle.cbf_unfold.proofs.unfolder.Unfolder.visitors.Goals as goal

pub visitors_of-requires-clause-links : goal.visitors_of-requires-clause-links
visitors_of-requires-clause-links c =
    from_own c.args.self.now c.net.result.now c.args.self.now.order c.memo.result.now c.net.ensures refl c.memo.ensures (λ n o m. AreLinks (circuit_of n) m c.args.links.now) c.requires.links

pub visitors_of-requires-clause-planned : goal.visitors_of-requires-clause-planned
visitors_of-requires-clause-planned c =
    from_own c.args.self.now c.net.result.now c.args.self.now.order c.memo.result.now c.net.ensures refl c.memo.ensures (λ n o m. IsPlanned (circuit_of n) m) c.requires.fits.2.holds.planned

pub visitors_of-requires-clause-met : goal.visitors_of-requires-clause-met
visitors_of-requires-clause-met c =
    from_own c.args.self.now c.net.result.now c.args.self.now.order c.memo.result.now c.net.ensures refl c.memo.ensures (λ n o m. AreMet (circuit_of n) c.cap.result c.args.signals.now m)
    (subst (λ (k : ℕ). AreMet (circuit_of c.args.self.now.net) k c.args.signals.now c.args.self.now.memo) (sym c.cap.ensures) (are_met c.args.self.now c.requires.fits.0 c.requires.fits.1 c.requires.fits.2 c.args.signals.now c.requires.done))

pub returns : goal.returns
returns c =
    subst (λ (k : ℕ). IfOk c.visitors_of.result (λ words. AreVisitors (circuit_of c.args.self.now.net) k c.args.signals.now c.args.self.now.memo words.items)) c.cap.ensures
    (to_own c.args.self.now c.net.result.now c.args.self.now.order c.memo.result.now c.net.ensures refl c.memo.ensures (λ n o m. IfOk c.visitors_of.result (λ words. AreVisitors (circuit_of n) c.cap.result c.args.signals.now m words.items)) c.visitors_of.ensures)
