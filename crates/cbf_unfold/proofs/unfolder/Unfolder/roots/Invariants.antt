use Rattle.std.proofs.Common.{◌≡◌, ◌++◌, map, take}
use Rattle.std.specs.List.{AllZip, Contains}
use Rattle.flat_net.specs.declared.signals.Signal.{Signal}
use Rattle.cbf_unfold.specs.Unfolded.{Fits}
use Rattle.cbf_unfold.specs.Building.{IsLater}
use Rattle.cbf_unfold.proofs.unfolder.Unfolder.roots.Given as goal

abbrev pub invariant-loop-s : goal.invariant-loop-s
invariant-loop-s l = record {
  here : AllZip (λ (s : Signal) x. Contains l.self.memo ((l.self.cap, s.0), x)) (take l.s-index l.signals) l.lits.items;
  fits : Fits l.self l.aig l.places;
  done : l.self.done ≡ l.initial.self.done ++ map (λ (s : Signal). s.0) (take l.s-index l.signals);
  later : IsLater l.initial.self l.self l.initial.aig l.aig l.initial.places l.places;
}
