-- The signals' literals.
use Rattle.std.proofs.Common.{◌≡◌, ◌-◌, ℕ, subst, arith}
use Rattle.std.specs.List.{Contains}
use Rattle.circuit_theory.specs.Tree.{Unfolds}
use Rattle.circuit_theory.proofs.Lists.{zip_weaker}
use Rattle.flat_net.specs.declared.signals.Signal.{Signal}
use Rattle.flat_net.specs.View.{circuit_of}
use Rattle.aig.specs.declared.node.Lit.{Lit}
use Rattle.aig.specs.declared.node.Node.{Node}
use Rattle.std.specs.Prelude.{List}
use Rattle.cbf_unfold.specs.View.{UnfolderView}
use Rattle.cbf_unfold.specs.Unfolded.{IsLiteralOf, Holds}
use Rattle.cbf_unfold.proofs.Finish.{room_first}
use Rattle.cbf_unfold.proofs.unfolder.Unfolder.unfold_literals.Goals as goal

-- the literal of the signal's place in the last cycle is the signal's
literal_from : (u : UnfolderView) (g : List Node) (places : List (ℕ × ℕ)) → Holds u g places → (s : Signal) (x : Lit) → Contains u.memo ((u.cap, s.0), x) → IsLiteralOf u.net u.order g places s.0 x.0
literal_from u g places holds s x there =
    let k = holds.known (u.cap, s.0) x there in
    record {
      depth = k.depth;
      tree = k.tree;
      unfolds = subst (λ (j : ℕ). Unfolds (circuit_of u.net) u.order s.0 j k.depth k.tree) (let e : u.cap - u.cap ≡ 0 = omega arith in e) k.unfolds;
      builds = k.builds;
      within = k.within;
    }

pub roots-requires-clause-room : goal.roots-requires-clause-room
roots-requires-clause-room c = room_first c.args.self.now c.args.aig.now c.args.places.now c.requires.fits.limit c.requires.fits.small c.requires.nodes c.requires.entries

pub returns-clause-literals : goal.returns-clause-literals
returns-clause-literals c =
    let u = c.roots.new.self in
    zip_weaker (λ (s : Signal) (x : Lit). Contains u.memo ((u.cap, s.0), x)) (λ (s : Signal) (x : Lit). IsLiteralOf u.net u.order c.roots.new.aig c.roots.new.places s.0 x.0)
    (literal_from u c.roots.new.aig c.roots.new.places c.in_ok-lits.ensures.fits.holds) c.args.signals.now c.in_ok-lits.lits.items c.in_ok-lits.ensures.here
