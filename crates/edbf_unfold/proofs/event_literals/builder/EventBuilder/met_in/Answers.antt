-- What wasn't met in the step's frame was met in the one onward.
use Rattle.std.proofs.Common.{◌≡◌, ℕ, List, sym, ap, subst, inl, inr}
use Rattle.std.specs.Prelude.{◌⊎◌}
use Rattle.std.specs.List.{Contains}
use Rattle.circuit_theory.proofs.Lists.{Contains-map}
use Rattle.aig.specs.declared.node.Lit.{Lit}
use Rattle.edbf_unfold.specs.event_literals.Known.{EventUnfolderView, IsMet}
use Rattle.edbf_unfold.proofs.event_literals.builder.EventBuilder.met_in.Goals as goal

pub met-requires : goal.met-requires
met-requires c = go c.requires
  where
    memo : c.self.inside.memo ≡ c.args.self.now.memo
    memo = ap (λ (k : EventUnfolderView). k.memo) c.self.view_is

    absent : IsMet c.args.self.now.memo (c.args.step.frame, c.args.fanin.0) → ⊥
    absent h = c.in-None.ensures.absent (Contains-map (λ (e : (ℕ × ℕ) × Lit). e.0) c.self.inside.memo ((c.args.step.frame, c.args.fanin.0), h.0) (subst (λ (m : List ((ℕ × ℕ) × Lit)). Contains m ((c.args.step.frame, c.args.fanin.0), h.0)) (sym memo) h.1))

    go : IsMet c.args.self.now.memo (c.args.step.frame, c.args.fanin.0) ⊎ IsMet c.args.self.now.memo (c.args.step.onward, c.args.fanin.0) → IsMet c.args.self.now.memo (c.args.step.onward, c.args.fanin.0)
    go (inl h) = absurd (absent h)
    go (inr h) = h

pub returns-in-None : goal.returns-in-None
returns-in-None c = inr (absent, c.met.ensures)
  where
    memo : c.self.inside.memo ≡ c.args.self.now.memo
    memo = ap (λ (k : EventUnfolderView). k.memo) c.self.view_is

    absent : IsMet c.args.self.now.memo (c.args.step.frame, c.args.fanin.0) → ⊥
    absent h = c.in-None.ensures.absent (Contains-map (λ (e : (ℕ × ℕ) × Lit). e.0) c.self.inside.memo ((c.args.step.frame, c.args.fanin.0), h.0) (subst (λ (m : List ((ℕ × ℕ) × Lit)). Contains m ((c.args.step.frame, c.args.fanin.0), h.0)) (sym memo) h.1))

pub returns-in-Some : goal.returns-in-Some
returns-in-Some c = inl (subst (λ (m : List ((ℕ × ℕ) × Lit)). Contains m ((c.args.step.frame, c.args.fanin.0), c.in-Some.lit)) (ap (λ (k : EventUnfolderView). k.memo) c.self.view_is) c.in-Some.ensures.here)
