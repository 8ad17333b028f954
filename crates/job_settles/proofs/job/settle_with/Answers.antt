use Rattle.std.proofs.Common.{ℕ, List, Option, Some, refl, ap, sym, subst, inl, inr}
use Rattle.std.specs.Prelude.{option_map}
use Rattle.job_settles.specs.Found.{SettlesBoth}
use Rattle.job_settles.proofs.Finds.{both_before}
use Rattle.job_settles.proofs.Settling.{can_tell}
use Rattle.job_settles.proofs.job.settle_with.Goals as goal

-- without an assumption
pub returns-in-Ok-clause-found : goal.returns-in-Ok-clause-found
returns-in-Ok-clause-found g c =
    let k = c.args.comparison.now in
    let held = g.S.Shelf.held c.args.shelf.now in
    let before = g.S.Shelf.faults c.args.shelf.now in
    let now = g.S.Shelf.faults c.load.new.shelf in
    inr (
      c.in-Ok.b,
      c.in-Ok.ensures.ok,
      subst (λ (o : Option (List ℕ)). SettlesBoth held before now c.args.a.now c.in-Ok.b k.settings o c.settled_end.result) (sym (ap (option_map (λ path. path.now)) c.in-None.is))
          (c.settle-settled.result, c.settle-settled.ensures, c.settled_end.ensures),
    )

-- with one
pub returns-in-Some-clause-found : goal.returns-in-Some-clause-found
returns-in-Some-clause-found g c =
    let k = c.args.comparison.now in
    let path = c.in-Some.path.now in
    let held = g.S.Shelf.held c.args.shelf.now in
    let before = g.S.Shelf.faults c.args.shelf.now in
    let middle = g.S.Shelf.faults c.load.new.shelf in
    let now = g.S.Shelf.faults c.settle_assuming.new.shelf in
    inr (
      c.in-Ok.b,
      c.in-Ok.ensures.ok,
      subst (λ (o : Option (List ℕ)). SettlesBoth held before now c.args.a.now c.in-Ok.b k.settings o c.settle_assuming.result) (sym (ap (option_map (λ path. path.now)) c.in-Some.is))
          (both_before held (g.S.Shelf.held c.load.new.shelf) before middle now c.load.ensures.keeps c.load.ensures.later c.args.a.now k.settings c.in-Ok.b (Some path) c.settle_assuming.result c.settle_assuming.ensures.found),
    )

pub returns-clause-found : goal.returns-clause-found
returns-clause-found g c = inl (c.in-Err.error, c.in-Err.ensures.err, c.load_end.ensures)

pub settled_end-requires : goal.settled_end-requires
settled_end-requires g c = can_tell c.args.comparison.now.settings.mode c.args.a.now c.in-Ok.b c.args.comparison.now.settings c.settle-settled.result refl c.settle-settled.ensures
