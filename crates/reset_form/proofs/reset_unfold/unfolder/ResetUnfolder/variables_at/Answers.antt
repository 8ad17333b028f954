-- The table has the variables of what was unfolded.
use Rattle.std.proofs.Common.{◌<◌, ℕ, length, sym, subst}
use Rattle.std.specs.List.{All, Contains}
use Rattle.std.proofs.lemmas.List.Elements.{All-contains}
use Rattle.flat_net.specs.Sound.{IsSound}
use Rattle.reset_form.proofs.reset_unfold.Finish.{leaves_listed, numbered_from}
use Rattle.reset_form.proofs.reset_unfold.unfolder.ResetUnfolder.variables_at.Goals as goal

pub leaves-requires : goal.leaves-requires
leaves-requires c = record { signal = All-contains (λ (p : ℕ × ℕ). p.1 < length c.args.self.now.net.drivers) c.args.self.now.done c.args.start c.requires.fits.holds.within c.requires.done }

pub numbers_of-requires : goal.numbers_of-requires
numbers_of-requires c =
    let u = c.args.self.now in
    let sound : IsSound u.net = subst IsSound c.net.ensures c.keeps.ensures.sound in
    record {
      room = c.requires.entries;
      known = subst (All (λ (x : ℕ × ℕ). Contains c.args.places.now (x.1, x.0))) (sym c.as_slice.ensures.value)
          (leaves_listed u c.args._aig.now c.args.places.now sound c.keeps-2.ensures.unfolder.order c.requires.fits c.args.start c.requires.done c.in-Ok.found.items c.in-Ok.ensures.leaves);
    }

pub returns-clause-unfolded : goal.returns-clause-unfolded
returns-clause-unfolded c =
    λ x here.
    let u = c.args.self.now in
    let sound : IsSound u.net = subst IsSound c.net.ensures c.keeps.ensures.sound in
    numbered_from u sound c.keeps-2.ensures.unfolder.order c.args._aig.now c.args.places.now c.requires.fits.holds c.args.start x here c.in_ok-vars.vars c.in-Ok.found.items c.as_slice.result.now c.as_slice.ensures.value
    c.in-Ok.ensures.leaves c.in-Ok.ensures.ordered c.in_ok-vars.ensures.numbers
