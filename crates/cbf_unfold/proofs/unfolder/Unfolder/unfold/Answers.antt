-- The signal's literal, and its variables, which the table has.
use Rattle.std.proofs.Common.{◌∙◌, ℕ, List, sym, subst, arith}
use Rattle.std.specs.List.{Contains}
use Rattle.std.proofs.lemmas.List.Elements.{Contains-push}
use Rattle.flat_net.specs.Sound.{IsSound}
use Rattle.cbf_unfold.proofs.unfold_places.Lists.{not_both}
use Rattle.cbf_unfold.specs.Unfolded.{IsUnfolded, Fits}
use Rattle.cbf_unfold.specs.Building.{IsLater}
use Rattle.cbf_unfold.proofs.Finish.{room_first, unfolded_from}
use Rattle.cbf_unfold.proofs.unfolder.Unfolder.unfold.Goals as goal

pub root-requires-clause-room : goal.root-requires-clause-room
root-requires-clause-room c = room_first c.args.self.now c.args.aig.now c.args.places.now c.requires.fits.limit c.requires.fits.small c.requires.nodes c.requires.entries

pub list_of-requires : goal.list_of-requires
list_of-requires c =
    let later = c.root.ensures.later in
    record {
      fits = (c.root.new.aig, c.in_ok-lit.ensures.fits);
      done = subst (λ (d : List ℕ). Contains d c.args.s.0) (sym c.in_ok-lit.ensures.done) (Contains-push c.args.self.now.done c.args.s.0);
      room = omega (arith, later.entries, later.small, later.cap, c.requires.fits.limit, c.requires.entries);
    }

pub returns-in_err-vars-clause-later : goal.returns-in_err-vars-clause-later
returns-in_err-vars-clause-later c = subst (λ (t : List (ℕ × ℕ)). IsLater c.args.self.now c.root.new.self c.args.aig.now c.root.new.aig c.args.places.now t) (sym c.list_of.ensures.same) c.root.ensures.later

pub returns-clause-unfolded : goal.returns-clause-unfolded
returns-clause-unfolded c =
    let w = c.root.new.self in
    let sound : IsSound w.net = subst IsSound (c.net-net.ensures ∙ sym c.root.ensures.later.net) c.keeps.ensures.sound in
    subst (λ (t : List (ℕ × ℕ)). IsUnfolded w.net w.order c.root.new.aig t c.args.s.0 c.in_ok-lit.lit.0 c.in_ok-vars.vars) (sym c.list_of.ensures.same)
    (unfolded_from w sound c.root.new.aig c.root.new.places c.in_ok-lit.ensures.fits.holds c.args.s.0 c.in_ok-lit.lit c.in_ok-lit.ensures.here c.in_ok-vars.vars c.in_ok-vars.ensures.numbered)

pub returns-clause-fits : goal.returns-clause-fits
returns-clause-fits c = subst (λ (t : List (ℕ × ℕ)). Fits c.root.new.self c.root.new.aig t) (sym c.list_of.ensures.same) c.in_ok-lit.ensures.fits

pub returns-clause-later : goal.returns-clause-later
returns-clause-later c = subst (λ (t : List (ℕ × ℕ)). IsLater c.args.self.now c.root.new.self c.args.aig.now c.root.new.aig c.args.places.now t) (sym c.list_of.ensures.same) c.root.ensures.later

pub returns-clause-over : goal.returns-clause-over
returns-clause-over c = λ e. absurd (not_both e)
