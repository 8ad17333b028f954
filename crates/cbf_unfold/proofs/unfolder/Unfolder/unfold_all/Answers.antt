-- The signals' literals, and their variables, which the table has.
use Rattle.std.proofs.Common.{◌∙◌, ℕ, List, sym, subst, arith}
use Rattle.std.specs.List.{AllZip, Contains}
use Rattle.flat_net.specs.declared.signals.Signal.{Signal}
use Rattle.flat_net.specs.Sound.{IsSound}
use Rattle.circuit_theory.proofs.Lists.{zip_weaker}
use Rattle.cbf_unfold.specs.declared.unfold_places.signal_function.Unfolded.{Unfolded}
use Rattle.cbf_unfold.proofs.unfold_places.Lists.{not_both}
use Rattle.cbf_unfold.specs.Unfolded.{IsUnfolded, Fits}
use Rattle.cbf_unfold.specs.Building.{IsLater}
use Rattle.cbf_unfold.specs.Found.{IsFound}
use Rattle.cbf_unfold.proofs.Finish.{room_first, unfolded_from, are_done}
use Rattle.cbf_unfold.proofs.unfolder.Unfolder.unfold_all.Goals as goal

pub roots-requires-clause-room : goal.roots-requires-clause-room
roots-requires-clause-room c = room_first c.args.self.now c.args.aig.now c.args.places.now c.requires.fits.limit c.requires.fits.small c.requires.nodes c.requires.entries

pub functions-requires : goal.functions-requires
functions-requires c =
    let later = c.roots.ensures.later in
    record {
      fits = (c.roots.new.aig, c.in_ok-lits.ensures.fits);
      done = are_done c.args.self.now.done c.args.signals.now c.roots.new.self.done c.in_ok-lits.ensures.done;
      lits = subst (λ l. AllZip (λ (s : Signal) x. Contains c.roots.new.self.memo ((c.roots.new.self.cap, s.0), x)) c.args.signals.now l) (sym c.as_slice.ensures.value) c.in_ok-lits.ensures.here;
      room = omega (arith, later.entries, later.small, later.cap, c.requires.fits.limit, c.requires.entries);
    }

pub returns-in_err-unfolded-clause-later : goal.returns-in_err-unfolded-clause-later
returns-in_err-unfolded-clause-later c = subst (λ (t : List (ℕ × ℕ)). IsLater c.args.self.now c.roots.new.self c.args.aig.now c.roots.new.aig c.args.places.now t) (sym c.functions.ensures.same) c.roots.ensures.later

pub returns-clause-unfolded : goal.returns-clause-unfolded
returns-clause-unfolded c =
    let w = c.roots.new.self in
    let g = c.roots.new.aig in
    let places = c.roots.new.places in
    let sound : IsSound w.net = subst IsSound (c.net-net.ensures ∙ sym c.roots.ensures.later.net) c.keeps.ensures.sound in
    subst (λ (t : List (ℕ × ℕ)). AllZip (λ (s : Signal) (u : Unfolded). IsUnfolded w.net w.order g t s.0 u.lit.0 u.vars) c.args.signals.now c.in_ok-unfolded.unfolded.items) (sym c.functions.ensures.same)
    (zip_weaker (IsFound w places) (λ (s : Signal) (u : Unfolded). IsUnfolded w.net w.order g places s.0 u.lit.0 u.vars)
    (λ s u f. unfolded_from w sound g places c.in_ok-lits.ensures.fits.holds s.0 u.lit f.0 u.vars f.1) c.args.signals.now c.in_ok-unfolded.unfolded.items c.in_ok-unfolded.ensures.found)

pub returns-clause-fits : goal.returns-clause-fits
returns-clause-fits c = subst (λ (t : List (ℕ × ℕ)). Fits c.roots.new.self c.roots.new.aig t) (sym c.functions.ensures.same) c.in_ok-lits.ensures.fits

pub returns-clause-later : goal.returns-clause-later
returns-clause-later c = subst (λ (t : List (ℕ × ℕ)). IsLater c.args.self.now c.roots.new.self c.args.aig.now c.roots.new.aig c.args.places.now t) (sym c.functions.ensures.same) c.roots.ensures.later

pub returns-clause-over : goal.returns-clause-over
returns-clause-over c = λ e. absurd (not_both e)

pub roots-requires-clause-signals : goal.roots-requires-clause-signals
roots-requires-clause-signals c = c.requires.signals
