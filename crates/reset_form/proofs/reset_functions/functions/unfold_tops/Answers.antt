-- An unfolder that has unfolded nothing unfolds all.
use Rattle.std.proofs.Common.{◌≡◌, ◌<◌, ℕ, List, length, refl, sym, subst, Err, IfOk}
use Rattle.std.specs.Prelude.{OnOk}
use Rattle.std.specs.List.{All, AllZip}
use Rattle.flat_net.specs.View.{NetView}
use Rattle.cbf_unfold.specs.declared.unfold_places.error.UnfoldError.TheVariants as unfold_error
use Rattle.cbf_unfold.proofs.unfold_places.Lists.{adds_none}
use Rattle.reset_form.specs.reset_functions.Pairs.{AreCyclesOf, IsAmong, IsLight, IsTooLarge}
use Rattle.reset_form.proofs.reset_functions.functions.unfold_tops.Goals as goal

pub new-requires : goal.new-requires
new-requires c = record { order = c.requires.part.order; base = c.requires.part.base; room = c.requires.part.room }

pub returns-in_err-unfolder-clause-adds : goal.returns-in_err-unfolder-clause-adds
returns-in_err-unfolder-clause-adds c = adds_none (λ (p : ℕ × ℕ). Unit {0}) c.args.places.now c.args.places.now refl

pub unfold_all-requires : goal.unfold_all-requires
unfold_all-requires c = record {
  signals = subst (λ (n : NetView). All (λ (p : ℕ × ℕ). p.1 < length n.drivers) c.args.tops.now) (sym c.in_ok-unfolder.ensures.net) c.requires.signals;
  none = c.in_ok-unfolder.ensures.none;
  fits = c.in_ok-unfolder.ensures.fits c.args.aig.now c.args.places.now;
  nodes = c.requires.nodes;
  entries = c.requires.entries;
}

pub returns-clause-unfolded : goal.returns-clause-unfolded
returns-clause-unfolded c =
    let u = c.in_ok-unfolder.unfolder in
    let p = c.args.part.now in
    let g = c.unfold_all.new.aig in
    let places = c.unfold_all.new.places in
    subst (λ (n : NetView). IfOk c.unfold_all.result (λ all. AllZip (AreCyclesOf n p.order.now p.base g places) c.args.tops.now all.items)) c.in_ok-unfolder.ensures.net
    (subst (λ (o : List ℕ). IfOk c.unfold_all.result (λ all. AllZip (AreCyclesOf u.net o p.base g places) c.args.tops.now all.items)) c.in_ok-unfolder.ensures.order
    (subst (λ (k : ℕ). IfOk c.unfold_all.result (λ all. AllZip (AreCyclesOf u.net u.order k g places) c.args.tops.now all.items)) c.in_ok-unfolder.ensures.base c.unfold_all.ensures.unfolded))

pub returns-clause-light : goal.returns-clause-light
returns-clause-light c = subst (λ (n : NetView). OnOk c.unfold_all.result (IsLight n (IsAmong c.args.tops.now))) c.in_ok-unfolder.ensures.net c.unfold_all.ensures.light

pub returns-clause-over : goal.returns-clause-over
returns-clause-over c = subst (λ (n : NetView). c.unfold_all.result ≡ Err unfold_error.TooLarge → IsTooLarge n (IsAmong c.args.tops.now)) c.in_ok-unfolder.ensures.net c.unfold_all.ensures.over
