-- What tells two classes apart stands at its place.
use Rattle.std.proofs.Common.{◌≡◌, ◌∙◌, ◌+◌, ◌-◌, ◌*◌, ◌/◌, ℕ, slice_get, Some, sym, ap, subst, arith}
use Rattle.std.proofs.lemmas.Option.{slice_get-get_or, slice_get_within}
use Rattle.flat_net.proofs.Places.{All-at, one_at}
use Rattle.event_classes.specs.Order.{place_of}
use Rattle.event_classes.specs.KeptApart.{Apart}
use Rattle.event_classes.specs.Apart.{IsApart, pairs_below}
use Rattle.event_classes.specs.Named.{NamesLatches}
use Rattle.event_form.specs.event_agreement.pair_events.View.{side_of_both}
use Rattle.event_form.proofs.event_findings.unshown_pairs.class_events.Pairs.{pairs_are}
use Rattle.event_form.proofs.event_findings.unshown_pairs.class_events.separated.apart_at.Goals as goal

pub bounds-aparts-high : goal.bounds-aparts-high
bounds-aparts-high c =
    let x = c.requires.separated.apart.each c.args.low c.args.high c.requires.below c.requires.high in
    let inside = slice_get_within c.args.aparts.now (pairs_below c.args.high + c.args.low) x.0 x.1 in
    omega (arith, inside, pairs_are c.args.high)

pub returns : goal.returns
returns c =
    let x = c.requires.separated.apart.each c.args.low c.args.high c.requires.below c.requires.high in
    let number : ℕ = c.args.high * (c.args.high - 1) / 2 + c.args.low in
    let told : Apart = c.index-aparts-high.result in
    let place : pairs_below c.args.high + c.args.low ≡ number = ap (λ (k : ℕ). k + c.args.low) (pairs_are c.args.high) in
    let here : slice_get c.args.aparts.now number ≡ Some x.0 = subst (λ (k : ℕ). slice_get c.args.aparts.now k ≡ Some x.0) place x.1 in
    let found : slice_get c.args.aparts.now number ≡ Some told = slice_get-get_or c.args.aparts.now number told (slice_get_within c.args.aparts.now number x.0 here) ∙ ap Some (sym c.index-aparts-high.is) in
    record {
      names = All-at (NamesLatches c.args.events.now.left.net c.args.events.now.right.net) c.args.aparts.now number told found c.requires.separated.names;
      classes = c.requires.separated.classes;
      apart = subst (IsApart (side_of_both c.args.events.now) c.args.events.now.events (place_of c.args.events.now.left.net c.args.events.now.right.net) c.requires.separated.classes.order c.args.low c.args.high)
          (one_at c.args.aparts.now number x.0 told here found) x.2;
    }
