-- The entry's number, or none where none stands there.
use Rattle.std.proofs.Common.{◌≡◌, ℕ, Some, refl, sym, ◌∙◌, ap, arith}
use Rattle.std.proofs.lemmas.Option.{slice_get_within, same_Some}
use Rattle.cbf_unfold.proofs.unfold_places.Lists.{adds_none, adds_weaker}
use Rattle.aig.proofs.Interned.{interned}
use Rattle.assume_queries.proofs.assume_functions.numbers.number_at.Goals as goal

pub returns-then-v-size-clause-here : goal.returns-then-v-size-clause-here
returns-then-v-size-clause-here c = λ p at. absurd (let h = slice_get_within c.args.own.now c.args.v p at in omega (arith, h, c.len-size.ensures, c.if-v-size.true))

pub returns-then-v-size-clause-adds : goal.returns-then-v-size-clause-adds
returns-then-v-size-clause-adds c = adds_none (λ p. Unit {0}) c.args.places.now c.args.places.now refl

pub returns-in_err-number-clause-adds : goal.returns-in_err-number-clause-adds
returns-in_err-number-clause-adds c = adds_none (λ p. Unit {0}) c.args.places.now c.intern.new.self c.in_err-number.ensures.err

pub returns-clause-here : goal.returns-clause-here
returns-clause-here c = λ p at. c.in_ok-number.ensures.here ∙ ap (λ (q : ℕ × ℕ). Some (q.0, c.args.place)) (same_Some c.pair-input.result p (sym c.pair-input.ensures ∙ at))

pub returns-clause-small : goal.returns-clause-small
returns-clause-small c =
    let inside = slice_get_within c.intern.new.self c.in_ok-number.number _ c.in_ok-number.ensures.here in
    let few = (interned c.args.places.now c.intern.new.self (c.pair-input.result.0, c.args.place) c.in_ok-number.ensures.known c.in_ok-number.ensures.added).1 in
    omega (arith, inside, few, c.requires.room)

pub returns-clause-adds : goal.returns-clause-adds
returns-clause-adds c =
    adds_weaker (λ q. q ≡ (c.pair-input.result.0, c.args.place)) (λ q. Unit {0}) c.args.places.now c.intern.new.self (λ q h. tt)
    (interned c.args.places.now c.intern.new.self (c.pair-input.result.0, c.args.place) c.in_ok-number.ensures.known c.in_ok-number.ensures.added).0

pub returns-clause-one : goal.returns-clause-one
returns-clause-one c = (interned c.args.places.now c.intern.new.self (c.pair-input.result.0, c.args.place) c.in_ok-number.ensures.known c.in_ok-number.ensures.added).1
