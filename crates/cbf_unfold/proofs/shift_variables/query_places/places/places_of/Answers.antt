-- One variable more, at the place of the one before it or at a new one.
use Rattle.std.proofs.Common.{◌≡◌, ◌+◌, ◌∙◌, ◌<◌, ℕ, List, [], ◌∷◌, ◌++◌, length, take, get_or, sym, ap, subst}
use Rattle.std.proofs.lemmas.List.{take_more, take_all}
use Rattle.circuit_theory.specs.Query.{Variable}
use Rattle.cbf_unfold.proofs.shift_variables.Reading.{pair_is}
use Rattle.cbf_unfold.specs.shift_variables.query_places.Places.{place_of, ArePlacesOf, ComeInTurn}
use Rattle.cbf_unfold.proofs.shift_variables.query_places.Growing.{places_none, turn_none, places_same, places_more, new_at, met_at, turn_more}
use Rattle.cbf_unfold.proofs.shift_variables.query_places.places.places_of.Goals as goal

pub loop-i-init : goal.loop-i-init
loop-i-init c =
    let none : c.new-places.result.items ≡ [] = c.new-places.ensures.items in
    record {
      are = subst (ArePlacesOf c.args.table.now []) (sym none) (places_none c.args.table.now);
      turn = subst (ComeInTurn c.args.table.now c.args.vars.now) (sym none) (turn_none c.args.table.now c.args.vars.now);
    }

pub loop-i-preserved-then-is_met_before : goal.loop-i-preserved-then-is_met_before
loop-i-preserved-then-is_met_before c =
    let table = c.args.table.now in
    let vars = c.args.vars.now in
    let places = c.loop-i.places.items in
    let i = c.loop-i.i in
    let inside : i < length vars = c.loop-i-test.true in
    record {
      are = subst (λ (vs : List ℕ). ArePlacesOf table vs places) (sym (take_more vars i 0 inside))
          (places_same table (take i vars) places (get_or vars i 0) c.loop-i.invariant.are
          (met_at table vars places i inside (c.is_met_before.ensures.some c.if-is_met_before.true) (c.is_met_before.ensures.same c.if-is_met_before.true) c.loop-i.invariant.are));
      turn = c.loop-i.invariant.turn;
    }

pub loop-i-preserved : goal.loop-i-preserved
loop-i-preserved c =
    let table = c.args.table.now in
    let vars = c.args.vars.now in
    let places = c.loop-i.places.items in
    let i = c.loop-i.i in
    let inside : i < length vars = c.loop-i-test.true in
    let v = get_or vars i 0 in
    let place : c.pair-place.result.1 ≡ place_of table v = sym (ap (λ (x : Variable ℕ). x.at) (pair_is table v c.pair-place.result c.pair-place.ensures)) in
    let pushed : c.push.new.self.items ≡ places ++ place_of table v ∷ [] = c.in_ok-push.ensures.items ∙ ap (λ (k : ℕ). places ++ k ∷ []) place in
    record {
      are = subst (ArePlacesOf table (take (i + 1) vars)) (sym pushed)
          (subst (λ (vs : List ℕ). ArePlacesOf table vs (places ++ place_of table v ∷ [])) (sym (take_more vars i 0 inside))
          (places_more table (take i vars) places v c.loop-i.invariant.are (new_at table vars places i inside c.requires.grouped (c.is_met_before.ensures.new c.if-is_met_before.false) c.loop-i.invariant.are)));
      turn = subst (ComeInTurn table vars) (sym pushed) (turn_more table vars places i inside c.loop-i.invariant.are c.loop-i.invariant.turn);
    }

pub returns-clause-places : goal.returns-clause-places
returns-clause-places c =
    subst (ArePlacesOf c.args.table.now c.args.vars.now) (sym c.from_vec.ensures)
    (subst (λ (vs : List ℕ). ArePlacesOf c.args.table.now vs c.loop-i.places.items) (take_all c.loop-i.i c.args.vars.now c.loop-i-test.false) c.loop-i.invariant.are)

pub returns-clause-turn : goal.returns-clause-turn
returns-clause-turn c = subst (ComeInTurn c.args.table.now c.args.vars.now) (sym c.from_vec.ensures) c.loop-i.invariant.turn
