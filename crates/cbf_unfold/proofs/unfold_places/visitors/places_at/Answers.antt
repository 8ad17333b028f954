-- One place more.
use Rattle.std.proofs.Common.{◌+◌, ◌<◌, ℕ, List, length, take, sym, subst}
use Rattle.std.proofs.lemmas.List.{take_all}
use Rattle.std.proofs.lemmas.List.Elements.{All-get_or}
use Rattle.cbf_unfold.specs.unfold_places.Visitors.{ArePlacesAt}
use Rattle.cbf_unfold.proofs.unfold_places.Zips.{zip_more_left}
use Rattle.cbf_unfold.proofs.unfold_places.Candidates.{IsAt}
use Rattle.cbf_unfold.proofs.unfold_places.visitors.places_at.Goals as goal

pub place-requires : goal.place-requires
place-requires c = All-get_or (λ (i : ℕ). i < length c.args.memo.now) c.args.numbers.now c.loop-number.number-index 0 c.loop-number-test.true c.requires

pub loop-number-preserved : goal.loop-number-preserved
loop-number-preserved c =
    subst (λ (l : List (ℕ × ℕ)). ArePlacesAt c.args.memo.now (take (c.loop-number.number-index + 1) c.args.numbers.now) l) (sym c.in_ok-push.ensures.items)
    (zip_more_left (IsAt c.args.memo.now) c.args.numbers.now c.loop-number.places.items c.loop-number.number-index 0 c.place.result c.loop-number-test.true c.loop-number.invariant c.place.ensures)

pub returns : goal.returns
returns c = subst (λ (l : List ℕ). ArePlacesAt c.args.memo.now l c.loop-number.places.items) (take_all c.loop-number.number-index c.args.numbers.now c.loop-number-test.false) c.loop-number.invariant
