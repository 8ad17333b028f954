-- The words of the places that are read have the bits more, and no others.
use Rattle.std.proofs.Common.{◌≡◌, ◌∙◌, ◌<◌, ℕ, List, length, get_or, refl, sym, subst, arith}
use Rattle.std.specs.List.{All, Contains}
use Rattle.std.proofs.lemmas.Option.{slice_get_read, same_Some}
use Rattle.cbf_unfold.specs.unfold_places.Visitors.{Gives}
use Rattle.cbf_unfold.proofs.unfold_places.Words.{no_bit, gives_none}
use Rattle.cbf_unfold.proofs.unfold_places.visitors.pass_on.Goals as goal

pub give_all-requires : goal.give_all-requires
give_all-requires c =
    let at = slice_get_read c.args.links.now (length c.args.links.now) c.args.at c.index-links-at.result refl (omega (arith, c.requires.at, c.requires.size)) c.index-links-at.is in
    subst (λ (l : List ℕ). All (λ n. n < length c.args.words.now) l) (sym c.as_slice.ensures) (c.requires.within c.index-links-at.result at)

pub returns-then-word-eq0 : goal.returns-then-word-eq0
returns-then-word-eq0 c = λ numbers at. gives_none (Contains numbers) _ c.args.words.now (λ i k bit to. no_bit _ k c.if-word-eq0.true bit)

pub returns : goal.returns
returns c = λ numbers here.
    let at = slice_get_read c.args.links.now (length c.args.links.now) c.args.at c.index-links-at.result refl (omega (arith, c.requires.at, c.requires.size)) c.index-links-at.is in
    let one : c.as_slice.result.now ≡ numbers = c.as_slice.ensures ∙ same_Some c.index-links-at.result numbers (sym at ∙ here) in
    subst (λ (l : List ℕ). Gives (Contains l) (get_or c.args.words.now c.args.at 0) c.args.words.now c.give_all.new.words) one c.give_all.ensures
