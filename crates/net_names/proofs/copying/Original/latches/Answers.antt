use Rattle.std.proofs.Common.{◌≡◌, ◌∙◌, ℕ, List, [], ◌∷◌, map, refl, ap, Option, Some, None}
use Rattle.std.specs.Prelude.{option_map}
use Rattle.flat_net.specs.declared.parts.LatchAt.{LatchAt}
use Rattle.flat_net.specs.View.{NetView}
use Rattle.net_names.specs.Fronts.{latch_by, latches_by, unnamed}
use Rattle.net_names.proofs.copying.Original.latches.Goals as goal

same_named : (names : List (List ℕ)) (ls : List LatchAt) → map unnamed ls ≡ map unnamed (map (latch_by names) ls)
same_named names [] = refl
same_named names (l ∷ ls) = ap (λ (xs : List LatchAt). unnamed l ∷ xs) (same_named names ls)

same : (names : Option (List (List ℕ))) (ls : List LatchAt) → map unnamed ls ≡ map unnamed (latches_by names ls)
same None ls = refl
same (Some names) ls = same_named names ls

pub returns : goal.returns
returns c =
    let own = c.self.inside in
    ap (map unnamed) c.latches.ensures ∙ same (option_map (λ t. t.now) own.names) own.net.now.latches ∙ ap (λ (n : NetView). map unnamed n.latches) c.self.view_is
