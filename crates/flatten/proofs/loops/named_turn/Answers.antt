use Rattle.std.proofs.Common.{◌<◌, ◌∙◌, ℕ, List, length, drop, take, sym, subst}
use Rattle.std.specs.List.{All}
use Rattle.std.proofs.lemmas.List.Elements.{All-append, All-drop, All-take}
use Rattle.flatten.proofs.loops.named_turn.Goals as goal

pub names_of-requires : goal.names_of-requires
names_of-requires c =
    let size = length c.args.flat.now.names in
    let numbers = c.args.numbers.now in
    let place = c.least-place.result in
    subst (λ (z : List ℕ). All (λ n. n < size) z) (sym (c.deref.ensures.value ∙ c.in_ok-made.ensures))
    (All-append (λ n. n < size) (drop place numbers) (take place numbers) (All-drop (λ n. n < size) place numbers c.requires.within) (All-take (λ n. n < size) place numbers c.requires.within))
