-- One number more.
use Rattle.std.proofs.Common.{◌+◌, ◌<◌, ℕ, List, [], length, take, get_or, subst, arith}
use Rattle.std.specs.List.{Contains}
use Rattle.std.proofs.lemmas.List.{take_all, take_more}
use Rattle.std.proofs.lemmas.List.Elements.{All-get_or}
use Rattle.cbf_unfold.specs.unfold_places.Visitors.{Gives}
use Rattle.cbf_unfold.proofs.unfold_places.Words.{gives_none, gives_more}
use Rattle.cbf_unfold.proofs.unfold_places.visitors.give_all.Goals as goal

pub loop-number-init : goal.loop-number-init
loop-number-init c = gives_none (Contains []) c.args.word c.args.words.now (λ i k bit to. omega (arith, to.1))

pub give-requires : goal.give-requires
give-requires c =
    let inside = All-get_or (λ (n : ℕ). n < length c.args.words.now) c.args.numbers.now c.loop-number.number-index 0 c.loop-number-test.true c.requires in
    omega (arith, inside, c.loop-number.invariant.size)

pub loop-number-preserved : goal.loop-number-preserved
loop-number-preserved c =
    gives_more (take c.loop-number.number-index c.args.numbers.now) (take (c.loop-number.number-index + 1) c.args.numbers.now) (get_or c.args.numbers.now c.loop-number.number-index 0) c.args.word c.args.words.now c.loop-number.words c.give.new.words
    (take_more c.args.numbers.now c.loop-number.number-index 0 c.loop-number-test.true) c.loop-number.invariant c.give.ensures

pub returns : goal.returns
returns c = subst (λ (l : List ℕ). Gives (Contains l) c.args.word c.args.words.now c.loop-number.words) (take_all c.loop-number.number-index c.args.numbers.now c.loop-number-test.false) c.loop-number.invariant
