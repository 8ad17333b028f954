-- What a signal is that is met: the root, that of a latch taken out, one of this turn, or a new one.
use Rattle.std.proofs.Common.{◌≡◌, ◌≢◌, ◌∙◌, ℕ, Bool, true, false, not, List, slice_get, Some, refl, sym, ap, inl, inr}
use Rattle.std.proofs.lemmas.Option.{slice_get-get_or}
use Rattle.latch_graph.specs.declared.minimal_cut.marks.Direction.{Direction}
use Rattle.latch_graph.specs.declared.minimal_cut.marks.Direction.TheVariants.{Back, Ahead}
use Rattle.latch_graph.specs.declared.minimal_cut.marks.Mark.{Mark}
use Rattle.latch_graph.specs.declared.minimal_cut.marks.Mark.TheVariants.{Out, Met}
use Rattle.latch_graph.specs.minimal_cut.Walk.{other_way, Meets}
use Rattle.latch_graph.proofs.minimal_cut.walk.meet.Goals as goal

the_other : (way other : Direction) → way ≢ other → other ≡ other_way way
the_other Back Back apart = absurd (apart refl)
the_other Back Ahead apart = refl
the_other Ahead Back apart = refl
the_other Ahead Ahead apart = absurd (apart refl)

-- met in this turn, by this walk or by the other
met_now : (marks : List Mark) (met : List ℕ) (signal : ℕ) (way other : Direction) (root turn : ℕ) (same : Bool) →
    signal ≢ root → slice_get marks signal ≡ Some (Met other turn) → (same ≡ true → way ≡ other) → (same ≡ false → way ≢ other) → Meets marks marks met met signal way root turn (not same)
met_now marks met signal way other root turn true apart at is isnt = (apart, inl (refl, refl, inr (at ∙ ap (λ w. Some (Met w turn)) (sym (is refl)))))
met_now marks met signal way other root turn false apart at is isnt = (refl, refl, inr (at ∙ ap (λ w. Some (Met w turn)) (the_other way other (isnt refl))))

pub returns-in_ok-push-in-Met : goal.returns-in_ok-push-in-Met
returns-in_ok-push-in-Met c =
    let at = slice_get-get_or c.args.marks.now c.args.signal Out c.requires ∙ ap Some c.in-Met.is in
    (c.if-signal-root.false, inr (refl, c.in_ok-push-in-Met.ensures.items, (Met c.in-Met.other c.in-Met.last, at, c.if-last-turn.false)))

pub returns-then-last-turn : goal.returns-then-last-turn
returns-then-last-turn c =
    let at = slice_get-get_or c.args.marks.now c.args.signal Out c.requires ∙ (ap Some c.in-Met.is ∙ ap (λ t. Some (Met c.in-Met.other t)) c.if-last-turn.true) in
    met_now c.args.marks.now c.args.met.now.items c.args.signal c.args.way c.in-Met.other c.args.root c.args.turn c.is.result c.if-signal-root.false at c.is.ensures.yes c.is.ensures.no

pub returns-in-Out : goal.returns-in-Out
returns-in-Out c = (c.if-signal-root.false, inl (refl, refl, inl (slice_get-get_or c.args.marks.now c.args.signal Out c.requires ∙ ap Some c.in-Out.is)))

pub returns-then-signal-root : goal.returns-then-signal-root
returns-then-signal-root c = (refl, refl, inl c.if-signal-root.true)
