-- The complement of the and of the two shorter literals.
use Rattle.std.proofs.Common.{◌≡◌, ◌∙◌, ◌*◌, ◌<◌, ℕ, List, length, sym, ap, subst}
use Rattle.event_nodes.specs.Graph.{flip}
use Rattle.event_nodes.specs.Node.{Node}
use Rattle.event_nodes.specs.Rules.{IsAndOf}
use Rattle.event_nodes.proofs.Literals.{flip-within, flip-twice}
use Rattle.edbf_unfold.specs.event_literals.ShortOr.{short_and}
use Rattle.edbf_unfold.proofs.event_literals.OrStaying.{made_is}
use Rattle.edbf_unfold.proofs.unfolder.care.enable_of.Goals as goal

-- the and of the two that were found, where one of both was the complement of the low function
found_is : (g h graph : List Node) (low l r left right k : ℕ) → graph ≡ g → l ≡ flip low → left ≡ (short_and graph l r).0 → right ≡ (short_and graph l r).1 → IsAndOf h left right k →
    IsAndOf h (short_and g (flip low) (flip (flip r))).0 (short_and g (flip low) (flip (flip r))).1 k
found_is g h graph low l r left right k here complement left_is right_is and =
    subst (λ (y : ℕ). IsAndOf h (short_and g (flip low) y).0 (short_and g (flip low) y).1 k) (sym (flip-twice r))
    (subst (λ (p : ℕ × ℕ). IsAndOf h p.0 p.1 k) (ap (λ (n : List Node). short_and n l r) here ∙ ap (λ (x : ℕ). short_and g x r) complement)
    (subst (λ (x : ℕ). IsAndOf h x (short_and graph l r).1 k) left_is (subst (λ (y : ℕ). IsAndOf h left y k) right_is and)))

pub short_and-requires-clause-l : goal.short_and-requires-clause-l
short_and-requires-clause-l c = subst (λ (g : List Node). c.not.result.0 < 2 * length g) (sym c.aig.ensures) (c.not.ensures.within (length c.args.events.now.graph) c.requires.low)

pub returns-clause-here : goal.returns-clause-here
returns-clause-here c =
    made_is c.args.events.now.graph c.and.new.self.graph c.keeps.ensures.events.is_graph c.and.ensures.grows.graph c.args.low.0 (flip c.args.high.0) c.in_ok-hold.hold.0 c.not-2.result.0
    c.requires.low (flip-within c.args.high.0 (length c.args.events.now.graph) c.requires.high)
    (found_is c.args.events.now.graph c.and.new.self.graph c.aig.result.now c.args.low.0 c.not.result.0 c.args.high.0 c.short_and.result.0.0 c.short_and.result.1.0 c.in_ok-hold.hold.0
    c.aig.ensures c.not.ensures.literal c.short_and.ensures.left c.short_and.ensures.right c.in_ok-hold.ensures.here)
    c.not-2.ensures.literal

pub returns-clause-within : goal.returns-clause-within
returns-clause-within c = c.not-2.ensures.within (length c.and.new.self.graph) c.in_ok-hold.ensures.within
