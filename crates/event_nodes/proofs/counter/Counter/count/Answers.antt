-- The place was there, or it goes last and adds to the weight.
use Rattle.std.proofs.Common.{◌≡◌, ◌∙◌, ℕ, List, length, sym, subst, arith}
use Rattle.flat_net.proofs.circuit_theory.Lists.{of_at}
use Rattle.aig.specs.Adds.{Adds}
use Rattle.event_nodes.specs.Visited.{CounterView, IsWeighed}
use Rattle.event_nodes.proofs.Counting.{counted_cases, counted_old, counted_new, room_for_place, weight_fits, weighed_more, passed_weight, ok_apart, large_apart}
use Rattle.aig.proofs.Lists.{adds_none}
use Rattle.aig.proofs.Interned.{interned}
use Rattle.event_nodes.proofs.counter.Counter.count.Goals as goal

pub intern-requires : goal.intern-requires
intern-requires c = room_for_place c.args.net.now (record { places = c.self.inside.places; weight = c.self.inside.weight }) (subst (IsWeighed c.args.net.now) (sym c.self.view_is) c.requires.weighed)

pub returns-in_err-intern-clause-adds : goal.returns-in_err-intern-clause-adds
returns-in_err-intern-clause-adds c =
    subst (λ (w : CounterView). Adds (λ (q : ℕ × ℕ). q ≡ (c.args.node, c.args.s.0)) w.places c.intern.new.self) c.self.view_is (adds_none (λ (q : ℕ × ℕ). q ≡ (c.args.node, c.args.s.0)) c.self.inside.places c.intern.new.self c.in_err-intern.ensures.err)

pub returns-then-after-before-clause-adds : goal.returns-then-after-before-clause-adds
returns-then-after-before-clause-adds c =
    subst (λ (w : CounterView). Adds (λ (q : ℕ × ℕ). q ≡ (c.args.node, c.args.s.0)) w.places c.intern.new.self) c.self.view_is (interned _ _ _ c.in_ok-intern.ensures.known c.in_ok-intern.ensures.added).0

pub returns-then-after-before-clause-here : goal.returns-then-after-before-clause-here
returns-then-after-before-clause-here c = of_at c.intern.new.self _ (c.args.node, c.args.s.0) c.in_ok-intern.ensures.here

pub returns-then-after-before-clause-weighed : goal.returns-then-after-before-clause-weighed
returns-then-after-before-clause-weighed c =
    let same : length c.intern.new.self ≡ length c.self.inside.places = sym c.len-after.ensures ∙ (c.if-after-before.true ∙ c.len-before.ensures) in
    let old = counted_old _ _ _ (counted_cases c.self.inside.places c.intern.new.self (c.args.node, c.args.s.0) c.in_ok-intern.ensures.known c.in_ok-intern.ensures.added) same in
    subst (λ (l : List (ℕ × ℕ)). IsWeighed c.args.net.now (record { places = l; weight = c.self.inside.weight })) (sym old.0) (subst (IsWeighed c.args.net.now) (sym c.self.view_is) c.requires.weighed)

pub overflow_sub-self-inside : goal.overflow_sub-self-inside
overflow_sub-self-inside c = (subst (IsWeighed c.args.net.now) (sym c.self.view_is) c.requires.weighed).small

pub weigh-requires : goal.weigh-requires
weigh-requires c = c.requires.signal

pub returns-in_default-clause-adds : goal.returns-in_default-clause-adds
returns-in_default-clause-adds c =
    subst (λ (w : CounterView). Adds (λ (q : ℕ × ℕ). q ≡ (c.args.node, c.args.s.0)) w.places c.intern.new.self) c.self.view_is (interned _ _ _ c.in_ok-intern.ensures.known c.in_ok-intern.ensures.added).0

pub overflow_add-self : goal.overflow_add-self
overflow_add-self c =
    let fits = weight_fits c.self.inside.weight c.in-Some.more (subst (IsWeighed c.args.net.now) (sym c.self.view_is) c.requires.weighed).small c.in-Some.ensures.room in
    omega (arith, fits)

pub returns-clause-adds : goal.returns-clause-adds
returns-clause-adds c =
    subst (λ (w : CounterView). Adds (λ (q : ℕ × ℕ). q ≡ (c.args.node, c.args.s.0)) w.places c.intern.new.self) c.self.view_is (interned _ _ _ c.in_ok-intern.ensures.known c.in_ok-intern.ensures.added).0

pub returns-clause-here : goal.returns-clause-here
returns-clause-here c = of_at c.intern.new.self _ (c.args.node, c.args.s.0) c.in_ok-intern.ensures.here

pub returns-clause-weighed : goal.returns-clause-weighed
returns-clause-weighed c =
    let cases = counted_cases c.self.inside.places c.intern.new.self (c.args.node, c.args.s.0) c.in_ok-intern.ensures.known c.in_ok-intern.ensures.added in
    weighed_more c.args.net.now c.keeps.ensures.sound (record { places = c.self.inside.places; weight = c.self.inside.weight }) (subst (IsWeighed c.args.net.now) (sym c.self.view_is) c.requires.weighed) c.intern.new.self (c.args.node, c.args.s.0)
    (counted_new _ _ _ cases (λ same. c.if-after-before.false (c.len-after.ensures ∙ (same ∙ sym c.len-before.ensures)))) c.in-Some.more c.in-Some.ensures.here c.in-Some.ensures.room

pub returns-in_default-clause-large : goal.returns-in_default-clause-large
returns-in_default-clause-large c = λ is.
    let cases = counted_cases c.self.inside.places c.intern.new.self (c.args.node, c.args.s.0) c.in_ok-intern.ensures.known c.in_ok-intern.ensures.added in
    passed_weight c.args.net.now c.keeps.ensures.sound (record { places = c.self.inside.places; weight = c.self.inside.weight }) (subst (IsWeighed c.args.net.now) (sym c.self.view_is) c.requires.weighed) c.intern.new.self (c.args.node, c.args.s.0)
    (counted_new _ _ _ cases (λ same. c.if-after-before.false (c.len-after.ensures ∙ (same ∙ sym c.len-before.ensures)))) c.in_default.ensures.none

pub returns-in_default-clause-many : goal.returns-in_default-clause-many
returns-in_default-clause-many c = λ is. large_apart is

pub returns-clause-large : goal.returns-clause-large
returns-clause-large c = λ is. ok_apart _ is

pub returns-clause-many : goal.returns-clause-many
returns-clause-many c = λ is. ok_apart _ is

pub returns-then-after-before-clause-large : goal.returns-then-after-before-clause-large
returns-then-after-before-clause-large c = λ is. ok_apart _ is

pub returns-then-after-before-clause-many : goal.returns-then-after-before-clause-many
returns-then-after-before-clause-many c = λ is. ok_apart _ is
