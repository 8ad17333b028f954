-- The node is read as its anchor, or as itself.
use Rattle.std.proofs.Common.{◌≡◌, ◌∙◌, ◌*◌, ◌<◌, ℕ, Bool, List, length, Option, subst, sym}
use Rattle.std.specs.Prelude.{IfSome}
use Rattle.std.specs.List.{All}
use Rattle.aig.specs.declared.node.Lit.{Lit}
use Rattle.aig.specs.Values.{value}
use Rattle.signal_refine.specs.Copies.{HaveAt, node_at}
use Rattle.signal_refine.specs.Asking.{IsShown}
use Rattle.signal_refine.proofs.Caring.{held_within, own_within}
use Rattle.signal_refine.proofs.Framing.{within_grows}
use Rattle.signal_refine.proofs.Knowing.{known_grows}
use Rattle.signal_refine.proofs.Settling.{swept_shown, swept_kept}
use Rattle.signal_refine.proofs.sweep.sweep_node.Goals as goal

pub kept_for-kept-requires-clause-known : goal.kept_for-kept-requires-clause-known
kept_for-kept-requires-clause-known c = known_grows c.args.facts.now.aig c.node_literal.new.aig c.in_ok-made.ensures.grows c.args.facts.now.kept.items c.requires.known

pub try_tie-requires-clause-known : goal.try_tie-requires-clause-known
try_tie-requires-clause-known c = known_grows c.args.facts.now.aig c.node_literal.new.aig c.in_ok-made.ensures.grows c.args.facts.now.kept.items c.requires.known

pub try_tie-requires-clause-held : goal.try_tie-requires-clause-held
try_tie-requires-clause-held c = held_within c.args.asked.now.care c.args.asked.now.before.now c.args.facts.now.aig c.node_literal.new.aig c.in_ok-made.ensures.grows c.requires.held

pub try_tie-requires-clause-own : goal.try_tie-requires-clause-own
try_tie-requires-clause-own c = own_within c.args.asked.now.before.now c.args.facts.now.aig c.node_literal.new.aig c.in_ok-made.ensures.grows c.requires.held.2 c.kept_for-kept.result c.read_for-own.result c.read_for-own.ensures.within c.kept_for-kept.ensures.within

pub try_tie-requires-clause-within : goal.try_tie-requires-clause-within
try_tie-requires-clause-within c =
    subst (All (λ (x : Lit). x.0 < 2 * length c.node_literal.new.aig)) (sym c.deref-2.ensures.value) (within_grows c.args.facts.now.aig c.node_literal.new.aig c.in_ok-made.ensures.grows c.args.read.now.items c.requires.within)

pub returns-in_ok-push-in-Some-clause-swept : goal.returns-in_ok-push-in-Some-clause-swept
returns-in_ok-push-in-Some-clause-swept c =
    let w = c.args.asked.now in
    let base = w.base.now in
    let from = c.args.facts.now.aig in
    let g = c.node_literal.new.aig in
    let h = c.try_tie.new.facts.aig in
    let old = c.args.read.now.items in
    let made = c.in_ok-made.made in
    let own = c.read_for-own.result in
    swept_shown base w.leaves.now w.care w.before.now c.args.anchors.now from g h c.in_ok-made.ensures.grows c.in_ok-shown.ensures.grows old c.args.n c.requires.each c.requires.within c.requires.held own c.push.new.self.items
    (λ a k on at read. c.read_for-own.ensures.value g a on.1 ∙ (c.kept_for-kept.ensures.same a ∙ (subst (λ (l : List Lit). (a k : ℕ → Bool) → HaveAt k from a w.leaves.now → HaveAt (node_at base k) from a l → value g a made.0 ≡ node_at base k c.args.n) c.deref.ensures.value c.in_ok-made.ensures.value) a k at read)) c.in-Some.lit c.in_ok-push-in-Some.ensures.items
    (subst (λ (o : Option Lit). IfSome o (λ l. l.0 < 2 * length h)) c.in-Some.is c.in_ok-shown.ensures.within)
    (subst (λ (l : List Lit). IsShown base l w.care w.before.now c.args.anchors.now g own h c.in-Some.lit) c.deref-2.ensures.value
    (subst (λ (o : Option Lit). IfSome o (IsShown base c.deref-2.result.now w.care w.before.now c.args.anchors.now g own h)) c.in-Some.is c.in_ok-shown.ensures.shown))

pub returns-in_ok-push-in-None-clause-swept : goal.returns-in_ok-push-in-None-clause-swept
returns-in_ok-push-in-None-clause-swept c =
    let w = c.args.asked.now in
    let base = w.base.now in
    let from = c.args.facts.now.aig in
    let g = c.node_literal.new.aig in
    let made = c.in_ok-made.made in
    let own = c.read_for-own.result in
    swept_kept base w.leaves.now w.care w.before.now c.args.anchors.now from g c.try_tie.new.facts.aig c.in_ok-made.ensures.grows c.in_ok-shown.ensures.grows c.args.read.now.items c.args.n c.requires.each c.requires.within c.requires.held own c.push-in-None.new.self.items
    (λ a k on at read. c.read_for-own.ensures.value g a on.1 ∙ (c.kept_for-kept.ensures.same a ∙ (subst (λ (l : List Lit). (a k : ℕ → Bool) → HaveAt k from a w.leaves.now → HaveAt (node_at base k) from a l → value g a made.0 ≡ node_at base k c.args.n) c.deref.ensures.value c.in_ok-made.ensures.value) a k at read)) c.in_ok-push-in-None.ensures.items
    (own_within w.before.now from g c.in_ok-made.ensures.grows c.requires.held.2 c.kept_for-kept.result own c.read_for-own.ensures.within c.kept_for-kept.ensures.within)
