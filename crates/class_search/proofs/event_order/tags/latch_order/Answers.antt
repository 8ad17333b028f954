-- The latches of both nets by their turns.
use Rattle.std.proofs.Common.{◌≡◌, ◌∙◌, ◌++◌, ℕ, List, Option, length, sym, ap, subst}
use Rattle.std.proofs.lemmas.Result.{IfOk-weaker}
use Rattle.std.specs.List.{AllZip}
use Rattle.sec_base.specs.declared.basics.Tag.{Tag}
use Rattle.class_search.specs.declared.event_order.turns.Turn.{Turn}
use Rattle.class_search.specs.event_order.Turns.{AreTurns, HavePutDepths, IsTagAt}
use Rattle.class_search.proofs.event_order.BothLatches.{numbers_low, tags_named, tags_ordered}
use Rattle.class_search.proofs.event_order.tags.latch_order.Goals as goal

pub tags_of-requires-clause-within : goal.tags_of-requires-clause-within
tags_of-requires-clause-within c =
    let l : HavePutDepths c.args.left.now c.new-depths.result.items c.put_depths.new.depths.items = c.in_ok-put_depths.ensures in
    let r : HavePutDepths c.args.right.now c.put_depths.new.depths.items c.put_depths-2.new.depths.items = c.in_ok-put_depths-2.ensures in
    let all : c.as_slice.result.now ≡ l.0 ++ r.0 = c.as_slice.ensures.value ∙ (r.1 ∙ ap (λ (ds : List (Option ℕ)). ds ++ r.0) (l.1 ∙ ap (λ (ds : List (Option ℕ)). ds ++ l.0) c.new-depths.ensures.items)) in
    let turns : AreTurns (l.0 ++ r.0) c.as_slice-2.result.now = subst (λ (ds : List (Option ℕ)). AreTurns ds c.as_slice-2.result.now) all (subst (AreTurns c.as_slice.result.now) (sym c.as_slice-2.ensures.value) c.in_ok-turns.ensures) in
    numbers_low c.args.left.now c.args.right.now c.keeps-2.ensures.sound l.0 r.0 l.2 r.2 c.as_slice-2.result.now c.latches.result.now c.latches.ensures turns

pub returns-clause-named : goal.returns-clause-named
returns-clause-named c =
    let l : HavePutDepths c.args.left.now c.new-depths.result.items c.put_depths.new.depths.items = c.in_ok-put_depths.ensures in
    let r : HavePutDepths c.args.right.now c.put_depths.new.depths.items c.put_depths-2.new.depths.items = c.in_ok-put_depths-2.ensures in
    let all : c.as_slice.result.now ≡ l.0 ++ r.0 = c.as_slice.ensures.value ∙ (r.1 ∙ ap (λ (ds : List (Option ℕ)). ds ++ r.0) (l.1 ∙ ap (λ (ds : List (Option ℕ)). ds ++ l.0) c.new-depths.ensures.items)) in
    let turns : AreTurns (l.0 ++ r.0) c.as_slice-2.result.now = subst (λ (ds : List (Option ℕ)). AreTurns ds c.as_slice-2.result.now) all (subst (AreTurns c.as_slice.result.now) (sym c.as_slice-2.ensures.value) c.in_ok-turns.ensures) in
    IfOk-weaker c.tags_of.result _ _ (λ tags at. tags_named c.args.left.now c.args.right.now c.keeps.ensures.sound c.keeps-2.ensures.sound l.0 r.0 l.2 r.2 c.as_slice-2.result.now turns tags.items (subst (λ (n : ℕ). AllZip (λ (turn : Turn) (tag : Tag). IsTagAt n turn.number tag) c.as_slice-2.result.now tags.items) (ap length c.latches.ensures) at)) c.tags_of.ensures

pub returns-clause-order : goal.returns-clause-order
returns-clause-order c =
    let l : HavePutDepths c.args.left.now c.new-depths.result.items c.put_depths.new.depths.items = c.in_ok-put_depths.ensures in
    let r : HavePutDepths c.args.right.now c.put_depths.new.depths.items c.put_depths-2.new.depths.items = c.in_ok-put_depths-2.ensures in
    let all : c.as_slice.result.now ≡ l.0 ++ r.0 = c.as_slice.ensures.value ∙ (r.1 ∙ ap (λ (ds : List (Option ℕ)). ds ++ r.0) (l.1 ∙ ap (λ (ds : List (Option ℕ)). ds ++ l.0) c.new-depths.ensures.items)) in
    let turns : AreTurns (l.0 ++ r.0) c.as_slice-2.result.now = subst (λ (ds : List (Option ℕ)). AreTurns ds c.as_slice-2.result.now) all (subst (AreTurns c.as_slice.result.now) (sym c.as_slice-2.ensures.value) c.in_ok-turns.ensures) in
    IfOk-weaker c.tags_of.result _ _ (λ tags at left right class. tags_ordered c.args.left.now c.args.right.now c.keeps.ensures.sound c.keeps-2.ensures.sound l.0 r.0 l.2 r.2 c.as_slice-2.result.now turns tags.items (subst (λ (n : ℕ). AllZip (λ (turn : Turn) (tag : Tag). IsTagAt n turn.number tag) c.as_slice-2.result.now tags.items) (ap length c.latches.ensures) at) left right class) c.tags_of.ensures
