-- The positions of the pairs are in range and distinct.
use Rattle.std.proofs.Common.{◌<◌, ℕ, List, OnOk, length, subst, sym, ap, ◌∙◌}
use Rattle.std.specs.List.{All}
use Rattle.std.proofs.lemmas.List.{length-map}
use Rattle.std.proofs.lemmas.List.Elements.{All-map}
use Rattle.base_tables.specs.Table.{AreDistinct}
use Rattle.latch_graph.specs.minimal_cut.Chosen.{IsFree}
use Rattle.sec_setup.specs.declared.cut_points.expose_pick.pairs.LatchPair.{LatchPair}
use Rattle.sec_setup.specs.cut_points.expose_pick.Pairs.{lefts, rights}
use Rattle.sec_setup.proofs.cut_points.expose_pick.Paired.{distinct_by}
use Rattle.sec_setup.proofs.cut_points.expose_pick.choice.pick.Goals as goal

pub pick_apart-requires-clause-left : goal.pick_apart-requires-clause-left
pick_apart-requires-clause-left c =
    subst (λ (z : List ℕ). All (λ j. j < length c.args.a.now.latches) z) (sym (c.as_slice-3.ensures.value ∙ c.in_ok-left.ensures ∙ ap lefts c.as_slice.ensures))
    (All-map (λ j. j < length c.args.a.now.latches) (λ (p : LatchPair). p.left) c.args.common.now c.requires.left)

pub pick_apart-requires-clause-right : goal.pick_apart-requires-clause-right
pick_apart-requires-clause-right c =
    subst (λ (z : List ℕ). All (λ j. j < length c.args.b.now.latches) z) (sym (c.as_slice-4.ensures.value ∙ c.in_ok-right.ensures ∙ ap rights c.as_slice-2.ensures))
    (All-map (λ j. j < length c.args.b.now.latches) (λ (p : LatchPair). p.right) c.args.common.now c.requires.right)

pub pick_apart-requires-clause-left_once : goal.pick_apart-requires-clause-left_once
pick_apart-requires-clause-left_once c =
    subst (λ (z : List ℕ). AreDistinct z) (sym (c.as_slice-3.ensures.value ∙ c.in_ok-left.ensures ∙ ap lefts c.as_slice.ensures)) (distinct_by (λ (p : LatchPair). p.left) c.args.common.now c.requires.left_once)

pub pick_apart-requires-clause-right_once : goal.pick_apart-requires-clause-right_once
pick_apart-requires-clause-right_once c =
    subst (λ (z : List ℕ). AreDistinct z) (sym (c.as_slice-4.ensures.value ∙ c.in_ok-right.ensures ∙ ap rights c.as_slice-2.ensures)) (distinct_by (λ (p : LatchPair). p.right) c.args.common.now c.requires.right_once)

pub pick_apart-requires-clause-pairs : goal.pick_apart-requires-clause-pairs
pick_apart-requires-clause-pairs c =
    let left = c.as_slice-3.ensures.value ∙ c.in_ok-left.ensures ∙ ap lefts c.as_slice.ensures in
    let right = c.as_slice-4.ensures.value ∙ c.in_ok-right.ensures ∙ ap rights c.as_slice-2.ensures in
    ap length right ∙ length-map c.args.common.now (λ (p : LatchPair). p.right) ∙ sym (length-map c.args.common.now (λ (p : LatchPair). p.left)) ∙ sym (ap length left)

pub returns-clause-left_paired : goal.returns-clause-left_paired
returns-clause-left_paired c = subst (λ (z : List ℕ). OnOk c.pick_apart.result (IsFree c.args.a.now z)) (c.as_slice-3.ensures.value ∙ c.in_ok-left.ensures ∙ ap lefts c.as_slice.ensures) c.pick_apart.ensures.left_paired

pub returns-clause-right_paired : goal.returns-clause-right_paired
returns-clause-right_paired c = subst (λ (z : List ℕ). OnOk c.pick_apart.result (IsFree c.args.b.now z)) (c.as_slice-4.ensures.value ∙ c.in_ok-right.ensures ∙ ap rights c.as_slice-2.ensures) c.pick_apart.ensures.right_paired
