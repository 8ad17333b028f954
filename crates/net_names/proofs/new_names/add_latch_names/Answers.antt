use Rattle.std.proofs.Common.{◌≡◌, ◌∙◌, ℕ, not, Bool, true, false, List, ◌++◌, map, take, refl, sym, ap, subst}
use Rattle.std.specs.List.{Contains}
use Rattle.base_tables.specs.Table.{is_among}
use Rattle.circuit_theory.specs.declared.Side.TheVariants.{A}
use Rattle.flat_net.specs.declared.parts.LatchAt.{LatchAt}
use Rattle.net_names.specs.Renamed.{name_on, new_name}
use Rattle.net_names.proofs.Copies.{item_at}
use Rattle.net_names.proofs.Renamings.{is_taken, other, some_left}
use Rattle.net_names.proofs.new_names.add_latch_names.Goals as goal

-- what isn't new was there
was_there : (added there : Bool) → added ≡ not there → added ≡ false → there ≡ true
was_there added true e f = refl
was_there added false e f = absurd (let g : true ≡ false = sym e ∙ f in cc)

pub line_of-requires : goal.line_of-requires
line_of-requires c =
    let n = c.args.net.now in
    let ps = c.args.pairs.now in
    let j = c.loop-latch.latch-index in
    let l = c.latch-item.result in
    let at = item_at n.latches _ j l c.latches-latch-items.ensures c.loop-latch-test.true c.latch-item.is in
    let name = c.new_name-name.ensures ∙ ap (new_name ps) c.as_slice.ensures in
    let there = sym (ap (λ (ns : List (List ℕ)). is_among ns (new_name ps l.name)) (c.loop-latch.invariant ∙ ap (λ (ns : List (List ℕ)). ns ++ map (λ (x : LatchAt). new_name ps x.name) (take j n.latches)) c.requires.first)) ∙ ap (is_among c.loop-latch.names) (sym name) ∙ was_there c.in_ok-add.field-0 (is_among c.loop-latch.names c.new_name-name.result.now) c.in_ok-add.ensures.new c.if-not-branch.true in
    subst (Contains (map (name_on A) ps)) (sym name) (some_left n c.keeps.ensures.sound c.requires.laid ps j l at (other n c.keeps.ensures.sound c.requires.laid ps j l at there))

pub returns-then-not-branch-clause-err : goal.returns-then-not-branch-clause-err
returns-then-not-branch-clause-err c =
    let n = c.args.net.now in
    let ps = c.args.pairs.now in
    let j = c.loop-latch.latch-index in
    let l = c.latch-item.result in
    let at = item_at n.latches _ j l c.latches-latch-items.ensures c.loop-latch-test.true c.latch-item.is in
    let name = c.new_name-name.ensures ∙ ap (new_name ps) c.as_slice.ensures in
    let there = sym (ap (λ (ns : List (List ℕ)). is_among ns (new_name ps l.name)) (c.loop-latch.invariant ∙ ap (λ (ns : List (List ℕ)). ns ++ map (λ (x : LatchAt). new_name ps x.name) (take j n.latches)) c.requires.first)) ∙ ap (is_among c.loop-latch.names) (sym name) ∙ was_there c.in_ok-add.field-0 (is_among c.loop-latch.names c.new_name-name.result.now) c.in_ok-add.ensures.new c.if-not-branch.true in
    let h = c.line_of.ensures in
    (h.0, h.1, h.3, is_taken n c.keeps.ensures.sound c.requires.laid ps j l at h.0 (h.2 ∙ name) (other n c.keeps.ensures.sound c.requires.laid ps j l at there))
