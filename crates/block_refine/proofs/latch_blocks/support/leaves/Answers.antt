-- One signal more.
use Rattle.std.proofs.Common.{◌≡◌, ◌∙◌, ◌+◌, ℕ, List, Vec, Global, Some, None, take, get_or, slice_get, subst, sym, ap}
use Rattle.std.specs.List.{filter_map}
use Rattle.std.proofs.lemmas.List.{take_all}
use Rattle.std.proofs.lemmas.Option.{slice_get-get_or}
use Rattle.block_refine.specs.latch_blocks.Signals.{variable_at}
use Rattle.block_refine.proofs.latch_blocks.Reached.{found_more, are_leaves}
use Rattle.block_refine.proofs.latch_blocks.support.leaves.Goals as goal
use Rattle.block_refine.proofs.latch_blocks.support.leaves.Goals.{in-Some+in_ok-push, in_default}

pub variable_at-requires-clause-signal : goal.variable_at-requires-clause-signal
variable_at-requires-clause-signal c =
    let at = slice_get-get_or c.as_slice-s-items.result.now c.loop-s.s-index 0 c.loop-s-test.true in
    let s = get_or c.as_slice-s-items.result.now c.loop-s.s-index 0 in
    c.in_ok-seen.ensures.some.within c.loop-s.s-index s (subst (λ (l : List ℕ). slice_get l c.loop-s.s-index ≡ Some s) c.as_slice-s-items.ensures at)

pub loop-s-preserved : goal.loop-s-preserved
loop-s-preserved c =
    let at = slice_get-get_or c.as_slice-s-items.result.now c.loop-s.s-index 0 c.loop-s-test.true in
    let s = get_or c.as_slice-s-items.result.now c.loop-s.s-index 0 in
    elim c.match-variable_at.branch [
      | in-Some+in_ok-push w ↦
          subst (λ (v : Vec ℕ Global). v.items ≡ filter_map (variable_at c.args.net.now c.args.variables.now) (take (c.loop-s.s-index + 1) c.as_slice-s-items.result.now)) (sym w.found-is)
          (w.in_ok-push.ensures.items ∙ found_more (variable_at c.args.net.now c.args.variables.now) c.as_slice-s-items.result.now c.loop-s.s-index s c.loop-s.found.items at c.loop-s.invariant (Some w.in-Some.variable) w.in-Some.ensures.here)
      | in_default w ↦
          subst (λ (v : Vec ℕ Global). v.items ≡ filter_map (variable_at c.args.net.now c.args.variables.now) (take (c.loop-s.s-index + 1) c.as_slice-s-items.result.now)) (sym w.found-is)
          (found_more (variable_at c.args.net.now c.args.variables.now) c.as_slice-s-items.result.now c.loop-s.s-index s c.loop-s.found.items at c.loop-s.invariant None w.in_default.ensures.none)
    ]

pub returns : goal.returns
returns c =
    are_leaves c.args.net.now c.args.variables.now c.args.from.0 c.in_ok-seen.seen c.loop-s.found.items c.in_ok-seen.ensures
    (c.loop-s.invariant ∙ ap (filter_map (variable_at c.args.net.now c.args.variables.now)) (take_all c.loop-s.s-index c.as_slice-s-items.result.now c.loop-s-test.false ∙ c.as_slice-s-items.ensures))
