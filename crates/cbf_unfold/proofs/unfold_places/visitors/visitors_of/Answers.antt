-- No word has a bit first, and all places have passed theirs on at the end.
use Rattle.std.proofs.Common.{◌≡◌, ◌∙◌, ◌++◌, ◌<◌, take, replicate, ℕ, List, length, sym, ap, subst, arith}
use Rattle.std.proofs.Math.Seq.{take-append_seam}
use Rattle.std.proofs.lemmas.List.{length-replicate, get_or-replicate}
use Rattle.flat_net.specs.View.{circuit_of}
use Rattle.cbf_unfold.specs.unfold_places.Visitors.{AreMarked, AreVisitors}
use Rattle.cbf_unfold.proofs.unfold_places.Passing.{marked_none, visitors_from}
use Rattle.cbf_unfold.proofs.unfold_places.visitors.visitors_of.Goals as goal

-- what was written in front of a list stands there
written_back : (xs rest : List ℕ) (n : ℕ) → n ≡ length xs → take n (xs ++ rest) ≡ xs
written_back xs rest n e = ap (λ (k : ℕ). take k (xs ++ rest)) e ∙ take-append_seam xs rest

pub mark_roots-requires-clause-none : goal.mark_roots-requires-clause-none
mark_roots-requires-clause-none c =
    let n = c.len.result in
    let zeros : c.as_mut_slice.result.now ≡ replicate n 0 = c.as_mut_slice.ensures.value ∙ c.in_ok-words.ensures.items_if_clones_equal (λ y e. e) in
    subst (AreMarked (circuit_of c.args.net.now) c.args.last c.args.signals.now c.args.memo.now 0) (sym zeros)
    (marked_none (circuit_of c.args.net.now) c.args.last c.args.signals.now c.args.memo.now (replicate n 0) (length-replicate n 0 ∙ c.len.ensures)
    (λ i h. get_or-replicate n i 0 0 (subst (λ (m : ℕ). i < m) (length-replicate n 0) h)))

pub pass_all-requires-clause-marked : goal.pass_all-requires-clause-marked
pass_all-requires-clause-marked c =
    subst (AreMarked (circuit_of c.args.net.now) c.args.last c.args.signals.now c.args.memo.now (length c.args.signals.now))
    (sym (c.as_mut_slice-2.ensures.value ∙ written_back c.mark_roots.new.words _ c.in_ok-words.words.len (omega (arith, c.mark_roots.ensures.size, c.in_ok-words.ensures.len, c.len.ensures)))) c.mark_roots.ensures

pub returns : goal.returns
returns c =
    subst (AreVisitors (circuit_of c.args.net.now) c.args.last c.args.signals.now c.args.memo.now) (sym (written_back c.pass_all.new.words _ c.in_ok-words.words.len (omega (arith, c.pass_all.ensures.marked.size, c.in_ok-words.ensures.len, c.len.ensures))))
    (visitors_from (circuit_of c.args.net.now) c.args.last c.args.signals.now c.args.memo.now c.pass_all.new.words c.requires.met c.pass_all.ensures.marked c.pass_all.ensures.passed)
