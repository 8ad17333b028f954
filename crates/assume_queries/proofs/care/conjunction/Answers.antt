-- One literal more.
use Rattle.std.proofs.Common.{◌*◌, ◌<◌, List, length, take, get_or, sym, subst, arith}
use Rattle.std.proofs.lemmas.List.{take_more, take_all}
use Rattle.std.proofs.lemmas.List.Elements.{All-contains}
use Rattle.std.proofs.lemmas.Option.{slice_get-get_or}
use Rattle.circuit_theory.proofs.Lists.{of_at}
use Rattle.aig.specs.declared.node.Lit.{Lit}
use Rattle.aig.proofs.Growth.{Grows-refl, Grows-trans}
use Rattle.assume_queries.specs.Care.{IsConjunction}
use Rattle.assume_queries.proofs.Conjunctions.{conjunction_none, conjunction_more}
use Rattle.assume_queries.proofs.care.conjunction.Goals as goal

pub loop-l-init : goal.loop-l-init
loop-l-init c = record { so_far = conjunction_none c.args.aig.now c.keeps.ensures.graph; grows = Grows-refl c.args.aig.now; few = omega arith }

pub loop-l-preserved : goal.loop-l-preserved
loop-l-preserved c =
    let f = c.args.aig.now in
    let g = c.loop-l.aig in
    let h = c.and.new.self in
    let lits = c.args.lits.now in
    let i = c.loop-l.l-index in
    let none : Lit = record { 0 = 0 } in
    let inside : i < length lits = c.loop-l-test.true in
    let small : (get_or lits i none).0 < 2 * length f = All-contains (λ (l : Lit). l.0 < 2 * length f) lits (get_or lits i none) c.requires.within (of_at lits i (get_or lits i none) (slice_get-get_or lits i none inside)) in
    record {
      so_far = subst (λ (ls : List Lit). IsConjunction f ls h c.in_ok-more.more.0) (sym (take_more lits i none inside))
          (conjunction_more f g h c.keeps-in-loop-l.ensures.graph c.loop-l.invariant.grows c.and.ensures.grows (take i lits) (get_or lits i none) c.loop-l.all.0 c.in_ok-more.more.0 small c.loop-l.invariant.so_far
          c.in_ok-more.ensures.here c.in_ok-more.ensures.within c.in_ok-more.ensures.value);
      grows = Grows-trans f g h c.loop-l.invariant.grows c.and.ensures.grows;
      few = omega (arith, c.loop-l.invariant.few, c.and.ensures.few);
    }

pub returns-clause-conjunction : goal.returns-clause-conjunction
returns-clause-conjunction c =
    subst (λ (ls : List Lit). IsConjunction c.args.aig.now ls c.loop-l.aig c.loop-l.all.0) (take_all c.loop-l.l-index c.args.lits.now c.loop-l-test.false) c.loop-l.invariant.so_far
