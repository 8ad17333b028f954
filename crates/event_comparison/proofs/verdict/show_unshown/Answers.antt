-- The pair of the difference is unfolded once more, and shown by what it reaches.
use Rattle.std.proofs.Common.{get_or, Err, ap, subst}
use Rattle.std.proofs.lemmas.Result.{err_from_is_err_and}
use Rattle.sec_base.specs.declared.basics.PairAnswer.TheVariants as answer
use Rattle.event_form.specs.Counted.{left_starts, right_starts}
use Rattle.event_form.proofs.Refusing.{error_is, memory_refused, ok_refused}
use Rattle.event_form.specs.event_agreement.pair_events.View.{side_of_both}
use Rattle.event_form.specs.event_findings.unshown_pairs.Reached.{BothReachAlways}
use Rattle.event_form.specs.event_findings.unshown_pairs.Separations.{AreToldApart, AreToldFor}
use Rattle.event_comparison.proofs.Showing.{can_show_later, difference_within, of_pair, pair_is, pair_there, refused_for_all, stay_counted}
use Rattle.event_comparison.proofs.verdict.show_unshown.Goals as goal

pub bounds-compared-difference : goal.bounds-compared-difference
bounds-compared-difference c = difference_within c.args.events.now c.args.aparts.now c.args.compared.now c.args.asked.now c.requires.from c.args.difference.now c.requires.differs

pub tell_apart-requires-clause-pair : goal.tell_apart-requires-clause-pair
tell_apart-requires-clause-pair c = pair_is c.args.events.now c.args.aparts.now c.args.compared.now c.args.asked.now c.requires.from c.args.difference.now c.requires.differs c.index-compared-difference.result

pub witness_at-requires-clause-shown : goal.witness_at-requires-clause-shown
witness_at-requires-clause-shown c =
    can_show_later c.args.events.now c.tell_apart.new.events c.args.aparts.now c.args.compared.now c.args.asked.now c.keeps.ensures.kept.events c.keeps-2.ensures.kept.events c.in_ok-told.ensures.later c.requires.from answer.NotShown c.requires.differs.0 c.args.difference.now c.requires.differs.1

pub unshown_at-requires : goal.unshown_at-requires
unshown_at-requires c =
    can_show_later c.args.events.now c.tell_apart.new.events c.args.aparts.now c.args.compared.now c.args.asked.now c.keeps.ensures.kept.events c.keeps-2.ensures.kept.events c.in_ok-told.ensures.later c.requires.from answer.NotShown c.requires.differs.0 c.args.difference.now c.requires.differs.1

pub returns-in_default-clause-shown : goal.returns-in_default-clause-shown
returns-in_default-clause-shown c =
    let e = c.tell_apart.new.events in
    let p = get_or c.args.compared.now.pairs.now c.args.difference.now.pair c.index-compared-difference.result in
    let always : BothReachAlways (side_of_both e) p = subst (AreToldFor e.left e.right p) c.in_default.is c.in_ok-told.ensures.told in
    (c.in_ok-witness.ensures, of_pair c.args.events.now c.args.aparts.now c.args.compared.now c.args.asked.now c.requires.from c.args.difference.now c.requires.differs c.index-compared-difference.result (BothReachAlways (side_of_both e)) always)

pub returns-clause-shown : goal.returns-clause-shown
returns-clause-shown c =
    let e = c.tell_apart.new.events in
    let p = get_or c.args.compared.now.pairs.now c.args.difference.now.pair c.index-compared-difference.result in
    let apart : AreToldApart e.left e.right p c.in-Some.apart = subst (AreToldFor e.left e.right p) c.in-Some.is c.in_ok-told.ensures.told in
    (c.in_ok-frame.ensures, of_pair c.args.events.now c.args.aparts.now c.args.compared.now c.args.asked.now c.requires.from c.args.difference.now c.requires.differs c.index-compared-difference.result (λ q. AreToldApart e.left e.right q c.in-Some.apart) apart)

pub returns-in_default-clause-counted : goal.returns-in_default-clause-counted
returns-in_default-clause-counted c =
    stay_counted c.args.events.now c.tell_apart.new.events c.args.compared.now.pairs.now (get_or c.args.compared.now.pairs.now c.args.difference.now.pair c.index-compared-difference.result)
    (pair_there c.args.events.now c.args.aparts.now c.args.compared.now c.args.asked.now c.requires.from c.args.difference.now c.requires.differs c.index-compared-difference.result) c.in_ok-told.ensures.counted

pub returns-clause-counted : goal.returns-clause-counted
returns-clause-counted c =
    stay_counted c.args.events.now c.tell_apart.new.events c.args.compared.now.pairs.now (get_or c.args.compared.now.pairs.now c.args.difference.now.pair c.index-compared-difference.result)
    (pair_there c.args.events.now c.args.aparts.now c.args.compared.now c.args.asked.now c.requires.from c.args.difference.now c.requires.differs c.index-compared-difference.result) c.in_ok-told.ensures.counted

pub returns-in_err-told-clause-refused : goal.returns-in_err-told-clause-refused
returns-in_err-told-clause-refused c =
    let p = err_from_is_err_and c.from_residual.result c.from_residual.ensures.1 in
    rw (p.1, p.2) (refused_for_all c.args.events.now c.args.compared.now.pairs.now (get_or c.args.compared.now.pairs.now c.args.difference.now.pair c.index-compared-difference.result)
    (pair_there c.args.events.now c.args.aparts.now c.args.compared.now c.args.asked.now c.requires.from c.args.difference.now c.requires.differs c.index-compared-difference.result) _ _ (λ error is. ap Err (error_is is)) c.in_err-told.ensures.refused)

pub returns-in_err-witness-clause-refused : goal.returns-in_err-witness-clause-refused
returns-in_err-witness-clause-refused c =
    let p = err_from_is_err_and c.from_residual-in_err-witness.result c.from_residual-in_err-witness.ensures.1 in
    rw (p.1, p.2) (memory_refused (left_starts c.args.compared.now.pairs.now) (right_starts c.args.compared.now.pairs.now) c.args.events.now)

pub returns-in_err-frame-clause-refused : goal.returns-in_err-frame-clause-refused
returns-in_err-frame-clause-refused c =
    let p = err_from_is_err_and c.from_residual-in_err-frame.result c.from_residual-in_err-frame.ensures.1 in
    rw (p.1, p.2) (memory_refused (left_starts c.args.compared.now.pairs.now) (right_starts c.args.compared.now.pairs.now) c.args.events.now)

pub returns-in_default-clause-refused : goal.returns-in_default-clause-refused
returns-in_default-clause-refused c = ok_refused (left_starts c.args.compared.now.pairs.now) (right_starts c.args.compared.now.pairs.now) c.args.events.now _

pub returns-clause-refused : goal.returns-clause-refused
returns-clause-refused c = ok_refused (left_starts c.args.compared.now.pairs.now) (right_starts c.args.compared.now.pairs.now) c.args.events.now _
