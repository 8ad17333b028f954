-- What is known of the node gives the literal.
use Rattle.std.proofs.Common.{◌≡◌, ◌<◌, ◌∙◌, ◌/◌, length, slice_get, Some, ap, arith}
use Rattle.std.proofs.lemmas.Option.{slice_get-get_or}
use Rattle.sweep_candidates.proofs.case_split.lits.literal_for.Goals as goal

pub returns-in-Some : goal.returns-in-Some
returns-in-Some c = λ v bit g h are.
    let within : c.args.l.0 / 2 < length c.args.lits.now = omega (arith, c.if-n-lits.false) in
    let known : slice_get c.args.lits.now (c.args.l.0 / 2) ≡ Some (Some c.in-Some.y) = slice_get-get_or c.args.lits.now (c.args.l.0 / 2) _ within ∙ ap Some c.in-Some.is in
    c.signed.ensures v bit g h (are (c.args.l.0 / 2) c.in-Some.y known)
