-- The functions stand at the place.
use Rattle.std.proofs.Common.{ℕ, Option, sym, subst, arith}
use Rattle.std.proofs.lemmas.Option.{slice_get_within}
use Rattle.std.proofs.lemmas.Result.{IfOk-weaker}
use Rattle.cbf_unfold.specs.declared.unfold_places.signal_function.Unfolded.{Unfolded}
use Rattle.plain_asked.specs.Asked.{AreAskedAt, IsOnlyQuery}
use Rattle.plain_asked.specs.Variables.{AreInOrder}
use Rattle.plain_asked.proofs.AskedPairs.{standing, read_left, read_right, asked_here}
use Rattle.plain_asked.proofs.questions.queries_at.Goals as goal

pub index-requires : goal.index-requires
index-requires c =
    let f = c.args.functions.now in
    let w = standing f c.args.place c.in-Some.k c.in-Some.is c.requires in
    let h = slice_get_within f.left.items c.in-Some.k w.left w.left_at in
    omega (arith, h, f.left.ok.0)

pub index-requires-2 : goal.index-requires-2
index-requires-2 c =
    let f = c.args.functions.now in
    let w = standing f c.args.place c.in-Some.k c.in-Some.is c.requires in
    let h = slice_get_within f.right.items c.in-Some.k w.right w.right_at in
    omega (arith, h, f.right.ok.0)

pub queries_of-requires-clause-left : goal.queries_of-requires-clause-left
queries_of-requires-clause-left c =
    let f = c.args.functions.now in
    let w = standing f c.args.place c.in-Some.k c.in-Some.is c.requires in
    subst (λ (u : Unfolded). AreInOrder f.places u.vars) (read_left f c.in-Some.k w c.index.result.now c.index.ensures) w.left_ordered

pub queries_of-requires-clause-right : goal.queries_of-requires-clause-right
queries_of-requires-clause-right c =
    let f = c.args.functions.now in
    let w = standing f c.args.place c.in-Some.k c.in-Some.is c.requires in
    subst (λ (u : Unfolded). AreInOrder f.places u.vars) (read_right f c.in-Some.k w c.index-2.result.now c.index-2.ensures) w.right_ordered

pub returns : goal.returns
returns c =
    let f = c.args.functions.now in
    let k = c.in-Some.k in
    let w = standing f c.args.place k c.in-Some.is c.requires in
    let l = c.index.result.now in
    let r = c.index-2.result.now in
    IfOk-weaker c.queries_of.result (IsOnlyQuery f.places l r) (AreAskedAt f c.args.place)
    (λ qs h. subst (λ (p : Option ℕ). AreAskedAt f p qs) (sym c.in-Some.is) (asked_here f k w l r qs (read_left f k w l c.index.ensures) (read_right f k w r c.index-2.ensures) h)) c.queries_of.ensures
