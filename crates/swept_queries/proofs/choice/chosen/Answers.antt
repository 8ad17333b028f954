-- One query more.
use Rattle.std.proofs.Common.{◌≡◌, ◌+◌, ◌<◌, List, [], ◌∷◌, ◌++◌, length, take, get_or, Option, None, sym, subst, arith}
use Rattle.std.specs.List.{All, AllZip}
use Rattle.std.proofs.lemmas.List.{take_more}
use Rattle.std.proofs.lemmas.List.Elements.{All-push}
use Rattle.circuit_theory.proofs.Lists.{zip_push}
use Rattle.swept_queries.specs.declared.sides.Sides.{Sides}
use Rattle.swept_queries.specs.InStead.{AreKnownWithin, IsKept}
use Rattle.swept_queries.proofs.ToldApart.{kept_is, known_within}
use Rattle.swept_queries.proofs.choice.chosen.Goals as goal

pub loop-i-preserved : goal.loop-i-preserved
loop-i-preserved c =
    let g = c.args.aig.now in
    let words = c.args.words.now in
    let given = c.args.given.now in
    let table = c.in_ok-table.table in
    let i = c.loop-i.i in
    let below : i < length given = omega (arith, c.loop-i-test.true) in
    let more : take (i + 1) given ≡ take i given ++ get_or given i None ∷ [] = take_more given i None below in
    let kept = kept_is g words table c.in_ok-table.ensures (get_or given i None) c.chosen_of.result (c.requires.within i None below) c.chosen_of.ensures.chosen in
    let front : AllZip (IsKept g words) (take i given ++ get_or given i None ∷ []) (c.loop-i.asked.items ++ c.chosen_of.result ∷ []) =
    zip_push (IsKept g words) (take i given) c.loop-i.asked.items (get_or given i None) c.chosen_of.result c.loop-i.invariant.kept kept in
    record {
      kept = subst (AllZip (IsKept g words) (take (i + 1) given)) (sym c.in_ok-push.ensures.items) (subst (λ (os : List (Option Sides)). AllZip (IsKept g words) os (c.loop-i.asked.items ++ c.chosen_of.result ∷ [])) (sym more) front);
      within = subst (All (AreKnownWithin g)) (sym c.in_ok-push.ensures.items)
          (All-push (AreKnownWithin g) c.loop-i.asked.items c.chosen_of.result c.loop-i.invariant.within (known_within g words table c.in_ok-table.ensures c.chosen_of.result c.chosen_of.ensures.within));
    }
