-- The table has the stimulus' names.
use Rattle.std.specs.Prelude.{IfOk}
use Rattle.std.proofs.Common.{ℕ, Bool, List, map, subst}
use Rattle.sec_setup.specs.ports.Pairs.{places_of}
use Rattle.job_known.specs.Pairs.{ShowsKnown}
use Rattle.job_known.proofs.replaying.found_over.Goals as goal

pub returns : goal.returns
returns c =
    let a = c.args.a.now in
    let b = c.args.b.now in
    let places = map places_of c.args.pairs.now in
    subst (λ (names : List (List ℕ)). IfOk c.known_replay.result (ShowsKnown a b places names c.args.stimulus.now.rows)) c.in_ok-names.ensures
    (subst (λ (rows : List (List Bool)). IfOk c.known_replay.result (ShowsKnown a b places c.in_ok-names.names rows)) c.as_slice.ensures c.known_replay.ensures)
