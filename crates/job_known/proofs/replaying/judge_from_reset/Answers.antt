-- What is judged by what both nets show.
use Rattle.std.proofs.Common.{ℕ, List, map, length, subst}
use Rattle.sec_setup.specs.declared.ports.pairs.SignalPair.{SignalPair}
use Rattle.sec_setup.specs.ports.Pairs.{places_of}
use Rattle.job_known.specs.Pairs.{ShowsKnown}
use Rattle.job_known.specs.Judged.{IsTold}
use Rattle.job_known.proofs.Judging.{replayed_from}
use Rattle.job_known.proofs.replaying.judge_from_reset.Goals as goal

pub returns : goal.returns
returns c =
    let a = c.args.a.now in
    let b = c.args.b.now in
    let s = c.args.stimulus.now in
    let found = c.in_ok-found.found in
    let j = c.in_ok-judged.judged in
    replayed_from c.args.settles a b s.names s.rows s.fit c.keeps.ensures.sound c.keeps-2.ensures.sound c.in_ok-match_interfaces.ensures c.in_ok-fit.ensures c.in_ok-pairs.pairs c.in_ok-pairs.ensures.named c.in_ok-pairs.ensures.within found
    (subst (λ (pairs : List SignalPair). ShowsKnown a b (map places_of pairs) s.names s.rows found) c.as_slice.ensures c.in_ok-found.ensures) j
    (subst (λ (front : List ℕ). IsTold c.args.settles front (length s.rows) found j) c.new.ensures.items (subst (λ (rows : ℕ). IsTold c.args.settles c.new.result.items rows found j) c.len-rows.ensures c.in_ok-judged.ensures))
