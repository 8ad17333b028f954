-- What is judged by what both nets show behind the rows.
use Rattle.std.proofs.Common.{◌≡◌, ◌∙◌, ℕ, List, ◌++◌, map, length, ap, subst}
use Rattle.sec_setup.specs.declared.ports.pairs.SignalPair.{SignalPair}
use Rattle.sec_setup.specs.ports.Pairs.{places_of}
use Rattle.job_after.specs.Report.{begun_text}
use Rattle.job_known.specs.Pairs.{ShowsKnown}
use Rattle.job_known.specs.Judged.{IsTold}
use Rattle.job_known.proofs.Judging.{replayed_behind}
use Rattle.job_known.proofs.replaying.judge_behind.Goals as goal

pub returns : goal.returns
returns c =
    let a = c.args.a in
    let b = c.args.b in
    let u = c.args.before.now in
    let s = c.args.stimulus.now in
    let h = c.in_ok-begin_both.ensures in
    let l = c.begin_both.new.a in
    let r = c.begin_both.new.b in
    let begun = begun_text l r (length u.rows) h.left_known h.right_known in
    let found = c.in_ok-found.found in
    let j = c.in_ok-judged.judged in
    let front : c.begin_both.new.text.items ≡ begun = h.text ∙ ap (λ (text : List ℕ). text ++ begun) c.new-text.ensures.items in
    replayed_behind c.args.settles a b s.names s.rows s.fit u.names u.rows l r h.left_known h.right_known h.left h.right u.fit c.keeps.ensures.sound c.keeps-2.ensures.sound c.in_ok-match_interfaces.ensures c.in_ok-fit.ensures c.in_ok-fit-2.ensures
    c.in_ok-pairs.pairs c.in_ok-pairs.ensures.named c.in_ok-pairs.ensures.within found (subst (λ (pairs : List SignalPair). ShowsKnown l r (map places_of pairs) s.names s.rows found) c.as_slice.ensures c.in_ok-found.ensures) j
    (subst (λ (text : List ℕ). IsTold c.args.settles text (length s.rows) found j) front (subst (λ (rows : ℕ). IsTold c.args.settles c.begin_both.new.text.items rows found j) c.len-rows.ensures c.in_ok-judged.ensures))
