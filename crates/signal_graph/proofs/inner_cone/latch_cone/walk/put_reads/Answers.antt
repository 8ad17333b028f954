use Rattle.std.proofs.Common.{◌≡◌, ◌<◌, ℕ, List, Some, slice_get, length, refl, subst, sym, ap, arith, ◌∙◌}
use Rattle.std.specs.Prelude.{Contains}
use Rattle.std.proofs.lemmas.Option.{slice_get_within, slice_get_read}
use Rattle.flat_net.specs.declared.signals.Signal.{Signal}
use Rattle.flat_net.specs.declared.parts.Gate.{Gate}
use Rattle.flat_net.specs.declared.parts.Driver.TheVariants as driver
use Rattle.flat_net.specs.View.{circuit_of}
use Rattle.flat_net.proofs.Places.{one_at, All-at}
use Rattle.flat_net.specs.circuit_theory.Circuit.{Reads}
use Rattle.signal_graph.proofs.inner_cone.latch_cone.Walks.{gate_reads, gate_fanins, reach_more}
use Rattle.signal_graph.proofs.inner_cone.latch_cone.walk.put_reads.Goals as goal

pub bounds-gates-j : goal.bounds-gates-j
bounds-gates-j c =
    let g = c.keeps.ensures.sound.drivers c.args.signal.0 (driver.Gate c.in-Gate.j) c.in-Gate.ensures in
    omega (arith, slice_get_within c.args.net.now.gates c.in-Gate.j g.0 g.1, ap length c.gates.ensures)

pub returns-in_default : goal.returns-in_default
returns-in_default c = record {
  stay = λ i s h. h;
  some = λ from reach some. some;
  there = λ r reads. let g = gate_reads c.args.net.now c.keeps.ensures.sound reads in absurd (c.in_default.not-Gate g.position (one_at c.args.net.now.drivers c.args.signal.0 _ (driver.Gate g.position) c.driver.ensures g.owner));
}

pub returns-in_ok-put_all-in-Gate-clause-some : goal.returns-in_ok-put_all-in-Gate-clause-some
returns-in_ok-put_all-in-Gate-clause-some c = λ from reach some.
    let g = c.keeps.ensures.sound.drivers c.args.signal.0 (driver.Gate c.in-Gate.j) c.in-Gate.ensures in
    let l : c.in-Gate.j < length c.gates.result.now = omega (arith, slice_get_within c.args.net.now.gates c.in-Gate.j g.0 g.1, ap length c.gates.ensures) in
    let at = slice_get_read c.gates.result.now (length c.gates.result.now) c.in-Gate.j c.index-gates-j.result refl l c.index-gates-j.is in
    let here = subst (λ (z : List Gate). slice_get z c.in-Gate.j ≡ Some c.index-gates-j.result) c.gates.ensures at in
    let out : c.index-gates-j.result.out.0 ≡ c.args.signal.0 = subst (λ (z : Gate). z.out.0 ≡ c.args.signal.0) (one_at c.args.net.now.gates c.in-Gate.j g.0 c.index-gates-j.result g.1 here) g.2 in
    c.in_ok-put_all-in-Gate.ensures.some c.args.net.now from
    (λ k r h.
    let read = subst (λ (z : List Signal). slice_get z k ≡ Some r) (c.as_slice-fanins.ensures ∙ ap (λ (z : Gate). z.fanins) (sym c.index-gates-j.is)) h in
    let reads = subst (λ z. Reads (circuit_of c.args.net.now) z r.0) out (gate_fanins c.args.net.now c.keeps.ensures.sound c.in-Gate.j c.index-gates-j.result here k r read) in
    let below = All-at (λ (f : Signal). f.0 < c.index-gates-j.result.out.0) c.index-gates-j.result.fanins k r read (c.keeps.ensures.sound.gates c.in-Gate.j c.index-gates-j.result here).above in
    (omega (arith, below, out, c.requires), reach_more reach reads)) some

pub returns-in_ok-put_all-in-Gate-clause-there : goal.returns-in_ok-put_all-in-Gate-clause-there
returns-in_ok-put_all-in-Gate-clause-there c = λ r reads.
    let g = c.keeps.ensures.sound.drivers c.args.signal.0 (driver.Gate c.in-Gate.j) c.in-Gate.ensures in
    let l : c.in-Gate.j < length c.gates.result.now = omega (arith, slice_get_within c.args.net.now.gates c.in-Gate.j g.0 g.1, ap length c.gates.ensures) in
    let at = slice_get_read c.gates.result.now (length c.gates.result.now) c.in-Gate.j c.index-gates-j.result refl l c.index-gates-j.is in
    let here = subst (λ (z : List Gate). slice_get z c.in-Gate.j ≡ Some c.index-gates-j.result) c.gates.ensures at in
    let x = gate_reads c.args.net.now c.keeps.ensures.sound reads in
    let one = same_gate (one_at c.args.net.now.drivers c.args.signal.0 (driver.Gate x.position) (driver.Gate c.in-Gate.j) x.owner c.in-Gate.ensures) in
    let gate : x.gate ≡ c.index-gates-j.result = one_at c.args.net.now.gates c.in-Gate.j x.gate c.index-gates-j.result (subst (λ z. slice_get c.args.net.now.gates z ≡ Some x.gate) one x.here) here in
    let read = subst (λ (z : Gate). slice_get z.fanins x.read.0 ≡ Some x.read.1) gate x.read.2 in
    subst (λ z. Contains c.put_all.new.seen z) x.read.3 (c.in_ok-put_all-in-Gate.ensures.there x.read.0 x.read.1 (subst (λ (z : List Signal). slice_get z x.read.0 ≡ Some x.read.1) (sym (c.as_slice-fanins.ensures ∙ ap (λ (z : Gate). z.fanins) (sym c.index-gates-j.is))) read))
  where
    same_gate : {i j : ℕ} → driver.Gate i ≡ driver.Gate j → i ≡ j
    same_gate e = cc
