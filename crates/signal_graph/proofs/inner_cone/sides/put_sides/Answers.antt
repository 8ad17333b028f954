-- A gate's reads, or another source.
use Rattle.std.proofs.Common.{◌≡◌, ◌<◌, ℕ, List, Some, get_or, slice_get, length, refl, subst, sym, ap, arith, inr, ◌∙◌}
use Rattle.std.specs.Prelude.{Contains}
use Rattle.std.proofs.lemmas.Option.{slice_get_within, slice_get_read}
use Rattle.signal_graph.specs.inner_cone.latch_cone.circuit_theory.Circuit.{Reads}
use Rattle.signal_graph.specs.inner_cone.latch_cone.flat_net.Signal.{Signal}
use Rattle.signal_graph.specs.inner_cone.latch_cone.flat_net.Gate.{Gate}
use Rattle.signal_graph.specs.inner_cone.latch_cone.flat_net.Driver.TheVariants as driver
use Rattle.signal_graph.specs.inner_cone.latch_cone.flat_net.View.{circuit_of}
use Rattle.signal_graph.proofs.inner_cone.latch_cone.flat_net.Places.{one_at, All-at}
use Rattle.signal_graph.proofs.inner_cone.latch_cone.Walks.{gate_reads, gate_fanins, reach_more}
use Rattle.signal_graph.specs.inner_cone.Sides.{AreSomeSides}
use Rattle.signal_graph.specs.inner_cone.Inner.{IsLow}
use Rattle.signal_graph.proofs.inner_cone.SideSignals.{gate_source, other_source, push_kept, push_there, push_some}
use Rattle.signal_graph.proofs.inner_cone.sides.put_sides.Goals as goal

pub bounds-gates-j : goal.bounds-gates-j
bounds-gates-j c =
    let g = c.keeps.ensures.sound.drivers c.args.signal.0 (driver.Gate c.in-Gate.j) c.in-Gate.ensures in
    omega (arith, slice_get_within c.args.net.now.gates c.in-Gate.j g.0 g.1, ap length c.gates.ensures)

pub returns-in_ok-put_lows-in-Gate-clause-some : goal.returns-in_ok-put_lows-in-Gate-clause-some
returns-in_ok-put_lows-in-Gate-clause-some c = λ from reach some.
    let g = c.keeps.ensures.sound.drivers c.args.signal.0 (driver.Gate c.in-Gate.j) c.in-Gate.ensures in
    let l : c.in-Gate.j < length c.gates.result.now = omega (arith, slice_get_within c.args.net.now.gates c.in-Gate.j g.0 g.1, ap length c.gates.ensures) in
    let at = slice_get_read c.gates.result.now (length c.gates.result.now) c.in-Gate.j c.index-gates-j.result refl l c.index-gates-j.is in
    let here = subst (λ (z : List Gate). slice_get z c.in-Gate.j ≡ Some c.index-gates-j.result) c.gates.ensures at in
    let out : c.index-gates-j.result.out.0 ≡ c.args.signal.0 = subst (λ (z : Gate). z.out.0 ≡ c.args.signal.0) (one_at c.args.net.now.gates c.in-Gate.j g.0 c.index-gates-j.result g.1 here) g.2 in
    subst (λ m. AreSomeSides c.args.net.now c.args.ranks.now m from c.args.own.0 c.put_lows.new.sides) c.number_at.ensures
    (c.in_ok-put_lows-in-Gate.ensures.some c.args.net.now from c.args.own.0
    (λ k r h.
    let read = subst (λ (z : List Signal). slice_get z k ≡ Some r) (c.as_slice-fanins.ensures ∙ ap (λ (z : Gate). z.fanins) (sym c.index-gates-j.is)) h in
    let reads = subst (λ z. Reads (circuit_of c.args.net.now) z r.0) out (gate_fanins c.args.net.now c.keeps.ensures.sound c.in-Gate.j c.index-gates-j.result here k r read) in
    let below = All-at (λ (f : Signal). f.0 < c.index-gates-j.result.out.0) c.index-gates-j.result.fanins k r read (c.keeps.ensures.sound.gates c.in-Gate.j c.index-gates-j.result here).above in
    (omega (arith, below, out, c.requires), reach_more reach reads))
    (subst (λ m. AreSomeSides c.args.net.now c.args.ranks.now m from c.args.own.0 c.args.sides.now) (sym c.number_at.ensures) some))

pub returns-in_ok-put_lows-in-Gate-clause-reads : goal.returns-in_ok-put_lows-in-Gate-clause-reads
returns-in_ok-put_lows-in-Gate-clause-reads c = λ q reads low.
    let g = c.keeps.ensures.sound.drivers c.args.signal.0 (driver.Gate c.in-Gate.j) c.in-Gate.ensures in
    let l : c.in-Gate.j < length c.gates.result.now = omega (arith, slice_get_within c.args.net.now.gates c.in-Gate.j g.0 g.1, ap length c.gates.ensures) in
    let at = slice_get_read c.gates.result.now (length c.gates.result.now) c.in-Gate.j c.index-gates-j.result refl l c.index-gates-j.is in
    let here = subst (λ (z : List Gate). slice_get z c.in-Gate.j ≡ Some c.index-gates-j.result) c.gates.ensures at in
    let x = gate_reads c.args.net.now c.keeps.ensures.sound reads in
    let one = same_gate (one_at c.args.net.now.drivers c.args.signal.0 (driver.Gate x.position) (driver.Gate c.in-Gate.j) x.owner c.in-Gate.ensures) in
    let gate : x.gate ≡ c.index-gates-j.result = one_at c.args.net.now.gates c.in-Gate.j x.gate c.index-gates-j.result (subst (λ z. slice_get c.args.net.now.gates z ≡ Some x.gate) one x.here) here in
    let read = subst (λ (z : Gate). slice_get z.fanins x.read.0 ≡ Some x.read.1) gate x.read.2 in
    let there = c.in_ok-put_lows-in-Gate.ensures.there x.read.0 x.read.1 (subst (λ (z : List Signal). slice_get z x.read.0 ≡ Some x.read.1) (sym (c.as_slice-fanins.ensures ∙ ap (λ (z : Gate). z.fanins) (sym c.index-gates-j.is))) read)
    (subst (λ m. IsLow c.args.ranks.now m x.read.1.0) (sym c.number_at.ensures) (subst (λ z. IsLow c.args.ranks.now (get_or c.args.ranks.now c.args.own.0 0) z) (sym x.read.3) low)) in
    subst (λ z. Contains c.put_lows.new.sides (record { 0 = z })) x.read.3 there
  where
    same_gate : {i j : ℕ} → driver.Gate i ≡ driver.Gate j → i ≡ j
    same_gate e = cc

pub returns-in_ok-put_lows-in-Gate-clause-source : goal.returns-in_ok-put_lows-in-Gate-clause-source
returns-in_ok-put_lows-in-Gate-clause-source c = λ source other. absurd (gate_source c.args.net.now c.keeps.ensures.sound c.args.signal.0 c.in-Gate.j c.in-Gate.ensures source)

pub returns-then-signal-own : goal.returns-then-signal-own
returns-then-signal-own c =
    let n = c.args.net.now in
    let e = c.if-signal-own.true in
    record {
      kept = λ r h. h;
      some = λ from reach some. some;
      reads = λ q reads low. let g = gate_reads n c.keeps.ensures.sound reads in absurd (c.in_default.not-Gate g.position (one_at n.drivers c.args.signal.0 _ (driver.Gate g.position) c.driver.ensures g.owner));
      source = λ is other. absurd (other e);
    }

pub returns-in_ok-push-in_default : goal.returns-in_ok-push-in_default
returns-in_ok-push-in_default c =
    let n = c.args.net.now in
    let source = other_source n c.keeps.ensures.sound c.args.signal.0 c.driver.result c.driver.ensures (λ j e. c.in_default.not-Gate j e) in
    let put = c.in_ok-push-in_default.ensures.ok in
    record {
      kept = λ r h. push_kept c.args.sides.now c.push.new.self c.args.signal put r h;
      some = λ from reach some.
          push_some n c.args.ranks.now (get_or c.args.ranks.now c.args.own.0 0) from c.args.own.0 c.args.sides.now c.push.new.self c.args.signal put
          (record { within = c.requires; reached = reach; aside = inr (source, λ e. c.if-signal-own.false e) }) some;
      reads = λ q reads low. let g = gate_reads n c.keeps.ensures.sound reads in absurd (c.in_default.not-Gate g.position (one_at n.drivers c.args.signal.0 _ (driver.Gate g.position) c.driver.ensures g.owner));
      source = λ is other. push_there c.args.sides.now c.push.new.self c.args.signal put;
    }
