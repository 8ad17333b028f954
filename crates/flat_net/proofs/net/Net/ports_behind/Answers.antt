-- One port more.
use Rattle.std.proofs.Common.{◌≡◌, ◌∙◌, ◌++◌, ◌∷◌, [], ℕ, List, map, slice_get, get_or, Some, if◌then◌else◌, ap, true, false, rules}
use Rattle.std.proofs.lemmas.List.{take_all}
use Rattle.std.proofs.lemmas.Option.{slice_get-get_or}
use Rattle.flat_net.specs.declared.parts.LatchAt.{LatchAt}
use Rattle.flat_net.specs.declared.parts.Port.{Port}
use Rattle.flat_net.specs.declared.signals.Signal.{Signal}
use Rattle.flat_net.specs.Cut.{latch_at, as_input, as_output}
use Rattle.flat_net.proofs.Growth.{made_more}
use Rattle.flat_net.proofs.net.Net.ports_behind.Goals as goal
use Rattle.flat_net.proofs.net.Net.ports_behind.Goals.{then-takes_over, else-takes_over}

pub loop-j-preserved : goal.loop-j-preserved
loop-j-preserved c =
    let n = c.args.self.now in
    let i = c.loop-j.j-index in
    let j = get_or c.args.exposed.now i 0 in
    let here : slice_get c.args.exposed.now i ≡ Some j = slice_get-get_or c.args.exposed.now i 0 c.loop-j-test.true in
    let latch : LatchAt = c.latch_at-latch.result.now in
    let port : Port = record { name = latch.name; signal = c.if-takes_over.signal } in
    let shown : port ≡ (if c.args.takes_over then as_output latch else as_input latch) = elim c.if-takes_over.branch [
      | then-takes_over w ↦
          let known : true ≡ c.args.takes_over = first_of (cc, search rules) in
          ap (λ (s : Signal). let p : Port = record { name = latch.name; signal = s } in p) w.signal-is ∙ ap (λ b. if b then as_output latch else as_input latch) known
      | else-takes_over w ↦
          let known : false ≡ c.args.takes_over = first_of (cc, search rules) in
          ap (λ (s : Signal). let p : Port = record { name = latch.name; signal = s } in p) w.signal-is ∙ ap (λ b. if b then as_output latch else as_input latch) known
    ] in
    made_more c.args.ports.now (λ k. if c.args.takes_over then as_output (latch_at n k) else as_input (latch_at n k)) c.args.exposed.now i j _ _ here c.loop-j.invariant
    (c.in_ok-put_port.ensures.ok ∙ (ap (λ (name : List ℕ). let p : Port = record { name = name; signal = c.if-takes_over.signal } in c.loop-j.made.items ++ p ∷ []) c.as_slice.ensures
    ∙ (ap (λ (p : Port). c.loop-j.made.items ++ p ∷ []) shown
    ∙ ap (λ (l : LatchAt). c.loop-j.made.items ++ (if c.args.takes_over then as_output l else as_input l) ∷ []) c.latch_at-latch.ensures.is)))

pub returns : goal.returns
returns c =
    let n = c.args.self.now in
    c.loop-j.invariant ∙ ap (λ (l : List ℕ). c.args.ports.now ++ map (λ k. if c.args.takes_over then as_output (latch_at n k) else as_input (latch_at n k)) l) (take_all c.loop-j.j-index c.args.exposed.now c.loop-j-test.false)
