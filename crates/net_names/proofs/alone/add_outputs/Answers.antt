-- One port more, if it passes.
use Rattle.std.proofs.Common.{◌≡◌, ◌∙◌, ◌+◌, ◌<◌, ◌++◌, [], ◌∷◌, ℕ, Bool, true, false, cond, List, length, take, get_or, sym, ap, subst, append-nil}
use Rattle.std.specs.List.{filter}
use Rattle.std.proofs.lemmas.List.Elements.{filter_more}
use Rattle.flat_net.specs.declared.parts.Port.{Port}
use Rattle.flat_net.specs.Makes.{MakerView, with_output}
use Rattle.net_names.specs.Alone.{passes}
use Rattle.net_names.proofs.alone.add_outputs.Goals as goal
use Rattle.net_names.proofs.alone.add_outputs.Goals.{then-passes+in_ok-output, else-passes}

port_more : (test : List ℕ → Bool) (items ports : List Port) (i : ℕ) (p : Port) (b : Bool) → items ≡ ports → i < length items → p ≡ get_or items i p → test p.name ≡ b →
    filter (λ (port : Port). test port.name) (take (i + 1) ports) ≡ filter (λ (port : Port). test port.name) (take i ports) ++ cond b (p ∷ []) []
port_more test items ports i p b same inside is e =
    let kept : List Port → List Port = filter (λ (port : Port). test port.name) in
    subst (λ (ps : List Port). kept (take (i + 1) ps) ≡ kept (take i ps) ++ cond b (p ∷ []) []) same
    (filter_more (λ (port : Port). test port.name) items i p inside
    ∙ (ap (λ (q : Port). kept (take i items) ++ cond (test q.name) (q ∷ []) []) (sym is) ∙ ap (λ (t : Bool). kept (take i items) ++ cond t (p ∷ []) []) e))

pub loop-port-preserved : goal.loop-port-preserved
loop-port-preserved c =
    let test : List ℕ → Bool = passes c.args.outputs.now in
    let first : MakerView = c.args.maker.now in
    let ports : List Port = c.args.net.now.outputs in
    let i = c.loop-port.port-index in
    let p : Port = c.port-item.result in
    let kept : List Port = filter (λ (port : Port). test port.name) (take i ports) in
    let showing : List Port → MakerView = λ os. record first { net = record first.net { outputs = os } } in
    let named = ap test (sym c.as_slice.ensures) ∙ sym c.passes.ensures in
    elim c.if-passes.branch [
      | then-passes+in_ok-output w ↦
          let put : List ℕ → Port = λ n. record { name = n; signal = p.signal } in
          w.maker-is
          ∙ (w.in_ok-output.ensures.ok
          ∙ (ap (λ (m : MakerView). let k : MakerView = record m { net = with_output m.net w.as_slice-then-passes.result.now p.signal } in k) c.loop-port.invariant
          ∙ ap showing
          (ap (λ (n : List ℕ). kept ++ put n ∷ []) w.as_slice-then-passes.ensures
          ∙ sym (port_more test c.outputs-port-items.result.now ports i p true c.outputs-port-items.ensures c.loop-port-test.true c.port-item.is (named ∙ w.if-passes.true)))))
      | else-passes w ↦
          w.maker-is
          ∙ (c.loop-port.invariant
          ∙ ap showing (sym (port_more test c.outputs-port-items.result.now ports i p false c.outputs-port-items.ensures c.loop-port-test.true c.port-item.is (named ∙ w.if-passes.false) ∙ append-nil kept)))
    ]
