-- The numbers so far that gates drive.
use Rattle.std.proofs.Common.{◌≡◌, ◌∙◌, ◌++◌, ◌∷◌, [], ℕ, Bool, List, cond, length, get_or, take, sym, ap, subst}
use Rattle.std.specs.List.{filter}
use Rattle.std.proofs.lemmas.List.{take_all, append-nil}
use Rattle.std.proofs.lemmas.List.Elements.{filter_more}
use Rattle.std.proofs.lemmas.Option.{get_or_from_slice_get}
use Rattle.flatten.specs.declared.connectivity.source.Source.{Source}
use Rattle.flatten.specs.Graph.{IsSourceWithin, is_gate_by, is_gate_out}
use Rattle.flatten.proofs.loops.gates_of.Goals as goal
use Rattle.flatten.proofs.loops.gates_of.Goals.{then-is_gate+in_ok-push, else-is_gate}

pub is_gate-requires : goal.is_gate-requires
is_gate-requires c =
    let n = get_or c.args.numbers.now c.loop-number.number-index 0 in
    let s = c.source.result in
    subst (λ (x : Source). IsSourceWithin (length c.args.flat.now.statements) x) (get_or_from_slice_get c.args.wired.now.sources n s s c.source.ensures)
    (c.requires.within n s (c.requires.numbers c.loop-number.number-index 0 c.loop-number-test.true))

pub loop-number-preserved : goal.loop-number-preserved
loop-number-preserved c =
    let statements = c.args.flat.now.statements in
    let sources = c.args.wired.now.sources in
    let numbers = c.args.numbers.now in
    let i = c.loop-number.number-index in
    let n : ℕ = get_or numbers i 0 in
    let gate : ℕ → Bool = is_gate_out statements sources in
    let tested : c.is_gate.result ≡ gate n = c.is_gate.ensures ∙ ap (is_gate_by statements) (sym c.source.ensures) in
    elim c.if-is_gate.branch [
      | then-is_gate+in_ok-push w ↦ ap (λ v. v.items) w.gates-is ∙ w.in_ok-push.ensures.items ∙ ap (λ (z : List ℕ). z ++ n ∷ []) c.loop-number.invariant
          ∙ ap (λ (b : Bool). filter gate (take i numbers) ++ cond b (n ∷ []) []) (sym w.if-is_gate.true ∙ tested) ∙ sym (filter_more gate numbers i 0 c.loop-number-test.true)
      | else-is_gate w ↦ ap (λ v. v.items) w.gates-is ∙ c.loop-number.invariant ∙ sym (append-nil (filter gate (take i numbers)))
          ∙ ap (λ (b : Bool). filter gate (take i numbers) ++ cond b (n ∷ []) []) (sym w.if-is_gate.false ∙ tested) ∙ sym (filter_more gate numbers i 0 c.loop-number-test.true)
    ]

pub returns : goal.returns
returns c = c.loop-number.invariant ∙ ap (filter (is_gate_out c.args.flat.now.statements c.args.wired.now.sources)) (take_all c.loop-number.number-index c.args.numbers.now c.loop-number-test.false)
