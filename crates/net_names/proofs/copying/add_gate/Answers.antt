use Rattle.std.specs.Prelude.{IsSomeAnd, Option}
use Rattle.std.proofs.Common.{◌≡◌, ◌∙◌, ◌+◌, ◌<◌, ℕ, List, take, length, get_or, slice_get, Some, sym, ap, subst, arith}
use Rattle.std.specs.List.{All}
use Rattle.std.proofs.lemmas.List.{length-map, length-take-le}
use Rattle.base_tables.specs.Table.{is_among}
use Rattle.circuit_theory.specs.Cover.{Cover}
use Rattle.flat_net.specs.declared.signals.Signal.{Signal}
use Rattle.flat_net.specs.declared.parts.Gate.{Gate}
use Rattle.flat_net.specs.Makes.{MakerView, with_cover, with_gate}
use Rattle.flat_net.specs.View.{NetView, cover_of}
use Rattle.flat_net.proofs.Growth.{slice_get-push}
use Rattle.flat_net.proofs.Places.{cover_of-is, cover_fits, cover_within, gate_of, out_within}
use Rattle.net_names.specs.Fronts.{front, with_gates}
use Rattle.net_names.proofs.Copies.{fresh, gate_step, item_at, taken}
use Rattle.net_names.proofs.copying.add_gate.Goals as goal

-- the gate stands at its place
there : (gates items : List Gate) (k : ℕ) (g : Gate) → items ≡ gates → k < length gates → g ≡ get_or items k g → slice_get gates k ≡ Some g
there gates items k g same low is = item_at gates items k g same (let e = ap length same in omega (arith, low, e)) is

pub name-name-requires : goal.name-name-requires
name-name-requires c =
    let n = c.args.original.now in
    let at = there n.gates c.gates.result.now c.args.k c.index-gates-k.result c.gates.ensures c.requires.gate c.index-gates-k.is in
    out_within n c.keeps.ensures.sound c.args.k c.index-gates-k.result at

pub cover-requires : goal.cover-requires
cover-requires c =
    let n = c.args.original.now in
    let at = there n.gates c.gates.result.now c.args.k c.index-gates-k.result c.gates.ensures c.requires.gate c.index-gates-k.is in
    cover_within n c.keeps.ensures.sound c.args.k c.index-gates-k.result at

-- so many signals stand so far
size : (n : NetView) (made first : MakerView) (cover : Cover) (k : ℕ) → made ≡ record first { net = with_cover first.net cover } → first.net ≡ with_gates n k → length n.inputs + length n.latches + k < length n.drivers → length made.net.drivers ≡ length n.inputs + length n.latches + k
size n made first cover k is begun low =
    ap (λ (m : MakerView). length m.net.drivers) is ∙ ap (λ (m : NetView). length m.drivers) begun ∙ taken_all
  where
    taken_all : length (take (length n.inputs + length n.latches + k) n.drivers) ≡ length n.inputs + length n.latches + k
    taken_all = length-take-le (length n.inputs + length n.latches + k) n.drivers (omega (arith, low))

pub gate-requires-clause-room : goal.gate-requires-clause-room
gate-requires-clause-room c =
    let n = c.args.original.now in
    let at = there n.gates c.gates.result.now c.args.k c.index-gates-k.result c.gates.ensures c.requires.gate c.index-gates-k.is in
    let out = out_within n c.keeps.ensures.sound c.args.k c.index-gates-k.result at in
    let place = c.keeps.ensures.laid.gates c.args.k c.index-gates-k.result at in
    let low : length n.inputs + length n.latches + c.args.k < length n.drivers = omega (arith, out, place) in
    let long = size n c.cover-2.new.self c.args.maker.now c.in_ok-copy.field-0 c.args.k c.in_ok-cover.ensures.ok c.requires.made low in
    omega (arith, long, low, c.keeps.ensures.sound.few)

pub gate-requires-clause-new : goal.gate-requires-clause-new
gate-requires-clause-new c =
    let n = c.args.original.now in
    let s = length n.inputs + length n.latches + c.args.k in
    let place : c.index-gates-k.result.out.0 ≡ s = c.keeps.ensures.laid.gates c.args.k c.index-gates-k.result (there n.gates c.gates.result.now c.args.k c.index-gates-k.result c.gates.ensures c.requires.gate c.index-gates-k.is) in
    let named = subst (λ (x : ℕ). slice_get n.names x ≡ Some c.name-name.result.now) place c.name-name.ensures in
    ap (λ (m : MakerView). is_among m.net.names c.name-name.result.now) c.in_ok-cover.ensures.ok ∙ ap (λ (m : NetView). is_among m.names c.name-name.result.now) c.requires.made
    ∙ fresh n c.keeps.ensures.sound s c.name-name.result.now named

pub gate-requires-clause-within : goal.gate-requires-clause-within
gate-requires-clause-within c =
    let n = c.args.original.now in
    let g = c.index-gates-k.result in
    let at = there n.gates c.gates.result.now c.args.k g c.gates.ensures c.requires.gate c.index-gates-k.is in
    let out = out_within n c.keeps.ensures.sound c.args.k g at in
    let place : g.out.0 ≡ length n.inputs + length n.latches + c.args.k = c.keeps.ensures.laid.gates c.args.k g at in
    let low : length n.inputs + length n.latches + c.args.k < length n.drivers = omega (arith, out, place) in
    let long = size n c.cover-2.new.self c.args.maker.now c.in_ok-copy.field-0 c.args.k c.in_ok-cover.ensures.ok c.requires.made low in
    let above : All (λ (f : Signal). f.0 < g.out.0) g.fanins = (gate_of n c.keeps.ensures.sound c.args.k g at).above in
    subst (λ (fs : List Signal). All (λ (f : Signal). f.0 < length c.cover-2.new.self.net.drivers) fs) (sym c.in_ok-copy-2.ensures) (subst (λ (x : ℕ). All (λ (f : Signal). f.0 < x) g.fanins) (place ∙ sym long) above)

pub gate-requires-clause-fits : goal.gate-requires-clause-fits
gate-requires-clause-fits c =
    let n = c.args.original.now in
    let g = c.index-gates-k.result in
    let at = there n.gates c.gates.result.now c.args.k g c.gates.ensures c.requires.gate c.index-gates-k.is in
    let cover = c.in_ok-copy.field-0 in
    let here : slice_get c.cover-2.new.self.net.covers c.in_ok-cover.cover ≡ Some cover =
    ap (λ (m : MakerView). slice_get m.net.covers c.in_ok-cover.cover) c.in_ok-cover.ensures.ok ∙ slice_get-push c.args.maker.now.net.covers cover c.in_ok-cover.cover c.in_ok-cover.ensures.number in
    let width : cover.width ≡ length c.in_ok-copy-2.field-0 = ap (λ (x : Cover). x.width) c.in_ok-copy.ensures ∙ cover_fits n c.keeps.ensures.sound c.args.k g at c.cover.result.now c.cover.ensures ∙ ap length (sym c.in_ok-copy-2.ensures) in
    subst (λ (o : Option Cover). IsSomeAnd o (λ (x : Cover). x.width ≡ length c.in_ok-copy-2.field-0)) (sym here) width

pub returns : goal.returns
returns c =
    let n = c.args.original.now in
    let g = c.index-gates-k.result in
    let k = c.args.k in
    let s = length n.inputs + length n.latches + k in
    let name = c.name-name.result.now in
    let at = there n.gates c.gates.result.now k g c.gates.ensures c.requires.gate c.index-gates-k.is in
    let place : g.out.0 ≡ s = c.keeps.ensures.laid.gates k g at in
    let named = subst (λ (x : ℕ). slice_get n.names x ≡ Some name) place c.name-name.ensures in
    let cover_is : c.in_ok-copy.field-0 ≡ cover_of n.covers g = c.in_ok-copy.ensures ∙ sym (cover_of-is n.covers g c.cover.result.now c.cover.ensures) in
    let number_is : c.in_ok-cover.cover ≡ k = c.in_ok-cover.ensures.number ∙ ap (λ (m : NetView). length m.covers) c.requires.made ∙ length-map (take k n.gates) (cover_of n.covers) ∙ taken n.gates k g at in
    let next : s + 1 ≡ length n.inputs + length n.latches + (k + 1) = omega arith in
    ap (λ (m : MakerView). m.net) c.in_ok-gate.ensures.ok
    ∙ ap (λ (m : MakerView). with_gate m.net name c.in_ok-copy-2.field-0 c.in_ok-cover.cover) c.in_ok-cover.ensures.ok
    ∙ ap (λ (m : NetView). with_gate (with_cover m c.in_ok-copy.field-0) name c.in_ok-copy-2.field-0 c.in_ok-cover.cover) c.requires.made
    ∙ ap (λ (x : Cover). with_gate (with_cover (with_gates n k) x) name c.in_ok-copy-2.field-0 c.in_ok-cover.cover) cover_is
    ∙ ap (λ (fs : List Signal). with_gate (with_cover (with_gates n k) (cover_of n.covers g)) name fs c.in_ok-cover.cover) c.in_ok-copy-2.ensures
    ∙ ap (λ (x : ℕ). with_gate (with_cover (with_gates n k) (cover_of n.covers g)) name g.fanins x) number_is
    ∙ gate_step n c.keeps.ensures.sound (length n.inputs) (length n.latches) k s g name at place named
    ∙ ap (λ (x : ℕ). front n (length n.inputs) (length n.latches) (k + 1) x) next
