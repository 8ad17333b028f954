-- The signals so far, and one more.
use Rattle.std.proofs.Common.{◌≡◌, ◌∙◌, ℕ, ◌+◌, ◌<◌, List, [], ◌∷◌, ◌++◌, length, map, take, get_or, sym, ap, subst, append_assoc, append-nil}
use Rattle.std.specs.List.{All}
use Rattle.std.proofs.lemmas.List.{map_more, take_all}
use Rattle.flat_net.specs.declared.parts.Port.{Port}
use Rattle.flat_net.specs.declared.parts.LatchAt.{LatchAt}
use Rattle.flat_net.specs.Cut.{latch_at}
use Rattle.latch_kinds.specs.unate_enable.Cones.{input_at}
use Rattle.latch_kinds.proofs.unate_enable.sources.places.Goals as goal

one_more : (f : ℕ → ℕ) (front places new items : List ℕ) (i y : ℕ) → places ≡ front ++ map f (take i items) → i < length items → y ≡ f (get_or items i 0) → new ≡ places ++ y ∷ [] → new ≡ front ++ map f (take (i + 1) items)
one_more f front places new items i y before within is grown =
    grown ∙ (ap (λ ps. ps ++ y ∷ []) before ∙ (append_assoc front (map f (take i items)) (y ∷ []) ∙ ap (λ zs. front ++ zs) (ap (λ z. map f (take i items) ++ z ∷ []) is ∙ sym (map_more f items i 0 within))))

pub loop-j-preserved : goal.loop-j-preserved
loop-j-preserved c =
    let n = c.args.net.now in
    one_more (λ k. (latch_at n k).out.0) (map (λ i. (input_at n i).signal.0) c.args.cone.now.inputs) c.loop-j.places c.push-in-loop-j.new.self c.as_slice-j-items.result.now c.loop-j.j-index c.latch_of.result.now.out.0 c.loop-j.invariant c.loop-j-test.true
    (ap (λ (l : LatchAt). l.out.0) c.latch_of.ensures.is) c.in_ok-push-2.ensures.ok

pub loop-i-preserved : goal.loop-i-preserved
loop-i-preserved c =
    let n = c.args.net.now in
    one_more (λ i. (input_at n i).signal.0) [] c.loop-i.places c.push.new.self c.as_slice-i-items.result.now c.loop-i.i-index c.input_of.result.now.signal.0 c.loop-i.invariant c.loop-i-test.true (ap (λ (p : Port). p.signal.0) c.input_of.ensures) c.in_ok-push.ensures.ok

pub returns : goal.returns
returns c =
    let n = c.args.net.now in
    c.loop-j.invariant ∙ ap (λ ks. map (λ i. (input_at n i).signal.0) c.args.cone.now.inputs ++ map (λ k. (latch_at n k).out.0) ks) (take_all c.loop-j.j-index c.as_slice-j-items.result.now c.loop-j-test.false ∙ c.as_slice-j-items.ensures)

pub loop-j-init : goal.loop-j-init
loop-j-init c =
    let f : ℕ → ℕ = λ i. (input_at c.args.net.now i).signal.0 in
    c.loop-i.invariant ∙ (ap (map f) (take_all c.loop-i.i-index c.as_slice-i-items.result.now c.loop-i-test.false ∙ c.as_slice-i-items.ensures) ∙ sym (append-nil (map f c.args.cone.now.inputs)))

pub latch_of-requires : goal.latch_of-requires
latch_of-requires c = subst (All (λ j. j < length c.args.net.now.latches)) (sym c.as_slice-j-items.ensures) c.requires.latches c.loop-j.j-index 0 c.loop-j-test.true

pub input_of-requires : goal.input_of-requires
input_of-requires c = subst (All (λ i. i < length c.args.net.now.inputs)) (sym c.as_slice-i-items.ensures) c.requires.inputs c.loop-i.i-index 0 c.loop-i-test.true
