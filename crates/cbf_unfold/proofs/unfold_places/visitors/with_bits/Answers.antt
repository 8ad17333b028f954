-- One number more, if its word has a bit of the mask.
use Rattle.std.proofs.Common.{◌≡◌, ◌∙◌, ◌+◌, ◌++◌, [], ◌∷◌, ◌<◌, ℕ, Bool, true, false, cond, List, length, take, get_or, sym, ap, append-nil}
use Rattle.std.proofs.lemmas.List.{take_all}
use Rattle.std.proofs.lemmas.List.Elements.{All-get_or, filter_more}
use Rattle.cbf_unfold.specs.unfold_places.Visitors.{has_bit, with_bits}
use Rattle.cbf_unfold.proofs.unfold_places.visitors.with_bits.Goals as goal

pub has_bit-requires : goal.has_bit-requires
has_bit-requires c = All-get_or (λ (i : ℕ). i < length c.args.words.now) c.args.numbers.now c.loop-number.number-index 0 c.loop-number-test.true c.requires

more : (words numbers : List ℕ) (mask i : ℕ) (b : Bool) → i < length numbers → has_bit words mask (get_or numbers i 0) ≡ b → with_bits words mask (take (i + 1) numbers) ≡ with_bits words mask (take i numbers) ++ cond b (get_or numbers i 0 ∷ []) []
more words numbers mask i b inside e = filter_more (has_bit words mask) numbers i 0 inside ∙ ap (λ (t : Bool). with_bits words mask (take i numbers) ++ cond t (get_or numbers i 0 ∷ []) []) e

pub loop-number-preserved-then-not-has_bit : goal.loop-number-preserved-then-not-has_bit
loop-number-preserved-then-not-has_bit c =
    c.loop-number.invariant ∙ sym (more c.args.words.now c.args.numbers.now c.args.mask c.loop-number.number-index false c.loop-number-test.true (sym c.has_bit.ensures ∙ c.if-not-has_bit.true) ∙ append-nil (with_bits c.args.words.now c.args.mask (take c.loop-number.number-index c.args.numbers.now)))

pub loop-number-preserved : goal.loop-number-preserved
loop-number-preserved c =
    c.in_ok-push.ensures.items
    ∙ (ap (λ (l : List ℕ). l ++ get_or c.args.numbers.now c.loop-number.number-index 0 ∷ []) c.loop-number.invariant
    ∙ sym (more c.args.words.now c.args.numbers.now c.args.mask c.loop-number.number-index true c.loop-number-test.true (sym c.has_bit.ensures ∙ c.if-not-has_bit.false)))

pub returns : goal.returns
returns c = c.loop-number.invariant ∙ ap (with_bits c.args.words.now c.args.mask) (take_all c.loop-number.number-index c.args.numbers.now c.loop-number-test.false)
