-- Blocks of words, and the signatures that they give.
use Rattle.std.proofs.Common.{◌≡◌, ℕ, ◌+◌, ◌*◌, ◌/◌, ◌%◌, ◌^◌, ◌<◌, ◌≤◌, ◌⊎◌, inl, inr, Bool, false, List, [], ◌∷◌, ◌++◌, length, take, drop, get_or, refl, sym, ◌∙◌, ap, arith, subst}
use Rattle.std.specs.Prelude.{All}
use mathlib.Core.Path.{fun_ext}
use lib.Lanes.{chunk}
use mir.Syntax.{w64}
use mir.Val.{Fits}
use Rattle.std.proofs.lemmas.List.{get_or-map, length-map, get_or_append_left, get_or_past, length-append, take_all}
use Rattle.std.proofs.lemmas.List.Elements.{All-push}
use Rattle.std.proofs.lemmas.Simd.{get_or-chunk, length-chunk}
use Rattle.aig.specs.declared.node.Node.{Node}
use Rattle.aig.specs.Graph.{vars_of}
use Rattle.aig.specs.Values.{value, node_bits, assigned}
use Rattle.aig.proofs.Meaning.{value-even}
use Rattle.aig.specs.lane_eval.Blocks.{word_bit, block_bit, IsBlock, lane}
use Rattle.aig.specs.lane_eval.Signatures.{word_lane, AreWordBlocks, AreSignatures}
use Rattle.aig.proofs.lane_eval.Bits.{word_bit-zero}

last : {X : Type 0} (xs : List X) (x d : X) → get_or (xs ++ x ∷ []) (length xs) d ≡ x
last [] x d = refl
last (y ∷ xs) x d = last xs x d

-- a bit of the block of a variable's words
chunk-bit : (words : List ℕ) (i k : ℕ) (b : List ℕ) → b ≡ chunk (8 * i) 8 words → k < 512 → block_bit b k ≡ word_lane words k i
unfolding block_bit
chunk-bit words i k b is inside = ap (λ (x : List ℕ). word_bit (get_or x (k / 64) 0) (k % 64)) is ∙ ap (λ (w : ℕ). word_bit w (k % 64)) (get_or-chunk (8 * i) 8 words (k / 64) 0 (omega arith))

-- one block more
pub words-step : (words : List ℕ) (i : ℕ) (blocks new : List (List ℕ)) (b : List ℕ) → AreWordBlocks words i blocks → IsBlock b → b ≡ chunk (8 * i) 8 words → new ≡ blocks ++ b ∷ [] → AreWordBlocks words (i + 1) new
words-step words i blocks new b are block is e = subst (AreWordBlocks words (i + 1)) (sym e) (record {
  each = length-append blocks (b ∷ []) ∙ ap (λ (n : ℕ). n + 1) are.each;
  sound = All-push IsBlock blocks b are.sound block;
  bits = λ v k inside lane_in. by v k lane_in (cases v inside);
})
  where
    cases : (v : ℕ) → v < i + 1 → (v < i) ⊎ (i ≡ v)
    cases v h = grind arith

    by : (v k : ℕ) → k < 512 → (v < i) ⊎ (i ≡ v) → block_bit (get_or (blocks ++ b ∷ []) v []) k ≡ word_lane words k v
    by v k inside (inl l) = ap (λ (x : List ℕ). block_bit x k) (get_or_append_left blocks (b ∷ []) [] v (omega (arith, are.each))) ∙ are.bits v k l inside
    by v k inside (inr e) =
        ap (λ (n : ℕ). block_bit (get_or (blocks ++ b ∷ []) n []) k) (sym (are.each ∙ e)) ∙ ap (λ (x : List ℕ). block_bit x k) (last blocks b []) ∙ chunk-bit words i k b is inside ∙ ap (word_lane words k) e

-- the assignment of a lane
lane-is : (words : List ℕ) (count : ℕ) (inputs : List (List ℕ)) (k : ℕ) → length words ≡ 8 * count → AreWordBlocks words count inputs → k < 512 → assigned (lane k inputs) ≡ word_lane words k
lane-is words count inputs k each are inside = fun_ext (λ v. by v (cases v))
  where
    cases : (v : ℕ) → (v < count) ⊎ (count ≤ v)
    cases v = grind arith

    by : (v : ℕ) → (v < count) ⊎ (count ≤ v) → assigned (lane k inputs) v ≡ word_lane words k v
    by v (inl l) = get_or-map (λ (b : List ℕ). block_bit b k) inputs v [] false (omega (arith, are.each)) ∙ are.bits v k l inside
    by v (inr g) =
        get_or_past (lane k inputs) v false (omega (arith, are.each, length-map inputs (λ (b : List ℕ). block_bit b k)))
        ∙ sym (ap (λ (w : ℕ). word_bit w (k % 64)) (get_or_past words (8 * v + k / 64) 0 (omega (arith, each))) ∙ word_bit-zero (k % 64))

-- the blocks of the nodes are the signatures
pub signatures-are : (g : List Node) (words : List ℕ) (inputs blocks : List (List ℕ)) → length words ≡ 8 * vars_of g → AreWordBlocks words (vars_of g) inputs → length blocks ≡ length g → All IsBlock blocks →
    ((k : ℕ) → k < 512 → lane k blocks ≡ node_bits g (assigned (lane k inputs))) → AreSignatures g words blocks
signatures-are g words inputs blocks each are size sound bits = record {
  each = size;
  sound = sound;
  bits = λ n k within inside.
      sym (get_or-map (λ (b : List ℕ). block_bit b k) blocks n [] false (omega (arith, size))) ∙ ap (λ (bs : List Bool). get_or bs n false) (bits k inside)
      ∙ sym (value-even g (assigned (lane k inputs)) n) ∙ ap (λ (a : ℕ → Bool). value g a (2 * n)) (lane-is words (vars_of g) inputs k each are inside);
}

-- what was written over all places
pub whole : {X : Type 0} (n : ℕ) (new old : List X) → length new ≡ n → length old ≡ n → take n (new ++ drop (length new) old) ≡ new
whole n new old e f =
    ap (λ (m : ℕ). take n (new ++ drop m old)) (e ∙ sym f) ∙ ap (λ (xs : List _). take n (new ++ xs)) (none old) ∙ ap (take n) (nil new) ∙ take_all n new (omega (arith, e))
  where
    none : {X : Type 0} (xs : List X) → drop (length xs) xs ≡ []
    none [] = refl
    none (x ∷ xs) = none xs

    nil : {X : Type 0} (xs : List X) → xs ++ [] ≡ xs
    nil [] = refl
    nil (x ∷ xs) = ap (λ (ys : List _). x ∷ ys) (nil xs)

-- eight words of a list of words
pub chunk-block : (words : List ℕ) (at : ℕ) → at + 8 ≤ length words → ((i : ℕ) → Fits w64 (get_or words i 0)) → IsBlock (chunk at 8 words)
chunk-block words at room fits = record { eight = length-chunk at 8 words room; fits = λ i. by i (cases i) }
  where
    cases : (i : ℕ) → (i < 8) ⊎ (8 ≤ i)
    cases i = grind arith

    by : (i : ℕ) → (i < 8) ⊎ (8 ≤ i) → get_or (chunk at 8 words) i 0 < 2 ^ 64
    by i (inl l) = subst (λ (w : ℕ). w < 2 ^ 64) (sym (get_or-chunk at 8 words i 0 l)) (fits (at + i)).fits
    by i (inr g) = subst (λ (w : ℕ). w < 2 ^ 64) (sym (get_or_past (chunk at 8 words) i 0 (omega (arith, length-chunk at 8 words room)))) (omega arith)
