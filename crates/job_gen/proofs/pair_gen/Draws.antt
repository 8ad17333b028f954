-- Words that are drawn one after the other.
use Rattle.std.proofs.Common.{◌≡◌, ◌+◌, ◌∙◌, ℕ, zero, suc, List, [], ◌∷◌, ◌++◌, length, refl, sym, ap, append_assoc, append-nil, arith}
use Rattle.rand_core.specs.Steps.{first_words}
use Rattle.rand_xoshiro.specs.SplitMix64.{splitmix_seed}
use Rattle.rand_xoshiro.specs.Xoshiro256.{of_seed, plus_plus}
use Rattle.job_gen.specs.pair_gen.Words.{words_of}

next_words : (k w : ℕ) (s t : List ℕ) → (w, t) ≡ plus_plus s → w ∷ first_words plus_plus k t ≡ first_words plus_plus (suc k) s
unfolding first_words
next_words k w s t e = ap {A = ℕ × List ℕ} (λ p. p.0 ∷ first_words plus_plus k p.1) e

length-first_words : (k : ℕ) (s : List ℕ) → length (first_words plus_plus k s) ≡ k
unfolding first_words
length-first_words zero s = refl
length-first_words (suc k) s = ap suc (length-first_words k (plus_plus s).1)

-- there is a word for each gate
pub words_count : (seed : ℕ) → length (words_of seed) ≡ 5040
unfolding words_of
words_count seed = length-first_words 5040 (of_seed (splitmix_seed 32 seed))

module _ (ws : List ℕ) (s : List ℕ) where
  -- one word more is drawn
  pub word_drawn : (k n w : ℕ) (t : List ℕ) → (w, t) ≡ plus_plus s → n ≡ k + 1 → (ws ++ w ∷ []) ++ first_words plus_plus k t ≡ ws ++ first_words plus_plus n s
  word_drawn k n w t e count =
      let more : n ≡ suc k = omega arith in
      append_assoc ws (w ∷ []) (first_words plus_plus k t)
      ∙ ap (λ (rest : List ℕ). ws ++ rest) (next_words k w s t e) ∙ ap (λ (m : ℕ). ws ++ first_words plus_plus m s) (sym more)

  -- no word is left to be drawn
  pub all_drawn : (k : ℕ) → k ≡ 0 → ws ++ first_words plus_plus k s ≡ ws
  unfolding first_words
  all_drawn k none = ap (λ (m : ℕ). ws ++ first_words plus_plus m s) none ∙ append-nil ws
