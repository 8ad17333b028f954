-- Words of literals made again in another graph.
use Rattle.std.proofs.Common.{◌≡◌, ℕ, zero, suc, ◌*◌, ◌<◌, Bool, List, [], ◌∷◌, length, get_or, map, slice_get, Option, Some, None, IfNone, refl, sym, ap, ◌∙◌, subst, arith}
use Rattle.std.proofs.lemmas.List.{get_or-map, length-map}
use Rattle.std.proofs.lemmas.Option.{none-some, same_Some}
use Rattle.aig.specs.declared.node.Lit.{Lit}
use Rattle.aig.specs.declared.node.Node.{Node}
use Rattle.aig.specs.Values.{value}
use Rattle.aig.specs.graph_copy.graph_clone.Twins.{AreTwins, IsTwinOf, twin_in}
use Rattle.aig.proofs.graph_copy.graph_clone.Twins.{twin_there}
use Rattle.word_sums.specs.Sums.{word_bits}

-- words of equal bits have equal bits at each place
pub bits-at : (f : ℕ → Bool) (xs ys : List Lit) → word_bits f xs ≡ word_bits f ys → (i : ℕ) (x y : Lit) → slice_get xs i ≡ Some x → slice_get ys i ≡ Some y → f x.0 ≡ f y.0
bits-at f [] ys e i x y at also = absurd (none-some x at)
bits-at f (u ∷ us) [] e i x y at also = absurd (none-some y also)
bits-at f (u ∷ us) (v ∷ vs) e zero x y at also =
    let first : f u.0 ≡ f v.0 = cc in
    sym (ap (λ (l : Lit). f l.0) (same_Some u x at)) ∙ first ∙ ap (λ (l : Lit). f l.0) (same_Some v y also)
bits-at f (u ∷ us) (v ∷ vs) e (suc i) x y at also =
    let rest : word_bits f us ≡ word_bits f vs = cc in
    bits-at f us vs rest i x y at also

module _ (own g : List Node) (lits : List Lit) (are : AreTwins own g lits) (each : length lits ≡ length own) where
  twin : (x : Lit) → x.0 < 2 * length own → IsTwinOf own g x.0 (twin_in lits x).0
  twin x inside = twin_there own g lits x are (omega (arith, inside, each))

  pub twin-bits : (a : ℕ → Bool) (xs : List Lit) → ((k : ℕ) (d : Lit) → k < length xs → (get_or xs k d).0 < 2 * length own) → word_bits (value g a) (map (twin_in lits) xs) ≡ word_bits (value own a) xs
  twin-bits a [] within = refl
  twin-bits a (x ∷ xs) within =
      ap (λ (b : Bool). b ∷ word_bits (value g a) (map (twin_in lits) xs)) ((twin x (within 0 x (omega arith))).same a)
      ∙ ap (λ (bs : List Bool). value own a x.0 ∷ bs) (twin-bits a xs (λ k d inside. within (suc k) d (omega (arith, inside))))

  pub twin-within : (xs : List Lit) → ((k : ℕ) (d : Lit) → k < length xs → (get_or xs k d).0 < 2 * length own) → (k : ℕ) (d : Lit) → k < length (map (twin_in lits) xs) →
      (get_or (map (twin_in lits) xs) k d).0 < 2 * length g
  twin-within xs within k d inside =
      let old : k < length xs = omega (arith, inside, length-map xs (twin_in lits)) in
      subst (λ (y : Lit). y.0 < 2 * length g) (sym (get_or-map (twin_in lits) xs k d d old)) (twin (get_or xs k d) (within k d old)).within

  -- the literals of the word are copied one by one, and the list is read as it is
  copied : (slice xs ys s : List Lit) → slice ≡ lits → ys ≡ map (twin_in slice) xs → s ≡ ys → s ≡ map (twin_in lits) xs
  copied slice xs ys s e f d = d ∙ f ∙ ap (λ (ls : List Lit). map (twin_in ls) xs) e

  pub copied-within : (slice xs ys s : List Lit) → slice ≡ lits → ys ≡ map (twin_in slice) xs → s ≡ ys → ((k : ℕ) (d : Lit) → k < length xs → (get_or xs k d).0 < 2 * length own) →
      (k : ℕ) (d : Lit) → k < length s → (get_or s k d).0 < 2 * length g
  copied-within slice xs ys s e f d within =
      subst (λ (zs : List Lit). (k : ℕ) (x : Lit) → k < length zs → (get_or zs k x).0 < 2 * length g) (sym (copied slice xs ys s e f d)) (twin-within xs within)

  pub copied-bits : (slice xs ys s : List Lit) → slice ≡ lits → ys ≡ map (twin_in slice) xs → s ≡ ys → ((k : ℕ) (d : Lit) → k < length xs → (get_or xs k d).0 < 2 * length own) →
      (a : ℕ → Bool) → word_bits (value g a) s ≡ word_bits (value own a) xs
  copied-bits slice xs ys s e f d within a = ap (word_bits (value g a)) (copied slice xs ys s e f d) ∙ twin-bits a xs within

-- what holds if there is no value, where there is none
pub if-none : {X : Type 0} (o : Option X) (P : Type 0) → o ≡ None → IfNone o P → P
if-none None P e p = p
if-none (Some x) P e p = absurd (none-some x (sym e))
