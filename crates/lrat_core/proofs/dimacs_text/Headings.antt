-- Lines that are headers, and lines that aren't.
use Rattle.std.proofs.Common.{◌≡◌, ℕ, true, false, cond, ◌&&◌, List, [], ◌∷◌, sym, ◌∙◌, ap, codes, Option, None, suc}
use Rattle.std.specs.Str.{bytes_eq}
use Rattle.text_numbers.specs.Lines.{tokens_of, is_passed_over}
use Rattle.lrat_core.specs.declared.dimacs_text.counts.Header.{Header}
use Rattle.lrat_core.specs.dimacs_text.Dimacs.{count_of, header_from, header_of, header_then, formula_from}

module _ (tokens first second third fourth fifth : List (List ℕ)) (a b c d e : List ℕ) where
  pub no_token : tokens ≡ [] → None ≡ header_of tokens
  no_token p = ap header_of (sym p)

  pub one_token : tokens ≡ a ∷ first → first ≡ [] → None ≡ header_of tokens
  one_token p q = ap header_of (sym (p ∙ ap (λ ts. a ∷ ts) q))

  four : tokens ≡ a ∷ first → first ≡ b ∷ second → second ≡ c ∷ third → third ≡ d ∷ fourth → fourth ≡ [] → header_of tokens ≡ cond (bytes_eq a (codes "p") && bytes_eq b (codes "cnf")) (header_from (count_of c) (count_of d)) None
  four p q r s t = ap header_of (p ∙ (ap (λ ts. a ∷ ts) q ∙ (ap (λ ts. a ∷ b ∷ ts) r ∙ (ap (λ ts. a ∷ b ∷ c ∷ ts) s ∙ ap (λ ts. a ∷ b ∷ c ∷ d ∷ ts) t))))

-- the lines up to the header
pub over : (number : ℕ) (left lines : List (List ℕ)) (line : List ℕ) → left ≡ line ∷ lines → is_passed_over (tokens_of line) ≡ true → formula_from number left ≡ formula_from (suc number) lines
over number left lines line e shown = ap (formula_from number) e ∙ ap (λ b. cond b (formula_from (suc number) lines) (header_then (header_of (tokens_of line)) number lines)) shown

pub here : (number : ℕ) (left lines : List (List ℕ)) (line : List ℕ) (h : Option Header) → left ≡ line ∷ lines → is_passed_over (tokens_of line) ≡ false → h ≡ header_of (tokens_of line) →
    formula_from number left ≡ header_then h number lines
here number left lines line h e off is =
    ap (formula_from number) e
    ∙ (ap (λ b. cond b (formula_from (suc number) lines) (header_then (header_of (tokens_of line)) number lines)) off ∙ ap (λ o. header_then o number lines) (sym is))
