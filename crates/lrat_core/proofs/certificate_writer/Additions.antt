-- The lines of a log, one by one.
use Rattle.std.proofs.Common.{◌≡◌, ℕ, suc, ◌+◌, ◌<◌, List, [], ◌∷◌, ◌++◌, length, take, drop, get_or, sym, ◌∙◌, ap, ap₂, subst, arith, append_assoc, length-append}
use Rattle.std.specs.List.{flat_map}
use Rattle.std.proofs.Math.Seq.{drop-cons}
use Rattle.std.proofs.lemmas.List.{append-nil, take_more, length-take-le}
use Rattle.std.proofs.lemmas.List.Elements.{All-append, All-take}
use Rattle.proof_check.specs.Literals.{Literal}
use Rattle.proof_check.specs.Chains.{LogDerives}
use Rattle.proof_check.specs.declared.derivation.Chain.{Chain}
use Rattle.lrat_core.specs.Lines.{Addition, Line, Adds}
use Rattle.lrat_core.specs.Logs.{hints_of, clauses_back, lines_of}
use Rattle.lrat_core.specs.certificate_writer.Texts.{addition_text, line_text}
use Rattle.lrat_core.specs.certificate_writer.Hinting.{IsWithin, AreWithin}
use Rattle.lrat_core.proofs.certificate_writer.Ranges.{log_within, as_many}

module _ (known : List (List Literal)) (log : List Chain) (derived : List (List Literal)) where
  -- the lines from a chain on
  abbrev pub lines_from : ℕ → List Line
  lines_from at = lines_of (known ++ take at derived) (drop at log) (drop at derived)

  next_line : (at : ℕ) (chain : Chain) (c : List Literal) → at < length log → chain ≡ get_or log at chain → at < length derived → c ≡ get_or derived at c →
      lines_from at ≡ Adds (record { id = length (known ++ take at derived) + 1; literals = c; hints = hints_of c (clauses_back (known ++ take at derived) chain) }) ∷ lines_from (at + 1)
  next_line at chain c lt is below here =
      let front = known ++ take at derived in
      let chains : drop at log ≡ chain ∷ drop (at + 1) log = drop-cons log at chain lt ∙ ap₂ (λ (x : Chain) (xs : List Chain). x ∷ xs) (sym is) (ap (λ k. drop k log) after) in
      let clauses : drop at derived ≡ c ∷ drop (at + 1) derived = drop-cons derived at c below ∙ ap₂ (λ (x : List Literal) (xs : List (List Literal)). x ∷ xs) (sym here) (ap (λ k. drop k derived) after) in
      let more : front ++ c ∷ [] ≡ known ++ take (at + 1) derived =
      append_assoc known (take at derived) (c ∷ []) ∙ ap (λ xs. known ++ xs) (ap (λ (x : List Literal). take at derived ++ x ∷ []) here ∙ sym (take_more derived at c below)) in
      ap₂ (λ (xs : List Chain) (ys : List (List Literal)). lines_of front xs ys) chains clauses
      ∙ ap (λ (ks : List (List Literal)). Adds (record { id = length front + 1; literals = c; hints = hints_of c (clauses_back front chain) }) ∷ lines_of ks (drop (at + 1) log) (drop (at + 1) derived)) more
    where
      after : suc at ≡ at + 1
      after = omega arith

  -- one more line
  pub text_more : (at id : ℕ) (chain : Chain) (c clause : List Literal) (front : List (List Literal)) (old new whole : List ℕ) → at < length log → chain ≡ get_or log at chain → at < length derived → c ≡ get_or derived at c → clause ≡ c →
      id ≡ length known + at + 1 → front ≡ known ++ take at derived → new ≡ old ++ addition_text (record { id = id; literals = clause; hints = hints_of clause (clauses_back front chain) }) →
      old ++ flat_map line_text (lines_from at) ≡ whole → new ++ flat_map line_text (lines_from (at + 1)) ≡ whole
  text_more at id chain c clause front old new whole lt is below here same number are put so =
      let number_is : id ≡ length (known ++ take at derived) + 1 = omega (arith, number, length-append known (take at derived), length-take-le at derived (omega arith)) in
      let line : Addition = record { id = length (known ++ take at derived) + 1; literals = c; hints = hints_of c (clauses_back (known ++ take at derived) chain) } in
      let is_line : addition_text (record { id = id; literals = clause; hints = hints_of clause (clauses_back front chain) }) ≡ addition_text line =
      ap (λ (n : ℕ). addition_text (record { id = n; literals = clause; hints = hints_of clause (clauses_back front chain) })) number_is
      ∙ (ap (λ (x : List Literal). addition_text (record { id = length (known ++ take at derived) + 1; literals = x; hints = hints_of x (clauses_back front chain) })) same
      ∙ ap (λ (ks : List (List Literal)). addition_text (record { id = length (known ++ take at derived) + 1; literals = c; hints = hints_of c (clauses_back ks chain) })) are) in
      ap (λ xs. xs ++ flat_map line_text (lines_from (at + 1))) (put ∙ ap (λ ys. old ++ ys) is_line)
      ∙ (append_assoc old (addition_text line) (flat_map line_text (lines_from (at + 1)))
      ∙ (ap (λ (ls : List Line). old ++ flat_map line_text ls) (sym (next_line at chain c lt is below here)) ∙ so))

  pub text_none : flat_map line_text (lines_from 0) ≡ flat_map line_text (lines_of known log derived)
  text_none = ap (λ (ks : List (List Literal)). flat_map line_text (lines_of ks log derived)) (append-nil known)

-- what is known where a chain's line is put
module _ (known : List (List Literal)) (log : List Chain) (derived : List (List Literal)) (derives : LogDerives known log derived) (items : List Chain) (xs : List (List Literal)) (at : ℕ) (items_are : items ≡ log) (are : xs ≡ derived) (lt : at < length items) where
  pub at_below : at < length xs
  at_below = omega (arith, as_many known log derived derives, ap (λ (cs : List Chain). length cs) items_are, ap (λ (cs : List (List Literal)). length cs) are, lt)

  pub front_within : (v w : ℕ) → w ≡ v → AreWithin v known → AreWithin w (known ++ take at xs)
  front_within v w e all =
      subst (λ (u : ℕ). AreWithin u (known ++ take at xs)) (sym e)
      (All-append (IsWithin v) known (take at xs) all (All-take (IsWithin v) at xs (subst (AreWithin v) (sym are) (log_within v known log derived all derives))))

  pub one_within : (v w : ℕ) (x : List Literal) → w ≡ v → AreWithin v known → x ≡ get_or xs at x → IsWithin w x
  one_within v w x e all is =
      let h : AreWithin v xs = subst (AreWithin v) (sym are) (log_within v known log derived all derives) in
      subst (λ (u : ℕ). IsWithin u x) (sym e) (subst (IsWithin v) (sym is) (h at x at_below))
