-- What a line spells, from its parts.
use Rattle.std.proofs.Common.{◌≡◌, ℕ, Bool, true, false, cond, List, [], ◌∷◌, length, refl, sym, ◌∙◌, ap, ap₂, subst, inl}
use Rattle.std.specs.Prelude.{◌==◌}
use Rattle.std.proofs.Math.Dec.{eqb-suc-zero}
use Rattle.proof_check.specs.Literals.{Literal}
use Rattle.text_numbers.specs.Lines.{tokens_of}
use Rattle.text_numbers.specs.declared.numbers.Number.{Number}
use Rattle.lrat_core.specs.Lines.{adds, Deletes}
use Rattle.lrat_core.specs.Answers.{IsTaken}
use Rattle.lrat_core.specs.States.{State}
use Rattle.lrat_core.specs.declared.hints.Hint.{Hint}
use Rattle.lrat_core.specs.declared.lrat_text.line.Buffers.{Buffers}
use Rattle.lrat_core.specs.declared.lrat_text.line.Form.{Form}
use Rattle.lrat_core.specs.declared.lrat_text.line.Form.TheVariants as form
use Rattle.lrat_core.specs.lrat_text.Spellings.{Spelling, Nothing, Malformed, Spells, deletion_of, spelling_by, is_comment, spelling_of}
use Rattle.lrat_core.specs.lrat_text.Parts.{AreWords, IsDeletion, IsForm, IsStep}
use Rattle.lrat_core.specs.declared.lrat_text.words.Words.{Words}
use Rattle.lrat_core.specs.declared.lrat_text.words.Words.TheVariants as words

shown : (limit : ℕ) (line : List ℕ) (b : Bool) → b ≡ is_comment line → b ≡ false → spelling_of limit line ≡ spelling_by limit (tokens_of line)
shown limit line b e f = ap (λ t. cond t Nothing (spelling_by limit (tokens_of line))) (sym e ∙ f)

pub malformed_there : (limit : ℕ) (line : List ℕ) (b : Bool) (w : Words) (numbers : List Number) → b ≡ is_comment line → b ≡ false → AreWords (tokens_of line) w numbers → w ≡ words.Malformed →
    spelling_of limit line ≡ Malformed
malformed_there limit line b w numbers e f are is = shown limit line b e f ∙ subst (λ (x : Words). AreWords (tokens_of line) x numbers) is are limit

found_true : (limit : ℕ) (line : List ℕ) (slice : List Number) (found : Bool) (ids : List ℕ) → IsDeletion (deletion_of slice) found ids → found ≡ true → deletion_of slice ≡ Spells (Deletes ids)
found_true limit line slice true ids h e = h
found_true limit line slice false ids h e = absurd (let z : false ≡ true = e in cc)

found_false : (limit : ℕ) (line : List ℕ) (slice : List Number) (found : Bool) (ids : List ℕ) → IsDeletion (deletion_of slice) found ids → found ≡ false → deletion_of slice ≡ Malformed
found_false limit line slice true ids h e = absurd (let z : true ≡ false = e in cc)
found_false limit line slice false ids h e = h

pub deletion_there : (limit : ℕ) (line : List ℕ) (b : Bool) (w : Words) (numbers slice : List Number) (found : Bool) (ids : List ℕ) → b ≡ is_comment line → b ≡ false → AreWords (tokens_of line) w numbers →
    w ≡ words.Deletion → slice ≡ numbers → IsDeletion (deletion_of slice) found ids → found ≡ true → spelling_of limit line ≡ Spells (Deletes ids)
deletion_there limit line b w numbers slice found ids e f are is same d t =
    shown limit line b e f ∙ (subst (λ (x : Words). AreWords (tokens_of line) x numbers) is are limit ∙ (ap deletion_of (sym same) ∙ found_true limit line slice found ids d t))

pub no_deletion_there : (limit : ℕ) (line : List ℕ) (b : Bool) (w : Words) (numbers slice : List Number) (found : Bool) (ids : List ℕ) → b ≡ is_comment line → b ≡ false → AreWords (tokens_of line) w numbers →
    w ≡ words.Deletion → slice ≡ numbers → IsDeletion (deletion_of slice) found ids → found ≡ false → spelling_of limit line ≡ Malformed
no_deletion_there limit line b w numbers slice found ids e f are is same d t =
    shown limit line b e f ∙ (subst (λ (x : Words). AreWords (tokens_of line) x numbers) is are limit ∙ (ap deletion_of (sym same) ∙ found_false limit line slice found ids d t))

-- an addition is taken, and it is told whether it adds the empty clause
pub addition_step : (is : Spelling) (old new : State) (f : Form) (buffers : Buffers) (id : ℕ) (literals : List Literal) (hints : List Hint) → IsForm is f buffers → f ≡ form.Addition id → literals ≡ buffers.literals.items → hints ≡ buffers.hints.items →
    IsTaken old (adds id literals hints) new → IsStep is old new (length literals == 0)
addition_step is old new f buffers id literals hints are e l h taken = go literals (subst (λ (x : Form). IsForm is x buffers) e are ∙ ap₂ (λ ls hs. Spells (adds id ls hs)) (sym l) (sym h)) taken
  where
    go : (ls : List Literal) → is ≡ Spells (adds id ls hints) → IsTaken old (adds id ls hints) new → IsStep is old new (length ls == 0)
    go [] spells done = record { line = adds id [] hints; spells = spells; taken = done; empty = refl }
    go (x ∷ ls) spells done =
        let goes : IsStep is old new false = inl (record { line = adds id (x ∷ ls) hints; spells = spells; taken = done; some = λ q. cc }) in
        subst (λ (b : Bool). IsStep is old new b) (sym (eqb-suc-zero (length ls))) goes
