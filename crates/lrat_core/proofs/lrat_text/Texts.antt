-- The verdicts of texts.
use Rattle.std.proofs.Common.{◌≡◌, ℕ, suc, ◌+◌, arith, Err, Bool, true, false, List, [], ◌∷◌, refl, sym, ◌∙◌, ap, subst, Some, None, ◌⊎◌, inl, inr}
use Rattle.text_numbers.specs.declared.kinds.TextKind.{TextKind}
use Rattle.lrat_core.specs.Lines.{Line}
use Rattle.text_numbers.specs.Lines.{lines_of}
use Rattle.text_numbers.specs.declared.kinds.TextError.{TextError}
use Rattle.text_numbers.specs.declared.kinds.TextKind.TheVariants.{BadLine, NoEmpty}
use Rattle.lrat_core.specs.dimacs_text.Formulas.{Formula}
use Rattle.lrat_core.specs.States.{State, start}
use Rattle.lrat_core.specs.declared.line_error.LineError.{LineError}
use Rattle.lrat_core.specs.declared.line_error.LineError.TheVariants as line_error
use Rattle.lrat_core.specs.Sequences.{LineGives, AddsEmpty, Verdict, Accepted, Refused, after}
use Rattle.lrat_core.proofs.OneVerdict.{line_one}
use Rattle.lrat_core.proofs.Sound.{AllTrue, after_true, empty_false, numbered_true}
use Rattle.lrat_core.specs.lrat_text.Spellings.{Spelling, Nothing, Malformed, Spells, spelling_of}
use Rattle.lrat_core.specs.lrat_text.Verdicts.{TextGives, IsTextVerdict, IsChecked}
use Rattle.lrat_core.specs.lrat_text.Parts.{Goes, IsStep, IsFault, error_at}
use Rattle.lrat_core.specs.lrat_text.Laws.{TextHasOneVerdict, AcceptedTextRefutes}

nothing_spells : (s : Spelling) (l : Line) → s ≡ Nothing → s ≡ Spells l → ⊥
nothing_spells s l p q = let e : Nothing ≡ Spells l = sym p ∙ q in cc

malformed_spells : (s : Spelling) (l : Line) → s ≡ Malformed → s ≡ Spells l → ⊥
malformed_spells s l p q = let e : Malformed ≡ Spells l = sym p ∙ q in cc

nothing_malformed : (s : Spelling) → s ≡ Nothing → s ≡ Malformed → ⊥
nothing_malformed s p q = let e : Nothing ≡ Malformed = sym p ∙ q in cc

one_line : (s : Spelling) (l m : Line) → s ≡ Spells l → s ≡ Spells m → l ≡ m
one_line s l m p q = let e : Spells l ≡ Spells m = sym p ∙ q in cc

kind_one : (state : State) (s : Spelling) (l m : Line) (j k : TextKind) → s ≡ Spells l → s ≡ Spells m → LineGives state l (Some j) → LineGives state m (Some k) → j ≡ k
kind_one state s l m j k p q f g =
    let e : Some j ≡ Some k = line_one state m (Some j) (Some k) (subst (λ (x : Line). LineGives state x (Some j)) (one_line s l m p q) f) g in cc

holds_or_not : (state : State) (s : Spelling) (l m : Line) (k : TextKind) → s ≡ Spells l → s ≡ Spells m → LineGives state l None → LineGives state m (Some k) → ⊥
holds_or_not state s l m k p q f g =
    let e : None ≡ Some k = line_one state m None (Some k) (subst (λ (x : Line). LineGives state x None) (one_line s l m p q) f) g in cc

empty_or_not : (s : Spelling) (l m : Line) → s ≡ Spells l → s ≡ Spells m → AddsEmpty l → (AddsEmpty m → ⊥) → ⊥
empty_or_not s l m p q e f = f (subst AddsEmpty (one_line s l m p q) e)

text_one : {limit : ℕ} {state : State} {number : ℕ} {lines : List (List ℕ)} {v w : Verdict} → TextGives limit state number lines v → TextGives limit state number lines w → v ≡ w
text_one TextGives.none_left TextGives.none_left = refl
text_one (TextGives.passed_over p r) (TextGives.passed_over q s) = text_one r s
text_one (TextGives.passed_over p r) (TextGives.malformed q) = absurd (nothing_malformed _ p q)
text_one (TextGives.passed_over p r) (TextGives.faulty {line = m} q g) = absurd (nothing_spells _ m p q)
text_one (TextGives.passed_over p r) (TextGives.last {line = m} q g e) = absurd (nothing_spells _ m p q)
text_one (TextGives.passed_over p r) (TextGives.next {line = m} q g e s) = absurd (nothing_spells _ m p q)
text_one (TextGives.malformed p) (TextGives.passed_over q s) = absurd (nothing_malformed _ q p)
text_one (TextGives.malformed p) (TextGives.malformed q) = refl
text_one (TextGives.malformed p) (TextGives.faulty {line = m} q g) = absurd (malformed_spells _ m p q)
text_one (TextGives.malformed p) (TextGives.last {line = m} q g e) = absurd (malformed_spells _ m p q)
text_one (TextGives.malformed p) (TextGives.next {line = m} q g e s) = absurd (malformed_spells _ m p q)
text_one (TextGives.faulty {line = l} p f) (TextGives.passed_over q s) = absurd (nothing_spells _ l q p)
text_one (TextGives.faulty {line = l} p f) (TextGives.malformed q) = absurd (malformed_spells _ l q p)
text_one {state = state} {number = number} (TextGives.faulty {line = l} {kind = j} p f) (TextGives.faulty {line = m} {kind = k} q g) = ap (Refused number) (kind_one state _ l m j k p q f g)
text_one {state = state} (TextGives.faulty {line = l} {kind = j} p f) (TextGives.last {line = m} q g e) = absurd (holds_or_not state _ m l j q p g f)
text_one {state = state} (TextGives.faulty {line = l} {kind = j} p f) (TextGives.next {line = m} q g e s) = absurd (holds_or_not state _ m l j q p g f)
text_one (TextGives.last {line = l} p f d) (TextGives.passed_over q s) = absurd (nothing_spells _ l q p)
text_one (TextGives.last {line = l} p f d) (TextGives.malformed q) = absurd (malformed_spells _ l q p)
text_one {state = state} (TextGives.last {line = l} p f d) (TextGives.faulty {line = m} {kind = k} q g) = absurd (holds_or_not state _ l m k p q f g)
text_one (TextGives.last p f d) (TextGives.last q g e) = refl
text_one (TextGives.last {line = l} p f d) (TextGives.next {line = m} q g e s) = absurd (empty_or_not _ l m p q d e)
text_one (TextGives.next {line = l} p f d r) (TextGives.passed_over q s) = absurd (nothing_spells _ l q p)
text_one (TextGives.next {line = l} p f d r) (TextGives.malformed q) = absurd (malformed_spells _ l q p)
text_one {state = state} (TextGives.next {line = l} p f d r) (TextGives.faulty {line = m} {kind = k} q g) = absurd (holds_or_not state _ l m k p q f g)
text_one (TextGives.next {line = l} p f d r) (TextGives.last {line = m} q g e) = absurd (empty_or_not _ m l q p e d)
text_one {limit} {state} {number} {w = w} (TextGives.next {lines = lines} {line = l} p f d r) (TextGives.next {line = m} q g e s) =
    text_one r (subst (λ (x : Line). TextGives limit (after state x) (suc number) lines w) (one_line _ m l q p) s)

pub one_verdict : TextHasOneVerdict
one_verdict formula text v w p q = text_one p q

-- what is accepted shows that no assignment meets all clauses
text_sound : (v : ℕ → Bool) {limit : ℕ} {state : State} {number : ℕ} {lines : List (List ℕ)} {ended : ℕ} → TextGives limit state number lines (Accepted ended) → AllTrue v state.live → ⊥
text_sound v (TextGives.passed_over p r) alive = text_sound v r alive
text_sound v {state = state} (TextGives.last {line = l} p f d) alive = empty_false v state l f d alive
text_sound v {state = state} (TextGives.next {line = l} p f d r) alive = text_sound v r (after_true v state l f alive)

pub accepted_sound : AcceptedTextRefutes
accepted_sound formula text number h v sat = text_sound v h (numbered_true v formula.clauses sat)

-- a step of the checker
pub step_ends : (limit : ℕ) (old new : State) (number : ℕ) (left lines : List (List ℕ)) (bytes : List ℕ) (b : Bool) → left ≡ bytes ∷ lines → IsStep (spelling_of limit bytes) old new b → b ≡ true →
    TextGives limit old number left (Accepted number)
step_ends limit old new number left lines bytes true e h q = subst (λ ls. TextGives limit old number ls (Accepted number)) (sym e) (TextGives.last h.spells h.taken.0 h.empty)
step_ends limit old new number left lines bytes false e h q = absurd (let z : false ≡ true = q in cc)

pub step_goes : (limit : ℕ) (old new : State) (number : ℕ) (left lines : List (List ℕ)) (bytes : List ℕ) (b : Bool) (v : Verdict) → left ≡ bytes ∷ lines → IsStep (spelling_of limit bytes) old new b → b ≡ false →
    TextGives limit new (suc number) lines v → TextGives limit old number left v
step_goes limit old new number left lines bytes true v e h q rest = absurd (let z : true ≡ false = q in cc)
step_goes limit old new number left lines bytes false v e h q rest = subst (λ ls. TextGives limit old number ls v) (sym e) (go h)
  where
    go : Goes (spelling_of limit bytes) old new ⊎ ((spelling_of limit bytes ≡ Nothing) × (new ≡ old)) → TextGives limit old number (bytes ∷ lines) v
    go (inl k) = TextGives.next k.spells k.taken.0 k.some (subst (λ (s : State). TextGives limit s (suc number) lines v) k.taken.1 rest)
    go (inr k) = TextGives.passed_over k.0 (subst (λ (s : State). TextGives limit s (suc number) lines v) k.1 rest)

-- before the first line
pub text_begins : (formula : Formula) (text : List ℕ) (state : State) (n : ℕ) (left : List (List ℕ)) (v : Verdict) → state ≡ start formula.clauses → n ≡ 0 → left ≡ lines_of text →
    TextGives formula.variables state (suc n) left v → IsTextVerdict formula text v
text_begins formula text state n left v s e l h =
    subst (λ (x : State). TextGives formula.variables x 1 (lines_of text) v) s (subst (λ ls. TextGives formula.variables state 1 ls v) l (subst (λ k. TextGives formula.variables state (suc k) left v) e h))

module _ (formula : Formula) (text : List ℕ) (old : State) (n : ℕ) (left : List (List ℕ)) (rest : (v : Verdict) → TextGives formula.variables old (suc n) left v → IsTextVerdict formula text v) where
  pub text_ends : (new : State) (m : ℕ) (lines : List (List ℕ)) (bytes : List ℕ) (b : Bool) → left ≡ bytes ∷ lines → m ≡ n + 1 → IsStep (spelling_of formula.variables bytes) old new b → b ≡ true → IsTextVerdict formula text (Accepted m)
  text_ends new m lines bytes b e p step t =
      let q : suc n ≡ m = omega (arith, p) in
      subst (λ k. IsTextVerdict formula text (Accepted k)) q (rest (Accepted (suc n)) (step_ends formula.variables old new (suc n) left lines bytes b e step t))

  pub text_goes : (new : State) (m : ℕ) (lines : List (List ℕ)) (bytes : List ℕ) (b : Bool) (v : Verdict) → left ≡ bytes ∷ lines → m ≡ n + 1 → IsStep (spelling_of formula.variables bytes) old new b → b ≡ false →
      TextGives formula.variables new (suc m) lines v → IsTextVerdict formula text v
  text_goes new m lines bytes b v e p step t h =
      let q : m ≡ suc n = omega (arith, p) in
      rest v (step_goes formula.variables old new (suc n) left lines bytes b v e step t (subst (λ k. TextGives formula.variables new (suc k) lines v) q h))

  refused : (m : ℕ) (kind : TextKind) → m ≡ n + 1 → TextGives formula.variables old (suc n) left (Refused (suc n) kind) → IsTextVerdict formula text (Refused m kind)
  refused m kind p h = let q : suc n ≡ m = omega (arith, p) in subst (λ k. IsTextVerdict formula text (Refused k kind)) q (rest (Refused (suc n) kind) h)

  pub text_fails : (m : ℕ) (lines : List (List ℕ)) (bytes : List ℕ) (e : LineError) (r : TextError) → left ≡ bytes ∷ lines → m ≡ n + 1 → IsFault (spelling_of formula.variables bytes) old e → r ≡ error_at m e →
      IsChecked formula text (Err r)
  text_fails m lines bytes (line_error.Fault kind) r e p h is = subst (λ (x : TextError). IsChecked formula text (Err x)) (sym is) (refused m kind p (go h))
    where
      here : TextGives formula.variables old (suc n) (bytes ∷ lines) (Refused (suc n) kind) → TextGives formula.variables old (suc n) left (Refused (suc n) kind)
      here k = subst (λ ls. TextGives formula.variables old (suc n) ls (Refused (suc n) kind)) (sym e) k

      go : ((l : Line) × (spelling_of formula.variables bytes ≡ Spells l) × LineGives old l (Some kind)) ⊎ ((spelling_of formula.variables bytes ≡ Malformed) × (kind ≡ BadLine)) →
          TextGives formula.variables old (suc n) left (Refused (suc n) kind)
      go (inl k) = here (TextGives.faulty k.1 k.2)
      go (inr k) = here (subst (λ (x : TextKind). TextGives formula.variables old (suc n) (bytes ∷ lines) (Refused (suc n) x)) (sym k.1) (TextGives.malformed k.0))
  text_fails m lines bytes line_error.NoMemory r e p h is = subst (λ (x : TextError). IsChecked formula text (Err x)) (sym is) tt

  pub text_over : left ≡ [] → IsTextVerdict formula text (Refused 0 NoEmpty)
  text_over e = rest (Refused 0 NoEmpty) (subst (λ ls. TextGives formula.variables old (suc n) ls (Refused 0 NoEmpty)) (sym e) TextGives.none_left)
