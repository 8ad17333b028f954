-- The text of a refutation is accepted.
use Rattle.std.proofs.Common.{◌≡◌, ℕ, ◌+◌, ◌<◌, ◌≤◌, ◌^◌, List, ◌∷◌, length, sym, ◌∙◌, ap, subst}
use Rattle.std.specs.List.{All, flat_map}
use Rattle.std.proofs.lemmas.List.Elements.{All-head, All-tail}
use Rattle.proof_check.specs.Literals.{Literal}
use Rattle.proof_check.specs.Clauses.{IsClause}
use Rattle.proof_check.specs.Chains.{LogDerives, EndsEmpty, IsRefutation}
use Rattle.proof_check.specs.declared.derivation.Chain.{Chain}
use Rattle.proof_check.proofs.OneVerdict.{log_one}
use Rattle.pair_decide.specs.declared.cnf_encode.cnf.Cnf.{Cnf}
use Rattle.text_numbers.specs.Lines.{lines_of}
use Rattle.lrat_core.specs.dimacs_text.dimacs_writer.Laws.{AreWritable}
use Rattle.lrat_core.proofs.dimacs_text.dimacs_writer.Lining.{line_off}
use Rattle.lrat_core.specs.Lines.{Line, Adds, Deletes}
use Rattle.lrat_core.specs.States.{State, start}
use Rattle.lrat_core.specs.Sequences.{LinesGive, Accepted}
use Rattle.lrat_core.specs.Logs as log
use Rattle.lrat_core.proofs.Hinted.{logs_are_accepted}
use Rattle.lrat_core.specs.lrat_text.Verdicts.{TextGives}
use Rattle.lrat_core.specs.lrat_text.Spellings.{Spells, spelling_of}
use Rattle.lrat_core.specs.certificate_writer.Texts.{line_text, IsAcceptedOver}
use Rattle.lrat_core.proofs.certificate_writer.Ranges.{IsWritable, lines_writable}
use Rattle.lrat_core.proofs.certificate_writer.Spelled.{addition_line, addition_lined, addition_spelled, addition_plain}

module _ (v : ℕ) (small : v ≤ 2 ^ 30) where
  -- the first line of a text, and what it spells
  pub record BeginsWith (l : Line) (lines : List Line) : Type 0 where
    pub bytes : List ℕ
    pub spells : spelling_of v bytes ≡ Spells l
    pub there : lines_of (flat_map line_text (l ∷ lines)) ≡ bytes ∷ lines_of (flat_map line_text lines)

  begins : (l : Line) (lines : List Line) → IsWritable v l → BeginsWith l lines
  begins (Adds a) lines h = record {
    bytes = addition_line a;
    spells = addition_spelled v small a h.0 h.1 h.2;
    there = ap lines_of (addition_lined a (flat_map line_text lines)) ∙ line_off (addition_line a) (flat_map line_text lines) (addition_plain v small a h.0 h.1 h.2);
  }
  begins (Deletes ids) lines h = absurd h

  -- lines that are accepted are accepted as a text
  text_accepted : {state : State} {number : ℕ} {lines : List Line} {last : ℕ} → LinesGive state number lines (Accepted last) → All (IsWritable v) lines → TextGives v state number (lines_of (flat_map line_text lines)) (Accepted last)
  text_accepted {state} {number} (LinesGive.last {line = l} {lines = lines} p d) w =
      let b = begins l lines (All-head (IsWritable v) l lines w) in
      subst (λ ls. TextGives v state number ls (Accepted number)) (sym b.there) (TextGives.last b.spells p d)
  text_accepted {state} {number} {last = last} (LinesGive.next {line = l} {lines = lines} p d r) w =
      let b = begins l lines (All-head (IsWritable v) l lines w) in
      subst (λ ls. TextGives v state number ls (Accepted last)) (sym b.there) (TextGives.next b.spells p d (text_accepted r (All-tail (IsWritable v) l lines w)))

-- the text of a log that refutes the clauses
pub refutation_accepted : (cnf : Cnf) (chains : List Chain) (derived : List (List Literal)) (text : List ℕ) → AreWritable cnf.variables cnf.clauses → All IsClause cnf.clauses → length cnf.clauses + length chains < 2 ^ 32 → IsRefutation cnf.clauses chains →
    LogDerives cnf.clauses chains derived → text ≡ flat_map line_text (log.lines_of cnf.clauses chains derived) → IsAcceptedOver cnf text
refutation_accepted cnf chains derived text can all few refutes derives is =
    let one : refutes.derived ≡ derived = log_one cnf.clauses chains refutes.derived derived refutes.derives derives in
    let w = logs_are_accepted cnf.clauses chains derived all derives (subst EndsEmpty one refutes.ends_empty) in (
      w.0,
      subst (λ t. TextGives cnf.variables (start cnf.clauses) 1 (lines_of t) (Accepted w.0)) (sym is)
          (text_accepted cnf.variables can.few_variables w.1 (lines_writable cnf.variables cnf.clauses chains derived can.range derives few)),
    )
