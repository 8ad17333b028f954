-- Small designs can be compared under the names of a text that says no pair.
use Rattle.std.proofs.Common.{◌≡◌, ◌∙◌, ◌++◌, ◌≤◌, ℕ, Bool, List, [], ◌∷◌, map, slice_get, Some, refl, sym, ap, subst, arith}
use Rattle.std.specs.List.{Contains}
use Rattle.std.proofs.lemmas.Option.{none-some}
use Rattle.circuit_theory.specs.declared.Side.TheVariants.{A, B}
use Rattle.circuit_theory.specs.Agree.{cut}
use Rattle.circuit_theory.specs.Circuit.{Circuit, Equation, Gate, Latch, Port}
use Rattle.circuit_theory.specs.Depth.{HasCycle}
use Rattle.circuit_theory.specs.Flattened.{latch_names}
use Rattle.circuit_theory.specs.Run.{NoneEnabled}
use Rattle.circuit_theory.specs.Sizes.{IsOver}
use Rattle.blif_read.specs.declared.design.BlifModel.{BlifModel}
use Rattle.blif_read.specs.blif_lines.Lines.{TokenLine, cut_line, going_on, logical_lines}
use Rattle.flat_net.specs.declared.parts.LatchAt.{LatchAt}
use Rattle.flat_net.specs.View.{NetView, circuit_of}
use Rattle.net_names.specs.Renamed.{IsRenamed, renamed, renamed_equation, renamed_latch}
use Rattle.net_names.specs.declared.latch_pairs.LatchPair.{LatchPair}
use Rattle.job_base.specs.declared.finding.PairKind.{PairKind}
use Rattle.job_base.specs.declared.finding.PairKind.TheVariants as pair_kind
use Rattle.pair_texts.specs.design_rows.Small.{IsSmall, Small, small_and, small_early, small_late}
use Rattle.pair_texts.specs.design_rows.Designs as design
use Rattle.pair_texts.specs.design_rows.Texts.{early, hier, late, off_and, on_and}
use Rattle.pair_texts.proofs.design_rows.Spelling.{PortsMatch, Spells, accepted, net_is_small}
use Rattle.pair_texts.proofs.design_rows.SpelledTexts.{early_spells, hier_spells, late_spells, off_and_spells, on_and_spells}
use Rattle.job_pair.specs.Examples.{plainly}
use Rattle.job_pair.proofs.Examples.{unrefused}
use Rattle.job_pair.specs.job_renamed.Answer.{AreRenamedComparable}
use Rattle.job_pair.specs.job_renamed.Examples.{RenamedAreComparable, no_pairs}
use Rattle.job_pair.specs.job_renamed.Texts.{HasFaultyPair, SaysPairs, line_of}

no_lines : logical_lines no_pairs ≡ []
unfolding cut_line going_on
no_lines = refl

-- so the text says no pair, and has no faulty line
no_pair : (pairs : List LatchPair) → SaysPairs no_pairs pairs → pairs ≡ []
no_pair [] says = refl
no_pair (p ∷ pairs) says = absurd (let e : [] ≡ line_of p ∷ map line_of pairs = sym no_lines ∙ says.lines in cc)

not_behind : (before : List TokenLine) (line : TokenLine) (more : List TokenLine) → [] ≡ before ++ line ∷ more → ⊥
not_behind [] line more e = cc
not_behind (x ∷ before) line more e = cc

none_there : (pairs : List LatchPair) (p : LatchPair) → pairs ≡ [] → Contains pairs p → ⊥
none_there pairs p none h = let k : Contains [] p = subst (λ (xs : List LatchPair). Contains xs p) none h in omega (arith, k.1)

faultless : (a b : NetView) (line : ℕ) (kind : PairKind) → HasFaultyPair no_pairs a b line kind → ⊥
faultless a b line pair_kind.BadPair h = not_behind (map line_of h.before) h.line h.more (sym no_lines ∙ h.lines)
faultless a b line (pair_kind.Unknown A) h = none_there h.0 h.2.0 (no_pair h.0 h.1) h.2.1
faultless a b line (pair_kind.Unknown B) h = none_there h.0 h.2.0 (no_pair h.0 h.1) h.2.1
faultless a b line pair_kind.Twice h = none-some h.2.first (subst (λ (xs : List LatchPair). slice_get xs h.2.earlier ≡ Some h.2.first) (no_pair h.0 h.1) h.2.first_at)
faultless a b line pair_kind.Taken h = none_there h.0 h.2.0 (no_pair h.0 h.1) h.2.1

-- without pairs nothing is renamed
same_equations : {P : Type 0} (es : List (Equation P)) → map (renamed_equation []) es ≡ es
same_equations [] = refl
same_equations {P} (Gate out fanins cover ∷ es) = ap (λ (xs : List (Equation P)). Gate out fanins cover ∷ xs) (same_equations es)
same_equations {P} (Latch name out next ∷ es) = ap (λ (xs : List (Equation P)). Latch name out next ∷ xs) (same_equations es)
same_equations {P} (Port out from ∷ es) = ap (λ (xs : List (Equation P)). Port out from ∷ xs) (same_equations es)

same_latches : (ls : List LatchAt) → map (renamed_latch []) ls ≡ ls
same_latches [] = refl
same_latches (l ∷ ls) = ap (λ (xs : List LatchAt). l ∷ xs) (same_latches ls)

still_small : (s : Small) (n m : NetView) → IsSmall s n → IsRenamed [] n m → IsSmall s m
still_small s n m own is =
    let circuit : circuit_of m ≡ circuit_of n = is.circuit ∙ ap (λ (es : List (Equation ℕ)). let c : Circuit ℕ = record (circuit_of n) { equations = es } in c) (same_equations (circuit_of n).equations) in
    record {
      unclocked = is.clock ∙ own.unclocked;
      inputs = ap (map (λ p. p.name)) is.inputs ∙ own.inputs;
      outputs = ap (map (λ p. p.name)) is.outputs ∙ own.outputs;
      latches = ap (λ (c : Circuit ℕ). latch_names c.equations) circuit ∙ own.latches;
      counted = ap (map (λ l. l.name)) (is.latches ∙ same_latches n.latches) ∙ own.counted;
      acyclic = λ more h. own.acyclic more (subst (λ (c : Circuit ℕ). HasCycle c NoneEnabled (s.removed ++ more)) circuit h);
      light = λ cap h. own.light cap (subst (λ (c : Circuit ℕ). IsOver (cut s.removed c) (map (λ o. o.place) (cut s.removed c).outputs) cap) circuit h);
    }

comparable : (x y : List ℕ) (m k : List BlifModel) (s t : Small) → Spells x m s → Spells y k t → PortsMatch s t → s.removed ≡ [] → t.removed ≡ [] → s.weight ≤ 2000000 → t.weight ≤ 2000000 → (expose : Bool) → AreRenamedComparable x y no_pairs (plainly expose)
comparable x y m k s t p q same none_left none_right few_left few_right expose = record {
  left = accepted x m s p;
  right = accepted y k t q;
  short = omega arith;
  faultless = λ a b l r line kind h. faultless a b line kind h;
  unrefused = λ a b right l r named e h.
      (let is = subst (λ (ps : List LatchPair). IsRenamed ps b right) (no_pair named.0 named.1.says) named.2 in
      unrefused s t a right (net_is_small x m s p a l) (still_small t b right (net_is_small y k t q b r) is) same none_left none_right few_left few_right expose e h);
}

pub renamed_are_comparable : RenamedAreComparable
renamed_are_comparable expose = (
  comparable on_and off_and design.on_and design.off_and small_and (record small_and { weight = 9 }) on_and_spells off_and_spells (λ own others. refl) refl refl (omega arith) (omega arith) expose,
  comparable late early design.late design.early small_late small_early late_spells early_spells (λ own others. refl) refl refl (omega arith) (omega arith) expose,
  comparable hier early design.hier design.early small_late small_early hier_spells early_spells (λ own others. refl) refl refl (omega arith) (omega arith) expose,
)
