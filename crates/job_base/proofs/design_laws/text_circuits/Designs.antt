-- What is said of flat nets is said of the circuits that they come from.
use Rattle.std.proofs.Common.{◌≡◌, ◌∙◌, ℕ, ◌<◌, Bool, List, [], sym, ap, arith}
use Rattle.circuit_theory.specs.declared.Mode.TheVariants.{Plain}
use Rattle.circuit_theory.specs.Agree.{Agree, AreAlike, IsPair, IsSettled}
use Rattle.circuit_theory.specs.Circuit.{Circuit}
use Rattle.circuit_theory.specs.Flattened.{Follows}
use Rattle.circuit_theory.specs.Run.{IsRun}
use Rattle.job_base.proofs.design_laws.FlatMarks.{mark_down}
use Rattle.job_base.proofs.design_laws.FlatOnward.{nets_alike, nets_start, runs_up}
use Rattle.job_base.proofs.design_laws.FlatParts.{FlatDesign, along, input_up, output_down, output_up, run_down}
use Rattle.witness_report.specs.declared.stimulus.Stimulus.{Stimulus}
use Rattle.witness_report.specs.declared.witness.Witness.{Witness}
use Rattle.witness_report.specs.Shown.{Obeys, MakesDiffer, AgreeFrom}

module _ {P : Type 0} {d : Circuit P} {net : Circuit ℕ} {clocked : P → Type 0} (f : FlatDesign d net clocked) where
  -- a run of the design that obeys a sequence is a run of the net that does
  pub obeys_down : (stimulus : Stimulus) (n : ℕ) (run : ℕ → P → Bool) → Obeys d stimulus n run → Obeys net stimulus n (λ t s. run t (f.origin s))
  obeys_down stimulus n run obeys t i row name bit s h row_is bit_is name_is input = obeys t i row name bit (f.origin s) h row_is bit_is name_is (input_up f name s input)

  -- a place that stands for a signal of the net
  pub record StandsFor (p : P) (s : ℕ) : Type 0 where
    pub signal : f.signal p ≡ s
    pub follows : Follows d p (f.origin (f.signal p))

  -- one side of what a sequence shows
  pub shown_side : (w : Witness) (p : P) (s : ℕ) (bit : Bool) → StandsFor p s → ((n : ℕ) (run : ℕ → ℕ → Bool) → w.cycle < n → IsRun net n run → Obeys net w.stimulus n run → run w.cycle s ≡ bit) →
      (n : ℕ) (run : ℕ → P → Bool) → w.cycle < n → IsRun d n run → Obeys d w.stimulus n run → run w.cycle p ≡ bit
  shown_side w p s bit stands shows n run h is_run obeys =
      along d (run w.cycle) (is_run.meets w.cycle h) stands.follows
      ∙ ap (λ (k : ℕ). run w.cycle (f.origin k)) stands.signal
      ∙ shows n (λ t k. run t (f.origin k)) h (run_down f n run is_run) (obeys_down w.stimulus n run obeys)

module _ {P Q : Type 0} {a : Circuit P} {b : Circuit Q} {na nb : Circuit ℕ} {clocked_a : P → Type 0} {clocked_b : Q → Type 0} (f : FlatDesign a na clocked_a) (g : FlatDesign b nb clocked_b) where
  -- what a sequence shows of the nets it shows of their designs
  pub differ_up : (w : Witness) → MakesDiffer na nb w → MakesDiffer a b w
  differ_up w shows =
      let x = output_up f shows.name shows.left_place shows.left_output in
      let y = output_up g shows.name shows.right_place shows.right_output in
      record {
        name = shows.name;
        left_place = x.0;
        right_place = y.0;
        named = shows.named;
        left_output = x.1;
        right_output = y.1;
        differ = shows.differ;
        left_shows = shown_side f w x.0 shows.left_place w.left (record { signal = x.2; follows = (f.circuit.shown shows.name x.0 x.1).follows }) shows.left_shows;
        right_shows = shown_side g w y.0 shows.right_place w.right (record { signal = y.2; follows = (g.circuit.shown shows.name y.0 y.1).follows }) shows.right_shows;
      }

  -- two runs of the designs with equal inputs are two of the nets
  pub alike_down : (n : ℕ) (left : ℕ → P → Bool) (right : ℕ → Q → Bool) → AreAlike a b n left right → AreAlike na nb n (λ t s. left t (f.origin s)) (λ t s. right t (g.origin s))
  alike_down n left right alike = nets_alike f g [] n left right alike 0

  module _ (n : ℕ) (left : ℕ → P → Bool) (right : ℕ → Q → Bool) (alike : AreAlike a b n left right) where
    -- the settled outputs of the nets' runs are equal
    abbrev NetsAgree : Type 0
    NetsAgree =
        (t i j : ℕ) → t < n → IsPair [] na nb i j → IsSettled Plain na (λ t s. left t (f.origin s)) t i → IsSettled Plain nb (λ t s. right t (g.origin s)) t j → left t (f.origin i) ≡ right t (g.origin j)

    -- so are those of the designs
    pub settled_up : NetsAgree → (t : ℕ) (p : P) (q : Q) → t < n → IsPair [] a b p q → IsSettled Plain a left t p → IsSettled Plain b right t q → left t p ≡ right t q
    settled_up agree t p q low (IsPair.nexts h l r) sp sq = absurd (omega (arith, h.1))
    settled_up agree t p q low (IsPair.outputs {name = name} l r) sp sq =
        along a (left t) (alike.left_run.meets t low) (f.circuit.shown name p l).follows
        ∙ agree t (f.signal p) (g.signal q) low (IsPair.outputs {name = name} (output_down f name p l) (output_down g name q r)) (mark_down f left (λ t s. left t (f.origin s)) sp) (mark_down g right (λ t s. right t (g.origin s)) sq)
        ∙ sym (along b (right t) (alike.right_run.meets t low) (g.circuit.shown name q r).follows)

  -- designs agree where their nets do
  pub agree_up : Agree Plain na nb → Agree Plain a b
  agree_up agree n left right alike = settled_up n left right alike (agree n (λ t s. left t (f.origin s)) (λ t s. right t (g.origin s)) (alike_down n left right alike))

  -- designs agree from the cycle on from which their nets do
  pub from_up : (from : ℕ) (names : List (List ℕ)) → AgreeFrom from names na nb → AgreeFrom from names a b
  from_up from names agree n left right alike low start =
      runs_up f g names n left right alike from
      (agree n (λ t s. left t (f.origin s)) (λ t s. right t (g.origin s)) (alike_down n left right alike) low (nets_start f g names n left right alike from start))
