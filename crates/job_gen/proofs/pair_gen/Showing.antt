-- Outputs that are shown, one after the other.
use Rattle.std.proofs.Common.{◌≡◌, ◌+◌, ◌∙◌, ℕ, List, [], sym, ap, length}
use Rattle.circuit_theory.specs.declared.Side.{Side}
use Rattle.flat_net.specs.declared.parts.Port.{Port}
use Rattle.flat_net.specs.Makes.{MakerView, with_output}
use Rattle.job_gen.specs.pair_gen.Cells.{output_name, shown_by}
use Rattle.job_gen.specs.pair_gen.Sketch.{first_of, output_at, signal_of}
use Rattle.job_gen.proofs.pair_gen.Firsts.{first_of-none, first_of-more}

-- the net under construction with other outputs
abbrev pub with_shown : MakerView → List Port → MakerView
with_shown made outputs = record made { net = record made.net { outputs = outputs } }

module _ (circuit : Side) (before : MakerView) where
  pub shown_none : before.net.outputs ≡ [] → before ≡ with_shown before (first_of (output_at circuit) 0)
  shown_none none = ap (with_shown before) (none ∙ sym (first_of-none (output_at circuit)))

  -- one output more
  pub shown_more : (made after : MakerView) (n : ℕ) → made ≡ with_shown before (first_of (output_at circuit) n) →
      after ≡ record made { net = with_output made.net (output_name n) (signal_of (shown_by circuit n)) } → after ≡ with_shown before (first_of (output_at circuit) (n + 1))
  shown_more made after n e new =
      new ∙ ap (λ (m : MakerView). let k : MakerView = record m { net = with_output m.net (output_name n) (signal_of (shown_by circuit n)) } in k) e
      ∙ ap (with_shown before) (sym (first_of-more (output_at circuit) n))
