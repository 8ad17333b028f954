use Rattle.std.proofs.Common.{◌≡◌, ℕ, [], ◌∷◌, ◌++◌, codes, subst}
use Rattle.std.specs.Fmt.{decimal}
use Rattle.witness_report.specs.frame_report.Text.{frame_text}
use Rattle.obligations.specs.outcome.Report.{low_text, latch_text, bits_text, separation_text}
use Rattle.obligations.proofs.outcome.Pieces.{on_ok, six_pieces}
use Rattle.obligations.proofs.outcome.text.put_separation.Goals as goal

pub returns : goal.returns
unfolding separation_text
returns c =
    let s = c.args.separation.now in
    let low = subst (λ (n : ℕ). c.put_count.new.text.items ≡ c.args.text.now.items ++ (codes "apart " ++ decimal n)) c.from.ensures c.in_ok-put_count.ensures in
    let high = subst (λ (n : ℕ). c.put_count-2.new.text.items ≡ c.put_count.new.text.items ++ (32 ∷ [] ++ decimal n)) c.from-2.ensures c.in_ok-put_count-2.ensures in
    on_ok c.put_frame.result
    (λ last. six_pieces c.args.text.now.items (codes "apart ") (decimal s.low) (32 ∷ []) (decimal s.high) (32 ∷ []) (low_text s.low_latch) (32 ∷ []) (latch_text s.high_latch.0 s.high_latch.1) (bits_text s.left s.right) (frame_text s.frame) _ _ _ _ _ _
    low high c.in_ok-put_low.ensures c.in_ok-put_latch.ensures c.in_ok-put_bits.ensures last)
    c.put_frame.ensures
