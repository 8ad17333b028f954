use Rattle.std.proofs.Common.{◌/◌, ◌%◌, Bool, not, List, ℕ, [], slice_index_or, sym, ◌∙◌, ap, eq-eqb, true≢false}
use Rattle.swept_queries.proofs.ToldApart.{apart-eqb}
use Rattle.swept_queries.specs.sweep.lane_eval.Blocks.{block_bit, word_bit, turned}
use Rattle.swept_queries.proofs.apart.lane_bit.Goals as goal

pub returns-then-is_complement : goal.returns-then-is_complement
unfolding block_bit word_bit
returns-then-is_complement c =
    sym (ap (λ (f : Bool). turned f (block_bit (slice_index_or c.args.table.now (c.args.l.0 / 2) []) c.args.k)) (eq-eqb (c.args.l.0 % 2) 1 (c.is_complement.ensures.0 c.if-is_complement.true))
    ∙ ap (λ (b : List ℕ). not (block_bit b c.args.k)) (sym (c.block-block.ensures ∙ ap (λ (n : ℕ). slice_index_or c.args.table.now n []) c.node.ensures)))

pub returns-else-is_complement : goal.returns-else-is_complement
unfolding block_bit word_bit
returns-else-is_complement c =
    sym (ap (λ (f : Bool). turned f (block_bit (slice_index_or c.args.table.now (c.args.l.0 / 2) []) c.args.k)) (apart-eqb (c.args.l.0 % 2) 1 (λ e. true≢false (sym (c.is_complement.ensures.1 e) ∙ c.if-is_complement.false)))
    ∙ ap (λ (b : List ℕ). block_bit b c.args.k) (sym (c.block-block.ensures ∙ ap (λ (n : ℕ). slice_index_or c.args.table.now n []) c.node.ensures)))
