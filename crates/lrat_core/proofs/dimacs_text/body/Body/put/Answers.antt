use Rattle.std.proofs.Common.{◌+◌, ℕ, not, sym, ◌∙◌, ap, ap₂}
use Rattle.lrat_core.specs.dimacs_text.Entries.{ends, is_open}
use Rattle.lrat_core.proofs.dimacs_text.Putting.{open_put, count_put}
use Rattle.lrat_core.proofs.dimacs_text.body.Body.put.Goals as goal

pub invariant_of-self-2 : goal.invariant_of-self-2
invariant_of-self-2 c =
    let s = c.args.self.now in
    record {
      bounded = s.bounded;
      counted = ap₂ (λ (a b : ℕ). a + b) s.counted c.ends_in-more.ensures ∙ sym (ap ends c.in_ok-push.ensures.items ∙ count_put s.entries.items c.args.entry);
      last = ap not c.is_end-ends.ensures ∙ sym (ap is_open c.in_ok-push.ensures.items ∙ open_put s.entries.items c.args.entry);
    }
