-- One signal more, if it has the number.
use Rattle.std.proofs.Common.{◌≡◌, ◌∙◌, ◌+◌, ◌++◌, ◌==◌, [], ◌∷◌, ◌<◌, ℕ, Bool, true, false, cond, List, length, take, filter, get_or, sym, ap, arith, append-nil}
use Rattle.std.proofs.lemmas.List.{take_all}
use Rattle.std.proofs.lemmas.List.Elements.{filter_more}
use Rattle.signal_graph.specs.flat_net.Signal.{Signal}
use Rattle.latch_graph.proofs.minimal_cut.graph_components.inner.same_of.Goals as goal

more : (labels : List ℕ) (label : ℕ) (reads : List Signal) (i : ℕ) (b : Bool) → i < length reads → (get_or labels (get_or reads i (record { 0 = 0 })).0 0 == label) ≡ b →
    filter (λ (r : Signal). get_or labels r.0 0 == label) (take (i + 1) reads) ≡ filter (λ (r : Signal). get_or labels r.0 0 == label) (take i reads) ++ cond b (get_or reads i (record { 0 = 0 }) ∷ []) []
more labels label reads i b inside e =
    filter_more (λ (r : Signal). get_or labels r.0 0 == label) reads i (record { 0 = 0 }) inside
    ∙ ap (λ (t : Bool). filter (λ (r : Signal). get_or labels r.0 0 == label) (take i reads) ++ cond t (get_or reads i (record { 0 = 0 }) ∷ []) []) e

pub loop-read-preserved-then-not-is_at : goal.loop-read-preserved-then-not-is_at
loop-read-preserved-then-not-is_at c =
    c.loop-read.invariant
    ∙ sym (more c.args.labels.now c.args.label c.args.reads.now c.loop-read.read-index false c.loop-read-test.true (sym c.is_at.ensures ∙ c.if-not-is_at.true)
    ∙ append-nil (filter (λ (r : Signal). get_or c.args.labels.now r.0 0 == c.args.label) (take c.loop-read.read-index c.args.reads.now)))

pub loop-read-preserved : goal.loop-read-preserved
loop-read-preserved c =
    c.in_ok-push.ensures.ok
    ∙ (ap (λ (l : List Signal). l ++ get_or c.args.reads.now c.loop-read.read-index (record { 0 = 0 }) ∷ []) c.loop-read.invariant
    ∙ sym (more c.args.labels.now c.args.label c.args.reads.now c.loop-read.read-index true c.loop-read-test.true (sym c.is_at.ensures ∙ c.if-not-is_at.false)))

pub returns : goal.returns
returns c = c.loop-read.invariant ∙ ap (filter (λ (r : Signal). get_or c.args.labels.now r.0 0 == c.args.label)) (take_all c.loop-read.read-index c.args.reads.now c.loop-read-test.false)
