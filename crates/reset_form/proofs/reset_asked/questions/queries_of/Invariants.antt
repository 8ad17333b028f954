use Rattle.std.proofs.Common.{◌≡◌, ℕ, length, slice_get, Some}
use Rattle.cbf_unfold.specs.declared.unfold_places.signal_function.Unfolded.{Unfolded}
use Rattle.pair_decide.specs.declared.query.Query.{Query}
use Rattle.reset_form.specs.reset_asked.Asked.{IsCycleQuery}
use Rattle.reset_form.proofs.reset_asked.questions.queries_of.Given as goal

abbrev pub invariant-loop-t : goal.invariant-loop-t
invariant-loop-t l = record {
  each : length l.queries ≡ l.t;
  are : (t : ℕ) (x y : Unfolded) (q : Query) → slice_get l.left t ≡ Some x → slice_get l.right t ≡ Some y → slice_get l.queries t ≡ Some q → IsCycleQuery l.places x y q;
}
