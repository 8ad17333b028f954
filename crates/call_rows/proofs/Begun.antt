-- A marked net whose latches are all of class 0.
use Rattle.std.proofs.Common.{◌≡◌, ◌∙◌, ℕ, Bool, true, List, length, slice_get, Some, sym, ap}
use Rattle.std.proofs.lemmas.Option.{same_Some}
use Rattle.base_tables.specs.Table.{AreDistinct}
use Rattle.flat_net.specs.View.{NetView}
use Rattle.event_nodes.specs.View.{IsEventCircuit}
use Rattle.class_search.specs.event_order.Order.{IsMarkedNet}

pub begun_circuit : (n : NetView) (enabled : List Bool) (order classes : List ℕ) → IsMarkedNet n enabled → length order ≡ length n.inputs → AreDistinct order → length classes ≡ length n.latches →
    IsEventCircuit (record { net = n; enabled = enabled; order = order; classes = classes })
begun_circuit n enabled order classes marked each once each_class = record {
  marks = record {
    each = marked.each;
    exactly = λ j l bit at bit_at. (λ e. (marked.marks j l at).0 (bit_at ∙ ap Some e), λ on. same_Some bit true (sym bit_at ∙ (marked.marks j l at).1 on));
  };
  each_order = each;
  order_once = once;
  each_class = each_class;
}
