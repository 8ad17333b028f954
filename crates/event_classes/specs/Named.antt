-- Tags that name latches.
use Rattle.std.specs.Prelude.{◌≡◌, ℕ, List, slice_get, Some}
use Rattle.flat_net.specs.View.{NetView}
use Rattle.sec_base.specs.declared.basics.Tag.{Tag}
use Rattle.class_search.specs.event_order.Order.{IsTagOf}
use Rattle.class_search.specs.declared.class.Class.{Class}
use Rattle.class_search.specs.declared.class_separations.apart.Apart.{Apart}

-- the latches of what is told apart are latches of the two nets
pub record NamesLatches (a b : NetView) (x : Apart) : Type 0 where
  pub high : IsTagOf a b x.high
  pub low : (t : Tag) → x.low ≡ Some t → IsTagOf a b t

-- and so are the members of the classes
pub record AreNamed (a b : NetView) (classes : List Class) (aparts : List Apart) : Type 0 where
  pub members : (k i : ℕ) (c : Class) (t : Tag) → slice_get classes k ≡ Some c → slice_get c.tags.items i ≡ Some t → IsTagOf a b t
  pub apart : (i : ℕ) (x : Apart) → slice_get aparts i ≡ Some x → NamesLatches a b x
