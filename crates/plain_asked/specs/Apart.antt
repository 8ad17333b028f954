-- The functions of the pairs whose signals have two literals.
use Rattle.std.specs.Prelude.{◌≡◌, ℕ, ◌+◌, ◌*◌, ◌<◌, ◌≤◌, List, [], ◌∷◌, ◌++◌, length, map, slice_get, Option, Some, None, Result, Ok, Err, Contains}
use Rattle.std.specs.List.{AllZip}
use Rattle.sec_base.specs.declared.limits.TheConstants.{MAX_WEIGHT}
use Rattle.flat_net.specs.declared.signals.Signal.{Signal}
use Rattle.flat_net.specs.View.{NetView}
use Rattle.aig.specs.declared.node.Lit.{Lit}
use Rattle.aig.specs.declared.node.Node.{Node}
use Rattle.cbf_unfold.specs.declared.unfold_places.signal_function.Unfolded.{Unfolded}
use Rattle.cbf_unfold.specs.Unfolded.{IsLiteralOf, Fits}
use Rattle.cbf_unfold.specs.View.{UnfolderView}
use Rattle.sec_setup.specs.declared.ports.pairs.SignalPair.{SignalPair}
use Rattle.sec_setup.specs.declared.setup.Setup.{Setup}
use Rattle.plain_asked.specs.declared.apart.Chosen.{Chosen}
use Rattle.plain_asked.specs.declared.apart.PairFunctions.{PairFunctions}
use Rattle.plain_asked.specs.declared.error.PlainError.{PlainError}
use Rattle.plain_asked.specs.declared.functions.Functions.{Functions}
use Rattle.plain_asked.specs.Pairs.{IsFunctionOf, AreLight, Unfolds, left_signals, right_signals}

-- both signals of a pair have one literal
pub record HaveOneLiteral (a b : NetView) (left right : List ℕ) (f : Functions) (p : SignalPair) : Type 0 where
  pub literal : ℕ
  pub left_is : IsLiteralOf a left f.aig f.places p.left.0 literal
  pub right_is : IsLiteralOf b right f.aig f.places p.right.0 literal

-- the functions of a pair stand at a place
pub record HaveFunctionsAt (a b : NetView) (left right : List ℕ) (f : Functions) (p : SignalPair) (place : ℕ) : Type 0 where
  pub left_function : Unfolded
  pub right_function : Unfolded
  pub left_at : slice_get f.left.items place ≡ Some left_function
  pub right_at : slice_get f.right.items place ≡ Some right_function
  pub left_is : IsFunctionOf a left f.aig f.places p.left.0 left_function
  pub right_is : IsFunctionOf b right f.aig f.places p.right.0 right_function

-- they stand there, or both signals have one literal
abbrev pub IsPairAt : NetView → NetView → List ℕ → List ℕ → Functions → SignalPair → Option ℕ → Type 0
IsPairAt a b left right f p None = HaveOneLiteral a b left right f p
IsPairAt a b left right f p (Some place) = HaveFunctionsAt a b left right f p place

-- so it is with each pair
abbrev pub AreApart : NetView → NetView → List ℕ → List ℕ → List SignalPair → PairFunctions → Type 0
AreApart a b left right pairs f = (i : ℕ) (p : SignalPair) → slice_get pairs i ≡ Some p → (place : Option ℕ) × (slice_get f.at.items i ≡ Some place) × IsPairAt a b left right f.functions p place

-- and with each pair of a setup
abbrev pub HaveFunctionsApart : Setup → PairFunctions → Type 0
HaveFunctionsApart s f = AreApart s.left.now s.right.now s.orders.left s.orders.right s.pairs f

-- the functions of the pairs, or the first circuit whose outputs weigh too much
abbrev pub UnfoldsApart : NetView → NetView → List ℕ → List ℕ → List SignalPair → Result PairFunctions PlainError → Type 0
UnfoldsApart a b left right pairs (Ok f) = AreLight a (left_signals pairs) × AreLight b (right_signals pairs) × AreApart a b left right pairs f
UnfoldsApart a b left right pairs (Err e) = Unfolds a b left right pairs (Err e)

-- two signals of these literals stand at a place, or the literals are one
abbrev pub IsChosen : Signal → Signal → Lit → Lit → List Signal → List Signal → Option ℕ → Type 0
IsChosen s t x y lefts rights None = x ≡ y
IsChosen s t x y lefts rights (Some place) = (slice_get lefts place ≡ Some s) × (slice_get rights place ≡ Some t)

-- of the first signals those are chosen whose literals differ
pub record AreChosen (lefts rights : List Signal) (xs ys : List Lit) (count : ℕ) (c : Chosen) : Type 0 where
  pub each : length c.at.items ≡ count
  pub alike : length c.left.items ≡ length c.right.items
  pub left : (s : Signal) → Contains c.left.items s → Contains lefts s
  pub right : (s : Signal) → Contains c.right.items s → Contains rights s
  pub are : (i : ℕ) (s t : Signal) (x y : Lit) → i < count → slice_get lefts i ≡ Some s → slice_get rights i ≡ Some t → slice_get xs i ≡ Some x → slice_get ys i ≡ Some y →
      (place : Option ℕ) × (slice_get c.at.items i ≡ Some place) × IsChosen s t x y c.left.items c.right.items place

-- two signals of these literals are put behind the others where the literals differ
pub record IsPut (s t : Signal) (x y : Lit) (old new : Chosen) : Type 0 where
  pub place : Option ℕ
  pub at_is : new.at.items ≡ old.at.items ++ place ∷ []
  pub lefts : List Signal
  pub rights : List Signal
  pub left_is : new.left.items ≡ old.left.items ++ lefts
  pub right_is : new.right.items ≡ old.right.items ++ rights
  pub alike : length new.left.items ≡ length new.right.items
  pub left_own : (z : Signal) → Contains lefts z → z ≡ s
  pub right_own : (z : Signal) → Contains rights z → z ≡ t
  pub is : IsChosen s t x y new.left.items new.right.items place

-- the unfolder has unfolded nothing
pub record IsNew (u : UnfolderView) : Type 0 where
  pub none : u.done ≡ []
  pub fits : (g : List Node) (places : List (ℕ × ℕ)) → Fits u g places

-- the same unfolder has unfolded the signals with these numbers
pub record HasDone (u v : UnfolderView) (g : List Node) (places : List (ℕ × ℕ)) (numbers : List ℕ) : Type 0 where
  pub net : v.net ≡ u.net
  pub order : v.order ≡ u.order
  pub done : v.done ≡ numbers
  pub fits : Fits v g places

-- of the pairs' signals those are chosen whose literals differ
pub record AreChosenOf (a b : UnfolderView) (g : List Node) (places : List (ℕ × ℕ)) (pairs : List SignalPair) (c : Chosen) : Type 0 where
  pub lefts : List Signal
  pub rights : List Signal
  pub left_are : lefts ≡ map (λ (p : SignalPair). p.left) pairs
  pub right_are : rights ≡ map (λ (p : SignalPair). p.right) pairs
  pub xs : List Lit
  pub ys : List Lit
  pub left_lits : AllZip (λ (s : Signal) (x : Lit). IsLiteralOf a.net a.order g places s.0 x.0) lefts xs
  pub right_lits : AllZip (λ (s : Signal) (x : Lit). IsLiteralOf b.net b.order g places s.0 x.0) rights ys
  pub chosen : AreChosen lefts rights xs ys (length lefts) c

-- the signals of the pairs are chosen by unfolders that have unfolded nothing else
pub record HaveChosen (a b a_new b_new : UnfolderView) (g h : List Node) (places more : List (ℕ × ℕ)) (pairs : List SignalPair) (c : Chosen) : Type 0 where
  pub chosen : AreChosenOf a_new b_new h more pairs c
  pub left : HasDone a a_new h more (left_signals pairs)
  pub right : HasDone b b_new h more (right_signals pairs)
  pub nodes : length h ≤ length g + 2 * MAX_WEIGHT
  pub entries : length more ≤ length places + 2 * MAX_WEIGHT

-- or the first circuit is told whose outputs weigh too much
abbrev pub ChoosesOf : UnfolderView → UnfolderView → UnfolderView → UnfolderView → List Node → List Node → List (ℕ × ℕ) → List (ℕ × ℕ) → List SignalPair → Result Chosen PlainError → Type 0
ChoosesOf a b a_new b_new g h places more pairs (Ok c) = HaveChosen a b a_new b_new g h places more pairs c
ChoosesOf a b a_new b_new g h places more pairs (Err e) = UnfoldsApart a.net b.net a.order b.order pairs (Err e)
