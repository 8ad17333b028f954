-- A least frame that tells enables apart is the least one whatever class the next latch is given.
use Rattle.std.proofs.Common.{◌≡◌, ◌≤◌, ℕ, Bool, List, [], ◌∷◌, ◌++◌, sym, ap, arith, true}
use Rattle.std.specs.List.{Contains}
use Rattle.circuit_theory.specs.Circuit.{Circuit, IsSingleDriven}
use Rattle.circuit_theory.specs.EventFits.{side_by_side}
use Rattle.circuit_theory.specs.Frame.{EventSide}
use Rattle.circuit_theory.specs.Joined.{Either, joined}
use Rattle.circuit_theory.specs.Query.{Variable}
use Rattle.circuit_laws.proofs.JoinedParts.{joined_same, joined_single}
use Rattle.circuit_laws.proofs.event_laws.OneClassMap.{rank_of, Agrees, enable_to, enable_care}
use Rattle.circuit_laws.specs.reset_laws.class_extension.Laws.{IsNextGiven}
use Rattle.circuit_laws.proofs.reset_laws.class_extension.Keeping.{low_of}
use Rattle.class_search.specs.class_separations.Least.{DifferIn, IsOffIn, IsLeastFrame}

-- the least of frames is the least of fewer
pub least_of_fewer : (Tells Now : (ℕ → List ℕ → Bool) → Type 0) (variables : List (Variable (List ℕ))) (bits : List Bool) → ((frame : ℕ → List ℕ → Bool) → Now frame → Tells frame) → IsLeastFrame Tells variables bits → IsLeastFrame Now variables bits
least_of_fewer Tells Now variables bits back least few = let n = least few in (n.0, n.1, λ m below h. n.2 m below (back _ h))

module _ (a b : Circuit ℕ) (m n : ℕ) (left right : List ℕ) (f g : Either ℕ ℕ → ℕ) (taken rest : List (Either ℕ ℕ)) (v : Either ℕ ℕ) (next : IsNextGiven a b m n left right f g taken rest v) where
  single : IsSingleDriven (joined a b)
  single = joined_single a b m n next.left_net next.right_net

  abbrev Rank : Either ℕ ℕ → ℕ
  Rank = rank_of (joined a b) single joined_same next.depths (left ++ right)

  abbrev Before : EventSide (Either ℕ ℕ)
  Before = side_by_side a b left right f

  abbrev Behind : EventSide (Either ℕ ℕ)
  Behind = side_by_side a b left right g

  onward : Agrees (joined a b) single joined_same next.depths (left ++ right) (Rank v) f g
  onward name u into latch below = next.others u (λ e. let q : Rank u ≡ Rank v = ap Rank e in omega (arith, q, below))

  backward : Agrees (joined a b) single joined_same next.depths (left ++ right) (Rank v) g f
  backward name u into latch below = sym (onward name u into latch below)

  low : (u : Either ℕ ℕ) → Contains (taken ++ v ∷ []) u → Rank u ≤ Rank v
  low u h = low_of (joined a b) single joined_same next.depths (left ++ right) f g taken rest v next.map next.others u h

  -- what a frame tells once the latch has its class it told before
  pub off_before : (u : Either ℕ ℕ) → Contains (taken ++ v ∷ []) u → (frame : ℕ → List ℕ → Bool) → IsOffIn Behind u frame → IsOffIn Before u frame
  off_before u h frame e =
      (enable_care (joined a b) single joined_same next.depths (left ++ right) (Rank v) g f backward frame u (low u h) e.0, λ on. e.1 (enable_to (joined a b) single joined_same next.depths (left ++ right) (Rank v) f g onward frame u [] true (low u h) on))

  pub differ_before : (u w : Either ℕ ℕ) → Contains (taken ++ v ∷ []) u → Contains (taken ++ v ∷ []) w → (frame : ℕ → List ℕ → Bool) → DifferIn Behind u w frame → DifferIn Before u w frame
  differ_before u w hu hw frame e = (
    enable_care (joined a b) single joined_same next.depths (left ++ right) (Rank v) g f backward frame u (low u hu) e.0,
    enable_care (joined a b) single joined_same next.depths (left ++ right) (Rank v) g f backward frame w (low w hw) e.1,
    λ x is_u is_w.
        e.2 x (enable_to (joined a b) single joined_same next.depths (left ++ right) (Rank v) f g onward frame u [] x (low u hu) is_u) (enable_to (joined a b) single joined_same next.depths (left ++ right) (Rank v) f g onward frame w [] x (low w hw) is_w),
  )
