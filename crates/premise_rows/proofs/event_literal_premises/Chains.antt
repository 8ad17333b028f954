-- The five circuits, by what q loads, what g makes of it and the class of p.
use Rattle.std.proofs.Common.{◌≡◌, Bool, true, false, [], ◌∷◌, refl, inl, inr}
use Rattle.std.specs.Prelude.{codes}
use Rattle.std.proofs.lemmas.List.Elements.{All-from_recursion}
use Rattle.circuit_theory.specs.Cover.{cover_value}
use Rattle.sec_base.specs.Cover.{IsPlace, IsCube, IsCoverSound}
use Rattle.call_rows.specs.circuit_samples.event_samples.Samples.{load_cover, load_not_cover, same_cover, not_cover}
use Rattle.call_rows.proofs.circuit_samples.event_samples.Opened.{holds_load, loads_load, holds_not, loads_not}
use Rattle.edbf_unfold.specs.class_queries.Laws.{AreKept}
use Rattle.premise_rows.specs.event_literal_premises.Chained.{load_one_cover, at_chain}
use Rattle.premise_rows.proofs.event_pair_premises.HeldPair.{load_sound, load_not_sound, same_sound, not_sound}
use Rattle.premise_rows.proofs.event_literal_premises.ChainLits.{chain_kept}
use Rattle.premise_rows.proofs.event_literal_premises.ChainSide.{Chain, e, is_sound, is_circuit}

pub one_sound : IsCoverSound load_one_cover
one_sound = record {
  cubes = All-from_recursion (IsCube 3) (codes "1--" ∷ codes "0-1" ∷ []) (
    (refl, All-from_recursion IsPlace (codes "1--") (inr (inl refl), (inr (inr refl), (inr (inr refl), tt)))),
    ((refl, All-from_recursion IsPlace (codes "0-1") (inl refl, (inr (inr refl), (inr (inl refl), tt)))), tt),
  );
  empty_is_on = λ e. refl;
}

pub holds_one : (b bit : Bool) → cover_value load_one_cover (false ∷ b ∷ bit ∷ []) ≡ bit
unfolding cover_value
holds_one true true = refl
holds_one true false = refl
holds_one false true = refl
holds_one false false = refl

pub loads_one : (b : Bool) → cover_value load_one_cover (true ∷ b ∷ false ∷ []) ≡ cover_value load_one_cover (true ∷ b ∷ true ∷ [])
unfolding cover_value
loads_one true = refl
loads_one false = refl

abbrev pub of_a : Chain
of_a = record { load = load_cover; out = same_cover; class = 2; load_sound = load_sound; out_sound = same_sound; load_wide = refl; out_wide = refl; holds = holds_load; loads = loads_load }

abbrev pub of_a_too : Chain
of_a_too = record { load = load_not_cover; out = not_cover; class = 2; load_sound = load_not_sound; out_sound = not_sound; load_wide = refl; out_wide = refl; holds = holds_not; loads = loads_not }

abbrev pub of_not_a : Chain
of_not_a = record { load = load_not_cover; out = same_cover; class = 3; load_sound = load_not_sound; out_sound = same_sound; load_wide = refl; out_wide = refl; holds = holds_not; loads = loads_not }

abbrev pub of_one : Chain
of_one = record { load = load_one_cover; out = same_cover; class = 0; load_sound = one_sound; out_sound = same_sound; load_wide = refl; out_wide = refl; holds = holds_one; loads = loads_one }

abbrev pub of_no_a : Chain
of_no_a = record { load = load_cover; out = not_cover; class = 3; load_sound = load_sound; out_sound = not_sound; load_wide = refl; out_wide = refl; holds = holds_load; loads = loads_load }

-- any two of them, and the event graph
pub two_kept : (a b : Chain) → AreKept (e a) (e b) at_chain
two_kept a b = record { left_sound = is_sound a; right_sound = is_sound b; left = is_circuit a; right = is_circuit b; events = chain_kept }
