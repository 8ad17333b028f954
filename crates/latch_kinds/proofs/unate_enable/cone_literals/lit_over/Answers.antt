-- The latch's bit, the variables, and the gates in turn.
use Rattle.std.proofs.Common.{◌≡◌, ◌⊎◌, inl, inr, ℕ, Some, nat_eq, sym, subst, arith, Contains}
use Rattle.std.proofs.lemmas.List.Elements.{All-contains}
use Rattle.indexmap.specs.IndexMap.{get}
use Rattle.flat_net.specs.View.{circuit_of}
use Rattle.latch_kinds.specs.unate_enable.Building.{IsKnown}
use Rattle.latch_kinds.proofs.unate_enable.Literals.{learns_first, grown_then}
use Rattle.latch_kinds.proofs.unate_enable.cone_literals.lit_over.Goals as goal

pub put_places-requires-clause-within : goal.put_places-requires-clause-within
put_places-requires-clause-within c =
    (learns_first (circuit_of c.args.net.now) c.args.latch.0 c.args.bit c.args.places.now c.args.aig.now (get nat_eq c.args.known.now) (get nat_eq c.put.new.known) c.constant.result c.keeps.ensures.graph c.requires.empty c.in_ok-put.ensures c.constant.ensures).0

pub put_gates-requires : goal.put_gates-requires
put_gates-requires c =
    let l = c.in_ok-put_places.ensures.learns (circuit_of c.args.net.now) c.args.latch.0 c.args.bit in
    record {
      increasing = c.requires.increasing;
      within = c.requires.within;
      closed = c.requires.closed.reads;
      sources = λ s h source. by_source s (c.requires.closed.sources s h source);
      lits = l.within;
      room = omega (arith, c.requires.room, c.in_ok-put_places.ensures.grown.nodes);
    }
  where
    by_source : (s : ℕ) → (s ≡ c.args.latch.0) ⊎ Contains c.args.places.now s → IsKnown (get nat_eq c.put_places.new.known) s
    by_source s (inl e) = (c.in_ok-put_places.ensures.learns (circuit_of c.args.net.now) c.args.latch.0 c.args.bit).stays s (c.constant.result, subst (λ p. get nat_eq c.put.new.known p ≡ Some c.constant.result) (sym e) c.in_ok-put.ensures.here)
    by_source s (inr h) = All-contains (IsKnown (get nat_eq c.put_places.new.known)) c.args.places.now s c.in_ok-put_places.ensures.known h

pub lit_of-requires : goal.lit_of-requires
lit_of-requires c = All-contains (IsKnown (get nat_eq c.put_gates.new.known)) c.args.signals.now c.args.s.0 c.in_ok-put_gates.ensures.known c.requires.among

pub returns : goal.returns
returns c =
    let first = learns_first (circuit_of c.args.net.now) c.args.latch.0 c.args.bit c.args.places.now c.args.aig.now (get nat_eq c.args.known.now) (get nat_eq c.put.new.known) c.constant.result c.keeps.ensures.graph c.requires.empty c.in_ok-put.ensures c.constant.ensures in
    let variables = c.in_ok-put_places.ensures.learns (circuit_of c.args.net.now) c.args.latch.0 c.args.bit in
    let gates = c.in_ok-put_gates.ensures.learns c.args.latch.0 c.args.bit c.args.places.now in
    record {
      within = gates.within c.args.s.0 c.lit_of.result c.lit_of.ensures;
      tree = gates.trees (variables.trees first.2) c.args.s.0 c.lit_of.result c.lit_of.ensures;
      value = gates.values (variables.values first.1) c.args.s.0 c.lit_of.result c.lit_of.ensures;
      grown = grown_then c.args.aig.now c.put_places.new.aig c.put_gates.new.aig _ _ _ c.in_ok-put_places.ensures.grown c.in_ok-put_gates.ensures.grown;
    }
