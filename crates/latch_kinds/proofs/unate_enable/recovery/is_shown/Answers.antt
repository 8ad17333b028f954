-- What leads back to the latch is closed under what it reads, as far as that leads back, and the latch is a source.
use Rattle.std.proofs.Common.{◌≡◌, ℕ, Bool, true, Contains, sym, subst, inr}
use Rattle.flat_net.specs.View.{circuit_of}
use Rattle.flat_net.specs.declared.parts.LatchAt.{LatchAt}
use Rattle.flat_net.proofs.Nets.{latch_stands}
use Rattle.latch_kinds.specs.unate_enable.Cones.{out_of_latch, data_of_latch}
use Rattle.latch_kinds.specs.unate_enable.Raises.{IsRaise, AreClosedTo}
use Rattle.latch_kinds.proofs.unate_enable.Inside.{inside_begins, inside_edge}
use Rattle.latch_kinds.proofs.unate_enable.Unate.{enabled_by}
use Rattle.latch_kinds.proofs.unate_enable.recovery.is_shown.Goals as goal

pub never_falls-requires : goal.never_falls-requires
never_falls-requires c =
    let n = c.args.net.now in
    let at = c.latch_of-at.result.now in
    let inside = c.requires.inside in
    record {
      increasing = inside.increasing;
      within = inside.within;
      closed = subst (λ (l : LatchAt). AreClosedTo (circuit_of c.args.net.now) l.out.0 c.args.signals.now) (sym c.latch_of-at.ensures.is) inside.closed;
      among = subst (λ (l : LatchAt). Contains c.args.signals.now l.next.0) (sym c.latch_of-at.ensures.is) (inside_begins n (data_of_latch n c.args.latch) (out_of_latch n c.args.latch) c.args.signals.now inside c.requires.own);
      source = inr (at.name, at.next.0, latch_stands n c.args.latch at c.latch_of-at.ensures.there);
    }

pub returns : goal.returns
returns c =
    let n = c.args.net.now in
    record {
      enabled = λ e.
          enabled_by n c.keeps.ensures.sound c.args.latch c.requires.latch (inside_edge n c.keeps.ensures.sound c.args.latch c.args.signals.now c.requires.inside c.requires.own c.requires.latch)
          (subst (λ (l : LatchAt). (low high : ℕ → Bool) → IsRaise (circuit_of c.args.net.now) l.out.0 low high → low l.next.0 ≡ true → high l.next.0 ≡ true) c.latch_of-at.ensures.is (c.in_ok-shown.ensures e));
      looked = λ e. c.if-skip.false;
    }
