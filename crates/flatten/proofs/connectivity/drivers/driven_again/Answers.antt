use Rattle.std.proofs.Common.{◌≡◌, ◌<◌, length, sym, subst, arith}
use Rattle.flatten.proofs.connectivity.Turns.{here_in, past_in, out_below, main_from, again_turn, statement_turn, none_turn, statements_all, none_all}
use Rattle.flatten.proofs.connectivity.drivers.driven_again.Goals as goal

pub loop-place-init : goal.loop-place-init
loop-place-init c = record {
  sources = main_from c.args.flat.now c.as_slice.result.now c.as_slice-2.result.now c.args.sources.now c.put_inputs.new.sources c.put_inputs-2.new.sources c.as_slice.ensures c.as_slice-2.ensures
      c.put_inputs.ensures.put c.put_inputs-2.ensures.put c.requires.none;
  none = λ i q lower e. absurd (omega (arith, lower));
}

pub returns-in_default : goal.returns-in_default
returns-in_default c =
    let flat = c.args.flat.now in
    let i = c.loop-place.place in
    let s = c.statement-item.result in
    let here = here_in c.as_slice-statement-items.result.now flat.statements i s c.as_slice-statement-items.ensures c.loop-place-test.true c.statement-item.is in
    let below = out_below flat i s here c.keeps.ensures.outs in
    let len : length c.loop-place.sources ≡ length flat.names = omega (arith, c.loop-place.auto.sources, c.put_inputs-2.ensures.len, c.put_inputs.ensures.len, c.requires.len) in
    record {
      len = omega (arith, c.loop-place.auto.sources, c.put_inputs-2.ensures.len, c.put_inputs.ensures.len);
      sources = below;
      again = again_turn flat i s here c.loop-place.sources (subst (λ n. s.out < n) (sym len) below) c.loop-place.invariant.sources c.in_default.not-Open c.loop-place.invariant.none;
    }

pub loop-place-preserved : goal.loop-place-preserved
loop-place-preserved c =
    let flat = c.args.flat.now in
    let i = c.loop-place.place in
    let s = c.statement-item.result in
    let here = here_in c.as_slice-statement-items.result.now flat.statements i s c.as_slice-statement-items.ensures c.loop-place-test.true c.statement-item.is in
    let below = out_below flat i s here c.keeps.ensures.outs in
    let len : length c.loop-place.sources ≡ length flat.names = omega (arith, c.loop-place.auto.sources, c.put_inputs-2.ensures.len, c.put_inputs.ensures.len, c.requires.len) in
    let within = subst (λ n. s.out < n) (sym len) below in
    record {
      sources = statement_turn flat i s here c.loop-place.sources within c.loop-place.invariant.sources;
      none = none_turn flat i s here c.loop-place.sources within c.loop-place.invariant.sources c.in-Open.is c.loop-place.invariant.none;
    }

pub returns-clause-sources : goal.returns-clause-sources
returns-clause-sources c =
    statements_all c.args.flat.now c.loop-place.place c.loop-place.sources
    (past_in c.as_slice-statement-items.result.now c.args.flat.now.statements c.loop-place.place c.as_slice-statement-items.ensures c.loop-place-test.false) c.loop-place.invariant.sources

pub returns-clause-again : goal.returns-clause-again
returns-clause-again c =
    none_all c.args.flat.now c.loop-place.place
    (past_in c.as_slice-statement-items.result.now c.args.flat.now.statements c.loop-place.place c.as_slice-statement-items.ensures c.loop-place-test.false) c.loop-place.invariant.none
