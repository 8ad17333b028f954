use Rattle.std.proofs.Common.{◌≡◌, List, ◌∷◌, Option, Some, None, false, sym, ◌∙◌, ap, subst, arith}
use Rattle.aiger_read.specs.aiger_records.Lines.{Cut}
use Rattle.aiger_read.specs.aiger_file.Symbols.{Symbol, the_symbol, symbols_of, symbol_fault, is_end}
use Rattle.aiger_read.specs.aiger_file.Reading.{first_symbol_fault}
use Rattle.aiger_read.specs.aiger_file.State.{SymbolsTo}
use Rattle.aiger_read.proofs.aiger_file.SymbolLines.{no_symbols, next_symbol, cut_symbol, symbols_go_on, symbol_is_faulty, symbols_end}
use Rattle.aiger_read.proofs.aiger_file.Bodies.{refused}
use Rattle.aiger_read.proofs.aiger_file.reader.read_symbols.Goals as goal

pub loop-left-preserved : goal.loop-left-preserved
loop-left-preserved c =
    let h = c.args.header.now in
    let live : is_end c.loop-left.left.now ≡ false = sym c.is_end.ensures ∙ c.loop-left-test.true in
    let cut : Cut = record { before = c.in-Some.field-0.before.now; after = c.in-Some.field-0.after.now } in
    let read = c.in-Some-symbol_of.symbol in
    let s : Symbol = the_symbol read.section read.number read.key.now read.name.now in
    let lines : symbols_of c.loop-left.left.now ≡ Some s ∷ symbols_of cut.after =
    next_symbol c.loop-left.left.now cut live c.in-Some.ensures.cut ∙ ap (λ (o : Option Symbol). o ∷ symbols_of cut.after) c.in-Some-symbol_of.ensures in
    let P : List (Option Symbol) → Type 0 = λ ss. SymbolsTo h c.args.place (symbols_of c.args.text.now) ss c.loop-left.at c.loop-left.symbols in
    let took = c.in_default-take.ensures in
    record {
      to = symbols_go_on h c.args.place c.loop-left.at (symbols_of c.args.text.now) (symbols_of cut.after) s c.loop-left.symbols c.take.new.self took.0 took.1.0 took.1.1 (subst P lines c.loop-left.invariant.to);
      fits = omega (arith, c.in-Some.ensures.shorter);
    }

pub returns-in_default : goal.returns-in_default
returns-in_default c =
    let live : is_end c.loop-left.left.now ≡ false = sym c.is_end.ensures ∙ c.loop-left-test.true in
    c.loop-left.invariant.to.fault ∙ ap (λ ss. first_symbol_fault c.args.header.now c.loop-left.at c.loop-left.symbols.keys ss) (cut_symbol c.loop-left.left.now live c.in_default.ensures.cut)

pub returns-in_default-symbol_of : goal.returns-in_default-symbol_of
returns-in_default-symbol_of c =
    let live : is_end c.loop-left.left.now ≡ false = sym c.is_end.ensures ∙ c.loop-left-test.true in
    let cut : Cut = record { before = c.in-Some.field-0.before.now; after = c.in-Some.field-0.after.now } in
    let lines : symbols_of c.loop-left.left.now ≡ None ∷ symbols_of cut.after =
    next_symbol c.loop-left.left.now cut live c.in-Some.ensures.cut ∙ ap (λ (o : Option Symbol). o ∷ symbols_of cut.after) c.in_default-symbol_of.ensures in
    c.loop-left.invariant.to.fault ∙ ap (λ ss. first_symbol_fault c.args.header.now c.loop-left.at c.loop-left.symbols.keys ss) lines

pub returns-in-Err : goal.returns-in-Err
returns-in-Err c =
    let h = c.args.header.now in
    let live : is_end c.loop-left.left.now ≡ false = sym c.is_end.ensures ∙ c.loop-left-test.true in
    let cut : Cut = record { before = c.in-Some.field-0.before.now; after = c.in-Some.field-0.after.now } in
    let read = c.in-Some-symbol_of.symbol in
    let s : Symbol = the_symbol read.section read.number read.key.now read.name.now in
    let lines : symbols_of c.loop-left.left.now ≡ Some s ∷ symbols_of cut.after =
    next_symbol c.loop-left.left.now cut live c.in-Some.ensures.cut ∙ ap (λ (o : Option Symbol). o ∷ symbols_of cut.after) c.in-Some-symbol_of.ensures in
    let P : List (Option Symbol) → Type 0 = λ ss. SymbolsTo h c.args.place (symbols_of c.args.text.now) ss c.loop-left.at c.loop-left.symbols in
    refused (symbol_fault h c.loop-left.symbols.keys s) _ c.loop-left.at c.in-Err.stop c.at_place.result c.in-Err.ensures c.at_place.ensures (λ kind found.
    symbol_is_faulty h c.args.place c.loop-left.at (symbols_of c.args.text.now) (symbols_of cut.after) s c.loop-left.symbols kind found (subst P lines c.loop-left.invariant.to))

pub returns : goal.returns
returns c =
    symbols_end c.args.header.now c.args.place c.loop-left.at (symbols_of c.args.text.now) (symbols_of c.loop-left.left.now) c.loop-left.symbols
    (no_symbols c.loop-left.left.now (sym c.is_end.ensures ∙ c.loop-left-test.false)) c.loop-left.invariant.to
