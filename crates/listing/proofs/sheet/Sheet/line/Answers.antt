use Rattle.std.proofs.Common.{◌∷◌, [], get_or, map, sym, ap, ◌∙◌, subst, arith, rules}
use Rattle.std.proofs.lemmas.List.{take_all}
use Rattle.std.specs.List.{flat_map}
use Rattle.listing.specs.declared.sheet.Word.TheVariants.{Open}
use Rattle.listing.specs.Lines.{line}
use Rattle.listing.specs.Sheets.{Adds}
use Rattle.listing.specs.Words.{word_text}
use Rattle.listing.proofs.Adding.{adds_both, adds_more}
use Rattle.listing.proofs.Ending.{line_ends, spaced}
use Rattle.listing.proofs.sheet.Sheet.line.Goals as goal

pub loop-word-preserved : goal.loop-word-preserved
loop-word-preserved c =
    let words = c.in-Some.words.now in
    let i = c.loop-word.word-index in
    let word = word_text (get_or words i Open) in
    let space : Adds c.word.new.self (32 ∷ []) c.text-in-loop-word.new.self = subst (λ t. Adds c.word.new.self t c.text-in-loop-word.new.self) (search rules) c.text-in-loop-word.ensures in
    let added = adds_both c.loop-word.self word c.word.new.self (32 ∷ []) c.text-in-loop-word.new.self c.word.ensures.adds space in
    (adds_more spaced c.args.self.now words i Open c.loop-word.self c.text-in-loop-word.new.self c.loop-word-test.true c.loop-word.invariant.0 added, omega (arith, c.loop-word.invariant.1, c.word.ensures.short, space.end))

pub returns-clause-adds : goal.returns-clause-adds
returns-clause-adds c =
    let words = c.in-Some.words.now in
    let last = c.in-Some.last.now in
    let all = take_all c.loop-word.word-index words (omega (arith, c.loop-word-test.false)) in
    let front = subst (λ xs. Adds c.args.self.now (flat_map spaced xs) c.loop-word.self) all c.loop-word.invariant.0 in
    let end = adds_both c.loop-word.self (word_text last) c.word-2.new.self (10 ∷ []) c.text-2.new.self c.word-2.ensures.adds c.text-2.ensures in
    let text = line_ends words last ∙ ap (λ xs. line (map word_text xs)) (sym c.in-Some.ensures.cases.0) in
    subst (λ t. Adds c.args.self.now t c.text-2.new.self) text (adds_both c.args.self.now _ c.loop-word.self _ c.text-2.new.self front end)
