-- Texts that are added to a sheet one after another. Assumes nothing.
use Rattle.std.proofs.Common.{◌≡◌, ℕ, ◌+◌, ◌<◌, ◌≤◌, List, [], ◌++◌, length, get_or, take, drop, sym, ap, ◌∙◌, subst, arith}
use Rattle.std.specs.List.{flat_map}
use Rattle.std.proofs.lemmas.List.{append_assoc, length-append, length-take, drop-drop, take-append-drop, take_more, flat_map_more}
use Rattle.listing.specs.declared.sheet.Sheet.{Sheet}
use Rattle.listing.specs.Block.{written}
use Rattle.listing.specs.Sheets.{Adds, text_of, rest_of}

-- one text after another
pub adds_both : (s : Sheet) (xs : List ℕ) (t : Sheet) (ys : List ℕ) (u : Sheet) → Adds s xs t → Adds t ys u → Adds s (xs ++ ys) u
adds_both s xs t ys u first second =
    let l = length-append xs ys in
    record {
      lender = second.lender ∙ first.lender;
      written = second.written ∙ ap (λ w. w ++ ys) first.written ∙ append_assoc (text_of s) xs ys;
      rest = second.rest ∙ ap (drop (length ys)) first.rest ∙ drop-drop (length ys) (length xs) (rest_of s) ∙ ap (λ n. drop n (rest_of s)) (sym l);
      end = omega (arith, l, first.end, second.end);
    }

-- the texts of a list, and that of one element more
pub adds_more : {X : Type 0} (f : X → List ℕ) (s : Sheet) (xs : List X) (i : ℕ) (d : X) (t u : Sheet) → i < length xs → Adds s (flat_map f (take i xs)) t → Adds t (f (get_or xs i d)) u → Adds s (flat_map f (take (i + 1) xs)) u
adds_more f s xs i d t u below first second =
    let one_more = flat_map_more f [] (take i xs) (get_or xs i d) ∙ ap (flat_map f) (sym (take_more xs i d below)) in
    subst (λ text. Adds s text u) one_more (adds_both s (flat_map f (take i xs)) t (f (get_or xs i d)) u first second)

-- a text at the start of a block
pub adds_written : (s : Sheet) (text : List ℕ) (t : Sheet) → s.end ≡ 0 → Adds s text t → t.block.now ≡ written 0 text s.block.now
adds_written s text t start adds =
    sym (take-append-drop t.end t.block.now)
    ∙ (λ i. adds.written i ++ adds.rest i)
    ∙ ap (λ n. (take n s.block.now ++ text) ++ drop (length text) (drop n s.block.now)) start
    ∙ grind arith

-- where that text ends lies in the block
pub adds_within : (s : Sheet) (text : List ℕ) (t : Sheet) → s.end ≡ 0 → Adds s text t → t.end ≤ length t.block.now
adds_within s text t start adds =
    let before = length-take s.end s.block.now in
    let after = length-take t.end t.block.now in
    omega (arith, before, after, start, adds.end, length-append (text_of s) text, ap length adds.written)
