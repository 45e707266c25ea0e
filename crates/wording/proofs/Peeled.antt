-- The words of a text are one list and no other: what is cut off as the next word is the first of them. Assumes nothing.
use Rattle.std.proofs.Common.{◌≡◌, ℕ, ◌<◌, Bool, true, false, not, List, [], ◌∷◌, ◌++◌, length, sym, refl, ap, ◌∙◌, subst, append_assoc, arith, length-append}
use lib.Utf8.{encode, encodes}
use Rattle.std.specs.Char.{is_whitespace, is_not_whitespace}
use Rattle.std.specs.Str.{NonePass}
use Rattle.std.proofs.lemmas.Str.{encode_same, length-encode, len_utf8_bounds}
use Rattle.wording.specs.Words.{NoWord, WordEnds, NextWord, Words}

-- a character is white or it is not
not_both : (b c : Bool) → b ≡ c → b ≡ true → c ≡ false → ⊥
not_both b c e p q = let z : true ≡ false = sym p ∙ e ∙ q in let n : ◌≡◌ {A = ℕ} 0 1 = cc in omega arith

clash : (p : ℕ → Bool) (c d : ℕ) → c ≡ d → p c ≡ true → p d ≡ false → ⊥
clash p c d e = not_both (p c) (p d) (ap p e)

dark_white : (c : ℕ) → is_whitespace c ≡ false → is_not_whitespace c ≡ true
dark_white c e = ap not e

-- the first character of a text whose characters are listed
shift : (c : ℕ) (cs s : List ℕ) → encodes (c ∷ cs) ++ s ≡ encode c ++ (encodes cs ++ s)
shift c cs s = append_assoc (encode c) (encodes cs) s

-- a text that begins with a character that is not white
pub record Begun (text : List ℕ) : Type 0 where
  pub first : ℕ
  pub more : List ℕ
  pub parts : text ≡ encode first ++ more
  pub visible : is_whitespace first ≡ false

-- white space before such a text ends where it begins
past_gap : (cs es s t : List ℕ) → NonePass is_not_whitespace cs → NonePass is_not_whitespace es → Begun s → Begun t → encodes cs ++ s ≡ encodes es ++ t → s ≡ t
past_gap [] [] s t f g b d e = e
past_gap [] (x ∷ es) s t f g b d e =
    let p = encode_same b.first x b.more (encodes es ++ t) (sym b.parts ∙ e ∙ shift x es t) in
    absurd (clash is_not_whitespace b.first x p.0 (dark_white b.first b.visible) g.0)
past_gap (c ∷ cs) [] s t f g b d e =
    let p = encode_same d.first c d.more (encodes cs ++ s) (sym d.parts ∙ sym e ∙ shift c cs s) in
    absurd (clash is_not_whitespace d.first c p.0 (dark_white d.first d.visible) f.0)
past_gap (c ∷ cs) (x ∷ es) s t f g b d e =
    let p = encode_same c x (encodes cs ++ s) (encodes es ++ t) (sym (shift c cs s) ∙ e ∙ shift x es t) in
    past_gap cs es s t f.1 g.1 b d p.1

long : (c : ℕ) (rest text : List ℕ) → text ≡ encode c ++ rest → 0 < length text
long c rest text e =
    let a = ap length e ∙ length-append (encode c) rest in
    let b = length-encode c in
    let w = len_utf8_bounds c in
    omega arith

-- a word ends where it ends
past_word : (cs es s t : List ℕ) → NonePass is_whitespace cs → NonePass is_whitespace es → WordEnds s → WordEnds t → encodes cs ++ s ≡ encodes es ++ t → (cs ≡ es) × (s ≡ t)
past_word [] [] s t f g b d e = (refl, e)
past_word [] (x ∷ es) s t f g b d e =
    let h = e ∙ shift x es t in
    let o = b.1 (long x (encodes es ++ t) s h) in
    let p = encode_same o.0 x b.0 (encodes es ++ t) (sym o.2 ∙ h) in
    absurd (clash is_whitespace o.0 x p.0 o.1 g.0)
past_word (c ∷ cs) [] s t f g b d e =
    let h = sym e ∙ shift c cs s in
    let o = d.1 (long c (encodes cs ++ s) t h) in
    let p = encode_same o.0 c d.0 (encodes cs ++ s) (sym o.2 ∙ h) in
    absurd (clash is_whitespace o.0 c p.0 o.1 f.0)
past_word (c ∷ cs) (x ∷ es) s t f g b d e =
    let p = encode_same c x (encodes cs ++ s) (encodes es ++ t) (sym (shift c cs s) ∙ e ∙ shift x es t) in
    let q = past_word cs es s t f.1 g.1 b d p.1 in
    (ap (λ y. y ∷ cs) p.0 ∙ ap (λ l. x ∷ l) q.0, q.1)

-- a word begins with a character that is not white
begins : (cs word rest : List ℕ) → encodes cs ≡ word → NonePass is_whitespace cs → 0 < length word → Begun (word ++ rest)
begins [] word rest e f h = let n = ap length e in absurd (omega arith)
begins (c ∷ cs) word rest e f h =
    record {
      first = c;
      more = encodes cs ++ rest;
      parts = ap (λ l. l ++ rest) (sym e) ∙ shift c cs rest;
      visible = f.0;
    }

word_begins : {text word rest : List ℕ} → NextWord text word rest → Begun (word ++ rest)
word_begins {word = word} {rest = rest} w =
    begins w.unbroken.0 word rest w.unbroken.1 w.unbroken.2 w.some

-- the next word of a text, and what follows it, are one
pub same_next : (text word rest other after : List ℕ) → NextWord text word rest → NextWord text other after → (word ≡ other) × (rest ≡ after)
same_next text word rest other after w v =
    let cs = w.unbroken.0 in
    let es = v.unbroken.0 in
    let g = ap (λ l. l ++ (word ++ rest)) w.blank.1 ∙ sym w.parts ∙ v.parts ∙ ap (λ l. l ++ (other ++ after)) (sym v.blank.1) in
    let s = past_gap w.blank.0 v.blank.0 (word ++ rest) (other ++ after) w.blank.2 v.blank.2 (word_begins w) (word_begins v) g in
    let t = ap (λ l. l ++ rest) w.unbroken.1 ∙ s ∙ ap (λ l. l ++ after) (sym v.unbroken.1) in
    let p = past_word cs es rest after w.unbroken.2 v.unbroken.2 w.ended v.ended t in
    (sym w.unbroken.1 ∙ ap encodes p.0 ∙ v.unbroken.1, p.1)

-- white space alone has no word
blank_only : (cs es s : List ℕ) → NonePass is_not_whitespace cs → NonePass is_not_whitespace es → Begun s → encodes cs ≡ encodes es ++ s → ⊥
blank_only [] [] s f g b e =
    let h = long b.first b.more s b.parts in
    let n = ap length e in
    omega arith
blank_only [] (x ∷ es) s f g b e =
    let h = long x (encodes es ++ s) (encodes (x ∷ es) ++ s) (shift x es s) in
    let n = ap length e in
    omega arith
blank_only (c ∷ cs) [] s f g b e =
    let p = encode_same b.first c b.more (encodes cs) (sym b.parts ∙ sym e) in
    clash is_not_whitespace b.first c p.0 (dark_white b.first b.visible) f.0
blank_only (c ∷ cs) (x ∷ es) s f g b e =
    let p = encode_same c x (encodes cs) (encodes es ++ s) (e ∙ shift x es s) in
    blank_only cs es s f.1 g.1 b p.1

pub word_left : (text word rest : List ℕ) → NoWord text → NextWord text word rest → ⊥
word_left text word rest n w =
    blank_only n.0 w.blank.0 (word ++ rest) n.2 w.blank.2 (word_begins w) (n.1 ∙ w.parts ∙ ap (λ l. l ++ (word ++ rest)) (sym w.blank.1))

-- the next word of a text is the first of its words, and the rest has the others
pub peeled : (text word rest : List ℕ) (words : List (List ℕ)) → NextWord text word rest → Words text words → (more : List (List ℕ)) × (words ≡ word ∷ more) × Words rest more
peeled text word rest [] w h = absurd (word_left text word rest h w)
peeled text word rest (other ∷ more) w h =
    let p = same_next text word rest other h.0 w h.1 in
    (more, ap (λ x. x ∷ more) (sym p.0), subst (λ r. Words r more) (sym p.1) h.2)

-- a text with no word has none
pub none_left : (text : List ℕ) (words : List (List ℕ)) → NoWord text → Words text words → words ≡ []
none_left text [] n h = refl
none_left text (word ∷ more) n h = absurd (word_left text word h.0 n h.1)

-- the words of a text are unique
pub same_words : (text : List ℕ) (words others : List (List ℕ)) → Words text words → Words text others → words ≡ others
same_words text [] others h k = sym (none_left text others h k)
same_words text (word ∷ more) others h k =
    let p = peeled text word h.0 others h.1 k in
    ap (λ l. word ∷ l) (same_words h.0 more p.0 h.2 p.2) ∙ sym p.1
