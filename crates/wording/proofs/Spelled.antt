-- What a line spells, by its first word and those behind it. Assumes nothing.
use Rattle.std.proofs.Common.{◌≡◌, ℕ, List, [], ◌∷◌, ℤ, Result, sym, ap, ◌∙◌, subst, arith, SFits, to_z, of_z, MatchResult}
use mir.Syntax.{Width}
use Rattle.std.proofs.lemmas.Result.{MatchResult-weaker, err_from_is_err_and}
use Rattle.std.specs.Result.{IsErrAnd}
use Rattle.std.proofs.lemmas.Int.{to_z-of_z}
use Rattle.wording.specs.Words.{NoWord, NextWord, SaysSigned}
use Rattle.wording.specs.Lines.{ReadAs, SpellsNothing, GoesOnAs, GoesOnAsNothing}
use Rattle.wording.proofs.Peeled.{peeled, none_left}
use Rattle.wording.proofs.Forms.{Form, Meets, Refutes}

-- a signed number that was read, as it is passed on
pub passed_on : (width : Width) (word : List ℕ) (z : ℤ) → SaysSigned width word z → SaysSigned width word (to_z width (of_z width z))
passed_on width word z s =
    let f : SFits width z = subst (SFits width) (sym s.1) s.0.1 in
    subst (SaysSigned width word) (sym (to_z-of_z width z f)) s

-- what two lists of words that are the same have in common
same_first : (x y : List ℕ) (xs ys : List (List ℕ)) → x ∷ xs ≡ y ∷ ys → x ≡ y
same_first x y xs ys e = cc

same_others : (x y : List ℕ) (xs ys : List (List ℕ)) → x ∷ xs ≡ y ∷ ys → xs ≡ ys
same_others x y xs ys e = cc

no_first : (x : List ℕ) (xs : List (List ℕ)) → x ∷ xs ≡ [] → ⊥
no_first x xs e = let n : ◌≡◌ {A = ℕ} 0 1 = cc in omega arith

module _ {Request : Type 0} (Spells : Request → List (List ℕ) → Type 0) where
  -- a text spells nothing where it refutes the form of what is spelled, and refutes it where it spells nothing
  pub spells_nothing : (form : Form) → ((request : Request) (words : List (List ℕ)) → Spells request words → Meets form words) → (text : List ℕ) → Refutes text form → SpellsNothing Spells text
  spells_nothing form meets text k request (words, h, s) = k.never words h (meets request words s)

  -- where a field of a part fails, what is returned is a fault, and rightly
  pub part_refused : {F : Type 0} (form : Form) → ((request : Request) (words : List (List ℕ)) → Spells request words → Meets form words) → (Q : F → Type 0) {text : List ℕ} (r : Result Request F) → IsErrAnd r Q → Refutes text form → MatchResult r (ReadAs Spells text) (λ _. SpellsNothing Spells text)
  part_refused form meets Q {text = text} r e k = rw (err_from_is_err_and r e).1 (spells_nothing form meets text k)

  pub refuted : (form : Form) → ((words : List (List ℕ)) → Meets form words → (request : Request) × Spells request words) → (text : List ℕ) → SpellsNothing Spells text → Refutes text form
  refuted form spelled text k =
      record { never = λ words h m. let s = spelled words m in k s.0 (words, h, s.1) }

  -- a line is read as what it goes on as
  goes_on : (line word rest name : List ℕ) → NextWord line word rest → word ≡ name → (request : Request) → GoesOnAs Spells name rest request → ReadAs Spells line request
  goes_on line word rest name w e request (words, h, s) =
      (word ∷ words, (rest, w, h), subst (λ x. Spells request (x ∷ words)) (sym e) s)

  goes_nowhere : (line word rest name : List ℕ) → NextWord line word rest → word ≡ name → GoesOnAsNothing Spells name rest → SpellsNothing Spells line
  goes_nowhere line word rest name w e k request (words, h, s) =
      let p = peeled line word rest words w h in
      k request (p.0, p.2, subst (Spells request) (p.1 ∙ ap (λ x. x ∷ p.0) e) s)

  -- the same of a text that is the line, whichever of both it goes on as
  pub read_by : {F : Type 0} {text line word rest name : List ℕ} → text ≡ line → NextWord text word rest → word ≡ name → (r : Result Request F) → MatchResult r (GoesOnAs Spells name rest) (λ _. GoesOnAsNothing Spells name rest) → MatchResult r (ReadAs Spells line) (λ _. SpellsNothing Spells line)
  read_by {word = word} {rest = rest} {name = name} t w e r h =
      let v = subst (λ line. NextWord line word rest) t w in
      MatchResult-weaker r h (λ request. goes_on _ word rest name v e request) (λ _. goes_nowhere _ word rest name v e)

  -- a request has a first word, which tells the form of those behind it
  module _ (first : Request → List ℕ) (formBehind : List ℕ → Form) (formed : (request : Request) (words : List (List ℕ)) → Spells request words → (more : List (List ℕ)) × (words ≡ first request ∷ more) × Meets (formBehind (first request)) more) where
    meets : (name : List ℕ) (request : Request) (words : List (List ℕ)) → Spells request (name ∷ words) → Meets (formBehind name) words
    meets name request words s =
        let f = formed request (name ∷ words) s in
        let h = subst (Meets (formBehind (first request))) (sym (same_others _ _ _ _ f.1)) f.2 in
        subst (λ n. Meets (formBehind n) words) (sym (same_first _ _ _ _ f.1)) h

    -- a line goes on as nothing where the rest refutes the form
    pub no_fields : (name text : List ℕ) → Refutes text (formBehind name) → GoesOnAsNothing Spells name text
    no_fields name text k request (words, h, s) = k.never words h (meets name request words s)

    -- where a field fails, what is returned is a fault, and rightly
    pub refused : {F : Type 0} (Q : F → Type 0) (name : List ℕ) {text : List ℕ} (r : Result Request F) → IsErrAnd r Q → Refutes text (formBehind name) → MatchResult r (GoesOnAs Spells name text) (λ _. GoesOnAsNothing Spells name text)
    refused Q name {text = text} r e k = rw (err_from_is_err_and r e).1 (no_fields name text k)

    -- a line whose first word names no request
    pub no_request : {text line word rest : List ℕ} → text ≡ line → NextWord text word rest → ((request : Request) → word ≡ first request → ⊥) → SpellsNothing Spells line
    no_request {word = word} {rest = rest} t w k request (words, h, s) =
        let p = peeled _ word rest words (subst (λ line. NextWord line word rest) t w) h in
        let f = formed request words s in
        k request (same_first _ _ _ _ (sym p.1 ∙ f.1))

    -- a line with no word
    pub no_words : {text line : List ℕ} → text ≡ line → NoWord text → SpellsNothing Spells line
    no_words t n request (words, h, s) =
        let f = formed request words s in
        no_first _ _ (sym f.1 ∙ none_left _ words (subst NoWord t n) h)
