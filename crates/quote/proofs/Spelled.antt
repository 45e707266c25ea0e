-- The forms of the requests behind their first word. Assumes nothing.
use Rattle.std.proofs.Common.{◌≡◌, ℕ, Bool, true, false, cond, eqb, List, [], ◌∷◌, get_or, codes, sym, refl, ap, subst, w32, Result, MatchResult}
use Rattle.std.specs.Result.{IsErrAnd}
use Rattle.wording.specs.Words.{NoWord, NextWord}
use Rattle.wording.specs.Lines.{ReadAs, GoesOnAs, GoesOnAsNothing, SpellsNothing}
use Rattle.wording.proofs.Forms.{Form, Refutes, Meets, number, signed, keyword, stop, field, maybe}
use Rattle.wording.proofs.Spelled as spelled
use Rattle.wording.proofs.Spelled.{spells_nothing, part_refused, refuted}
use Rattle.quote.specs.declared.request.Request.{Request}
use Rattle.quote.specs.declared.request.Request.TheVariants.{CashOut, Day}
use Rattle.quote.specs.Requests.{Spells, SpellsNotice}

-- bands, two prices, the gas delivered and the net gas received
abbrev pub cash_out_form : Form
cash_out_form =
    field (number 8) (field (number 32) (field (number 32) (field (number 32) (field (signed w32) stop))))

-- the word notice, or nothing
abbrev pub notice_form : Form
notice_form = maybe (keyword (codes "notice")) stop

-- the nomination, the use, and perhaps a notice
abbrev pub day_form : Form
day_form = field (number 32) (field (number 32) notice_form)

-- the form behind a first word, which its first letter tells
abbrev pub form_behind : List ℕ → Form
form_behind word = cond (eqb (get_or word 0 0) 99) cash_out_form day_form

notice_meets : (notice : Bool) (words : List (List ℕ)) → SpellsNotice notice words → Meets notice_form words
notice_meets true words e = subst (Meets notice_form) (sym e) (refl, tt)
notice_meets false words e = subst (Meets notice_form) (sym e) tt

notice_of : (words : List (List ℕ)) → Meets notice_form words → (notice : Bool) × SpellsNotice notice words
notice_of [] m = (false, refl)
notice_of (word ∷ []) (e, m) = (true, ap (λ w. w ∷ []) e)
notice_of (word ∷ more ∷ words) (e, m) = absurd m

pub no_notice : (text : List ℕ) → Refutes text notice_form → SpellsNothing SpellsNotice text
no_notice = spells_nothing SpellsNotice notice_form notice_meets

-- where more follows the notice, what is returned is a fault, and rightly
pub notice_refused : {F : Type 0} (Q : F → Type 0) {text : List ℕ} (r : Result Bool F) → IsErrAnd r Q → Refutes text notice_form → MatchResult r (ReadAs SpellsNotice text) (λ _. SpellsNothing SpellsNotice text)
notice_refused = part_refused SpellsNotice notice_form notice_meets

pub notice_refuted : (text : List ℕ) → SpellsNothing SpellsNotice text → Refutes text notice_form
notice_refuted = refuted SpellsNotice notice_form notice_of

-- the first word of a request, and the form of those behind it
first : Request → List ℕ
first (CashOut month) = codes "cash-out"
first (Day day) = codes "day"

formed : (request : Request) (words : List (List ℕ)) → Spells request words → (more : List (List ℕ)) × (words ≡ first request ∷ more) × Meets (form_behind (first request)) more
unfolding first
formed (CashOut month) words (b, a, l, d, r, e, p, q, s, t, u) =
    (_, e, ((_, p), ((_, q), ((_, s), ((_, t), ((_, u), tt))))))
formed (Day day) words (n, u, last, e, p, q, s) =
    (_, e, ((_, p), ((_, q), notice_meets day.notice last s)))

-- where a field fails, what is returned is a fault, and rightly
pub refused : {F : Type 0} (Q : F → Type 0) (name : List ℕ) {text : List ℕ} (r : Result Request F) → IsErrAnd r Q → Refutes text (form_behind name) → MatchResult r (GoesOnAs Spells name text) (λ _. GoesOnAsNothing Spells name text)
refused = spelled.refused Spells first form_behind formed

-- a line whose first word is neither
pub no_request : {text line word rest : List ℕ} → text ≡ line → NextWord text word rest → (word ≡ codes "cash-out" → ⊥) → (word ≡ codes "day" → ⊥) → SpellsNothing Spells line
unfolding first
no_request {word = word} t w a b = spelled.no_request Spells first form_behind formed t w other
  where
    other : (request : Request) → word ≡ first request → ⊥
    other (CashOut month) = a
    other (Day day) = b

pub no_words : {text line : List ℕ} → text ≡ line → NoWord text → SpellsNothing Spells line
no_words = spelled.no_words Spells first form_behind formed
