-- The forms of the requests behind their first word. Assumes nothing.
use Rattle.std.proofs.Common.{◌≡◌, ℕ, cond, eqb, List, [], ◌∷◌, get_or, codes, sym, refl, subst, w64, Result, MatchResult}
use Rattle.std.specs.Result.{IsErrAnd}
use Rattle.billing.specs.declared.entries.Entry.{Entry}
use Rattle.billing.specs.declared.entries.Entry.TheVariants.{Post, Pay, Late}
use Rattle.billing.specs.declared.sheet.Blocks.{Blocks}
use Rattle.billing.specs.declared.sheet.Blocks.TheVariants.{One, Two, Three}
use Rattle.wording.specs.Words.{NoWord, NextWord}
use Rattle.wording.specs.Lines.{ReadAs, GoesOnAs, GoesOnAsNothing, SpellsNothing}
use Rattle.wording.proofs.Forms.{Form, Refutes, Meets, number, signed, stop, field, maybe}
use Rattle.wording.proofs.Spelled as spelled
use Rattle.wording.proofs.Spelled.{part_refused, refuted}
use Rattle.statement.specs.declared.request.Request.{Request}
use Rattle.statement.specs.declared.request.Request.TheVariants.{Sheet, Member, Bill, Enter}
use Rattle.statement.specs.Requests.{Spells, SpellsBlocks, SpellsEntry}

-- one, three or five numbers
abbrev pub blocks_form : Form
blocks_form =
    field (number 32) (maybe (number 32) (field (number 32) (maybe (number 32) (field (number 32) stop))))

abbrev pub sheet_form : Form
sheet_form = field (number 32) (field (number 32) blocks_form)

-- a member, as a new one and as one that pays late
abbrev pub member_form : Form
member_form = field (number 32) stop

abbrev pub bill_form : Form
bill_form =
    field (number 32) (field (number 32) (field (number 8) (field (number 8) (field (number 32) (field (signed w64) stop)))))

abbrev pub pay_form : Form
pay_form = field (number 32) (field (signed w64) stop)

-- the form behind a first word, which its first letter tells
abbrev pub form_behind : List ℕ → Form
form_behind word =
    let letter = get_or word 0 0 in
    cond (eqb letter 115) sheet_form (cond (eqb letter 98) bill_form (cond (eqb letter 112) pay_form member_form))

blocks_meet : (blocks : Blocks) (words : List (List ℕ)) → SpellsBlocks blocks words → Meets blocks_form words
blocks_meet (One rate) words (r, e, p) = subst (Meets blocks_form) (sym e) ((_, p), tt)
blocks_meet (Two first rate) words (a, b, r, e, p, q, s) =
    subst (Meets blocks_form) (sym e) ((_, p), ((_, q), ((_, s), tt)))
blocks_meet (Three first second rate) words (a, b, c, d, r, e, p, q, s, t, u) =
    subst (Meets blocks_form) (sym e) ((_, p), ((_, q), ((_, s), ((_, t), ((_, u), tt)))))

-- where a number of the blocks fails, what is returned is a fault, and rightly
pub blocks_refused : {F : Type 0} (Q : F → Type 0) {text : List ℕ} (r : Result Blocks F) → IsErrAnd r Q → Refutes text blocks_form → MatchResult r (ReadAs SpellsBlocks text) (λ _. SpellsNothing SpellsBlocks text)
blocks_refused = part_refused SpellsBlocks blocks_form blocks_meet

-- words of that form are the blocks of some sheet
blocks_of : (words : List (List ℕ)) → Meets blocks_form words → (blocks : Blocks) × SpellsBlocks blocks words
blocks_of [] m = absurd m
blocks_of (r ∷ []) ((rate, p), m) = (One rate, (r, refl, p))
blocks_of (a ∷ b ∷ []) (p, (q, m)) = absurd m
blocks_of (a ∷ b ∷ r ∷ []) ((x, p), ((y, q), ((z, s), m))) =
    (Two record { end = x; rate = y } z, (a, b, r, refl, p, q, s))
blocks_of (a ∷ b ∷ c ∷ d ∷ []) (p, (q, (s, (t, m)))) = absurd m
blocks_of (a ∷ b ∷ c ∷ d ∷ r ∷ []) ((x, p), ((y, q), ((z, s), ((v, t), ((w, u), m))))) =
    (Three record { end = x; rate = y } record { end = z; rate = v } w, (a, b, c, d, r, refl, p, q, s, t, u))
blocks_of (a ∷ b ∷ c ∷ d ∷ r ∷ more ∷ words) (p, (q, (s, (t, (u, m))))) = absurd m

pub blocks_refuted : (text : List ℕ) → SpellsNothing SpellsBlocks text → Refutes text blocks_form
blocks_refuted = refuted SpellsBlocks blocks_form blocks_of

-- the first word of an entry
first_of : Entry → List ℕ
first_of (Post amount) = codes "pay"
first_of (Pay amount) = codes "pay"
first_of Late = codes "late"

-- the first word of a request, and the form of those behind it
first : Request → List ℕ
first (Sheet which cents blocks) = codes "sheet"
first (Member which) = codes "member"
first (Bill member sheet usage) = codes "bill"
first (Enter call) = first_of call.entry

formed_entry : (n : ℕ) (entry : Entry) (words : List (List ℕ)) → SpellsEntry n entry words → (more : List (List ℕ)) × (words ≡ first_of entry ∷ more) × Meets (form_behind (first_of entry)) more
unfolding first_of
formed_entry n (Post amount) words h = absurd h
formed_entry n (Pay amount) words (m, a, e, p, q) = (_, e, ((_, p), ((_, q), tt)))
formed_entry n Late words (m, e, p) = (_, e, ((_, p), tt))

formed : (request : Request) (words : List (List ℕ)) → Spells request words → (more : List (List ℕ)) × (words ≡ first request ∷ more) × Meets (form_behind (first request)) more
unfolding first
formed (Sheet which cents blocks) words (n, c, rates, e, p, q, s) =
    (_, e, ((_, p), ((_, q), blocks_meet blocks rates s)))
formed (Member which) words (n, e, p) = (_, e, ((_, p), tt))
formed (Bill member sheet usage) words (m, s, d, v, t, x, e, p, q, r, u, w, z) =
    (_, e, ((_, p), ((_, q), ((_, r), ((_, u), ((_, w), ((_, z), tt)))))))
formed (Enter call) words h = formed_entry call.account call.entry words h

-- where a field fails, what is returned is a fault, and rightly
pub refused : {F : Type 0} (Q : F → Type 0) (name : List ℕ) {text : List ℕ} (r : Result Request F) → IsErrAnd r Q → Refutes text (form_behind name) → MatchResult r (GoesOnAs Spells name text) (λ _. GoesOnAsNothing Spells name text)
refused = spelled.refused Spells first form_behind formed

-- a word that names no request
pub record Unknown (word : List ℕ) : Type 0 where
  pub no_sheet : word ≡ codes "sheet" → ⊥
  pub no_member : word ≡ codes "member" → ⊥
  pub no_bill_lem : word ≡ codes "bill" → ⊥
  pub no_pay : word ≡ codes "pay" → ⊥
  pub no_late : word ≡ codes "late" → ⊥

pub no_request : {text line word rest : List ℕ} → text ≡ line → NextWord text word rest → Unknown word → SpellsNothing Spells line
unfolding first first_of
no_request {word = word} t w k = spelled.no_request Spells first form_behind formed t w other
  where
    none : (entry : Entry) → word ≡ first_of entry → ⊥
    none (Post amount) = k.no_pay
    none (Pay amount) = k.no_pay
    none Late = k.no_late

    other : (request : Request) → word ≡ first request → ⊥
    other (Sheet which cents blocks) = k.no_sheet
    other (Member which) = k.no_member
    other (Bill member sheet usage) = k.no_bill_lem
    other (Enter call) = none call.entry

pub no_words : {text line : List ℕ} → text ≡ line → NoWord text → SpellsNothing Spells line
no_words = spelled.no_words Spells first form_behind formed
