-- How the words of a line spell a request. Assumes nothing.
use Rattle.std.specs.Prelude.{◌≡◌, ℕ, List, [], ◌∷◌, Some, None, codes, Option}
use Rattle.std.specs.Int.{w64}
use Rattle.billing.specs.declared.entries.Entry.{Entry}
use Rattle.billing.specs.declared.entries.Entry.TheVariants.{Post, Pay, Late}
use Rattle.billing.specs.declared.sheet.Blocks.{Blocks}
use Rattle.billing.specs.declared.sheet.Blocks.TheVariants.{One, Two, Three}
use Rattle.wording.specs.Words.{NoWord, NextWord, Says, SaysSigned}
use Rattle.statement.specs.declared.request.Request.{Request}
use Rattle.statement.specs.declared.request.Request.TheVariants.{Sheet, Member, Bill, Enter}

-- the blocks of a sheet: of each that ends its end and its rate, and then the last rate
abbrev pub SpellsBlocks : Blocks → List (List ℕ) → Type 0
SpellsBlocks (One rate) words = (r : List ℕ) × (words ≡ r ∷ []) × Says 32 r rate
SpellsBlocks (Two first rate) words =
    (e f r : List ℕ) × (words ≡ e ∷ f ∷ r ∷ []) × Says 32 e first.end × Says 32 f first.rate × Says 32 r rate
SpellsBlocks (Three first second rate) words =
    (e f g h r : List ℕ) × (words ≡ e ∷ f ∷ g ∷ h ∷ r ∷ []) × Says 32 e first.end × Says 32 f first.rate × Says 32 g second.end × Says 32 h second.rate × Says 32 r rate

-- the words of an entry in the account with the number n; no line posts an amount
abbrev pub SpellsEntry : ℕ → Entry → List (List ℕ) → Type 0
SpellsEntry n (Post amount) words = ⊥
SpellsEntry n (Pay amount) words =
    (m a : List ℕ) × (words ≡ codes "pay" ∷ m ∷ a ∷ []) × Says 32 m n × SaysSigned w64 a amount
SpellsEntry n Late words = (m : List ℕ) × (words ≡ codes "late" ∷ m ∷ []) × Says 32 m n

-- the words of a request
abbrev pub Spells : Request → List (List ℕ) → Type 0
Spells (Sheet number cents blocks) words =
    (n c : List ℕ) × (rates : List (List ℕ)) × (words ≡ codes "sheet" ∷ n ∷ c ∷ rates) × Says 32 n number × Says 32 c cents × SpellsBlocks blocks rates
Spells (Member number) words = (n : List ℕ) × (words ≡ codes "member" ∷ n ∷ []) × Says 32 n number
Spells (Bill member sheet usage) words =
    (m s d v t p : List ℕ) × (words ≡ codes "bill" ∷ m ∷ s ∷ d ∷ v ∷ t ∷ p ∷ []) × Says 32 m member × Says 32 s sheet × Says 8 d usage.days × Says 8 v usage.served × Says 32 t usage.therms × SaysSigned w64 p usage.pool_cents
Spells (Enter call) words = SpellsEntry call.account call.entry words

-- the text ends, or its next word says a number
abbrev pub NumberOrEnd : List ℕ → List ℕ → Option ℕ → Type 0
NumberOrEnd text rest None = NoWord text
NumberOrEnd text rest (Some n) = (word : List ℕ) × NextWord text word rest × Says 32 word n

-- the text has a next word, which says no number
abbrev pub NoNumber : List ℕ → Type 0
NoNumber text = (word rest : List ℕ) × NextWord text word rest × ((n : ℕ) → Says 32 word n → ⊥)
