-- How the words of a line spell a request. Assumes nothing.
use Rattle.std.specs.Prelude.{◌≡◌, ℕ, Bool, true, false, List, [], ◌∷◌, codes}
use Rattle.std.specs.Int.{w32}
use Rattle.wording.specs.Words.{Says, SaysSigned}
use Rattle.quote.specs.declared.request.Request.{Request}
use Rattle.quote.specs.declared.request.Request.TheVariants.{CashOut, Day}

-- the word notice, or nothing
abbrev pub SpellsNotice : Bool → List (List ℕ) → Type 0
SpellsNotice true words = words ≡ codes "notice" ∷ []
SpellsNotice false words = words ≡ []

-- the words of a request
abbrev pub Spells : Request → List (List ℕ) → Type 0
Spells (CashOut month) words =
    (b a l d r : List ℕ) × (words ≡ codes "cash-out" ∷ b ∷ a ∷ l ∷ d ∷ r ∷ []) × Says 8 b month.bands × Says 32 a month.average × Says 32 l month.lowest × Says 32 d month.delivered × SaysSigned w32 r month.received
Spells (Day day) words =
    (n u : List ℕ) × (last : List (List ℕ)) × (words ≡ codes "day" ∷ n ∷ u ∷ last) × Says 32 n day.nominated × Says 32 u day.used × SpellsNotice day.notice last
