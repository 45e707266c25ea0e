-- How a line is read as a request, or the rest of it as a part of one, of which `Spells` says what its words are. Assumes
-- nothing.
use Rattle.std.specs.Prelude.{ℕ, List, ◌∷◌}
use Rattle.wording.specs.Words.{Words}

module _ {Request : Type 0} (Spells : Request → List (List ℕ) → Type 0) where
  -- a line is read as a request: its words spell it
  abbrev pub ReadAs : List ℕ → Request → Type 0
  ReadAs line request = (words : List (List ℕ)) × Words line words × Spells request words

  -- a line is read as no request
  abbrev pub SpellsNothing : List ℕ → Type 0
  SpellsNothing line = (request : Request) → ReadAs line request → ⊥

  -- behind its first word, a line goes on with the words of a request
  abbrev pub GoesOnAs : List ℕ → List ℕ → Request → Type 0
  GoesOnAs first rest request = (words : List (List ℕ)) × Words rest words × Spells request (first ∷ words)

  -- behind its first word, a line goes on with the words of no request
  abbrev pub GoesOnAsNothing : List ℕ → List ℕ → Type 0
  GoesOnAsNothing first rest = (request : Request) → GoesOnAs first rest request → ⊥
