-- A row of checks in their order, each with the refusal that it gives: the first that applies decides what is answered
-- and whether anything changes. Assumes nothing.
use Rattle.std.specs.Prelude.{Bool, cond, List, [], ◌∷◌, Some, None, Ok, Err, Option, Result}

infix 70 ◌when◌
-- a check: the refusal where its condition holds, else none
abbrev pub ◌when◌ : {R : Type 0} → R → Bool → Option R
refusal when condition = cond condition (Some refusal) None

-- of a row of checks, the first that refuses decides
abbrev pub first : {R : Type 0} → List (Option R) → Option R
first [] = None
first (None ∷ checks) = first checks
first (Some refusal ∷ checks) = Some refusal

-- what is answered: the refusal where there is one, else the value
abbrev pub unless : {R X : Type 0} → Option R → X → Result X R
unless None value = Ok value
unless (Some refusal) value = Err refusal

-- what is there afterwards: what was there where the call is refused, else what the call makes of it
abbrev pub changed_unless : {R X : Type 0} → Option R → X → X → X
changed_unless None before after = after
changed_unless (Some refusal) before after = before

-- the refusal of an answer that is one
abbrev pub refusal_of : {R X : Type 0} → Result X R → Option R
refusal_of (Ok value) = None
refusal_of (Err refusal) = Some refusal
