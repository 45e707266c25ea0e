-- The first missing read of a month, by member in enrolment order and then by day. Assumes nothing.
use Rattle.std.specs.Prelude.{ℕ, ◌+◌, true, false, List, [], ◌∷◌, Some, None, Option}
use Rattle.agreement.specs.declared.refusals.Refusal.{Refusal}
use Rattle.agreement.specs.declared.refusals.Refusal.TheVariants.{ReadMissing}
use Rattle.agreement.specs.declared.day.Day.{Day}
use Rattle.agreement.specs.Book.{Member, is_unread}

-- the first unread of some days, where the first of the list has the number n
abbrev pub unread_from : ℕ → List Day → Option ℕ
unread_from n [] = None
unread_from n (d ∷ ds) = elim (is_unread d.reading) [ true ↦ Some n | false ↦ unread_from (n + 1) ds ]

-- a member's first unread day; days count from 1
abbrev pub first_unread : Member → Option ℕ
first_unread m = unread_from 1 m.days

-- the refusal for a member's unread day where there is one, else that of the members after it
abbrev pub missing_or : ℕ → Option ℕ → Option Refusal → Option Refusal
missing_or place (Some day) later = Some (ReadMissing place day)
missing_or place None later = later

-- the first missing read of some members, where the first of the list has the place n
abbrev pub missing_from : ℕ → List Member → Option Refusal
missing_from n [] = None
missing_from n (m ∷ ms) = missing_or n (first_unread m) (missing_from (n + 1) ms)

-- the first missing read of all members; places count from 1
abbrev pub missing_read : List Member → Option Refusal
missing_read members = missing_from 1 members
