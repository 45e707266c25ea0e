-- The ASCII letter of each record. Assumes nothing.
use Rattle.std.specs.Prelude.{ℕ}

-- S
abbrev pub set_up_letter : ℕ
set_up_letter = 83

-- E
abbrev pub enrol_letter : ℕ
enrol_letter = 69

-- N
abbrev pub nominate_letter : ℕ
nominate_letter = 78

-- R
abbrev pub read_letter : ℕ
read_letter = 82

-- G
abbrev pub receive_letter : ℕ
receive_letter = 71

-- W
abbrev pub notify_letter : ℕ
notify_letter = 87

-- C
abbrev pub close_letter : ℕ
close_letter = 67
