-- Lines: what one gives, the limits of one, and the greater of two. Assumes nothing.
use Rattle.std.specs.Prelude.{ℕ, Bool, cond, ◌&&◌, ℤ, pos, ◌+ℤ◌, ◌*ℤ◌, int_lt, nat_le, unsigned_abs}
use Rattle.schedule.specs.declared.line.Line.{Line}

-- the line (x, y)
abbrev pub line : ℤ → ℤ → Line
line x y = record { a = x; b = y }

-- what a line gives at a difference and a base, in grains: a × difference + b × base
abbrev pub amount : ℤ → ℕ → Line → ℤ
amount difference base l = (l.a *ℤ difference) +ℤ (l.b *ℤ pos base)

-- the limits of a schedule's lines: the size of a at most 24,000,000, that of b at most 6,000,000
abbrev pub within_limits : Line → Bool
within_limits l = nat_le (unsigned_abs l.a) 24000000 && nat_le (unsigned_abs l.b) 6000000

-- of two lines the second where it gives more, otherwise the first
abbrev pub greater_of : ℤ → ℕ → Line → Line → Line
greater_of difference base x y = cond (int_lt (amount difference base x) (amount difference base y)) y x
