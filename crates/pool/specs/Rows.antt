-- The member that a row of cells stands for. Assumes nothing.
use Rattle.std.specs.Prelude.{◌≤◌}
use Rattle.agreement.specs.Book.{Member}
use Rattle.agreement.specs.Limits.{most_retention}
use Rattle.agreement.specs.Sizes.{SmallMember}
use Rattle.pool.specs.declared.row.Row.TheInside.{Inside}

-- the member, whose days are those of the row
abbrev pub member_of : Inside → Member
member_of r = record { account = r.account; retention = r.retention; days = r.days.now }

-- no figure is above its limit
pub record SoundRow (r : Inside) : Type 0 where
  pub retained : r.retention ≤ most_retention
  pub small : SmallMember (member_of r)
