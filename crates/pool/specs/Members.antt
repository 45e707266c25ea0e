-- What stands at a place that has no member. Assumes nothing.
use Rattle.std.specs.Prelude.{[]}
use Rattle.agreement.specs.Book.{Member}

-- what stands past the last member
abbrev pub nobody : Member
nobody = record { account = 0; retention = 0; days = [] }
