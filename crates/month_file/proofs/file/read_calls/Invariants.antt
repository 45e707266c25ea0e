use Rattle.std.proofs.Common.{◌≡◌, Some}
use Rattle.month_file.specs.Left.{read_left}
use Rattle.month_file.specs.Views.{month_of}
use Rattle.month_file.proofs.file.read_calls.Given as goal

-- what is still to read gives what all gives
abbrev pub invariant-loop-place : goal.invariant-loop-place
invariant-loop-place l = read_left (Some (month_of l.book)) l.place-iterator ≡ read_left (Some (month_of l.initial.book)) l.records
