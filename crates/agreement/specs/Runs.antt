-- A list of calls, made in its order. Assumes nothing.
use Rattle.std.specs.Prelude.{List, [], ◌∷◌, Result}
use Rattle.agreement.specs.declared.calls.Call.{Call}
use Rattle.agreement.specs.declared.refusals.Refusal.{Refusal}
use Rattle.agreement.specs.Book.{Book}
use Rattle.agreement.specs.Calls.{after, answer}

-- the book after all the calls
abbrev pub run : List Call → Book → Book
run [] book = book
run (call ∷ calls) book = run calls (after call book)

-- what each of the calls answers
abbrev pub answers_to : List Call → Book → List (Result (Unit {0}) Refusal)
answers_to [] book = []
answers_to (call ∷ calls) book = answer call book ∷ answers_to calls (after call book)
