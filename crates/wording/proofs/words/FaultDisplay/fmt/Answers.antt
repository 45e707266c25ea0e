use Rattle.wording.proofs.words.FaultDisplay.fmt.Goals as goal

pub returns-in-UnknownRequest-clause-writes : goal.returns-in-UnknownRequest-clause-writes
returns-in-UnknownRequest-clause-writes g c = rw c.in-UnknownRequest.is c.write-in-UnknownRequest.ensures.writes

pub returns-in-Missing-clause-writes : goal.returns-in-Missing-clause-writes
returns-in-Missing-clause-writes g c = rw c.in-Missing.is c.write-in-Missing.ensures.writes
