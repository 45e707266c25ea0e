use Rattle.wording.proofs.dollars.+write_places.Given as goal

abbrev pub decreases-write_places : goal.decreases-write_places
decreases-write_places g l = l.places
