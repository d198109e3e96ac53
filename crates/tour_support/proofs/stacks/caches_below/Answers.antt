use Rattle.tour_support.proofs.stacks.caches_below.Goals as goal

-- fresh caches are valid over what is
pub together-requires-clause-upper : goal.together-requires-clause-upper
together-requires-clause-upper g c = c.new-above.ensures.valid (c.new-filtered.ensures.valid c.requires.upper)

pub together-requires-clause-lower : goal.together-requires-clause-lower
together-requires-clause-lower g c = c.new-below.ensures.valid c.requires.lower
