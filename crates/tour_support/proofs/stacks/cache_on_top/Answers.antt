use Rattle.tour_support.proofs.stacks.cache_on_top.Goals as goal

-- a fresh cache is valid over what is
pub walk-requires : goal.walk-requires
walk-requires g c = c.new-2.ensures.valid c.in_ok-both.ensures
