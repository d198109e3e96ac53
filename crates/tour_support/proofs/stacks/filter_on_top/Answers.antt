use Rattle.tour_support.proofs.stacks.filter_on_top.Goals as goal

-- a filter is valid over a fresh cache, and that over what is
pub walk-requires : goal.walk-requires
walk-requires g c = c.new-stack.ensures.valid (c.new-cached.ensures.valid c.in_ok-both.ensures)
