use Rattle.search.proofs.searcher.Searcher.known_steps.Goals as goal

pub returns : goal.returns
returns g c = rw (← c.self.view_is) (c.known_steps.ensures c.self.invariant.counts)
