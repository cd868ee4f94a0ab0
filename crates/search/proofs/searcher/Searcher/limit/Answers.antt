use Rattle.search.proofs.searcher.Searcher.limit.Goals as goal

pub invariant_of-self : goal.invariant_of-self
invariant_of-self g c = (c.limit.ensures.did c.self.invariant).ready

pub returns-clause-called : goal.returns-clause-called
returns-clause-called g c = rw (← c.self.view_is) ((c.limit.ensures.did c.self.invariant).answered)
