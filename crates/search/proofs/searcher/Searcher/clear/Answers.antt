use Rattle.search.proofs.searcher.Searcher.clear.Goals as goal

pub invariant_of-self : goal.invariant_of-self
invariant_of-self g c = (c.clear.ensures.did c.self.invariant).ready

pub returns-clause-called : goal.returns-clause-called
returns-clause-called g c = rw (← c.self.view_is) ((c.clear.ensures.did c.self.invariant).answered)
