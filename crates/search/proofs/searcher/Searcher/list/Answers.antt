use Rattle.search.proofs.searcher.Searcher.list.Goals as goal

pub invariant_of-self : goal.invariant_of-self
invariant_of-self g c = (c.list.ensures.did c.self.invariant).ready

pub returns-clause-called : goal.returns-clause-called
returns-clause-called g c = rw (← c.self.view_is) ((c.list.ensures.did c.self.invariant).answered)

pub returns-clause-words : goal.returns-clause-words
returns-clause-words g c = rw (← c.self.view_is) (c.list.ensures.words c.self.invariant)
