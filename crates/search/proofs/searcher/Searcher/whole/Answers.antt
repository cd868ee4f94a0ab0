use Rattle.search.proofs.searcher.Searcher.whole.Goals as goal

pub invariant_of-self : goal.invariant_of-self
invariant_of-self g c = (c.whole.ensures.did c.self.invariant).ready

pub returns-clause-called : goal.returns-clause-called
returns-clause-called g c = rw (← c.self.view_is) ((c.whole.ensures.did c.self.invariant).answered)

pub returns-clause-words : goal.returns-clause-words
returns-clause-words g c = rw (← c.self.view_is) (c.whole.ensures.words c.self.invariant)
