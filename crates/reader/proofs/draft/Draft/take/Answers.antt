use Rattle.reader.specs.Drafts.{tests_of}
use Rattle.reader.proofs.Taking.{took_space, took_sign, took_atom}
use Rattle.reader.proofs.draft.Draft.take.Goals as goal

pub returns-in-Space : goal.returns-in-Space
returns-in-Space g c = took_space c.args.token c.args.place (tests_of c.args.self.now) c.args.items.now c.in-Space.is

pub returns-in-Sign : goal.returns-in-Sign
returns-in-Sign g c =
    took_sign c.args.token c.args.place (tests_of c.args.self.now) c.args.items.now c.push.new.self c.push.result c.in-Sign.is c.requires c.push.ensures

pub returns-in-Atom : goal.returns-in-Atom
returns-in-Atom g c =
    took_atom c.args.token c.args.place (tests_of c.args.self.now) c.args.items.now (tests_of c.keep.new.self) c.push-in-Atom.new.self
    c.push-in-Atom.result c.in-Atom.test c.in-Atom.is c.requires c.push-in-Atom.ensures c.keep.ensures
