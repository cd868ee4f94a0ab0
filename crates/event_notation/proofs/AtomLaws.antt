-- What the law says of atoms alone.
use Rattle.std.proofs.Common.{ℕ, List, Ok, Result, sym, refl, subst}
use Rattle.refusal.specs.declared.Refusal.{Refusal}
use Rattle.items.specs.declared.Lexeme.{Lexeme}
use Rattle.items.specs.declared.Token.TheVariants.{Atom}
use Rattle.symbols.specs.declared.EventTest.{EventTest}
use Rattle.event_notation.specs.Atoms.{test_of}
use Rattle.event_notation.specs.Law.{AtomLaw, Law, Reads}

pub atom_law : (place : ℕ) (text : List ℕ) (r : Result (Lexeme EventTest) Refusal) → Law place text r → AtomLaw text r
atom_law place text r l =
    record {
      only = λ t w e. let (m, at, is, passes) = subst (Reads place text) e l.reads in (m, at, is);
      each = λ m w at. sym (l.alone (Ok (record { token = Atom (test_of m); width = w })) (m, at, refl, l.passing m w at));
      passing = λ m w at. l.passing m w at;
    }
