-- A test passes exactly the events that its atom means.
use Rattle.std.proofs.Common.{◌≡◌, ℕ, ◌+◌, ◌*◌, ◌≤◌, Bool, true, false, not, ◌&&◌, eqb, leb, sym, refl, ap, arith}
use Rattle.std.proofs.lemmas.Bool.Decides.{nat_tests}
use Rattle.symbols.specs.declared.Event.{Event}
use Rattle.symbols.specs.Tests.{passes_code, code_of}
use Rattle.event_notation.specs.Atoms.{Meaning, any, some, others, picks, test_of}

same_answer : (a b : Bool) → (a ≡ true → b ≡ true) → (b ≡ true → a ≡ true) → a ≡ b
same_answer true true f g = refl
same_answer true false f g = sym (f refl)
same_answer false true f g = g refl
same_answer false false f g = refl

-- the codes of a kind's values lie side by side
in_span : (k l h x y : ℕ) → h ≤ 65535 → y ≤ 65535
    → (leb (k * 65536 + l) (x * 65536 + y) && leb (x * 65536 + y) (k * 65536 + h)) ≡ (eqb x k && (leb l y && leb y h))
in_span k l h x y high value = grind (arith, nat_tests)

-- the values that an atom names
abbrev pub Small : Meaning → Type 0
Small any = Unit {0}
Small (some kind low high) = high ≤ 65535
Small (others kind low high) = high ≤ 65535

pub passing : (m : Meaning) → Small m → (e : Event) → e.kind ≤ 255 → e.value ≤ 65535 → passes_code (test_of m) (code_of e) ≡ picks m e
passing any small e kind value = grind (arith, nat_tests)
passing (some k l h) small e kind value = in_span k l h e.kind e.value small value
passing (others k l h) small e kind value = ap not (in_span k l h e.kind e.value small value)
