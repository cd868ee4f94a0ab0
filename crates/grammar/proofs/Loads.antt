-- The codes that would close it all grow by at most two at a step.
use Rattle.std.proofs.Common.{◌≡◌, ℕ, zero, suc, ◌+◌, ◌≤◌, true, List, [], ◌∷◌, ◌++◌, length, refl, subst, arith, length-append}
use Rattle.items.specs.declared.Item.{Item}
use Rattle.items.specs.declared.Sign.{Sign}
use Rattle.pattern.specs.declared.Code.{Code}
use Rattle.grammar.specs.declared.frame.Repeats.{Repeats}
use Rattle.grammar.specs.declared.frame.Repeats.TheVariants.{Empty, One, Many}
use Rattle.grammar.specs.declared.frame.Frame.{Frame}
use Rattle.grammar.specs.Parse.{State, Step, framed, state, more, grown, joins, choices, ends, operand, opened, closed, step}
use Rattle.grammar.specs.Parse.Step.{go, wrong}
use Rattle.grammar.specs.Memory.{load, full, closing}

abbrev Light : ℕ → Step → Type 0
Light n (go s) = load s ≤ n + 2
Light n (wrong c) = Unit {0}

wanted : (n : ℕ) (k : Repeats) (s : Step) → (full k ≡ 1 → Light n s) → Light n (operand k s)
wanted n Empty s h = tt
wanted n One s h = h refl
wanted n Many s h = h refl

grows : (k : Repeats) → length (joins (more k)) ≡ full k
grows Empty = refl
grows One = refl
grows Many = refl

grown_full : (k : Repeats) → full (more k) ≡ 1
grown_full Empty = refl
grown_full One = refl
grown_full Many = refl

at_most : (k : Repeats) → full k ≤ 1
at_most Empty = omega arith
at_most One = omega arith
at_most Many = omega arith

ends_length : (f : Frame) → length (ends f) ≡ length (joins f.repeats) + length (choices f.branches)
ends_length f = length-append (joins f.repeats) (choices f.branches)

opens : (n : ℕ) (cs : List Code) (f : Frame) (st : List Frame) → Light (load (state n cs f st)) (opened n cs f st)
opens zero cs f st = tt
opens (suc n) cs f st = omega (arith, length-append cs (joins f.repeats), ends_length f, ends_length (grown f), grows f.repeats)

closes : (m n : ℕ) (cs : List Code) (st : List Frame) → length cs + 1 + closing st ≤ m → Light m (closed n cs st)
closes m n cs [] h = tt
closes m n cs (f ∷ st) h = omega (arith, at_most f.repeats)

lightly : (s : State) (i : Item) → Light (load s) (step s i)
lightly s Item.Atom = omega (arith, length-append (s.codes ++ joins s.frame.repeats) (Code.Atom ∷ []), length-append s.codes (joins s.frame.repeats), ends_length s.frame, ends_length (grown s.frame), grows s.frame.repeats, grown_full s.frame.repeats)
lightly s (Item.Sign Sign.Open) = opens s.room s.codes s.frame s.around
lightly s (Item.Sign Sign.Close) = wanted (load s) s.frame.repeats (closed s.room (s.codes ++ ends s.frame) s.around) λ h. closes (load s) s.room (s.codes ++ ends s.frame) s.around (omega (arith, length-append s.codes (ends s.frame)))
lightly s (Item.Sign Sign.Bar) = wanted (load s) s.frame.repeats (go (state s.room (s.codes ++ ends s.frame) (framed true Empty) s.around)) λ h. omega (arith, length-append s.codes (ends s.frame))
lightly s (Item.Sign Sign.Star) = wanted (load s) s.frame.repeats (go (state s.room (s.codes ++ Code.Star ∷ []) s.frame s.around)) λ h. omega (arith, length-append s.codes (Code.Star ∷ []))
lightly s (Item.Sign Sign.Plus) = wanted (load s) s.frame.repeats (go (state s.room (s.codes ++ Code.Plus ∷ []) s.frame s.around)) λ h. omega (arith, length-append s.codes (Code.Plus ∷ []))
lightly s (Item.Sign Sign.Query) = wanted (load s) s.frame.repeats (go (state s.room (s.codes ++ Code.Maybe ∷ []) s.frame s.around)) λ h. omega (arith, length-append s.codes (Code.Maybe ∷ []))

pub lighter : (s t : State) (i : Item) → step s i ≡ go t → load t ≤ load s + 2
lighter s t i e = subst (Light (load s)) e (lightly s i)
