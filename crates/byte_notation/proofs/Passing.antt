-- Which bytes pass the tests that are read.
use Rattle.std.proofs.Common.{◌≡◌, ℕ, ◌+◌, ◌-◌, ◌<◌, Bool, true, false, not, ◌&&◌, ◌||◌, eqb, List, [], ◌∷◌, ◌++◌, length, sym, refl, ap, ◌∙◌, arith, length-set}
use Rattle.std.proofs.Math.Bool.{or-false, or_assoc, or_comm}
use Rattle.symbols.specs.declared.ByteTest.{ByteTest}
use Rattle.symbols.specs.Tests.{passes_byte}
use Rattle.symbols.specs.ByteSets.{no_byte, with_byte, with_bytes, with_range, between}
use Rattle.symbols.proofs.Passing.{nothing, byte_added, range_added, inverts, length_bytes}
use Rattle.byte_notation.specs.declared.classes.ByteRange.{ByteRange}
use Rattle.byte_notation.specs.Atoms.{named, passing}
use Rattle.byte_notation.specs.Brackets.{with_ranges, tested}
use Rattle.byte_notation.specs.Law.{Passes}
use Rattle.byte_notation.specs.Lexing.{only_byte, any_byte}

none_32 : length no_byte.bits ≡ 32
none_32 = refl

byte_32 : (t : ByteTest) (b : ℕ) → length t.bits ≡ 32 → length (with_byte t b).bits ≡ 32
byte_32 t b e = length-set t.bits _ _ ∙ e

ranges_32 : (t : ByteTest) (rs : List ByteRange) → length t.bits ≡ 32 → length (with_ranges t rs).bits ≡ 32
ranges_32 t [] e = e
ranges_32 t (r ∷ rs) e = ranges_32 (with_range t r.low r.high) rs (length_bytes (r.high + 1 - r.low) t r.low ∙ e)

ranges_added : (t : ByteTest) (rs : List ByteRange) → length t.bits ≡ 32 → (x : ℕ) → x < 256 → passes_byte (with_ranges t rs) x ≡ (named rs x || passes_byte t x)
ranges_added t [] e x h = refl
ranges_added t (r ∷ rs) e x h =
    ranges_added (with_range t r.low r.high) rs (length_bytes (r.high + 1 - r.low) t r.low ∙ e) x h
    ∙ ap (λ p. named rs x || p) (range_added t r.low r.high e x h)
    ∙ sym (or_assoc (named rs x) (between r.low r.high x) (passes_byte t x)) ∙ ap (λ b. b || passes_byte t x) (or_comm (named rs x) (between r.low r.high x))

ranges_pass : (rs : List ByteRange) → Passes (with_ranges no_byte rs) (named rs)
ranges_pass rs x h = ranges_added no_byte rs none_32 x h ∙ ap (λ p. named rs x || p) (nothing x) ∙ or-false (named rs x)

pub only_passes : (b : ℕ) → Passes (only_byte b) (λ x. eqb x b)
only_passes b x h = byte_added no_byte b none_32 x h ∙ ap (λ p. eqb x b || p) (nothing x) ∙ or-false (eqb x b)

pub any_passes : Passes any_byte (λ x. not (eqb x 10))
any_passes x h = inverts (only_byte 10) (byte_32 no_byte 10 none_32) x h ∙ ap not (only_passes 10 x h)

neither : (a b : Bool) → not (a || b) ≡ (not b && not a)
neither true true = refl
neither true false = refl
neither false true = refl
neither false false = refl

pub bracket_passes : (inverted : Bool) (rs : List ByteRange) → Passes (tested inverted (with_ranges no_byte rs)) (passing inverted rs)
bracket_passes false rs x h = ranges_pass rs x h
bracket_passes true rs x h =
    inverts (with_byte (with_ranges no_byte rs) 10) (byte_32 (with_ranges no_byte rs) 10 (ranges_32 no_byte rs none_32)) x h
    ∙ ap not (byte_added (with_ranges no_byte rs) 10 (ranges_32 no_byte rs none_32) x h ∙ ap (λ p. eqb x 10 || p) (ranges_pass rs x h))
    ∙ neither (eqb x 10) (named rs x)

pub ranges_append : (t : ByteTest) (rs ss : List ByteRange) → with_ranges t (rs ++ ss) ≡ with_ranges (with_ranges t rs) ss
ranges_append t [] ss = refl
ranges_append t (r ∷ rs) ss = ranges_append (with_range t r.low r.high) rs ss

-- one byte is a range of one
pub byte_range : (t : ByteTest) (b : ℕ) → with_byte t b ≡ with_range t b b
byte_range t b = let e : b + 1 - b ≡ 1 = omega arith in ap (λ n. with_bytes t b n) (sym e)
