use Rattle.std.proofs.Common.{◌≡◌, ℕ, ◌*◌, ◌/◌, ◌%◌, ◌^◌, ◌<◌, length, refl, arith, rules}
use Rattle.std.proofs.lemmas.Nat.{one_shl, mod_below}
use Rattle.symbols.proofs.Passing.{with_byte_lem}
use Rattle.symbols.proofs.ByteTest.insert.Goals as goal

-- what the shift writes
shifted : (b : ℕ) → (1 * 2 ^ (b % 8)) % 256 ≡ 2 ^ (b % 8)
shifted b = one_shl (b % 8) 8 (mod_below b 8 (omega arith))

pub returns : goal.returns
returns c =
    let h : length c.args.self.now.bits ≡ 32 = search rules in
    let l : c.args.byte / 8 < length c.args.self.now.bits = omega arith in
    rw (shifted c.args.byte) (record { is = refl; law = with_byte_lem c.args.self.now c.args.byte l })
