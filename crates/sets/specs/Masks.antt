-- A number read as a set: its binary digits below the width w say which numbers are members.
use Rattle.std.specs.Prelude.{ℕ, ◌/◌, ◌%◌, ◌^◌, ◌&&◌, ◌==◌, nat_lt}
use Rattle.sets.specs.Members.{Members}

abbrev pub bit : ℕ → ℕ → ℕ
bit m k = m / 2 ^ k % 2

abbrev pub mask : ℕ → ℕ → Members
mask w m = λ k. nat_lt k w && bit m k == 1
