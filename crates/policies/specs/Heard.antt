-- How the two policies go on when they hear something.
use Rattle.std.specs.Prelude.{◌≡◌, ℕ, Option}
use Rattle.sets.specs.Members.{Members, plus, less, either}
use Rattle.memory.specs.Live.{News}
use Rattle.memory.specs.Live.News.{seated, dropped, met, chose}
use Rattle.policies.specs.Chosen.{Choice}
use Rattle.policies.specs.Round.{others, Way, round}

-- flush-all keeps the live places and nothing else, and chooses all of them but the held one
abbrev pub flush_hears : Members → News → Members → Type 0
flush_hears live (seated p) now = now ≡ plus 64 live p
flush_hears live (dropped x) now = now ≡ less live x
flush_hears live (met x) now = now ≡ live
flush_hears live (chose held x) now = (now ≡ live) × (x ≡ others live held)

-- what the clock keeps: the live places, the marks and the hand
pub record Face : Type 0 where
  pub live : Members
  pub marks : Members
  pub hand : ℕ

abbrev pub face : Members → Members → ℕ → Face
face live marks hand = record { live = live; marks = marks; hand = hand }

-- seating and touching set marks; only a choice clears them and moves the hand
abbrev pub clock_hears : Face → News → Face → Type 0
clock_hears a (seated p) b = b ≡ face (plus 64 a.live p) (plus 64 a.marks p) a.hand
clock_hears a (dropped x) b = b ≡ face (less a.live x) a.marks a.hand
clock_hears a (met x) b = b ≡ face a.live (either a.marks x) a.hand
clock_hears a (chose held x) b = (b.live ≡ a.live) × Choice (others a.live held) a.marks a.hand x b.marks b.hand

-- the way of the hand from here on, while a place may be held
abbrev pub way_from : Face → Option ℕ → Way
way_from a held = round (others a.live held) a.marks a.hand
