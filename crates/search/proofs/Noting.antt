-- What noting makes of a shelf's map, and how much a drop can drop.
use Rattle.std.proofs.Common.{◌≡◌, ℕ, ◌+◌, ◌<◌, ◌≤◌, Bool, true, Some, None, ap, ◌∙◌, ⊎_elim, arith}
use mathlib.Core.Path.{fun_ext}
use Rattle.std.proofs.lemmas.Bool.{lt-ltb, both_ways}
use Rattle.sets.specs.Members.{below}
use Rattle.sets.specs.Positions.{PositionSet}
use Rattle.memory.specs.Steps.{Map, nothing, without, noted, size, notable, after, Within, Bounds}
use Rattle.memory.proofs.Sizes.{size_le, size_nothing, notable_from}
use Rattle.law.specs.Memory.{Memory, steps_known, Noted, spare, full}
use Rattle.law.proofs.Maps.{Left, left}
use Rattle.law.proofs.Readings.{cases_step}
use Rattle.search.specs.Remembered.{Notable}
use Rattle.search.proofs.Views.{same_memory}

pub dropped_small : (r n k : ℕ) (f : Map) → n ≤ 64 → r + k ≡ size n f → r ≤ 16384
dropped_small r n k f few e = omega (arith, size_le n f)

pub none_left : (n : ℕ) (f : Map) → Within n f → n ≤ 64 → without f (below 64) ≡ nothing
none_left n f w few =
    fun_ext
    (λ p.
    fun_ext
    (λ c.
    ⊎_elim
    (λ (h : without f (below 64) p c ≡ None). h)
    (λ (h : (t : ℕ) × (without f (below 64) p c ≡ Some t)).
    let l : Left f (below 64) p c h.0 = left f (below 64) p c h.0 h.1 in
    absurd (both_ways (below 64 p) l.from (lt-ltb p 64 (omega (arith, (w p c h.0 l.was).0)))))
    (cases_step (without f (below 64) p c))))

-- with room
pub noted_spare : (m n : Memory PositionSet) (r : Bool) (p c t gone : ℕ) → Notable m p c t → steps_known m < m.capacity → gone ≡ 0 → r ≡ notable m.places m.capacity m.known p c t → n.known ≡ after r m.known p c t → n.live ≡ m.live → n.told ≡ m.told → n.limit ≡ m.limit → n.places ≡ m.places → n.capacity ≡ m.capacity → Noted m p c t n gone
noted_spare m n r p c t gone h few z e k l o i a b =
    let y : r ≡ true = e ∙ notable_from m.places m.capacity m.known p c t (record { place = h.from; target = h.to; class = h.class; lacks = h.unknown; room = few }) in
    spare few (same_memory n _ l (k ∙ ap (λ x. after x m.known p c t) y) o i a b) z

-- at full capacity, over the map f that a drop of everything left
pub noted_full : (m n : Memory PositionSet) (f : Map) (r : Bool) (p c t gone : ℕ) → Bounds m.places m.capacity m.known → Notable m p c t → m.capacity ≤ steps_known m → f ≡ without m.known (below 64) → gone + size m.places f ≡ steps_known m → r ≡ notable m.places m.capacity f p c t → n.known ≡ after r f p c t → n.live ≡ m.live → n.told ≡ m.told → n.limit ≡ m.limit → n.places ≡ m.places → n.capacity ≡ m.capacity → Noted m p c t n gone
noted_full m n f r p c t gone bounds h many fe z e k l o i a b =
    let g : f ≡ nothing = fe ∙ none_left m.places m.known bounds.within bounds.few in
    let nil : size m.places f ≡ 0 = ap (size m.places) g ∙ size_nothing m.places in
    let y : r ≡ true = e ∙ notable_from m.places m.capacity f p c t (record { place = h.from; target = h.to; class = h.class; lacks = ap (λ x. x p c) g; room = omega (arith, h.some) }) in
    full many (same_memory n _ l (k ∙ ap (λ x. after x f p c t) y ∙ ap (λ x. noted x p c t) g) o i a b) (omega arith)
