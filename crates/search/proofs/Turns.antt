-- Counts that stay low over many reads.
use Rattle.std.proofs.Common.{◌≡◌, ℕ, ◌+◌, ◌*◌, ◌<◌, ◌≤◌, Bool, true, false, cond, ltb, IfSome, Some, None, Option, sym, refl, ap, subst, arith}
use Rattle.std.proofs.lemmas.Bool.{ltb-true}
use Rattle.theory.specs.declared.Span.{Span}
use Rattle.law.specs.Reading.{Counts as Tallies, both, zeros}
use Rattle.search.specs.declared.counts.Counts.{Counts}
use Rattle.search.specs.Counted.{tallied, known_more, Bounded, Low}

pub bounded_as : (n : ℕ) (k : Counts) (t : Tallies) → tallied k ≡ t → t.reads ≤ n → t.known ≤ n → t.built ≤ n → t.plain ≤ n → t.dropped ≤ 49152 * n → Bounded n k
bounded_as n k t e a b c d f =
    record {
      reads = omega (arith, ap (λ (t : Tallies). t.reads) e);
      known = omega (arith, ap (λ (t : Tallies). t.known) e);
      built = omega (arith, ap (λ (t : Tallies). t.built) e);
      plain = omega (arith, ap (λ (t : Tallies). t.plain) e);
      dropped = omega (arith, ap (λ (t : Tallies). t.dropped) e);
    }

pub low_bounded : (n : ℕ) (k : Counts) → n ≤ 70368744177664 → Bounded n k → Low k
low_bounded n k l b =
    record { reads = omega (arith, b.reads); known = omega (arith, b.known); built = omega (arith, b.built); plain = omega (arith, b.plain); dropped = omega (arith, b.dropped) }

pub no_counts : (k : Counts) → (k.reads ≡ 0) × ((k.known ≡ 0) × ((k.built ≡ 0) × ((k.plain ≡ 0) × (k.dropped ≡ 0)))) → tallied k ≡ zeros
no_counts k e = rw (e.0, e.1.0, e.1.1.0, e.1.1.1.0, e.1.1.1.1)

pub bounded_none : (n : ℕ) (k : Counts) → tallied k ≡ zeros → Bounded n k
bounded_none n k e = bounded_as n k zeros e (omega arith) (omega arith) (omega arith) (omega arith) (omega arith)

pub bounded_plus : (n i l : ℕ) (k s r : Counts) → l ≡ n + i → Bounded n k → Bounded i s → tallied r ≡ both (tallied k) (tallied s) → Bounded l r
bounded_plus n i l k s r z b c e =
    bounded_as l r (both (tallied k) (tallied s)) e (omega (arith, b.reads, c.reads)) (omega (arith, b.known, c.known)) (omega (arith, b.built, c.built)) (omega (arith, b.plain, c.plain)) (omega (arith, b.dropped, c.dropped))

pub bounded_more : (n l : ℕ) (k : Counts) → n ≤ l → Bounded n k → Bounded l k
bounded_more n l k z b =
    record { reads = omega (arith, b.reads); known = omega (arith, b.known); built = omega (arith, b.built); plain = omega (arith, b.plain); dropped = omega (arith, b.dropped) }

pub start_within : (b : Bool) (i j n : ℕ) (o r : Option ℕ) → r ≡ cond b (Some i) o → i ≤ j → i ≤ n → IfSome o (λ s. (j ≤ s) × (s ≤ n)) → IfSome r (λ s. (i ≤ s) × (s ≤ n))
start_within b i j n o r e l h c = subst (λ x. IfSome x (λ s. (i ≤ s) × (s ≤ n))) (sym e) (by b)
  where
    later : (o : Option ℕ) → IfSome o (λ s. (j ≤ s) × (s ≤ n)) → IfSome o (λ s. (i ≤ s) × (s ≤ n))
    later None c = tt
    later (Some s) c = (omega (arith, c.0), c.1)

    by : (b : Bool) → IfSome (cond b (Some i) o) (λ s. (i ≤ s) × (s ≤ n))
    by true = (omega arith, h)
    by false = later o c

pub end_within : (b : Bool) (i n e r : ℕ) → r ≡ cond b i e → i ≤ n → e ≤ n → r ≤ n
end_within b i n e r z l h = subst (λ x. x ≤ n) (sym z) (by b)
  where
    by : (b : Bool) → cond b i e ≤ n
    by true = l
    by false = h

pub span_within : (s e f n : ℕ) (o : Option Span) → o ≡ cond (ltb s e) (Some (record { start = s; end = e })) None → f ≤ s → e ≤ n → IfSome o (λ (x : Span). (f < x.end) × (x.end ≤ n))
span_within s e f n o z l h = subst (λ y. IfSome y (λ (x : Span). (f < x.end) × (x.end ≤ n))) (sym z) (by (ltb s e) refl)
  where
    by : (b : Bool) → ltb s e ≡ b → IfSome (cond b (Some (record { start = s; end = e })) None) (λ (x : Span). (f < x.end) × (x.end ≤ n))
    by true q = (omega (arith, ltb-true s e q), h)
    by false q = tt

pub bounded_known : (n i l : ℕ) (k r : Counts) → l ≡ n + i → Bounded n k → tallied r ≡ known_more (tallied k) i → Bounded l r
bounded_known n i l k r z b e =
    bounded_as l r (known_more (tallied k) i) e (omega (arith, b.reads)) (omega (arith, b.known)) (omega (arith, b.built)) (omega (arith, b.plain)) (omega (arith, b.dropped))
