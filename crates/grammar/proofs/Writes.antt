-- A write where an entry is free, and one write after another.
use Rattle.std.proofs.Common.{◌≡◌, ◌+◌, ◌<◌, true, cond, List, [], ◌∷◌, ◌++◌, Result, length, take, set, ap, ◌∙◌, append_assoc, arith, length-append, length-set, lt-ltb}
use Rattle.std.specs.Result.{is_ok}
use Rattle.std.proofs.lemmas.List.{take_more_set}
use Rattle.collector.specs.declared.Collector.{Collector}
use Rattle.collector.specs.Pushing.{Pushed, held, size}
use Rattle.grammar.specs.Memory.{Wrote}

pub pushed : {A : Type 0} (b a : Collector A) (x : A) (r : Result (Unit {0}) A) → b.used < size b → Pushed b a x r → Wrote b a (x ∷ [])
pushed b a x r h p =
    let yes : is_ok r ≡ true = p.free ∙ lt-ltb b.used (size b) h in
    let xs = b.entries.now in
    let wrote : a.entries.now ≡ set xs b.used x = p.written ∙ ap (λ z. cond z (set xs b.used x) xs) yes in
    let count : a.used ≡ b.used + 1 = p.count ∙ ap (λ z. b.used + cond z 1 0) yes in
    record {
      entries = (λ i. take (count i) (wrote i)) ∙ take_more_set xs b.used x h;
      count = count;
      same_size = ap length wrote ∙ simp length-set;
      lender = p.lender;
    }

pub both : {A : Type 0} {x y z : Collector A} {cs ds : List A} → Wrote x y cs → Wrote y z ds → Wrote x z (cs ++ ds)
both {A} {x} {y} {z} {cs} {ds} p q =
    record {
      entries = q.entries ∙ ap (λ l. l ++ ds) p.entries ∙ append_assoc (held x) cs ds;
      count = omega (arith, p.count, q.count, length-append cs ds);
      same_size = q.same_size ∙ p.same_size;
      lender = q.lender ∙ p.lender;
    }
