-- Classes of numbers under any equivalence, numbered by their smallest members.
use Rattle.std.specs.Prelude.{◌≡◌, ℕ, ◌<◌, ◌≤◌, Bool, true, nat_eq, refl}
use Rattle.std.proofs.Common.{sym, ap, ◌∙◌, ⊎_elim, arith}
use Rattle.std.proofs.lemmas.Bool.{cases_order, cases_lt, both_ways, eq-eqb, ne_eqb, eqb-true}
use Rattle.byte_classes.specs.Numbering.{how_many, smallest, leads, class_of, classes, member}
use Rattle.byte_classes.specs.First.{found, first_is, first_below, how_many_less}

pub record Equivalence (like : ℕ → ℕ → Bool) : Type 0 where
  pub same : (a : ℕ) → like a a ≡ true
  pub back : (a b : ℕ) → like a b ≡ true → like b a ≡ true
  pub on : (a b c : ℕ) → like a b ≡ true → like b c ≡ true → like a c ≡ true

smallest_low : (like : ℕ → ℕ → Bool) (b : ℕ) → smallest like b ≤ b
smallest_low like b = omega (arith, (found (like b) b 0).high)

pub smallest_like : (like : ℕ → ℕ → Bool) → Equivalence like → (b : ℕ) → like b (smallest like b) ≡ true
smallest_like like eq b =
    ⊎_elim (λ (l : smallest like b < b). (found (like b) b 0).has (omega arith)) (λ (l : b ≤ smallest like b). let e : smallest like b ≡ b = omega (arith, smallest_low like b) in ap (like b) e ∙ eq.same b)
    (cases_lt (smallest like b) b)

pub smallest_least : (like : ℕ → ℕ → Bool) (a b : ℕ) → like b a ≡ true → smallest like b ≤ a
smallest_least like a b h =
    ⊎_elim (λ (l : a < smallest like b). absurd (both_ways (like b a) ((found (like b) b 0).none a (omega arith) l) h)) (λ (l : smallest like b ≤ a). l) (cases_lt a (smallest like b))

pub smallest_same : (like : ℕ → ℕ → Bool) → Equivalence like → (a b : ℕ) → like a b ≡ true → smallest like a ≡ smallest like b
smallest_same like eq a b h =
    let l : smallest like a ≤ smallest like b = smallest_least like (smallest like b) a (eq.on a b (smallest like b) h (smallest_like like eq b)) in
    let m : smallest like b ≤ smallest like a = smallest_least like (smallest like a) b (eq.on b a (smallest like a) (eq.back a b h) (smallest_like like eq a)) in
    omega arith

leads_smallest : (like : ℕ → ℕ → Bool) → Equivalence like → (b : ℕ) → leads like (smallest like b) ≡ true
leads_smallest like eq b = eq-eqb (smallest like (smallest like b)) (smallest like b) (sym (smallest_same like eq b (smallest like b) (smallest_like like eq b)))

pub class_same : (like : ℕ → ℕ → Bool) → Equivalence like → (a b : ℕ) → like a b ≡ true → class_of like a ≡ class_of like b
class_same like eq a b h = ap (how_many (leads like)) (smallest_same like eq a b h)

pub class_ordered : (like : ℕ → ℕ → Bool) → Equivalence like → (a b : ℕ) → smallest like a < smallest like b → class_of like a < class_of like b
class_ordered like eq a b l = how_many_less (leads like) (smallest like a) (smallest like b) l (leads_smallest like eq a)

pub class_apart : (like : ℕ → ℕ → Bool) → Equivalence like → (a b : ℕ) → class_of like a ≡ class_of like b → like a b ≡ true
class_apart like eq a b h =
    let back = eq.back b (smallest like b) (smallest_like like eq b) in
    ⊎_elim (λ (e : smallest like a ≡ smallest like b). eq.on a (smallest like b) b (ap (like a) (sym e) ∙ smallest_like like eq a) back)
    (⊎_elim (λ (l : smallest like a < smallest like b). absurd (omega (arith, class_ordered like eq a b l))) (λ (l : smallest like b < smallest like a). absurd (omega (arith, class_ordered like eq b a l))))
    (cases_order (smallest like a) (smallest like b))

pub class_within : (like : ℕ → ℕ → Bool) → Equivalence like → (n b : ℕ) → b < n → class_of like b < classes like n
class_within like eq n b l = how_many_less (leads like) (smallest like b) n (omega (arith, smallest_low like b)) (leads_smallest like eq b)

-- a leading number counts the leaders before it
pub class_leads : (like : ℕ → ℕ → Bool) (b : ℕ) → leads like b ≡ true → class_of like b ≡ how_many (leads like) b
class_leads like b h = ap (how_many (leads like)) (eqb-true (smallest like b) b h)

-- a leading number is the smallest of its class
pub member_is : (like : ℕ → ℕ → Bool) → Equivalence like → (n b c : ℕ) → b < n → leads like b ≡ true → how_many (leads like) b ≡ c → member like n c ≡ b
member_is like eq n b c l h e =
    first_is (λ x. nat_eq (class_of like x) c) n 0 b
    (record {
      low = omega arith;
      high = omega arith;
      none = λ x _ u. ne_eqb (class_of like x) c (λ z. omega (arith, how_many_less (leads like) (smallest like x) b (omega (arith, smallest_low like x)) (leads_smallest like eq x)));
      has = λ _. eq-eqb (class_of like b) c (class_leads like b h ∙ e);
    })

-- the member of a number's class is like it
pub member_like : (like : ℕ → ℕ → Bool) → Equivalence like → (n b : ℕ) → b < n → like (member like n (class_of like b)) b ≡ true
member_like like eq n b l =
    let f : ℕ → Bool = λ x. nat_eq (class_of like x) (class_of like b) in
    let k = first_below f n 0 b (omega arith) (omega arith) (eq-eqb (class_of like b) (class_of like b) refl) in
    class_apart like eq (member like n (class_of like b)) b (eqb-true (class_of like (member like n (class_of like b))) (class_of like b) k.1)
