-- Each kind with its values is read, and where a value is refused the whole is.
use Rattle.std.proofs.Common.{◌≡◌, ℕ, ◌+◌, ◌*◌, List, ◌∷◌, ◌++◌, length, drop, Ok, Err, refl, ap, ◌∙◌, append_assoc, arith, length-append}
use Rattle.std.proofs.lemmas.List.{drop_at}
use Rattle.refusal.specs.declared.Refusal.{Refusal}
use Rattle.event_notation.specs.Spans.{after, range, colon, values, coded, codes}
use Rattle.event_notation.specs.Atoms.{Form, Selected, Numeral, goes_on, Ends}
use Rattle.event_notation.proofs.Numerals.{number_each}
use Rattle.event_notation.proofs.Valuing.{values_end, values_each}

pub codes_each : (p : ℕ) (form : Form) (bs rest : List ℕ) (kind low high : ℕ) → Selected form bs kind low high → Ends (goes_on form) rest
    → codes p (bs ++ rest) ≡ Ok (record { low = kind * 65536 + low; high = kind * 65536 + high; width = length bs })
codes_each p form bs rest kind low high s ends =
    let k = s.front in
    let v = s.behind in
    let wide : length k + length v ≡ length bs = omega (arith, ap length s.whole, length-append k v) in
    ap (λ l. codes p (l ++ rest)) s.whole ∙ ap (codes p) (append_assoc k v rest)
    ∙ ap (λ r. after r (λ n. after (values (p + n.width) (drop n.width (k ++ (v ++ rest)))) (coded n)))
    (number_each 255 p k (v ++ rest) kind s.numeral (values_end form v low high rest s.values ends))
    ∙ ap (λ l. after (values (p + length k) l) (coded (record { value = kind; width = length k }))) (drop_at k (v ++ rest) (length k) refl)
    ∙ ap (λ r. after r (coded (record { value = kind; width = length k }))) (values_each (p + length k) form v low high rest s.values ends)
    ∙ (λ i. Ok (record { low = kind * 65536 + low; high = kind * 65536 + high; width = wide i }))

pub values_none : (p : ℕ) (ds rest : List ℕ) (n : ℕ) → Numeral 255 ds n → (e : Refusal) → range (p + length ds + 1) rest ≡ Err e → codes p (ds ++ 58 ∷ rest) ≡ Err e
values_none p ds rest n num e none =
    ap (λ r. after r (λ k. after (values (p + k.width) (drop k.width (ds ++ 58 ∷ rest))) (coded k))) (number_each 255 p ds (58 ∷ rest) n num refl)
    ∙ ap (λ l. after (values (p + length ds) l) (coded (record { value = n; width = length ds }))) (drop_at ds (58 ∷ rest) (length ds) refl)
    ∙ ap (λ r. after (after r colon) (coded (record { value = n; width = length ds }))) none
