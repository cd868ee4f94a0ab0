use Rattle.std.proofs.Common.{◌≡◌, ℕ, ◌+◌, ◌*◌, ◌<◌, true, false, set, Some, None, Option, sym, refl, ap, ◌∙◌, arith}
use Rattle.std.specs.Option.{is_some}
use Rattle.std.proofs.lemmas.Bool.{both_ways}
use Rattle.memory.specs.Steps.{noted}
use Rattle.memory.proofs.Sizes.{notable_from, size_lt}
use Rattle.dense_shelf.specs.Rows.{dense}
use Rattle.dense_shelf.specs.Kept.{map_in}
use Rattle.dense_shelf.proofs.Cells.{behind_set, cell_low, dense_set, wider_low}
use Rattle.dense_shelf.proofs.rows.Rows.note.Goals as goal

none_of : (o : Option ℕ) → is_some o ≡ false → o ≡ None
none_of None e = refl
none_of (Some x) e = absurd (both_ways true e refl)

pub returns-clause-untouched : goal.returns-clause-untouched
returns-clause-untouched c =
    let r = c.args.self.now in
    let u = c.widen.ensures.untouched in
    let at : c.cell-at.result ≡ c.args.class * r.places + c.args.place = c.cell-at.ensures.is ∙ ap (λ n. c.args.class * n + c.args.place) u.places in
    record {
      lender = u.lender;
      places = u.places;
      rest = behind_set c.widen.new.self.bytes.now r.places 256 c.cell-at.result c.args.target (omega (arith, cell_low r.places 256 c.args.class c.args.place c.if-class-ge256.false c.if-place-self.false)) (omega arith) ∙ u.rest;
    }

pub returns-clause-answer : goal.returns-clause-answer
returns-clause-answer c =
    let r = c.args.self.now in
    let lacks : map_in r c.args.place c.args.class ≡ None = sym c.know.ensures ∙ none_of c.know.result (sym c.is_some.ensures ∙ c.if-is_some.false) in
    sym (notable_from r.places (256 * r.places) (map_in r) c.args.place c.args.class c.args.target
    (record {
      place = c.if-place-self.false;
      target = c.if-target-self.false;
      class = c.if-class-ge256.false;
      lacks = lacks;
      room = size_lt r.places (map_in r) c.args.place c.args.class c.if-place-self.false c.if-class-ge256.false lacks;
    }))

pub returns-clause-map : goal.returns-clause-map
returns-clause-map c =
    let s = c.widen.new.self in
    let hp : c.args.place < s.places = omega (arith, c.widen.ensures.untouched.places) in
    let ht : c.args.target < s.places = omega (arith, c.widen.ensures.untouched.places) in
    let hc : c.args.class < s.used.classes = omega (arith, c.widen.ensures.used, wider_low c.args.self.now.used.classes c.args.class) in
    ap (λ i. dense (set s.bytes.now i c.args.target) s.places s.used.classes) c.cell-at.ensures.is
    ∙ dense_set s.bytes.now s.places s.used.classes c.args.place c.args.class c.args.target hp hc ht (omega (arith, c.cell-at.ensures.is, c.cell-at.ensures.within))
    ∙ ap (λ f. noted f c.args.place c.args.class c.args.target) c.widen.ensures.map
