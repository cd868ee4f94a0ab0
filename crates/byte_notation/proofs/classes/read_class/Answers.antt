use Rattle.std.proofs.Common.{◌≡◌, true, false, None, drop, sym, ap, ◌∙◌, arith, rules, option_map}
use Rattle.byte_notation.specs.Classes.{names, name_of, ranges_of, class_at}
use Rattle.byte_notation.proofs.Fronts.{class_unopened, class_left, opened_at, passes, none_found}
use Rattle.byte_notation.proofs.classes.read_class.Goals as goal

pub returns-then-not-starts_with : goal.returns-then-not-starts_with
returns-then-not-starts_with c =
    let ts = c.args.text.now in
    let p = c.args.cursor.now in
    let no = opened_at ts p c.starts_with.result false c.starts_with.ensures.value c.if-not-starts_with.true in
    let none : class_at (drop p ts) ≡ None = class_unopened 0 names (drop p ts) no in
    rw none (record { is = search rules; moved = search rules; within = search rules })

pub returns-in_err-class : goal.returns-in_err-class
returns-in_err-class c =
    let ts = c.args.text.now in
    let p = c.args.cursor.now in
    let opened = opened_at ts p c.starts_with.result true c.starts_with.ensures.value c.if-not-starts_with.false in
    let none : class_at (drop p ts) ≡ None = class_left ts p opened ∙ none_found ranges_of _ c.in_err-class.ensures.ranges in
    rw none (record { is = search rules; moved = search rules; within = search rules })

pub returns : goal.returns
returns c =
    let ts = c.args.text.now in
    let p = c.args.cursor.now in
    let opened = opened_at ts p c.starts_with.result true c.starts_with.ensures.value c.if-not-starts_with.false in
    let same = class_left ts p opened in
    let told = c.in_ok-class.ensures in
    let place = passes _ c.in_ok-class.class.now.name.now p (told.name ∙ ap (option_map name_of) (sym same)) in
    let ends = c.drop-back-2.ensures in
    record { is = told.ranges ∙ ap (option_map ranges_of) (sym same); moved = omega arith; within = search rules }
