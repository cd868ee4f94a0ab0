use Rattle.std.proofs.Common.{◌≡◌, ◌+◌, get_or, drop, sym, refl, ap, ◌∙◌, arith}
use Rattle.std.proofs.lemmas.Result.{err_from_is_err_and}
use Rattle.byte_notation.specs.declared.brackets.State.TheVariants.{Members}
use Rattle.byte_notation.specs.Brackets.{after, members, member_in}
use Rattle.byte_notation.proofs.Steps.{taken_more, taken_none, read_or_closed, behind_more, behind_sum}
use Rattle.byte_notation.proofs.brackets.read_members.Goals as goal

pub returns-in_err-take_member : goal.returns-in_err-take_member
returns-in_err-take_member c =
    let e = err_from_is_err_and c.from_residual.result c.from_residual.ensures.1 in
    let ts = c.args.text.bytes.now in
    let p = c.args.text.place in
    let q = c.loop-cursor.cursor in
    let open_yet : after c.loop-cursor.state (get_or ts q 0) ≡ Members = read_or_closed c.loop-cursor.state (get_or ts q 0) (λ e. c.in_default.not-Closed (c.advance-state.ensures ∙ e)) in
    rw (e.1, e.2)
    (record {
      is =
          sym (taken_none p c.loop-cursor.state c.loop-cursor.test (p + q) q ts c.loop-cursor-test.true open_yet _ refl c.in_err-take_member.field-0.0 c.in_err-take_member.ensures.is)
          ∙ c.loop-cursor.invariant.is;
      within = tt;
    })

pub loop-cursor-preserved : goal.loop-cursor-preserved
loop-cursor-preserved c =
    let told = c.in_ok-take_member.ensures in
    let ts = c.args.text.bytes.now in
    let p = c.args.text.place in
    let q = c.loop-cursor.cursor in
    let r = member_in p ts q in
    let open_yet : after c.loop-cursor.state (get_or ts q 0) ≡ Members = read_or_closed c.loop-cursor.state (get_or ts q 0) (λ e. c.in_default.not-Closed (c.advance-state.ensures ∙ e)) in
    let further = behind_more r q in
    record {
      from = omega (arith, told.moved);
      is =
          (λ i. members p ((c.advance-state.ensures ∙ open_yet) i) (told.test i) ((ap (λ n. p + n) told.moved ∙ sym (behind_sum r p q)) i) 0 (drop (told.moved i) ts))
          ∙ sym (taken_more p c.loop-cursor.state c.loop-cursor.test (p + q) q ts c.loop-cursor-test.true open_yet r refl told.is)
          ∙ c.loop-cursor.invariant.is;
    }
