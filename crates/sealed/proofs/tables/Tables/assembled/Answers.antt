use Rattle.std.proofs.Common.{◌≡◌, ◌+◌, length, sym, ap, ◌∙◌, arith}
use Rattle.pattern.specs.declared.Code.TheVariants.{Atom}
use Rattle.theory.proofs.Seal.{sealed_is}
use Rattle.sealed.specs.Assembling.{no_part}
use Rattle.sealed.specs.Tables.{entry}
use Rattle.sealed.proofs.Showing.{shows_codes, one_left, no_tables, atoms_more, rest_more, rest_none, rest_all}
use Rattle.sealed.proofs.tables.Tables.assembled.Goals as goal

pub step-requires : goal.step-requires
step-requires c =
    let l = c.loop-code in omega (arith, atoms_more c.args.codes.now l.code-index l.assembly.atoms Atom c.loop-code-test.true l.invariant.0)

pub loop-code-preserved : goal.loop-code-preserved
loop-code-preserved c =
    let l = c.loop-code in (
      omega (arith, atoms_more c.args.codes.now l.code-index l.assembly.atoms Atom c.loop-code-test.true l.invariant.0, c.in_ok-step.ensures.atoms),
      rest_more c.args.codes.now l.code-index Atom l.assembly c.step.new.self c.loop-code-test.true c.in_ok-step.ensures.taken l.invariant.1,
    )

pub returns-in_err-step : goal.returns-in_err-step
returns-in_err-step c =
    let l = c.loop-code in
    let none = rest_none c.args.codes.now l.code-index Atom l.assembly c.step.new.self c.loop-code-test.true c.in_err-step.ensures.taken l.invariant.1 in
    rw c.from_residual.ensures (sym (none ∙ sealed_is c.args.codes.now))

pub returns-in-len1 : goal.returns-in-len1
returns-in-len1 c =
    let l = c.loop-code in
    let one : length l.assembly.parts.items ≡ 1 = omega (arith, ap length c.as_slice.ensures.value, c.in-len1.len_at_least, c.in-len1.len_below) in
    let left = sym (one_left l.assembly.parts.items c.as_slice.result.now no_part (l.assembly.atoms + 1) (entry l.assembly.next) one c.as_slice.ensures.value) in
    shows_codes c.args.codes.now _ c.finished.result (left ∙ rest_all c.args.codes.now l.code-index l.assembly c.loop-code-test.false l.invariant.1) c.finished.ensures

pub returns-in_default : goal.returns-in_default
returns-in_default c =
    let l = c.loop-code in
    no_tables c.args.codes.now l.code-index l.assembly c.loop-code-test.false l.invariant.1 (λ e. omega (arith, ap length c.as_slice.ensures.value, c.in_default.len_below))

pub returns-in_default-2 : goal.returns-in_default-2
returns-in_default-2 c =
    let l = c.loop-code in
    no_tables c.args.codes.now l.code-index l.assembly c.loop-code-test.false l.invariant.1 (λ e. omega (arith, ap length c.as_slice.ensures.value, c.in_default.len_at_least))
