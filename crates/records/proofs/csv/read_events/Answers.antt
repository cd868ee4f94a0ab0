use Rattle.std.proofs.Common.{◌≡◌, ◌+◌, ◌∷◌, ◌++◌, vec_items, sym, ap, ◌∙◌, rules, tests}
use Rattle.records.specs.Rows.{bad_in}
use Rattle.records.proofs.Kept.{bads, good, bad, good_end, bad_end}
use Rattle.records.proofs.Split.{left, turn, ended}
use Rattle.records.proofs.csv.read_events.Goals as goal

pub loop-i-preserved : goal.loop-i-preserved
loop-i-preserved c =
    let i = c.loop-i in
    let s = i.i-iterator in
    let t = c.next.new.self in
    let row = c.row_of-row.result in
    let first = c.still_first-first.result in
    let k = c.in-Some.ensures.steps in
    let is : left 10 s.iter ≡ c.in-Some.line.now ∷ left 10 t.iter = turn _ 10 s.iter t.iter c.in-Some.line (λ x r q k. search (rules, tests)) k.0 in
    record {
      good = good i.first first c.in-Some.line.now (left 10 s.iter) (left 10 t.iter) row c.row_of-row.ensures c.still_first-first.ensures is
          (vec_items i.out) (vec_items c.keep.new.out) c.in_ok-keep.ensures.good ∙ i.invariant.good;
      bad = ap (λ n. bads (vec_items c.keep.new.bad) (n + 1) first (left 10 t.iter)) k.2
          ∙ bad i.first first c.in-Some.line.now (left 10 s.iter) (left 10 t.iter) row c.row_of-row.ensures c.still_first-first.ensures is (s.count + 1)
          (vec_items i.bad) (vec_items c.keep.new.bad) (c.in_ok-keep.ensures.bad ∙ ap (λ n. vec_items i.bad ++ bad_in (n + 1) row) k.1) ∙ i.invariant.bad;
    }

pub returns : goal.returns
returns c =
    let i = c.loop-i in
    let s = i.i-iterator in
    let none = ended 10 s.iter c.in-None.ensures.steps.0.0 in
    record {
      good = sym (good_end (vec_items i.out) i.first (left 10 s.iter) none) ∙ i.invariant.good;
      bad = sym (bad_end (vec_items i.bad) (s.count + 1) i.first (left 10 s.iter) none) ∙ i.invariant.bad;
    }
