use Rattle.std.proofs.Common.{◌≡◌, ℕ, ◌+◌, ◌-◌, ◌<◌, ◌≤◌, List, [], ◌∷◌, ◌++◌, length, get_or, take, drop, sym, refl, ap, ◌∙◌, subst, arith, length-drop, length-take, rules}
use borrow.Rule.Slice.PartMut.{put_mid}
use Rattle.std.proofs.lemmas.List.{drop-set-lt, drop-drop, get_or-take}
use Rattle.std.proofs.lemmas.Slice.{overwrites, drop-put_mid}
use Rattle.theory.specs.declared.Span.{Span}
use Rattle.law.specs.Calls.{Series}
use Rattle.search.specs.Calling.{Called}
use Rattle.search.specs.Remembered.{memory, subject}
use Rattle.series.specs.Answers.{Outcome, reply, written}
use Rattle.series.specs.Performed.{portion, request, requests, replies, each}
use Rattle.series.proofs.Runs.{portion_le, requests_more, taken_more, each_more, each_same, series_next, continues}
use Rattle.series.proofs.series.perform.Goals as goal

pub loop-i-preserved : goal.loop-i-preserved
loop-i-preserved g c =
    let v = c.loop-i.invariant in
    let i = c.loop-i.i in
    let used = c.loop-i.used in
    let n = c.share-n.result in
    let N : ℕ = length c.args.entries.now in
    let pool : List Span = c.loop-i.entries in
    let part : List Span = c.make.new.entries in
    let call = c.call-item.result in
    let e = c.make.ensures in
    let k : ℕ = (used + n) - used in
    let p : n ≡ portion call (N - used) = c.share-n.ensures ∙ ap (λ x. portion call (x - used)) v.2 in
    let le : n ≤ N - used = subst (λ x. x ≤ N - used) (sym p) (portion_le call (N - used)) in
    let whole : length pool ≡ N = v.2 in
    let lent : length (take k (drop used pool)) ≡ n = simp (length-take, length-drop) (omega arith) in
    let long : length part ≡ n = search rules in
    let after : length (put_mid used k pool part) ≡ N = search (rules, overwrites) in
    let a = c.make.result in
    let at : call ≡ get_or c.args.calls.now i call = c.call-item.is ∙ get_or-take c.min-count.result c.args.calls.now i call (search rules) in
    let f : List Span → Outcome → List Span = λ xs b. drop (written b) xs in
    let first : List Span = c.args.entries.now in
    let cs = take i c.args.calls.now in
    let rs : List Outcome = take i c.loop-i.answers in
    let kk : k ≡ n = omega arith in
    let same : f part a ≡ f (take n (drop used first)) a = e.behind ∙ ap (λ x. drop (written a) (take x (drop used pool))) kk ∙ ap (λ x. drop (written a) (take n x)) v.4 in
    let hc : i < length c.args.calls.now = search rules in
    let ha : i < length c.loop-i.answers = search rules in (
      taken_more N c.args.calls.now i used n call hc at v.0 p,
      omega arith,
      after,
      drop-set-lt _ c.loop-i.answers i _ (omega arith) ∙ sym (drop-drop 1 i _) ∙ ap (drop 1) v.3 ∙ drop-drop 1 i _,
      drop-put_mid used k pool part (used + n) (omega arith) (omega arith) (omega arith) ∙ sym (drop-drop n used pool) ∙ ap (drop n) v.4 ∙ drop-drop n used _,
      e.automaton ∙ v.5,
      series_next g.M.Automaton g.S.Shelf g.P.Policy g.met.M.Automaton.proper c.args.s.now c.loop-i.s c.make.new.s _ _ _ _ (request n call) (reply part c.make.result) v.5
          (requests_more N c.args.calls.now i used n call hc at v.0 p)
          (each_more reply N pool (put_mid used k pool part) part k c.args.calls.now c.loop-i.answers i used n call c.make.result whole after refl long v.1 hc ha at v.0 p)
          (subst (λ x. Called g.M.Automaton g.S.Shelf g.P.Policy c.loop-i.s (request x call) c.make.new.s (reply part c.make.result)) lent e.called)
          v.6,
      each_more f N pool (put_mid used k pool part) part k c.args.calls.now c.loop-i.answers i used n call a whole after refl long v.1 hc ha at v.0 p
          ∙ ap (λ x. x ++ (f part a ∷ [])) v.7 ∙ ap (λ x. each f first cs rs ++ (x ∷ [])) same
          ∙ sym (each_same f N first c.args.calls.now c.loop-i.answers i used n call a refl hc ha at v.0 p),
    )

pub returns : goal.returns
returns g c =
    let v = c.loop-i.invariant in
    let s = c.args.s.now in
    let b = g.S.Shelf.bounds s.shelf in
    let X = subject g.M.Automaton s in
    let m = memory g.S.Shelf g.P.Policy s in
    let N : ℕ = length c.args.entries.now in
    let calls = c.args.calls.now in
    let end : c.loop-i.i ≡ c.min-count.result = search rules in
    let all : ℕ → Type 0 = λ k. Series X m (requests N (take k calls)) (replies c.loop-i.entries (take k calls) (take k c.loop-i.answers)) (memory g.S.Shelf g.P.Policy c.loop-i.s) in
    record {
      count = search rules;
      series = subst all end v.6;
      law = continues X m _ _ _ (g.met.M.Automaton.proper s.automaton.now) b.few b.some (subst all end v.6);
      unanswered = search rules;
      behind = search rules;
      untaken = search rules;
      automaton = v.5;
    }
