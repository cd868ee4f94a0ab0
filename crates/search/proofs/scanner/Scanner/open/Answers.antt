use Rattle.std.proofs.Common.{◌≡◌, sym, refl, ap, ◌∙◌, subst, arith}
use mathlib.Core.Path.{fun_ext}
use Rattle.std.proofs.lemmas.Bool.{both_ways}
use Rattle.sets.specs.Members.{none, less}
use Rattle.sets.specs.Places.{member}
use Rattle.law.specs.Memory.{opened, Sound}
use Rattle.law.proofs.Calling.{sound_empty}
use Rattle.search.proofs.Views.{same_memory, no_state}
use Rattle.search.proofs.Ends.{less_below}
use Rattle.search.proofs.scanner.Scanner.open.Goals as goal

pub returns : goal.returns
returns g c =
    let b = g.S.Shelf.bounds c.args.shelf in
    let d = c.empty.ensures in
    let p = c.args.policy in
    let live = g.P.Policy.live in
    let told : live c.drop_places.new.self ≡ none = c.drop_places.ensures.live ∙ ap (less (live p)) c.all.ensures ∙ less_below (live p) (g.met.P.Policy.low p) in
    record {
      opened = same_memory _ _ (fun_ext (λ k. no_state (member c.empty-none.result k) _ (ap (λ f. f k) c.empty-none.ensures))) d.map told refl d.room d.most;
      ready = record {
        sound = subst (λ y. Sound (g.M.Automaton.subject c.args.automaton.now) y) (sym (same_memory _ _ (fun_ext (λ k. no_state (member c.empty-none.result k) _ (ap (λ f. f k) c.empty-none.ensures))) d.map told refl d.room d.most)) (sound_empty (g.M.Automaton.subject c.args.automaton.now) (opened (g.S.Shelf.room c.args.shelf) (g.S.Shelf.most c.args.shelf)) b.few b.some (omega arith));
        counts = d.sound;
        flags = record {
          begins = λ k h. absurd (both_ways _ (ap (λ f. f k) c.empty-none.ensures) h);
          ends = λ k h. absurd (both_ways _ (ap (λ f. f k) c.empty-none.ensures) h);
          empties = λ k h. absurd (both_ways _ (ap (λ f. f k) c.empty-none.ensures) h);
        };
      };
      automaton = refl;
    }
