use Rattle.std.proofs.Common.{◌≡◌, sym, ap, ◌∙◌, subst, arith}
use Rattle.sets.specs.Places.{member}
use Rattle.memory.specs.Steps.{without, notable, after}
use Rattle.search.specs.Remembered.{lives, Kept}
use Rattle.search.proofs.Views.{with_shelf, kept_shelf, kept_same, kept_then}
use Rattle.search.proofs.Noting.{noted_spare, noted_full, dropped_small}
use Rattle.search.proofs.Moves.{gone_of}
use Rattle.search.proofs.scanner.Scanner.note_step.Goals as goal
use Rattle.search.proofs.scanner.Scanner.note_step.Goals.{then-count-capacity, else-count-capacity}

pub returns : goal.returns
returns g c =
    let s = c.args.self.now in
    let j = c.if-count-capacity.self in
    let p = c.args.place in
    let k = c.args.class in
    let t = c.args.target in
    let n = c.note.ensures in
    let bounds = g.S.Shelf.bounds s.shelf in
    let left = c.note.new.self in
    elim c.if-count-capacity.branch [
      | then-count-capacity w ↦
          let d = w.drop_places-gone.ensures in
          let room : g.S.Shelf.room j.shelf ≡ g.S.Shelf.room s.shelf = ap (λ y. g.S.Shelf.room y.shelf) w.self-is ∙ d.room in
          let most : g.S.Shelf.most j.shelf ≡ g.S.Shelf.most s.shelf = ap (λ y. g.S.Shelf.most y.shelf) w.self-is ∙ d.most in
          record {
            noted = λ right h.
                noted_full _ _ (g.S.Shelf.steps j.shelf) c.note.result p k t c.if-count-capacity.gone bounds h
                (omega (arith, c.count.ensures right, c.capacity.ensures))
                (ap (λ y. g.S.Shelf.steps y.shelf) w.self-is ∙ d.map ∙ ap (without (g.S.Shelf.steps s.shelf)) w.all.ensures)
                (gone_of c.if-count-capacity.gone w.drop_places-gone.result (g.S.Shelf.room s.shelf) _ _ _ _ w.gone-is d.room (ap (λ y. g.S.Shelf.steps y.shelf) w.self-is) d.answer)
                (n.answer ∙ ap (λ y. notable y (g.S.Shelf.most j.shelf) (g.S.Shelf.steps j.shelf) p k t) room ∙ ap (λ y. notable (g.S.Shelf.room s.shelf) y (g.S.Shelf.steps j.shelf) p k t) most)
                n.map
                (ap (λ y. lives (member y.live) y.sets (member y.back)) w.self-is)
                (ap (λ y. g.P.Policy.live y.policy) w.self-is)
                (ap (λ y. y.limit) w.self-is)
                (n.room ∙ room) (n.most ∙ most);
            small = omega (arith, w.gone-is, dropped_small w.drop_places-gone.result (g.S.Shelf.room s.shelf) _ (g.S.Shelf.steps s.shelf) bounds.few d.answer);
            kept = kept_then g.M.Automaton g.S.Shelf s j (with_shelf j left)
                (subst (λ y. Kept g.M.Automaton g.S.Shelf s y) (sym w.self-is) (kept_shelf g.M.Automaton g.S.Shelf s w.drop_places-gone.new.self d.sound))
                (kept_shelf g.M.Automaton g.S.Shelf j left n.sound);
            silent = ap (λ y. y.policy) w.self-is;
          }
      | else-count-capacity w ↦
          let room : g.S.Shelf.room j.shelf ≡ g.S.Shelf.room s.shelf = ap (λ y. g.S.Shelf.room y.shelf) w.self-is in
          let most : g.S.Shelf.most j.shelf ≡ g.S.Shelf.most s.shelf = ap (λ y. g.S.Shelf.most y.shelf) w.self-is in
          let map : g.S.Shelf.steps j.shelf ≡ g.S.Shelf.steps s.shelf = ap (λ y. g.S.Shelf.steps y.shelf) w.self-is in
          record {
            noted = λ right h.
                noted_spare _ _ c.note.result p k t c.if-count-capacity.gone h
                (omega (arith, c.count.ensures right, c.capacity.ensures))
                w.gone-is
                (n.answer ∙ ap (λ y. notable (g.S.Shelf.room y.shelf) (g.S.Shelf.most y.shelf) (g.S.Shelf.steps y.shelf) p k t) w.self-is)
                (n.map ∙ ap (λ y. after c.note.result y p k t) map)
                (ap (λ y. lives (member y.live) y.sets (member y.back)) w.self-is)
                (ap (λ y. g.P.Policy.live y.policy) w.self-is)
                (ap (λ y. y.limit) w.self-is)
                (n.room ∙ room) (n.most ∙ most);
            small = omega (arith, w.gone-is);
            kept = kept_then g.M.Automaton g.S.Shelf s j (with_shelf j left)
                (kept_same g.M.Automaton g.S.Shelf s j w.self-is)
                (kept_shelf g.M.Automaton g.S.Shelf j left n.sound);
            silent = ap (λ y. y.policy) w.self-is;
          }
    ]
