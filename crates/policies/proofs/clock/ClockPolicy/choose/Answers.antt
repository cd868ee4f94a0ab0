use Rattle.std.proofs.Common.{◌≡◌, ℕ, ◌<◌, true, Some, None, Option, sym, refl, ap, ◌∙◌, subst}
use Rattle.sets.specs.Members.{Members}
use Rattle.sets.specs.Places.{member}
use Rattle.sets.specs.Places.{PlaceSet}
use Rattle.sets.proofs.Known.{members_low}
use Rattle.memory.specs.Live.{May}
use Rattle.policies.specs.Round.{others, way, round, only, hand_after}
use Rattle.policies.specs.Chosen.{Chosen, Choice}
use Rattle.policies.proofs.Law.{round_chosen, choice_within, choice_some, others_low}
use Rattle.policies.proofs.clock.ClockPolicy.choose.Goals as goal

-- what the way's end says of the choice, whichever it is
record Told (live marks : Members) (held : Option ℕ) (hand : ℕ) (set left : Members) (moved : ℕ) : Type 0 where
  pub within : (k : ℕ) → set k ≡ true → May live held k
  pub some : (k : ℕ) → May live held k → (j : ℕ) × (set j ≡ true)
  pub choice : Choice (others live held) marks hand set left moved
  pub answer : set ≡ only (round (others live held) marks hand).found
  pub marks_left : left ≡ (round (others live held) marks hand).marks
  pub hand_moved : moved ≡ hand_after (round (others live held) marks hand).found hand

told : (live marks : PlaceSet) (held : Option ℕ) (hand : ℕ) (o : Option ℕ) (set left : Members) (moved : ℕ) → hand < 64 → way o left ≡ round (others (member live) held) (member marks) hand → set ≡ only o → moved ≡ hand_after o hand → Told (member live) (member marks) held hand set left moved
told live marks held hand o set left moved low w names behind =
    let f : o ≡ (round (others (member live) held) (member marks) hand).found = ap (λ x. x.found) w in
    let m : left ≡ (round (others (member live) held) (member marks) hand).marks = ap (λ x. x.marks) w in
    let l : Chosen (others (member live) held) (member marks) hand o left =
    subst (λ (x : Option ℕ). Chosen (others (member live) held) (member marks) hand x left) (sym f)
    (subst (λ (x : Members). Chosen (others (member live) held) (member marks) hand (round (others (member live) held) (member marks) hand).found x) (sym m)
    (round_chosen (others (member live) held) (member marks) hand (others_low (member live) held (members_low live)) low))
    in
    record {
      within = λ k h. choice_within (member live) (member marks) held hand k o left l (sym (ap (λ g. g k) names) ∙ h);
      some = λ k h. let j = choice_some (member live) (member marks) held hand k o left (members_low live) l h in (j.0, ap (λ g. g j.0) names ∙ j.1);
      choice = record { place = o; names = names; chosen = l; behind = behind };
      answer = names ∙ ap only f;
      marks_left = m;
      hand_moved = behind ∙ ap (λ x. hand_after x hand) f;
    }

pub returns-in-Some : goal.returns-in-Some
returns-in-Some c =
    let s = c.args.self.now in
    let t = told s.live s.marks c.args.held s.hand (Some c.in-Some.p) (member c.single.result) (member c.go_round-stop.result.marks) c.behind-self.result s.low
    (ap (λ o. way o (member c.go_round-stop.result.marks)) (sym c.in-Some.is) ∙ c.go_round-stop.ensures ∙ ap (λ f. round f (member s.marks) s.hand) c.without_held.ensures)
    c.single.ensures c.behind-self.ensures.is
    in
    record { same = refl; within = t.within; some = t.some; hears = (refl, t.choice); answer = t.answer; marks = t.marks_left; hand = t.hand_moved }

pub returns-in-None : goal.returns-in-None
returns-in-None c =
    let s = c.args.self.now in
    let t = told s.live s.marks c.args.held s.hand None (member c.empty.result) (member c.go_round-stop.result.marks) s.hand s.low
    (ap (λ o. way o (member c.go_round-stop.result.marks)) (sym c.in-None.is) ∙ c.go_round-stop.ensures ∙ ap (λ f. round f (member s.marks) s.hand) c.without_held.ensures)
    c.empty.ensures refl
    in
    record { same = refl; within = t.within; some = t.some; hears = (refl, t.choice); answer = t.answer; marks = t.marks_left; hand = t.hand_moved }
