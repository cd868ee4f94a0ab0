use Rattle.std.proofs.Common.{◌≡◌, sym, ap, ◌∙◌, rules, tests}
use Rattle.std.specs.Option.{option_map}
use Rattle.std.specs.List.{slice_get}
use Rattle.std.proofs.lemmas.Iterator.{YieldsList-from_slice}
use Rattle.std.proofs.lemmas.Iterator.Consumers.{nth_from_yields_List, YieldsList-from_filter, YieldsList-at}
use Rattle.reader.proofs.Counts.{is_atom, atoms_in, surplus_nth}
use Rattle.reader.proofs.surplus.surplus_atom.Goals as goal

pub returns : goal.returns
returns c =
    let xs = c.args.items.now in
    let found : option_map (λ x. x.now) c.nth.result ≡ slice_get (atoms_in xs) 63 =
    nth_from_yields_List c.nth.result _ 63 c.nth.ensures.ran
    (YieldsList-from_filter _ (λ x. is_atom x.item) (YieldsList-at c.filter.ensures.source (YieldsList-from_slice xs cc)) c.filter.ensures.closure (λ x b q k. search (rules, tests))) in
    let place : c.map.result ≡ option_map (λ x. x.place) (option_map (λ x. x.now) c.nth.result) = search (rules, tests) in
    place ∙ ap (option_map (λ x. x.place)) found ∙ sym (surplus_nth 63 xs)
