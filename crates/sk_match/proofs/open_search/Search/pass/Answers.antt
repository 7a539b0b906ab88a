use Rattle.std.proofs.Common.{rules, inl, inr, refl}
use Rattle.sk_match.specs.Searches.{KeepsStops, KeepsDecays}
use Rattle.sk_match.proofs.PassLemmas.{passed_by_seek, passed_by_close}
use Rattle.sk_match.proofs.open_search.Search.pass.Goals as goal

pub returns-then-id-eq4294967295-clause-passes : goal.returns-then-id-eq4294967295-clause-passes
returns-then-id-eq4294967295-clause-passes g c = record {
  over = passed_by_close c.args.index.now c.args.id c.args.self.now.need c.args.self.now.tree c.close.new.self c.if-id-eq4294967295.true c.requires.tree.documents (c.close.ensures.left c.args.index.now);
  built = c.close.ensures.built c.args.index.now;
  need = search rules;
  asked = inl (refl, c.if-id-eq4294967295.true, c.close.ensures.left c.args.index.now);
  stops = λ point most stops may. c.close.ensures.stops c.args.index.now point most stops;
  rare = c.close.ensures.rare c.args.index.now;
  decays = λ point greatest most decays may. c.close.ensures.decays c.args.index.now point greatest most decays;
  page = refl;
  bounds = refl;
}

pub returns-clause-passes : goal.returns-clause-passes
returns-clause-passes g c = record {
  over = passed_by_seek c.args.index.now c.args.id c.max-need.result c.args.self.now.tree c.seek.new.self c.seek.ensures.covers;
  built = c.seek.ensures.built;
  need = search rules;
  asked = inr (search rules);
  stops = on_stops;
  rare = c.seek.ensures.accounts.rare;
  decays = on_decays;
  page = refl;
  bounds = refl;
}
  where
    on_stops : KeepsStops c.args.index.now c.args.id c.max-need.result c.args.self.now.tree c.seek.new.self
    on_stops point most stops (inl last) = absurd (c.if-id-eq4294967295.false last)
    on_stops point most stops (inr may) = c.seek.ensures.accounts.stops point most stops may

    on_decays : KeepsDecays c.args.index.now c.args.id c.max-need.result c.args.self.now.tree c.seek.new.self
    on_decays point greatest most decays (inl last) = absurd (c.if-id-eq4294967295.false last)
    on_decays point greatest most decays (inr may) = c.seek.ensures.accounts.decays point greatest most decays may
