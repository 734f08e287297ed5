use Rattle.std.proofs.Common.{◌≡◌, ◌+◌, ◌++◌, ◌∷◌, ◌∙◌, [], List, ap, drop, map, refl, subst, sym}
use Rattle.fx_traffic.specs.Targets.{Target}
use Rattle.fx_leaf.proofs.JoinedVerdicts.{drop_none}
use Rattle.fx_search.specs.declared.growing.Waiting.{Waiting}
use Rattle.fx_search.specs.Fronts.{root}
use Rattle.fx_search.specs.Growing.{AreAhead, IsGrowing, IsGrown}
use Rattle.fx_search.proofs.RegionsAhead.{first_ahead, none_of, opened, some_grown}
use Rattle.fx_search.proofs.searching.grow_all.Goals as goal

pub grow-requires-clause-ahead : goal.grow-requires-clause-ahead
grow-requires-clause-ahead g c =
    let t = c.index-targets-index.result in
    let w : Waiting = record { ahead = root t; active = c.begin-active.result } in
    let one : c.open.new.self.ahead.items ≡ w ∷ [] = c.in_ok-open.ensures.ahead
    ∙ ap (λ (ws : List Waiting). ws ++ w ∷ []) c.targets.invariant.empty in
    subst (AreAhead c.begin-active.new.self.selections t) (sym one)
    (first_ahead c.begin-active.new.self.selections t w refl (c.begin-active.ensures.all t.region))

pub returns-then-is_some-clause-grown : goal.returns-then-is_some-clause-grown
returns-then-is_some-clause-grown g c all version grew =
    let t = c.index-targets-index.result in
    let w : Waiting = record { ahead = root t; active = c.begin-active.result } in
    let one : c.open.new.self.ahead.items ≡ w ∷ [] = c.in_ok-open.ensures.ahead
    ∙ ap (λ (ws : List Waiting). ws ++ w ∷ []) c.targets.invariant.empty in
    let same : c.open.new.self.items.items ≡ c.targets.growth.items.items = let e = c.in_ok-open.ensures.items in cc in
    let begun = opened c.args.tables.now.net all version c.args.most c.targets.growth.items.items
    c.open.new.self.items.items c.targets.growth.lines c.open.new.self.lines c.args.targets.now c.targets.index t
    c.open.new.self.ahead.items c.begin-active.result c.targets-test.true c.index-targets-index.is one same
    c.in_ok-open.ensures.lines (c.targets.invariant.growing all version grew) in
    let later = map root (drop (c.targets.index + 1) c.args.targets.now) in
    some_grown c.args.tables.now.net all version c.args.most c.grow.new.growth.items.items c.grow.new.growth.lines later
    c.in_ok-stop.stop (sym c.is_some.ensures ∙ c.if-is_some.true)
    (c.in_ok-stop.ensures.grown all version later begun)

pub targets-preserved : goal.targets-preserved
targets-preserved g c =
    let none = none_of c.in_ok-stop.stop (sym c.is_some.ensures ∙ c.if-is_some.false) in
    let done = c.in_ok-stop.ensures.none none in
    record {
      room = c.in_ok-stop.ensures.room;
      empty = done.0;
      few = done.1;
      growing = λ all version grew.
          let t = c.index-targets-index.result in
          let w : Waiting = record { ahead = root t; active = c.begin-active.result } in
          let one : c.open.new.self.ahead.items ≡ w ∷ [] = c.in_ok-open.ensures.ahead
          ∙ ap (λ (ws : List Waiting). ws ++ w ∷ []) c.targets.invariant.empty in
          let same : c.open.new.self.items.items ≡ c.targets.growth.items.items = let e = c.in_ok-open.ensures.items in
          cc in
          let begun = opened c.args.tables.now.net all version c.args.most c.targets.growth.items.items
          c.open.new.self.items.items c.targets.growth.lines c.open.new.self.lines c.args.targets.now
          c.targets.index t c.open.new.self.ahead.items c.begin-active.result c.targets-test.true
          c.index-targets-index.is one same c.in_ok-open.ensures.lines
          (c.targets.invariant.growing all version grew) in
          let later = map root (drop (c.targets.index + 1) c.args.targets.now) in
          subst (IsGrown c.args.tables.now.net all version c.args.most c.grow.new.growth.items.items
          c.grow.new.growth.lines later) none (c.in_ok-stop.ensures.grown all version later begun);
    }

pub returns-clause-grown : goal.returns-clause-grown
returns-clause-grown g c all version grew =
    let past = c.targets-test.false in
    subst (λ (ts : List Target). IsGrowing c.args.tables.now.net all version c.args.most c.targets.growth.items.items
    c.targets.growth.lines (map root ts)) (drop_none c.args.targets.now c.targets.index past)
    (c.targets.invariant.growing all version grew)
