use Rattle.std.proofs.Common.{◌≡◌, ℕ, ◌-◌, ◌++◌, append-nil, take, [], ◌∷◌, List, subst, ap, sym, ◌∙◌}
use Rattle.fx_traffic.specs.Targets.{Target}
use Rattle.fx_leaf.specs.PathTables.{IsPathBegun}
use Rattle.fx_search.specs.declared.growing.Waiting.{Waiting}
use Rattle.fx_search.specs.Growing.{AreAhead, IsGrowing, IsTaken, front}
use Rattle.fx_search.proofs.RegionsAhead.{last_ahead, last_target, next_of}
use Rattle.fx_search.proofs.searching.grow.Goals as goal

pub take-requires-clause-begun : goal.take-requires-clause-begun
take-requires-clause-begun g c =
    let there = subst (AreAhead c.regions.scratch.selections c.args.target.now) c.in-Some.ensures.items
    c.regions.invariant.ahead in
    let same = last_target c.regions.scratch.selections c.args.target.now c.pop.new.self.items c.in-Some.next there in
    subst (λ (t : Target). IsPathBegun c.args.tables.now t.crossings c.regions.scratch) (sym same)
    c.regions.invariant.begun

pub take-requires-clause-narrowed : goal.take-requires-clause-narrowed
take-requires-clause-narrowed g c =
    let there = subst (AreAhead c.regions.scratch.selections c.args.target.now) c.in-Some.ensures.items
    c.regions.invariant.ahead in
    last_ahead c.regions.scratch.selections c.args.target.now c.pop.new.self.items c.in-Some.next there

pub returns-in_default-clause-grown : goal.returns-in_default-clause-grown
returns-in_default-clause-grown g c targets version later growing =
    let stack = c.regions.growth.ahead.items in
    let nothing : stack ≡ [] = c.in_default.ensures.items ∙ append-nil c.pop.new.self.items ∙ c.in_default.ensures.rest
    ∙ ap (λ (n : ℕ). take (n - 1) stack) c.in_default.ensures.cases.0 in
    subst (λ (ws : List Waiting). IsGrowing c.args.tables.now.net targets version c.args.most
    c.regions.growth.items.items c.regions.growth.lines (front ws ++ later)) nothing
    (c.regions.invariant.growing targets version later growing)

pub returns-in_default-clause-none : goal.returns-in_default-clause-none
returns-in_default-clause-none g c = λ none. (
  c.in_default.ensures.rest ∙ ap (λ (n : ℕ). take (n - 1) c.regions.growth.ahead.items) c.in_default.ensures.cases.0,
  c.regions.invariant.few,
)

pub returns-in-Some-2-clause-grown : goal.returns-in-Some-2-clause-grown
returns-in-Some-2-clause-grown g c targets version later growing =
    let here = subst (IsGrowing c.args.tables.now.net targets version c.args.most c.regions.growth.items.items
    c.regions.growth.lines) (next_of c.regions.growth.ahead.items c.pop.new.self.items c.in-Some.next later
    c.in-Some.ensures.items) (c.regions.invariant.growing targets version later growing) in
    subst (IsTaken c.args.tables.now.net targets version c.args.most c.take.new.growth.items.items
    c.take.new.growth.lines (front c.take.new.growth.ahead.items ++ later) c.in-Some.next.ahead) c.in-Some-2.is
    (c.in_ok-why.ensures.on targets version later here)

pub regions-preserved : goal.regions-preserved
regions-preserved g c =
    let lines = c.in_ok-why.ensures.lines c.in_default-2.is in
    let next = c.in-Some.next in
    let rest = c.pop.new.self.items in
    let there = subst (AreAhead c.regions.scratch.selections c.args.target.now) c.in-Some.ensures.items
    c.regions.invariant.ahead in
    let same = last_target c.regions.scratch.selections c.args.target.now rest next there in
    let before = subst (λ (t : Target). AreAhead c.regions.scratch.selections t (rest ++ next ∷ [])) (sym same) there in
    record {
      room = c.in_ok-why.ensures.room;
      begun = subst (λ (t : Target). IsPathBegun c.args.tables.now t.crossings c.take.new.scratch) same
          c.in_ok-why.ensures.begun;
      ahead = subst (λ (t : Target). AreAhead c.take.new.scratch.selections t c.take.new.growth.ahead.items) same
          (c.in_ok-why.ensures.narrowed c.in_default-2.is before);
      few = lines.1;
      growing = λ targets version later grew.
          let here = subst (IsGrowing c.args.tables.now.net targets version c.args.most c.regions.growth.items.items
          c.regions.growth.lines) (next_of c.regions.growth.ahead.items rest next later c.in-Some.ensures.items)
          (c.regions.invariant.growing targets version later grew) in
          subst (IsTaken c.args.tables.now.net targets version c.args.most c.take.new.growth.items.items
          c.take.new.growth.lines (front c.take.new.growth.ahead.items ++ later) next.ahead) c.in_default-2.is
          (c.in_ok-why.ensures.on targets version later here);
    }
