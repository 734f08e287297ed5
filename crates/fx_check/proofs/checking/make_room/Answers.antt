use Rattle.std.proofs.Common.{◌≡◌, ◌≤◌, ◌∙◌, ℕ, Some, arith, inl, inr, length, slice_get, subst}
use Rattle.std.proofs.lemmas.Bool.{cases_lt}
use Rattle.std.proofs.lemmas.Option.{get_or_from_slice_get, slice_get_within}
use Rattle.fx_leaf.specs.PathSelections.{path_selections}
use Rattle.fx_traffic.specs.Targets.{Target}
use Rattle.fx_check.proofs.checking.make_room.Goals as goal

pub loop-index-preserved : goal.loop-index-preserved
loop-index-preserved c = (
  c.in_ok-reserve.ensures.room,
  λ k target less got. elim (cases_lt k c.loop-index.index) [
    | inl before ↦ let fits = c.loop-index.invariant.1 k target before got in let more = c.in_ok-reserve.ensures.more in
        omega (arith, fits, more)
    | inr from ↦
        let at : k ≡ c.loop-index.index = omega (arith, from, less) in
        let x = c.index-targets-index.result in
        let there : slice_get c.args.targets.now c.loop-index.index ≡ Some target =
        subst (λ (n : ℕ). slice_get c.args.targets.now n ≡ Some target) at got in
        let same : x ≡ target = c.index-targets-index.is
        ∙ get_or_from_slice_get c.args.targets.now c.loop-index.index target x there in
        subst (λ (t : Target). length (path_selections c.args.tables.now.net 1 t.crossings) ≤ c.reserve.new.self.room)
        (c.target.view_is ∙ same) c.in_ok-reserve.ensures.path
  ],
)

pub returns : goal.returns
returns c =
    let past = c.loop-index-test.false in
    record {
      rooms = λ k target got. c.loop-index.invariant.1 k target
          (let within = slice_get_within c.args.targets.now k target got in omega (arith, within, past)) got;
      room = c.loop-index.invariant.0;
      err = tt;
    }
