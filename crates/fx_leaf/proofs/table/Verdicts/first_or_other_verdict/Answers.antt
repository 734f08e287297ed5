use Rattle.std.proofs.Common.{◌≡◌, ◌∙◌, ap, ℕ, Option, None, get_or, ◌+◌, map, drop, ◌∷◌}
use Rattle.fx_leaf.specs.Tables.{entry}
use Rattle.fx_leaf.specs.Verdicts.{Verdict, destination_verdict, verdict_of_either, verdict_of_one}
use Rattle.fx_leaf.proofs.JoinedVerdicts.{one_more}
use Rattle.fx_leaf.proofs.table.Verdicts.first_or_other_verdict.Goals as goal

pub loop-other-preserved : goal.loop-other-preserved
loop-other-preserved c =
    let f = destination_verdict (entry c.args.self.now.rows.now) c.args.self.now.tables.now.net c.args.layout in
    let others = c.args.others.now in
    let k = c.loop-other.other-index in
    let d : Option ℕ = None in
    let joined : c.verdict_of_either-joined.result ≡ verdict_of_either c.loop-other.joined (f (get_or others k d)) =
    c.verdict_of_either-joined.ensures ∙ ap (verdict_of_either c.loop-other.joined) c.destination_verdict.ensures in
    ap (λ (v : Verdict). verdict_of_one (v ∷ map f (drop (k + 1) others))) joined
    ∙ one_more f (f c.args.first) c.loop-other.joined others k d c.loop-other-test.true c.loop-other.invariant
