use Rattle.fx_tables.specs.Network.{Net, Point, points_of}
use Rattle.fx_base.specs.Entries.{entry_numbered}
use Rattle.std.specs.Prelude.{Contains}
use Rattle.std.proofs.Common.{◌≡◌, ◌∙◌, ap, subst, List}
use Rattle.fx_leaf.proofs.PathSplits.{err_more}
use Rattle.fx_leaf.proofs.path.PathReader.crossing.Goals as goal

pub points-requires-clause-along : goal.points-requires-clause-along
points-requires-clause-along c = λ p. λ at.
    let x = c.args.crossing.now in
    let points : c.points_of-points.result.now
    ≡ points_of (entry_numbered c.args.self.now.verdicts.tables.now.net.devices x.device) =
    c.points_of-points.ensures ∙ ap (λ (n : Net). points_of (entry_numbered n.devices x.device)) c.net.ensures in
    c.requires.along p (subst (λ (ps : List Point). Contains ps p) points at)

pub returns-clause-err : goal.returns-clause-err
returns-clause-err c =
    let x = c.args.crossing.now in
    let points : c.points_of-points.result.now
    ≡ points_of (entry_numbered c.args.self.now.verdicts.tables.now.net.devices x.device) =
    c.points_of-points.ensures ∙ ap (λ (n : Net). points_of (entry_numbered n.devices x.device)) c.net.ensures in
    err_more _ _ c.points.result (λ s. λ h. λ path. λ on. h path (λ p. λ s. λ at. λ watched. λ among. record {
      crossing = x;
      point = p;
      crosses = on;
      there = subst (λ (ps : List Point). Contains ps p) points at;
      watched = watched;
      among = among;
    })) c.points.ensures.err
