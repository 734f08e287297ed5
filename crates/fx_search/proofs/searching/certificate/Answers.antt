use Rattle.std.proofs.Common.{[], ◌∷◌}
use Rattle.fx_cert.specs.declared.item.Item.TheVariants as item
use Rattle.fx_search.proofs.GrowingCertificate.{certifies, found}
use Rattle.fx_search.proofs.RegionsTaken.{written_more}
use Rattle.fx_search.proofs.ShortLines.{end_writable}
use Rattle.fx_search.proofs.searching.certificate.Goals as goal

pub returns-clause-right : goal.returns-clause-right
returns-clause-right c net classes limit g =
    let f = found net classes limit c.args.growth.items.items c.args.growth.lines g.few g.begun in
    let written = written_more c.args.growth.items.items (item.End ∷ []) g.written (end_writable, tt) in
    rw c.in_ok-push.ensures.items (f, certifies net classes limit _ f written)

pub returns-clause-settles : goal.returns-clause-settles
returns-clause-settles c net classes limit is_net g =
    let f = found net classes limit c.args.growth.items.items c.args.growth.lines g.few g.begun in
    let written = written_more c.args.growth.items.items (item.End ∷ []) g.written (end_writable, tt) in
    let is = certifies net classes limit _ f written in (
      c.certificates_count_once.ensures.once net classes _ is_net is,
      c.certificates_count_once.ensures.modulo net
          classes _ is_net is,
    )
