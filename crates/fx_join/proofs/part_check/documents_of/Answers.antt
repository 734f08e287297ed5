use Rattle.std.proofs.Common.{Some, ap, refl, ◌∙◌}
use Rattle.fx_checker.specs.Documents.{IsNetworkDocument, IsTraffic}
use Rattle.fx_join.specs.PartTexts.{PartText}
use Rattle.fx_join.proofs.PartFaults.{documents_fault, known_done}
use Rattle.fx_join.proofs.part_check.documents_of.Goals as goal

pub returns-clause-network : goal.returns-clause-network
returns-clause-network c =
    known_done _ c.args.part.now.network (λ o documents. IsNetworkDocument o documents.plan) c.read_documents.result
    (ap Some (c.new-network.ensures.octets ∙ c.as_slice.ensures.value
    ∙ ap (λ (p : PartText). p.network) c.part.view_is)) c.read_documents.ensures.network

pub returns-clause-traffic : goal.returns-clause-traffic
returns-clause-traffic c =
    known_done _ c.args.part.now.traffic (λ o documents. IsTraffic documents.plan o documents.traffic)
    c.read_documents.result (ap Some (c.new-traffic.ensures.octets ∙ c.as_slice-2.ensures.value
    ∙ ap (λ (p : PartText). p.traffic) c.part.view_is))
    c.read_documents.ensures.traffic

pub returns-clause-err : goal.returns-clause-err
returns-clause-err c =
    documents_fault c.args.part.now _ _ _ _ _ _ _ _ c.read_documents.result
    (ap Some (c.new-network.ensures.octets ∙ c.as_slice.ensures.value
    ∙ ap (λ (p : PartText). p.network) c.part.view_is))
    (ap Some (c.new-traffic.ensures.octets ∙ c.as_slice-2.ensures.value
    ∙ ap (λ (p : PartText). p.traffic) c.part.view_is)) refl refl c.read_documents.ensures.err
