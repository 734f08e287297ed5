-- A document that is read has no fault.
use Rattle.std.proofs.Common.{◌≡◌, ℕ, List, [], Option, Some, None, unwrap_or, sym, ap, ◌∙◌, subst, inl, inr, arith}
use Rattle.serde_json.specs.Data.{Data}
use Rattle.serde_json.specs.Read.{read}
use Rattle.fx_base.specs.declared.fault.Fault.{Fault}
use Rattle.fx_base.specs.declared.fault.Place.{Place}
use Rattle.fx_base.specs.declared.fault.Place.TheVariants as places
use Rattle.fx_base.specs.Device.{MayHaveLeft}
use Rattle.fx_walk.specs.Walk.{FoundFault}
use Rattle.fx_tables.specs.Classes.{Class}
use Rattle.fx_topology.specs.declared.network.NetworkDocument.{NetworkDocument}
use Rattle.fx_topology.specs.Networks.{device_names, network_faults, network_of}
use Rattle.fx_plan.specs.Plans.{RefusesNetwork}
use Rattle.fx_traffic.specs.Classes.{traffic_faults, traffic_of}
use Rattle.fx_checker.specs.Documents.{IfDocumentsRefused, IfNetworkRefused, IsDocument, IsFirstFault, IsNetworkDocument, IsPlannable, IsRefusedByDocuments, IsRefusedNetwork, IsTraffic, by_walk, by_plan, is_found}

none_found : (number : ℕ) (place : Place) → is_found number place [] → ⊥
none_found number places.None h = h
none_found number (places.Text s) h = cc
none_found number (places.Line l) h = h
none_found number (places.Octet o) h = h

same_value : (o : Option Data) (d e : Data) → o ≡ Some d → o ≡ Some e → d ≡ e
same_value o d e p q = ap (λ (v : Option Data). unwrap_or v d) (sym p ∙ q)

faultless : {X : Type 0} (faults : Data → List FoundFault) (meaning : Data → X) (octets : List ℕ) (x : X) (e : Fault)
    → IsDocument faults meaning octets x → IsFirstFault faults octets e → ⊥
faultless faults meaning octets x e d (inl h) = h.1 d.value d.json
faultless faults meaning octets x e d (inr h) =
    let same = same_value (read octets) h.0 d.value h.1.1 d.json.1 in
    none_found e.number e.place (subst (λ (fs : List FoundFault). is_found e.number e.place fs)
    (ap faults same ∙ d.faultless) h.2)

-- what the octets mean
same_network : (octets : List ℕ) (x y : NetworkDocument) → IsDocument (network_faults []) network_of octets x
    → IsDocument (network_faults []) network_of octets y → y ≡ x
same_network octets x y p q = q.means ∙ ap network_of (same_value (read octets) q.value p.value q.json.1 p.json.1)
    ∙ sym p.means

unrefused : (network : NetworkDocument) (e : Fault) → IsPlannable network → RefusesNetwork network e → ⊥
unrefused network e p (inl h) = let few = p.0 in let many = h.1 in absurd (omega (arith, few, many))
unrefused network e p (inr h) = p.1 h.1.one.0 h.1.one.2

not_refused : (octets : List ℕ) (network : NetworkDocument) (e : Fault) → IsNetworkDocument octets network
    → IsRefusedNetwork octets e → ⊥
not_refused octets network e n (by_walk h) = faultless (network_faults []) network_of octets network e n.document h
not_refused octets network e n (by_plan other document refuses) =
    unrefused network e n.plannable (subst (λ (x : NetworkDocument). RefusesNetwork x e)
    (same_network octets network other n.document document) refuses)

-- so what holds of a network that is refused holds where the network was read
pub network_faultless : (left : Option (List ℕ)) (network : NetworkDocument) (A : Type 0)
    → MayHaveLeft left (λ n. IsNetworkDocument n network) → IfNetworkRefused left A
network_faultless None network A h = tt
network_faultless (Some octets) network A h =
    λ e f. absurd (not_refused octets network e (subst (λ (n : List ℕ). IsNetworkDocument n network) h.1 h.2) f)

-- two documents that are read have no fault either
not_refused_by : (n t : List ℕ) (network : NetworkDocument) (classes : List Class) (e : Fault)
    → IsNetworkDocument n network → IsTraffic network t classes → IsRefusedByDocuments n t e → ⊥
not_refused_by n t network classes e is of (inl h) = not_refused n network e is h
not_refused_by n t network classes e is of (inr h) =
    let same = same_network n network h.0 is.document h.1.document in
    faultless (traffic_faults (device_names network) []) (traffic_of (device_names network)) t classes e of
    (subst (λ (x : NetworkDocument). IsFirstFault (traffic_faults (device_names x) []) t e) same h.2)

pub documents_faultless : (left_n left_t : Option (List ℕ)) (network : NetworkDocument) (classes : List Class)
    (A : Type 0) → MayHaveLeft left_n (λ n. IsNetworkDocument n network)
    → MayHaveLeft left_t (λ t. IsTraffic network t classes) → IfDocumentsRefused left_n left_t A
documents_faultless None left_t network classes A n t = tt
documents_faultless (Some x) None network classes A n t = tt
documents_faultless (Some x) (Some y) network classes A n t = λ e f.
    absurd (not_refused_by x y network classes e (subst (λ (o : List ℕ). IsNetworkDocument o network) n.1 n.2)
    (subst (λ (o : List ℕ). IsTraffic network o classes) t.1 t.2) f)
