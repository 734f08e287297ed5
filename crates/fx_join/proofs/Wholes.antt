-- What the documents of a whole come to.
use Rattle.std.proofs.Common.{◌≡◌, ◌⊎◌, ℕ, List, [], Option, Some, None, unwrap_or, Result, Ok, Err, IfOk, IfErr, refl, sym, ap, ◌∙◌, subst, inl, inr}
use Rattle.serde_json.specs.Data.{Data}
use Rattle.serde_json.specs.Read.{read}
use Rattle.fx_base.specs.declared.fault.Fault.{Fault}
use Rattle.fx_base.specs.declared.fault.Place.{Place}
use Rattle.fx_base.specs.declared.fault.Place.TheVariants as places
use Rattle.fx_base.specs.Device.{MayBeLeft, MayHaveLeft}
use Rattle.fx_base.specs.Fault.{fault_at, IsMemory}
use Rattle.fx_walk.specs.Walk.{FoundFault, Reads, refuses}
use Rattle.fx_tables.specs.Classes.{Class}
use Rattle.fx_tables.specs.Ranks.{IsNetwork}
use Rattle.fx_topology.specs.declared.network.NetworkDocument.{NetworkDocument}
use Rattle.fx_topology.specs.Networks.{device_names, network_of}
use Rattle.fx_plan.specs.Tables.{net_of}
use Rattle.fx_traffic.specs.Classes.{traffic_of}
use Rattle.fx_checker.specs.Documents.{BothMayHaveLeft, IsDocument, IsFirstFault, IsJson, is_found}
use Rattle.fx_checker.proofs.Documents.{both_reported, first_reported}
use Rattle.fx_join.specs.Wholes.{IfBothFaulty, IfWholeFaulty, IsRefusedByWhole, IsRefusedWhole, IsWholeNetwork, IsWholeTraffic, by_cycle, by_walk, whole_faults, whole_traffic_faults}

-- ---- a text

found_or_memory : (n : ℕ) (p : Place) (fs : List FoundFault) → refuses n p fs → IsMemory (fault_at n p)
    ⊎ is_found n p fs
found_or_memory n places.None fs h = inl (ap (λ (k : ℕ). fault_at k places.None) h)
found_or_memory n (places.Text s) fs h = inr h
found_or_memory n (places.Line l) fs h = absurd h
found_or_memory n (places.Octet o) fs h = absurd h

-- octets that are no JSON text
pub no_json : (faults : Data → List FoundFault) (octets : List ℕ) (e : Fault) → IsMemory e
    ⊎ ((e ≡ fault_at 101 places.None) × ((d : Data) → IsJson octets d → ⊥)) → IsMemory e ⊎ IsFirstFault faults octets e
no_json faults octets e (inl m) = inl m
no_json faults octets e (inr n) = inr (inl n)

-- the value of a JSON text, read by a walk
pub document_read : {X : Type 0} (faults : Data → List FoundFault) (meaning : Data → X) (octets : List ℕ) (d : Data)
    → IsJson octets d → (r : Result X Fault) → Reads (faults d) (meaning d) r
    → IfOk r (IsDocument faults meaning octets)
document_read faults meaning octets d json (Ok x) h =
    record { value = d; json = json; faultless = h.0; means = h.1 }
document_read faults meaning octets d json (Err e) h = tt

pub document_refused : {X : Type 0} (faults : Data → List FoundFault) (meaning : Data → X) (octets : List ℕ) (d : Data)
    → IsJson octets d → (r : Result X Fault) → Reads (faults d) (meaning d) r
    → IfErr r (λ e. IsMemory e ⊎ IsFirstFault faults octets e)
document_refused faults meaning octets d json (Ok x) h = tt
document_refused faults meaning octets d json (Err e) h =
    elim (found_or_memory e.number e.place (faults d) h) [
      | inl m ↦ inl m
      | inr f ↦ inr (inr (d, json, f))
    ]

-- ---- a network

pub network_read : (octets : List ℕ) (network : NetworkDocument) (r : Result NetworkDocument Fault)
    → IsDocument whole_faults network_of octets network
    → IfOk r (λ w. (w ≡ network) × IsNetwork (net_of network)) → IfOk r (IsWholeNetwork octets)
network_read octets network (Ok w) document h =
    subst (IsWholeNetwork octets) (sym h.0) (record { document = document; ranked = h.1 })
network_read octets network (Err e) document h = tt

pub network_cyclic : (octets : List ℕ) (network : NetworkDocument) (r : Result NetworkDocument Fault)
    → IsDocument whole_faults network_of octets network
    → IfErr r (λ e. IsMemory e ⊎ (e ≡ fault_at 204 places.None))
    → IfErr r (λ e. IsMemory e ⊎ IsRefusedWhole octets e)
network_cyclic octets network (Ok w) document h = tt
network_cyclic octets network (Err e) document (inl m) = inl m
network_cyclic octets network (Err e) document (inr c) = inr (by_cycle network document c)

pub network_faulty : (octets : List ℕ) (e : Fault) → IsMemory e ⊎ IsFirstFault whole_faults octets e
    → IsMemory e ⊎ IsRefusedWhole octets e
network_faulty octets e (inl m) = inl m
network_faulty octets e (inr f) = inr (by_walk f)

-- ---- a source

-- what holds of the octets that were read holds of those that were left
pub read_done : {X : Type 0} (left : Option (List ℕ)) (octets text : List ℕ) (P : List ℕ → X → Type 0)
    (r : Result X Fault) → MayBeLeft left octets → text ≡ octets → IfOk r (P text)
    → IfOk r (λ x. MayHaveLeft left (λ o. P o x))
read_done left octets text P (Ok x) there is h = (octets, there, subst (λ (o : List ℕ). P o x) is h)
read_done left octets text P (Err e) there is h = tt

pub read_refused : {X : Type 0} (left : Option (List ℕ)) (octets text : List ℕ) (P : List ℕ → Fault → Type 0)
    (Q : Fault → Type 0) (r : Result X Fault) → MayBeLeft left octets → text ≡ octets
    → IfErr r (λ e. IsMemory e ⊎ P text e)
    → IfErr r (λ e. IsMemory e ⊎ (Q e ⊎ MayHaveLeft left (λ o. P o e)))
read_refused left octets text P Q (Ok x) there is h = tt
read_refused left octets text P Q (Err e) there is (inl m) = inl m
read_refused left octets text P Q (Err e) there is (inr p) =
    inr (inr (octets, there, subst (λ (o : List ℕ). P o e) is p))

-- ---- both documents

pub first_refused : (left_n left_t : Option (List ℕ)) (e : Fault) (M N T : Type 0) → M
    ⊎ (N ⊎ MayHaveLeft left_n (λ n. IsRefusedWhole n e)) → M
    ⊎ (N ⊎ (T ⊎ BothMayHaveLeft left_n left_t (λ n t. IsRefusedByWhole n t e)))
first_refused left_n left_t e M N T (inl m) = inl m
first_refused left_n left_t e M N T (inr (inl n)) = inr (inl n)
first_refused left_n left_t e M N T (inr (inr f)) =
    inr (inr (inr (first_reported left_n left_t (λ n. IsRefusedWhole n e) (λ n t. IsRefusedByWhole n t e)
    (λ n t p. inl p) f)))

pub traffic_refused : (left_n left_t : Option (List ℕ)) (network : NetworkDocument) (e : Fault) (M N T : Type 0)
    → MayHaveLeft left_n (λ n. IsWholeNetwork n network) → M
    ⊎ (T ⊎ MayHaveLeft left_t (λ t. IsFirstFault (whole_traffic_faults network) t e)) → M
    ⊎ (N ⊎ (T ⊎ BothMayHaveLeft left_n left_t (λ n t. IsRefusedByWhole n t e)))
traffic_refused left_n left_t network e M N T is (inl m) = inl m
traffic_refused left_n left_t network e M N T is (inr (inl t)) = inr (inr (inl t))
traffic_refused left_n left_t network e M N T is (inr (inr f)) =
    inr (inr (inr (both_reported left_n left_t (λ n. IsWholeNetwork n network)
    (λ t. IsFirstFault (whole_traffic_faults network) t e) (λ n t. IsRefusedByWhole n t e) is f
    (λ n t p q. inr (network, p, q)))))

-- ---- a document that is read has no fault

none_found : (number : ℕ) (place : Place) → is_found number place [] → ⊥
none_found number places.None h = h
none_found number (places.Text s) h = cc
none_found number (places.Line l) h = h
none_found number (places.Octet o) h = h

same_value : (o : Option Data) (d e : Data) → o ≡ Some d → o ≡ Some e → d ≡ e
same_value o d e p q = ap (λ (v : Option Data). unwrap_or v d) (sym p ∙ q)

faultless : {X : Type 0} (faults : Data → List FoundFault) (meaning : Data → X) (octets : List ℕ) (x : X) (e : Fault)
    → IsDocument faults meaning octets x → IsFirstFault faults octets e → ⊥
faultless faults meaning octets x e d (inl h) = h.1 d.value d.json
faultless faults meaning octets x e d (inr h) =
    let same = same_value (read octets) h.0 d.value h.1.1 d.json.1 in
    none_found e.number e.place (subst (λ (fs : List FoundFault). is_found e.number e.place fs)
    (ap faults same ∙ d.faultless) h.2)

same_network : (octets : List ℕ) (x y : NetworkDocument) → IsWholeNetwork octets x → IsWholeNetwork octets y → y ≡ x
same_network octets x y p q =
    q.document.means
    ∙ ap network_of (same_value (read octets) q.document.value p.document.value q.document.json.1 p.document.json.1)
    ∙ sym p.document.means

pub network_faultless : (left : Option (List ℕ)) (network : NetworkDocument) (A : Type 0)
    → MayHaveLeft left (λ n. IsWholeNetwork n network) → IfWholeFaulty left A
network_faultless None network A h = tt
network_faultless (Some octets) network A h =
    λ e f. absurd (faultless whole_faults network_of octets network e
    (subst (λ (n : List ℕ). IsWholeNetwork n network) h.1 h.2).document f)

both_faultless : (n t : List ℕ) (network : NetworkDocument) (classes : List Class) (e : Fault)
    → IsWholeNetwork n network → IsWholeTraffic network t classes
    → IsFirstFault whole_faults n e ⊎ ((other : NetworkDocument) × IsWholeNetwork n other
    × IsFirstFault (whole_traffic_faults other) t e) → ⊥
both_faultless n t network classes e is of (inl h) = faultless whole_faults network_of n network e is.document h
both_faultless n t network classes e is of (inr (other, also, h)) =
    faultless (whole_traffic_faults network) (traffic_of (device_names network)) t classes e of
    (subst (λ (x : NetworkDocument). IsFirstFault (whole_traffic_faults x) t e)
    (same_network n network other is also) h)

pub documents_faultless : (left_n left_t : Option (List ℕ)) (network : NetworkDocument) (classes : List Class)
    (A : Type 0) → MayHaveLeft left_n (λ n. IsWholeNetwork n network)
    → MayHaveLeft left_t (λ t. IsWholeTraffic network t classes) → IfBothFaulty left_n left_t A
documents_faultless None left_t network classes A n t = tt
documents_faultless (Some x) None network classes A n t = tt
documents_faultless (Some x) (Some y) network classes A n t = λ e f.
    absurd (both_faultless x y network classes e (subst (λ (o : List ℕ). IsWholeNetwork o network) n.1 n.2)
    (subst (λ (o : List ℕ). IsWholeTraffic network o classes) t.1 t.2) f)
