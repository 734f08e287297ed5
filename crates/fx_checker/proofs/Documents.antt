-- What reading a document comes to.
use Rattle.std.proofs.Common.{◌≡◌, ◌⊎◌, ℕ, List, [], Option, Result, Ok, Err, refl, sym, ap, subst, inl, inr, IfOk, IfErr}
use Rattle.std.specs.Result.{IsErr, IsErrAnd}
use Rattle.serde_json.specs.Data.{Data}
use Rattle.fx_base.specs.declared.fault.Fault.{Fault}
use Rattle.fx_base.specs.declared.fault.Place.{Place}
use Rattle.fx_base.specs.declared.fault.Place.TheVariants as places
use Rattle.fx_base.specs.Device.{MayBeLeft, MayHaveLeft, Writes}
use Rattle.fx_base.specs.Fault.{fault_at}
use Rattle.fx_base.proofs.GoingOn.{something_left}
use Rattle.fx_walk.specs.Walk.{FoundFault, Reads, refuses}
use Rattle.fx_tables.specs.Classes.{Class}
use Rattle.fx_topology.specs.declared.network.NetworkDocument.{NetworkDocument}
use Rattle.fx_topology.specs.Networks.{device_names, network_faults, network_of}
use Rattle.fx_plan.specs.Plans.{ReadsPlan}
use Rattle.fx_traffic.specs.Classes.{traffic_faults}
use Rattle.fx_checker.specs.declared.answer.Answer.{Answer}
use Rattle.fx_checker.specs.declared.answer.Answer.TheVariants.{Yes}
use Rattle.fx_checker.specs.Documents.{BothMayHaveLeft, InDocuments, IsDocument, IsFirstFault, IsJson, IsNetworkDocument, IsRefusedByDocuments, IsRefusedIn, IsRefusedNetwork, IsTraffic, by_walk, by_plan, is_found}
use Rattle.fx_checker.specs.Outputs.{Prints}

-- what holds of the octets that were read holds of those that were left
pub reported : (left : Option (List ℕ)) (octets : List ℕ) (P : List ℕ → Type 0) → MayBeLeft left octets → P octets
    → MayHaveLeft left P
reported left octets P h p = (octets, h, p)

found_or_memory : (n : ℕ) (p : Place) (fs : List FoundFault) → refuses n p fs
    → (fault_at n p ≡ fault_at 900 places.None) ⊎ is_found n p fs
found_or_memory n places.None fs h = inl (ap (λ (k : ℕ). fault_at k places.None) h)
found_or_memory n (places.Text s) fs h = inr h
found_or_memory n (places.Line l) fs h = absurd h
found_or_memory n (places.Octet o) fs h = absurd h

-- a source whose octets are a document that is read, and one whose octets are refused, for the first fault or for
-- want of memory
pub source_read : {X : Type 0} (faults : Data → List FoundFault) (meaning : Data → X) (left : Option (List ℕ))
    (octets text : List ℕ) (d : Data) → MayBeLeft left octets → text ≡ octets → IsJson text d → (r : Result X Fault)
    → Reads (faults d) (meaning d) r → IfOk r (λ x. MayHaveLeft left (λ l. IsDocument faults meaning l x))
source_read faults meaning left octets text d same is json (Ok x) h =
    reported left octets (λ l. IsDocument faults meaning l x) same
    (record { value = d; json = subst (λ (o : List ℕ). IsJson o d) is json; faultless = h.0; means = h.1 })
source_read faults meaning left octets text d same is json (Err e) h = cc

refused_first : (faults : Data → List FoundFault) (left : Option (List ℕ)) (octets : List ℕ) (e : Fault)
    → MayBeLeft left octets → IsFirstFault faults octets e → MayHaveLeft left (λ l. IsFirstFault faults l e)
refused_first faults left octets e same f = reported left octets (λ l. IsFirstFault faults l e) same f

pub source_refused : {X : Type 0} (faults : Data → List FoundFault) (meaning : Data → X) (left : Option (List ℕ))
    (octets text : List ℕ) (d : Data) (Q : Fault → Type 0) → MayBeLeft left octets → text ≡ octets → IsJson text d
    → (r : Result X Fault) → Reads (faults d) (meaning d) r
    → IfErr r (λ e. (e ≡ fault_at 900 places.None) ⊎ (Q e ⊎ MayHaveLeft left (λ l. IsFirstFault faults l e)))
source_refused faults meaning left octets text d Q same is json (Ok x) h = cc
source_refused faults meaning left octets text d Q same is json (Err e) h =
    elim (found_or_memory e.number e.place (faults d) h) [
      | inl m ↦ inl m
      | inr f ↦ inr (inr (refused_first faults left octets e same
          (inr (d, subst (λ (o : List ℕ). IsJson o d) is json, f))))
    ]

-- the document of a network, which can be planned or is refused
pub network_read : (left : Option (List ℕ)) (octets text : List ℕ) (d : Data) → MayBeLeft left octets → text ≡ octets
    → IsJson text d → (r : Result NetworkDocument Fault) → ReadsPlan d r
    → IfOk r (λ x. MayHaveLeft left (λ l. IsNetworkDocument l x))
network_read left octets text d same is json (Ok x) h =
    reported left octets (λ l. IsNetworkDocument l x) same (record {
      document = record { value = d; json = subst (λ (o : List ℕ). IsJson o d) is json; faultless = h.0; means = h.1 };
      plannable = (h.2, h.3);
    })
network_read left octets text d same is json (Err e) h = cc

pub network_refused : (left : Option (List ℕ)) (octets text : List ℕ) (d : Data) (Q : Fault → Type 0)
    → MayBeLeft left octets → text ≡ octets → IsJson text d → (r : Result NetworkDocument Fault) → ReadsPlan d r
    → IfErr r (λ e. (e ≡ fault_at 900 places.None) ⊎ (Q e ⊎ MayHaveLeft left (λ l. IsRefusedNetwork l e)))
network_refused left octets text d Q same is json (Ok x) h = cc
network_refused left octets text d Q same is json (Err e) h =
    let own : IsJson octets d = subst (λ (o : List ℕ). IsJson o d) is json in
    elim h [
      | inl f ↦ elim (found_or_memory e.number e.place (network_faults [] d) f) [
        | inl m ↦ inl m
        | inr g ↦ inr (inr (reported left octets (λ l. IsRefusedNetwork l e) same (by_walk (inr (d, own, g)))))
      ]
      | inr n ↦ inr (inr (reported left octets (λ l. IsRefusedNetwork l e) same
          (by_plan (network_of d) (record { value = d; json = own; faultless = n.0; means = refl }) n.1)))
    ]

-- octets that are no JSON text
pub no_json : (faults : Data → List FoundFault) (left : Option (List ℕ)) (octets text : List ℕ) (e : Fault) (Q : Type 0)
    → MayBeLeft left octets → text ≡ octets → (e ≡ fault_at 900 places.None)
    ⊎ ((e ≡ fault_at 101 places.None) × ((d : Data) → IsJson text d → ⊥)) → (e ≡ fault_at 900 places.None)
    ⊎ (Q ⊎ MayHaveLeft left (λ l. IsFirstFault faults l e))
no_json faults left octets text e Q same is h =
    elim h [
      | inl m ↦ inl m
      | inr n ↦ inr (inr
          (refused_first faults left octets e same
          (inl (n.0, λ d j. n.1 d (subst (λ (o : List ℕ). IsJson o d) (sym is) j)))))
    ]

pub no_network : (left : Option (List ℕ)) (octets text : List ℕ) (e : Fault) (Q : Type 0) → MayBeLeft left octets → text
    ≡ octets → (e ≡ fault_at 900 places.None) ⊎ ((e ≡ fault_at 101 places.None) × ((d : Data) → IsJson text d → ⊥))
    → (e ≡ fault_at 900 places.None) ⊎ (Q ⊎ MayHaveLeft left (λ l. IsRefusedNetwork l e))
no_network left octets text e Q same is h =
    elim h [
      | inl m ↦ inl m
      | inr n ↦ inr (inr
          (reported left octets (λ l. IsRefusedNetwork l e) same
          (by_walk (inl (n.0, λ d j. n.1 d (subst (λ (o : List ℕ). IsJson o d) (sym is) j))))))
    ]

-- ---- two documents

-- the exit of a `?`
pub exit_with : {X : Type 0} (r : Result X Fault) (e : Fault) (Q : Fault → Type 0) → IsErr r × IsErrAnd r (λ d. d ≡ e)
    → Q e → IfErr r Q
exit_with (Ok x) e Q h q = absurd h.1
exit_with (Err d) e Q h q = subst Q (sym h.1) q

pub both_reported : (left_n left_t : Option (List ℕ)) (P Q : List ℕ → Type 0) (R : List ℕ → List ℕ → Type 0)
    → MayHaveLeft left_n P → MayHaveLeft left_t Q → ((n t : List ℕ) → P n → Q t → R n t)
    → BothMayHaveLeft left_n left_t R
both_reported left_n left_t P Q R p q h = (p.0, p.1, (q.0, q.1, h p.0 q.0 p.2 q.2))

pub first_reported : (left_n left_t : Option (List ℕ)) (P : List ℕ → Type 0) (R : List ℕ → List ℕ → Type 0)
    → ((n t : List ℕ) → P n → R n t) → MayHaveLeft left_n P → BothMayHaveLeft left_n left_t R
first_reported left_n left_t P R h p = let t = something_left left_t in (p.0, p.1, (t.0, t.1, h p.0 t.0 p.2))

pub both_mapped : (left_n left_t : Option (List ℕ)) (P R : List ℕ → List ℕ → Type 0) → ((n t : List ℕ) → P n t → R n t)
    → BothMayHaveLeft left_n left_t P → BothMayHaveLeft left_n left_t R
both_mapped left_n left_t P R h p = let t = p.2 in (p.0, p.1, (t.0, t.1, h p.0 t.0 t.2))

-- the network's document is refused
pub first_refused : (left_n left_t : Option (List ℕ)) (e : Fault) (M N T : Type 0) → M
    ⊎ (N ⊎ MayHaveLeft left_n (λ n. IsRefusedNetwork n e)) → M
    ⊎ (N ⊎ (T ⊎ BothMayHaveLeft left_n left_t (λ n t. IsRefusedByDocuments n t e)))
first_refused left_n left_t e M N T h =
    elim h [
      | inl m ↦ inl m
      | inr (inl n) ↦ inr (inl n)
      | inr (inr f) ↦
          inr (inr (inr (first_reported left_n left_t (λ n. IsRefusedNetwork n e) (λ n t. IsRefusedByDocuments n t e)
          (λ n t p. inl p) f)))
    ]

pub traffic_refused : (left_n left_t : Option (List ℕ)) (network : NetworkDocument) (e : Fault) (M N T : Type 0)
    → MayHaveLeft left_n (λ n. IsNetworkDocument n network) → M
    ⊎ (T ⊎ MayHaveLeft left_t (λ t. IsFirstFault (traffic_faults (device_names network) []) t e)) → M
    ⊎ (N ⊎ (T ⊎ BothMayHaveLeft left_n left_t (λ n t. IsRefusedByDocuments n t e)))
traffic_refused left_n left_t network e M N T is h =
    elim h [
      | inl m ↦ inl m
      | inr (inl t) ↦ inr (inr (inl t))
      | inr (inr f) ↦
          inr (inr (inr (both_reported left_n left_t (λ n. IsNetworkDocument n network)
          (λ t. IsFirstFault (traffic_faults (device_names network) []) t e) (λ n t. IsRefusedByDocuments n t e) is f
          (λ n t p q. inr (network, p, q)))))
    ]

-- ---- what holds in the network and traffic that two documents say

in_documents : (left_n left_t : Option (List ℕ)) (network : NetworkDocument) (classes : List Class)
    (P : List ℕ → NetworkDocument → List Class → Type 0) (old new : Option (List ℕ))
    → MayHaveLeft left_n (λ n. IsNetworkDocument n network) → MayHaveLeft left_t (λ t. IsTraffic network t classes)
    → Prints (λ text. P text network classes) old new
    → BothMayHaveLeft left_n left_t (λ n t. Prints (λ text. InDocuments (P text) n t) old new)
in_documents left_n left_t network classes P old new n t h =
    let text = h.0 in
    let holds : P text network classes = h.1 in
    let written : Writes old new text = h.2 in
    both_reported left_n left_t (λ o. IsNetworkDocument o network) (λ o. IsTraffic network o classes)
    (λ x y. Prints (λ text'. InDocuments (P text') x y) old new) n t
    (λ x y p q. (
      text,
      record { network = network; classes = classes; network_is = p; traffic_is = q; holds = holds },
      written,
    ))

-- what is printed of them is printed of the documents
pub documents_done : (left_n left_t : Option (List ℕ)) (network : NetworkDocument) (classes : List Class)
    (P : Answer → List ℕ → NetworkDocument → List Class → Type 0) (old new : Option (List ℕ))
    (result : Result Answer Fault)
    → MayHaveLeft left_n (λ n. IsNetworkDocument n network) → MayHaveLeft left_t (λ t. IsTraffic network t classes)
    → IfOk result (λ a. Prints (λ text. P a text network classes) old new)
    → IfOk result (λ a. BothMayHaveLeft left_n left_t (λ n t. Prints (λ text. InDocuments (P a text) n t) old new))
documents_done left_n left_t network classes P old new (Err e) n t h = tt
documents_done left_n left_t network classes P old new (Ok a) n t h =
    in_documents left_n left_t network classes (P a) old new n t h

pub documents_done_yes : (left_n left_t : Option (List ℕ)) (network : NetworkDocument) (classes : List Class)
    (P : List ℕ → NetworkDocument → List Class → Type 0) (old new : Option (List ℕ)) (result : Result Answer Fault)
    → MayHaveLeft left_n (λ n. IsNetworkDocument n network) → MayHaveLeft left_t (λ t. IsTraffic network t classes)
    → IfOk result (λ a. (a ≡ Yes) × Prints (λ text. P text network classes) old new)
    → IfOk result (λ a. (a ≡ Yes) × BothMayHaveLeft left_n left_t
    (λ n t. Prints (λ text. InDocuments (P text) n t) old new))
documents_done_yes left_n left_t network classes P old new (Err e) n t h = tt
documents_done_yes left_n left_t network classes P old new (Ok a) n t h =
    (h.0, in_documents left_n left_t network classes P old new n t h.1)

-- what is refused in them
refused_in : (left_n left_t : Option (List ℕ)) (network : NetworkDocument) (classes : List Class)
    (Refused : NetworkDocument → List Class → Type 0) (e : Fault)
    → MayHaveLeft left_n (λ n. IsNetworkDocument n network) → MayHaveLeft left_t (λ t. IsTraffic network t classes)
    → Refused network classes
    → BothMayHaveLeft left_n left_t (λ n t. IsRefusedIn Refused n t e)
refused_in left_n left_t network classes Refused e n t h =
    both_reported left_n left_t (λ o. IsNetworkDocument o network) (λ o. IsTraffic network o classes)
    (λ x y. IsRefusedIn Refused x y e) n t (λ x y p q. inr (network, classes, p, q, h))

pub documents_refused : (left_n left_t : Option (List ℕ)) (network : NetworkDocument) (classes : List Class)
    (Refused : Fault → NetworkDocument → List Class → Type 0) (N T F W : Fault → Type 0) (result : Result Answer Fault)
    → MayHaveLeft left_n (λ n. IsNetworkDocument n network) → MayHaveLeft left_t (λ t. IsTraffic network t classes)
    → IfErr result (λ e. (e ≡ fault_at 900 places.None) ⊎ (F e ⊎ (W e ⊎ Refused e network classes)))
    → IfErr result (λ e. (e ≡ fault_at 900 places.None)
    ⊎ (N e ⊎ (T e ⊎ (F e ⊎ (W e ⊎ BothMayHaveLeft left_n left_t (λ n t. IsRefusedIn (Refused e) n t e))))))
documents_refused left_n left_t network classes Refused N T F W (Ok a) n t h = tt
documents_refused left_n left_t network classes Refused N T F W (Err e) n t h =
    elim h [
      | inl m ↦ inl m
      | inr (inl f) ↦ inr (inr (inr (inl f)))
      | inr (inr (inl w)) ↦ inr (inr (inr (inr (inl w))))
      | inr (inr (inr r)) ↦ inr (inr (inr (inr (inr (refused_in left_n left_t network classes (Refused e) e n t r)))))
    ]

-- a document is refused
unread_in : (left_n left_t : Option (List ℕ)) (Refused : NetworkDocument → List Class → Type 0) (e : Fault)
    → BothMayHaveLeft left_n left_t (λ n t. IsRefusedByDocuments n t e)
    → BothMayHaveLeft left_n left_t (λ n t. IsRefusedIn Refused n t e)
unread_in left_n left_t Refused e h = both_mapped left_n left_t (λ n t. IsRefusedByDocuments n t e)
    (λ n t. IsRefusedIn Refused n t e) (λ n t p. inl p) h

pub documents_unread : (left_n left_t : Option (List ℕ)) (Refused : NetworkDocument → List Class → Type 0) (e : Fault)
    (M N T F W : Type 0) → M ⊎ (N ⊎ (T ⊎ BothMayHaveLeft left_n left_t (λ n t. IsRefusedByDocuments n t e)))
    → M ⊎ (N ⊎ (T ⊎ (F ⊎ (W ⊎ BothMayHaveLeft left_n left_t (λ n t. IsRefusedIn Refused n t e)))))
documents_unread left_n left_t Refused e M N T F W h =
    elim h [
      | inl m ↦ inl m
      | inr (inl n) ↦ inr (inl n)
      | inr (inr (inl t)) ↦ inr (inr (inl t))
      | inr (inr (inr f)) ↦ inr (inr (inr (inr (inr (unread_in left_n left_t Refused e f)))))
    ]
