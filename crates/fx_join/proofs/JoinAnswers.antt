-- What a join answers for the documents of the whole.
use Rattle.std.proofs.Common.{◌≡◌, ◌⊎◌, ℕ, ◌≤◌, Bool, List, [], Option, Some, None, unwrap_or, Result, Ok, Err, IfOk, IfErr, IfSome, refl, sym, ap, ◌∙◌, subst, inl, inr, arith}
use Rattle.serde_json.specs.Data.{Data}
use Rattle.serde_json.specs.Read.{read}
use Rattle.fx_base.specs.declared.fault.Fault.{Fault}
use Rattle.fx_base.specs.declared.fault.Place.{Place}
use Rattle.fx_base.specs.declared.fault.Place.TheVariants as places
use Rattle.fx_base.specs.Device.{IsWriteFault, MayBeLeft, MayHaveLeft, Writes}
use Rattle.fx_base.specs.Fault.{fault_at, IsMemory}
use Rattle.fx_base.proofs.GoingOn.{something_left}
use Rattle.fx_walk.specs.Walk.{FoundFault}
use Rattle.fx_tables.specs.Classes.{Class}
use Rattle.fx_tables.specs.Network.{Net}
use Rattle.fx_topology.specs.declared.network.NetworkDocument.{NetworkDocument}
use Rattle.fx_topology.specs.Networks.{device_names, network_of}
use Rattle.fx_plan.specs.Tables.{net_of}
use Rattle.fx_traffic.specs.Classes.{traffic_of}
use Rattle.fx_checker.specs.Checks.{IsWithin, no_line, yes_line}
use Rattle.fx_checker.specs.declared.answer.Answer.{Answer}
use Rattle.fx_checker.specs.declared.answer.Answer.TheVariants.{Yes, No, Unknown}
use Rattle.fx_checker.specs.Documents.{BothMayHaveLeft, IsDocument, IsFirstFault, is_found}
use Rattle.fx_checker.specs.Outputs.{Prints}
use Rattle.fx_checker.proofs.Documents.{both_reported, first_reported}
use Rattle.fx_join.specs.Joins.{InWhole, IsAllParts, IsAnswered, IsClassAt, IsCounted, IsJoinText, IsJoined, IsRefusedJoin, IsUnread, IsWrong}
use Rattle.fx_join.specs.Wholes.{IfBothFaulty, IfWholeFaulty, IsRefusedByWhole, IsRefusedWhole, IsWholeNetwork, IsWholeTraffic, by_cycle, by_walk, whole_faults, whole_traffic_faults}
use Rattle.fx_join.proofs.Stops.{IsStop, mapped}

-- ---- numbers

wrong_within : (whole : Net) (classes : List Class) (octets : List ℕ) (e : Fault) → IsWrong whole classes octets e
    → IsWithin 421 423 e.number
wrong_within whole classes octets e (inl (parts, part, there, inl (inner, refused, place))) =
    (omega (arith, place.0), omega (arith, place.0))
wrong_within whole classes octets e (inl (parts, part, there, inr (certified, place))) =
    (omega (arith, place.0), omega (arith, place.0))
wrong_within whole classes octets e (inr (parts, there)) = (omega (arith, there.number), omega (arith, there.number))

number_of : (n : ℕ) (e : Fault) → e ≡ fault_at n places.None → e.number ≡ n
number_of n e is = ap (λ (f : Fault). f.number) is

unread_outside : (whole : Net) (octets : List ℕ) (e : Fault) → IsUnread whole octets e → IsWithin 421 423 e.number → ⊥
unread_outside whole octets e (inl (parts, there, place)) within = absurd (omega (arith, place.0, within.1))
unread_outside whole octets e (inr (parts, part, there, long)) within =
    absurd (omega (arith, number_of 901 e long.0, within.1))

-- why a join fails
abbrev pub IsWhy : Option (List ℕ) → Net → List Class → (Fault → Type 0) → Fault → Type 0
IsWhy left whole classes R e =
    IsMemory e
    ⊎ (R e ⊎ ((e ≡ fault_at 204 places.None)
    ⊎ MayHaveLeft left (λ octets. IsWrong whole classes octets e ⊎ IsUnread whole octets e)))

only_wrong : (whole : Net) (classes : List Class) (octets : List ℕ) (e : Fault) → IsWithin 421 423 e.number
    → IsWrong whole classes octets e ⊎ IsUnread whole octets e → IsWrong whole classes octets e
only_wrong whole classes octets e within (inl w) = w
only_wrong whole classes octets e within (inr u) = absurd (unread_outside whole octets e u within)

only_unread : (whole : Net) (classes : List Class) (octets : List ℕ) (e : Fault) → (IsWithin 421 423 e.number → ⊥)
    → IsWrong whole classes octets e ⊎ IsUnread whole octets e → IsUnread whole octets e
only_unread whole classes octets e outside (inl w) = absurd (outside (wrong_within whole classes octets e w))
only_unread whole classes octets e outside (inr u) = u

wrong_of : (left : Option (List ℕ)) (whole : Net) (classes : List Class) (R : Fault → Type 0) (e : Fault)
    → (R e → e ≡ fault_at 901 places.None) → IsWhy left whole classes R e → IsWithin 421 423 e.number
    → MayHaveLeft left (λ octets. IsWrong whole classes octets e)
wrong_of left whole classes R e device (inl m) within = absurd (omega (arith, number_of 900 e m, within.1))
wrong_of left whole classes R e device (inr (inl r)) within =
    absurd (omega (arith, number_of 901 e (device r), within.1))
wrong_of left whole classes R e device (inr (inr (inl c))) within =
    absurd (omega (arith, number_of 204 e c, within.0))
wrong_of left whole classes R e device (inr (inr (inr h))) within =
    mapped left _ (λ octets. IsWrong whole classes octets e) (λ octets. only_wrong whole classes octets e within) h

-- ---- answers

pub yes_done : (left : Option (List ℕ)) (whole : Net) (classes : List Class) (old new : Option (List ℕ))
    → IsCounted whole classes → MayHaveLeft left (IsAllParts whole) → Writes old new yes_line
    → MayHaveLeft left (λ octets. Prints (IsAnswered whole classes octets Yes) old new)
yes_done left whole classes old new counted parts written =
    mapped left (IsAllParts whole) (λ octets. Prints (IsAnswered whole classes octets Yes) old new)
    (λ octets all. (yes_line, record { counted = counted; all_parts = all; text_is = refl }, written)) parts

pub no_done : (left : Option (List ℕ)) (whole : Net) (classes : List Class) (R : Fault → Type 0) (fault : Fault)
    (old new : Option (List ℕ)) (result : Result Answer Fault) → (R fault → fault ≡ fault_at 901 places.None)
    → IsWhy left whole classes R fault
    → IfOk result (λ a. (a ≡ No) × IsWithin 421 423 fault.number × Writes old new (no_line fault))
    → IfOk result (λ a. MayHaveLeft left (λ octets. Prints (IsAnswered whole classes octets a) old new))
no_done left whole classes R fault old new (Err e) device why h = tt
no_done left whole classes R fault old new (Ok a) device why h =
    subst (λ (x : Answer). MayHaveLeft left (λ octets. Prints (IsAnswered whole classes octets x) old new)) (sym h.0)
    (mapped left _ (λ octets. Prints (IsAnswered whole classes octets No) old new)
    (λ octets w. (no_line fault, record { fault = fault; wrong = w; text_is = refl }, h.2))
    (wrong_of left whole classes R fault device why h.1))

pub no_failed : (left : Option (List ℕ)) (whole : Net) (classes : List Class) (R W : Fault → Type 0) (fault : Fault)
    (result : Result Answer Fault) → IsWhy left whole classes R fault
    → IfErr result (λ e. ((e ≡ fault) × (IsWithin 421 423 fault.number → ⊥)) ⊎ W e)
    → IfErr result (λ e. IsMemory e ⊎ (R e ⊎ (W e ⊎ ((e ≡ fault_at 204 places.None)
    ⊎ MayHaveLeft left (λ octets. IsUnread whole octets e)))))
no_failed left whole classes R W fault (Ok a) why h = tt
no_failed left whole classes R W fault (Err e) why (inr w) = inr (inr (inl w))
no_failed left whole classes R W fault (Err e) why (inl k) =
    subst (λ (f : Fault). IsMemory f ⊎ (R f ⊎ (W f ⊎ ((f ≡ fault_at 204 places.None)
    ⊎ MayHaveLeft left (λ octets. IsUnread whole octets f))))) (sym k.0) (elim why [
      | inl m ↦ inl m
      | inr (inl r) ↦ inr (inl r)
      | inr (inr (inl c)) ↦ inr (inr (inr (inl c)))
      | inr (inr (inr h)) ↦ inr (inr (inr (inr (mapped left _ (λ octets. IsUnread whole octets fault)
          (λ octets. only_unread whole classes octets fault k.1) h))))
    ])

-- the text of an answer is of the answer's kind
pub no_text : (fault : Fault) (old new : Option (List ℕ)) (result : Result Answer Fault)
    → IfOk result (λ a. (a ≡ No) × IsWithin 421 423 fault.number × Writes old new (no_line fault))
    → IfOk result (λ a. Prints (IsJoinText a) old new)
no_text fault old new (Err e) h = tt
no_text fault old new (Ok a) h =
    (no_line fault, subst (λ (x : Answer). IsJoinText x (no_line fault)) (sym h.0) (fault, h.1.0, h.1.1, refl), h.2)

-- ---- the whole

in_whole : (left_n left_t : Option (List ℕ)) (network : NetworkDocument) (classes : List Class)
    (Q : List ℕ → List ℕ → Type 0) → MayHaveLeft left_n (λ n. IsWholeNetwork n network)
    → MayHaveLeft left_t (λ t. IsWholeTraffic network t classes)
    → ((n t : List ℕ) → IsWholeNetwork n network → IsWholeTraffic network t classes → Q n t)
    → BothMayHaveLeft left_n left_t Q
in_whole left_n left_t network classes Q n t h =
    both_reported left_n left_t (λ o. IsWholeNetwork o network) (λ o. IsWholeTraffic network o classes) Q n t h

pub whole_done : (left_n left_t left_p : Option (List ℕ)) (network : NetworkDocument) (classes : List Class)
    (old new : Option (List ℕ)) (result : Result Answer Fault) → MayHaveLeft left_n (λ n. IsWholeNetwork n network)
    → MayHaveLeft left_t (λ t. IsWholeTraffic network t classes)
    → IfOk result (λ a. MayHaveLeft left_p (λ p. Prints (IsAnswered (net_of network) classes p a) old new))
    → IfOk result (λ a. BothMayHaveLeft left_n left_t
    (λ n t. MayHaveLeft left_p (λ p. Prints (IsJoined n t p a) old new)))
whole_done left_n left_t left_p network classes old new (Err e) n t h = tt
whole_done left_n left_t left_p network classes old new (Ok a) n t h =
    in_whole left_n left_t network classes (λ x y. MayHaveLeft left_p (λ p. Prints (IsJoined x y p a) old new)) n t
    (λ x y is of. mapped left_p _ (λ p. Prints (IsJoined x y p a) old new)
    (λ p printed. (
      printed.0,
      record { network = network; classes = classes; network_is = is; traffic_is = of; holds = printed.1 },
      printed.2,
    )) h)

unread_in_whole : (left_n left_t left_p : Option (List ℕ)) (network : NetworkDocument) (classes : List Class)
    (e : Fault)
    → MayHaveLeft left_n (λ n. IsWholeNetwork n network) → MayHaveLeft left_t (λ t. IsWholeTraffic network t classes)
    → MayHaveLeft left_p (λ p. IsUnread (net_of network) p e)
    → BothMayHaveLeft left_n left_t (λ n t. MayHaveLeft left_p (λ p. IsRefusedJoin n t p e))
unread_in_whole left_n left_t left_p network classes e n t h =
    in_whole left_n left_t network classes (λ x y. MayHaveLeft left_p (λ p. IsRefusedJoin x y p e)) n t
    (λ x y is of. mapped left_p _ (λ p. IsRefusedJoin x y p e)
    (λ p u. inr (record { network = network; classes = classes; network_is = is; traffic_is = of; holds = u })) h)

-- the documents are refused
refused_by_whole : (left_n left_t left_p : Option (List ℕ)) (e : Fault)
    → BothMayHaveLeft left_n left_t (λ n t. IsRefusedByWhole n t e)
    → BothMayHaveLeft left_n left_t (λ n t. MayHaveLeft left_p (λ p. IsRefusedJoin n t p e))
refused_by_whole left_n left_t left_p e h =
    let t = h.2 in
    let p = something_left left_p in
    (h.0, h.1, (t.0, t.1, (p.0, p.1, inl t.2)))

cycle_in_whole : (left_n left_t left_p : Option (List ℕ)) (network : NetworkDocument) (e : Fault)
    → MayHaveLeft left_n (λ n. IsWholeNetwork n network) → e ≡ fault_at 204 places.None
    → BothMayHaveLeft left_n left_t (λ n t. MayHaveLeft left_p (λ p. IsRefusedJoin n t p e))
cycle_in_whole left_n left_t left_p network e n is =
    refused_by_whole left_n left_t left_p e
    (first_reported left_n left_t (λ o. IsWholeNetwork o network) (λ x y. IsRefusedByWhole x y e)
    (λ x y w. inl (by_cycle network w.document is)) n)

pub whole_failed : (left_n left_t left_p : Option (List ℕ)) (network : NetworkDocument) (classes : List Class)
    (N T R W : Fault → Type 0) (result : Result Answer Fault) → MayHaveLeft left_n (λ n. IsWholeNetwork n network)
    → MayHaveLeft left_t (λ t. IsWholeTraffic network t classes)
    → IfErr result (λ e. IsMemory e ⊎ (R e ⊎ (W e ⊎ ((e ≡ fault_at 204 places.None)
    ⊎ MayHaveLeft left_p (λ p. IsUnread (net_of network) p e)))))
    → IfErr result (λ e. IsMemory e ⊎ (N e ⊎ (T e ⊎ (R e ⊎ (W e
    ⊎ BothMayHaveLeft left_n left_t (λ n t. MayHaveLeft left_p (λ p. IsRefusedJoin n t p e)))))))
whole_failed left_n left_t left_p network classes N T R W (Ok a) n t h = tt
whole_failed left_n left_t left_p network classes N T R W (Err e) n t h =
    elim h [
      | inl m ↦ inl m
      | inr (inl r) ↦ inr (inr (inr (inl r)))
      | inr (inr (inl w)) ↦ inr (inr (inr (inr (inl w))))
      | inr (inr (inr (inl c))) ↦
          inr (inr (inr (inr (inr (cycle_in_whole left_n left_t left_p network e n c)))))
      | inr (inr (inr (inr u))) ↦
          inr (inr (inr (inr (inr (unread_in_whole left_n left_t left_p network classes e n t u)))))
    ]

pub whole_refused : (left_n left_t left_p : Option (List ℕ)) (e : Fault) (M N T R W : Type 0)
    → M ⊎ (N ⊎ (T ⊎ BothMayHaveLeft left_n left_t (λ n t. IsRefusedByWhole n t e)))
    → M ⊎ (N ⊎ (T ⊎ (R ⊎ (W
    ⊎ BothMayHaveLeft left_n left_t (λ n t. MayHaveLeft left_p (λ p. IsRefusedJoin n t p e))))))
whole_refused left_n left_t left_p e M N T R W h =
    elim h [
      | inl m ↦ inl m
      | inr (inl n) ↦ inr (inl n)
      | inr (inr (inl t)) ↦ inr (inr (inl t))
      | inr (inr (inr f)) ↦ inr (inr (inr (inr (inr (refused_by_whole left_n left_t left_p e f)))))
    ]

-- ---- the end of the parts

-- a part that is refused
pub stopped : (left : Option (List ℕ)) (whole : Net) (classes : List Class) (e : Fault) (M R C : Type 0) → M
    ⊎ (R ⊎ MayHaveLeft left (λ octets. IsStop whole octets e)) → M
    ⊎ (R ⊎ (C ⊎ MayHaveLeft left (λ octets. IsWrong whole classes octets e ⊎ IsUnread whole octets e)))
stopped left whole classes e M R C (inl m) = inl m
stopped left whole classes e M R C (inr (inl r)) = inr (inl r)
stopped left whole classes e M R C (inr (inr h)) =
    inr (inr (inr (mapped left (λ octets. IsStop whole octets e)
    (λ octets. IsWrong whole classes octets e ⊎ IsUnread whole octets e) (λ octets. as_wrong octets) h)))
  where
    as_wrong : (octets : List ℕ) → IsStop whole octets e
        → IsWrong whole classes octets e ⊎ IsUnread whole octets e
    as_wrong octets (inl r) = inl (inl r)
    as_wrong octets (inr u) = inr u

pub stopped_in : (left : Option (List ℕ)) (whole known : Net) (classes : List Class) (e : Fault) (M R C : Type 0)
    → known ≡ whole → M ⊎ (R ⊎ MayHaveLeft left (λ octets. IsStop known octets e)) → M
    ⊎ (R ⊎ (C ⊎ MayHaveLeft left (λ octets. IsWrong whole classes octets e ⊎ IsUnread whole octets e)))
stopped_in left whole known classes e M R C same h =
    stopped left whole classes e M R C
    (subst (λ (w : Net). M ⊎ (R ⊎ MayHaveLeft left (λ octets. IsStop w octets e))) same h)

-- a class that no part covers
pub uncovered : {X : Type 0} (left : Option (List ℕ)) (whole : Net) (classes known : List Class) (R C : Fault → Type 0)
    (r : Result X Fault) → known ≡ classes → MayHaveLeft left (IsAllParts whole)
    → IfErr r (λ e. IsMemory e ⊎ IsClassAt known e)
    → IfErr r (λ e. IsMemory e ⊎ (R e ⊎ (C e
    ⊎ MayHaveLeft left (λ octets. IsWrong whole classes octets e ⊎ IsUnread whole octets e))))
uncovered left whole classes known R C (Ok x) same parts h = tt
uncovered left whole classes known R C (Err e) same parts (inl m) = inl m
uncovered left whole classes known R C (Err e) same parts (inr there) =
    let own = subst (λ (cs : List Class). IsClassAt cs e) same there in
    inr (inr (inr (mapped left (IsAllParts whole)
    (λ octets. IsWrong whole classes octets e ⊎ IsUnread whole octets e) (λ octets all. inl (inr (all, own))) parts)))
