-- Why the check of a part fails.
use Rattle.std.proofs.Common.{◌≡◌, ◌⊎◌, ℕ, suc, ◌^◌, ◌≤◌, Bool, true, false, List, [], ◌∷◌, length, Option, Some, None, IfSome, Result, Ok, Err, IfOk, IfErr, OnOk, refl, sym, ap, ◌∙◌, subst, inl, inr, arith}
use Rattle.std.proofs.lemmas.Bool.{false≢true}
use Rattle.serde_json.specs.Data.{Data}
use Rattle.fx_base.specs.declared.fault.Fault.{Fault}
use Rattle.fx_base.specs.declared.fault.Place.{Place}
use Rattle.fx_base.specs.declared.fault.Place.TheVariants as places
use Rattle.fx_base.specs.Device.{MayHaveLeft}
use Rattle.fx_base.specs.Fault.{fault_at, IsMemory}
use Rattle.fx_base.specs.Lines.{Fails, Lines, lines_in, new_lines, next_number, text_lines}
use Rattle.fx_walk.specs.Walk.{FoundFault}
use Rattle.fx_tables.specs.Classes.{Class}
use Rattle.fx_tables.specs.Network.{Net}
use Rattle.fx_topology.specs.declared.network.NetworkDocument.{NetworkDocument}
use Rattle.fx_plan.specs.Plans.{RefusesNetwork}
use Rattle.fx_plan.specs.Cycles.{IsTextPlace}
use Rattle.fx_plan.specs.Tables.{net_of}
use Rattle.fx_traffic.specs.Targets.{targets_of}
use Rattle.fx_check.specs.Certificates.{IsCertificate}
use Rattle.fx_check.specs.FirstRefusal.{Goal, Line, Refusal, after_reading, at_end, first_refusal, goes_on, made_after, reading_of, whole}
use Rattle.fx_check.specs.Judging.{Judge, judge_of}
use Rattle.fx_check.specs.Outcomes.{IsRefusal, MayBeCertificate, MayBeRefused}
use Rattle.fx_checker.specs.Checks.{IsFaultOf, IsRefusedText}
use Rattle.fx_checker.specs.Documents.{BothMayHaveLeft, IsFirstFault, IsNetworkDocument, IsRefusedByDocuments, IsRefusedNetwork, IsTraffic, ReadFails, by_plan, by_walk, is_found}
use Rattle.fx_join.specs.PartChecks.{IsAtPart, IsCertifiedAs, IsEndlessPart, IsFailure, IsPartFault, IsRefusedAt, IsRefusedPart}
use Rattle.fx_join.specs.PartTexts.{PartText}
use Rattle.fx_base.specs.Refusals.{part_refused}

-- ---- texts in memory

pub of_known : (left : Option (List ℕ)) (octets : List ℕ) (P : List ℕ → Type 0) → left ≡ Some octets
    → MayHaveLeft left P → P octets
of_known left octets P is h =
    let same : h.0 ≡ octets = rw is at h.1 in
    subst P same h.2

pub of_both_known : (left_n left_t : Option (List ℕ)) (n t : List ℕ) (R : List ℕ → List ℕ → Type 0) → left_n ≡ Some n
    → left_t ≡ Some t → BothMayHaveLeft left_n left_t R → R n t
of_both_known left_n left_t n t R en et h =
    of_known left_t t (R n) et (of_known left_n n (λ x. MayHaveLeft left_t (R x)) en h)

-- what holds of the octets that were left holds of these
pub known_done : {X : Type 0} (left : Option (List ℕ)) (octets : List ℕ) (P : List ℕ → X → Type 0) (r : Result X Fault)
    → left ≡ Some octets → IfOk r (λ x. MayHaveLeft left (λ o. P o x)) → IfOk r (P octets)
known_done left octets P (Ok x) is h = of_known left octets (λ o. P o x) is h
known_done left octets P (Err e) is h = tt

pub lines_in_text : (octets text : List ℕ) (calls : ℕ) → octets ≡ text → calls ≡ 0
    → new_lines (Some octets) false calls ≡ lines_in text
lines_in_text octets text calls same none = rw (same, none) refl

too_long : (left : Option (List ℕ)) (octets : List ℕ) (before after : ℕ) (failed : Bool) (e : Fault) → left
    ≡ Some octets → failed ≡ false → ReadFails left before after failed e → (e ≡ fault_at 901 places.None)
    × (2 ^ 32 ≤ length octets)
too_long left octets before after failed e same none (is, inl f) = absurd (false≢true (sym none ∙ f))
too_long left octets before after failed e same none (is, inr endless) =
    let long : 2 ^ 32 ≤ length octets = rw same at endless.1 in
    (is, long)

lines_too_long : (text : List ℕ) (new : Lines) (e : Fault) → new.failed ≡ false → Fails (lines_in text) new e
    → (e ≡ fault_at 901 places.None) × (2 ^ 32 ≤ length text)
lines_too_long text new e none (inl stopped) = absurd (cc)
lines_too_long text new e none (inr (is, inl f)) = absurd (false≢true (sym none ∙ f))
lines_too_long text new e none (inr (is, inr (all, asks, long))) = (is, omega (arith, long))

-- ---- the documents

pub documents_fault : {X : Type 0} (part : PartText) (left_n left_t : Option (List ℕ))
    (before_n after_n before_t after_t : ℕ) (failed_n failed_t : Bool) (result : Result X Fault) → left_n
    ≡ Some part.network → left_t ≡ Some part.traffic → failed_n ≡ false → failed_t ≡ false
    → IfErr result (λ e. IsMemory e
    ⊎ (ReadFails left_n before_n after_n failed_n e
    ⊎ (ReadFails left_t before_t after_t failed_t e
    ⊎ BothMayHaveLeft left_n left_t (λ n t. IsRefusedByDocuments n t e))))
    → IfErr result (IsPartFault part)
documents_fault part left_n left_t before_n after_n before_t after_t failed_n failed_t (Ok x) en et fn ft h = tt
documents_fault part left_n left_t before_n after_n before_t after_t failed_n failed_t (Err e) en et fn ft h =
    elim h [
      | inl m ↦ inl m
      | inr (inl f) ↦ let k = too_long left_n part.network before_n after_n failed_n e en fn f in
          inr (inl (k.0, inl k.1))
      | inr (inr (inl f)) ↦ let k = too_long left_t part.traffic before_t after_t failed_t e et ft f in
          inr (inl (k.0, inr (inl k.1)))
      | inr (inr (inr r)) ↦ inr (inr (inl
          (of_both_known left_n left_t part.network part.traffic (λ n t. IsRefusedByDocuments n t e) en et r)))
    ]

-- ---- the certificate

pub certificate_known : (net : Net) (classes : List Class) (lines : Lines) (text : List ℕ) → lines ≡ lines_in text
    → MayBeCertificate net classes lines → IsCertificate net classes (text_lines text)
certificate_known net classes lines text is h =
    of_known lines.left text (λ t. IsCertificate net classes (text_lines t)) (ap (λ (l : Lines). l.left) is) h

pub certificate_known_ok : {X : Type 0} (net : Net) (classes : List Class) (lines : Lines) (text : List ℕ)
    (r : Result X Fault) → lines ≡ lines_in text → OnOk r (MayBeCertificate net classes lines)
    → OnOk r (IsCertificate net classes (text_lines text))
certificate_known_ok net classes lines text (Ok x) is h = certificate_known net classes lines text is h
certificate_known_ok net classes lines text (Err e) is h = tt

is_fault_of : (first : Option Refusal) (new : Lines) (e : Fault) → IsRefusal e new first → IsFaultOf e first
is_fault_of None new e h = absurd h
is_fault_of (Some r) new e h = h.0

refused_text : (network : NetworkDocument) (classes : List Class) (old new : Lines) (e : Fault)
    → MayBeRefused (net_of network) (targets_of classes) old new e → IsRefusedText network classes old e
refused_text network classes old new e (text, left, h) = (
  text,
  left,
  is_fault_of (first_refusal (judge_of (net_of network)) old.number 0 (whole (targets_of classes)) (text_lines text))
      new e h,
)

pub certificate_fault : {X : Type 0} (part : PartText) (network : NetworkDocument) (classes : List Class)
    (old new : Lines) (result : Result X Fault) → IsNetworkDocument part.network network
    → IsTraffic network part.traffic classes → old ≡ lines_in part.certificate → new.failed ≡ false
    → IfErr result (λ e. (IsMemory e × (new ≡ old))
    ⊎ (Fails old new e ⊎ MayBeRefused (net_of network) (targets_of classes) old new e))
    → IfErr result (IsPartFault part)
certificate_fault part network classes old new (Ok x) n t is going h = tt
certificate_fault part network classes old new (Err e) n t is going h =
    elim h [
      | inl m ↦ inl m.0
      | inr (inl f) ↦
          let k = lines_too_long part.certificate new e going (subst (λ (l : Lines). Fails l new e) is f) in
          inr (inl (k.0, inr (inr k.1)))
      | inr (inr r) ↦ inr (inr (inr (
        network,
        classes,
        n,
        t,
        subst (λ (l : Lines). IsRefusedText network classes l e) is (refused_text network classes old new e r),
      )))
    ]

-- ---- the part's own faults

-- such a fault isn't 900 or 901 at no place
abbrev IsOwn : Fault → Type 0
IsOwn e = IsFailure e → ⊥

other_number : (n : ℕ) (e : Fault) → e ≡ fault_at n places.None → (n ≡ 900 → ⊥) → (n ≡ 901 → ⊥) → IsOwn e
other_number n e is one two fails =
    elim fails.number [
      | inl m ↦ one (sym (ap (λ (f : Fault). f.number) is) ∙ m)
      | inr d ↦ two (sym (ap (λ (f : Fault). f.number) is) ∙ d)
    ]

found_own : (p : Place) (n : ℕ) (fs : List FoundFault) → is_found n p fs → p ≡ places.None → ⊥
found_own places.None n fs found nowhere = found
found_own (places.Text s) n fs found nowhere = absurd (cc)
found_own (places.Line l) n fs found nowhere = found
found_own (places.Octet o) n fs found nowhere = found

first_own : (faults : Data → List FoundFault) (octets : List ℕ) (e : Fault) → IsFirstFault faults octets e → IsOwn e
first_own faults octets e (inl h) fails =
    other_number 101 e h.0 (λ n. omega (arith, n)) (λ n. omega (arith, n)) fails
first_own faults octets e (inr h) fails = found_own e.place e.number (faults h.0) h.2 fails.nowhere

text_own : (p : Place) (text : List ℕ) → IsTextPlace p text → p ≡ places.None → ⊥
text_own places.None text is nowhere = is
text_own (places.Text s) text is nowhere = absurd (cc)
text_own (places.Line l) text is nowhere = is
text_own (places.Octet o) text is nowhere = is

plan_own : (network : NetworkDocument) (e : Fault) → RefusesNetwork network e → IsOwn e
plan_own network e (inl h) fails = other_number 207 e h.0 (λ n. omega (arith, n)) (λ n. omega (arith, n)) fails
plan_own network e (inr h) fails = text_own e.place _ h.1.text fails.nowhere

network_own : (octets : List ℕ) (e : Fault) → IsRefusedNetwork octets e → IsOwn e
network_own octets e (by_walk h) fails = first_own _ octets e h fails
network_own octets e (by_plan network document refuses) fails = plan_own network e refuses fails

-- a refusal of a certificate is at a line
abbrev IsAtLine : Option Refusal → Type 0
IsAtLine o = IfSome o (λ r. (line : ℕ) × (r.fault.place ≡ places.Line line))

end_at_line : (n : ℕ) (gs : List Goal) → IsAtLine (at_end n gs)
end_at_line n [] = tt
end_at_line n (g ∷ gs) = (next_number n, refl)

goes_on_at_line : (n : ℕ) (ls : List Line) (next : List Goal → Option Refusal) (r : Result (List Goal) ℕ)
    → ((left : List Goal) → IsAtLine (next left)) → IsAtLine (goes_on n ls next r)
goes_on_at_line n ls next (Err number) h = (n, refl)
goes_on_at_line n ls next (Ok left) h = h left

refusal_at_line : (judge : Judge) (n made : ℕ) (gs : List Goal) (ls : List Line)
    → IsAtLine (first_refusal judge n made gs ls)
refusal_at_line judge n made gs [] = end_at_line n gs
refusal_at_line judge n made gs (l ∷ ls) =
    goes_on_at_line (next_number n) ls _ (after_reading judge made gs (reading_of l))
    (λ left. refusal_at_line judge (next_number n) (made_after made (reading_of l)) left ls)

line_own : (e : Fault) (first : Option Refusal) → IsFaultOf e first → IsAtLine first → IsOwn e
line_own e None is there fails = is
line_own e (Some r) is there fails =
    let line : e.place ≡ places.Line there.0 = ap (λ (f : Fault). f.place) is ∙ there.1 in
    no_line there.0 (sym line ∙ fails.nowhere)
  where
    no_line : (n : ℕ) → places.Line n ≡ places.None → ⊥
    no_line n is = absurd (cc)

part_own : (part : PartText) (e : Fault) → IsRefusedPart part e → IsOwn e
part_own part e (inl (inl h)) fails = network_own part.network e h fails
part_own part e (inl (inr h)) fails = first_own _ part.traffic e h.2 fails
part_own part e (inr (network, classes, n, t, (text, left, is))) fails =
    line_own e _ is (refusal_at_line (judge_of (net_of network)) (lines_in part.certificate).number 0
    (whole (targets_of classes)) (text_lines text)) fails

memory_fails : (e : Fault) → IsMemory e → IsFailure e
memory_fails e m = record { nowhere = ap (λ (f : Fault). f.place) m; number = inl (ap (λ (f : Fault). f.number) m) }

read_fails : (e : Fault) → e ≡ fault_at 901 places.None → IsFailure e
read_fails e m = record { nowhere = ap (λ (f : Fault). f.place) m; number = inr (ap (λ (f : Fault). f.number) m) }

-- what the fault of a part becomes
abbrev pub IsShown : ℕ → Fault → Fault → Type 0
IsShown number fault e =
    ((e ≡ fault) × IsFailure fault)
    ⊎ ((IsFailure fault → ⊥) × (IsMemory e ⊎ IsAtPart part_refused number e))

pub shown_at_part : (part : PartText) (number : ℕ) (fault e : Fault) → IsPartFault part fault → IsShown number fault e
    → IsMemory e ⊎ (IsEndlessPart part e ⊎ IsRefusedAt part number e)
shown_at_part part number fault e why (inl (same, fails)) =
    subst (λ (f : Fault). IsMemory f ⊎ (IsEndlessPart part f ⊎ IsRefusedAt part number f)) (sym same) (elim why [
      | inl m ↦ inl m
      | inr (inl l) ↦ inr (inl l)
      | inr (inr r) ↦ absurd (part_own part fault r fails)
    ])
shown_at_part part number fault e why (inr (own, inl m)) = inl m
shown_at_part part number fault e why (inr (own, inr there)) =
    elim why [
      | inl m ↦ absurd (own (memory_fails fault m))
      | inr (inl l) ↦ absurd (own (read_fails fault l.0))
      | inr (inr r) ↦ inr (inr (fault, r, there))
    ]
